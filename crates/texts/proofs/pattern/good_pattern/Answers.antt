-- `texts::pattern::good_pattern` meets its contract.
use Rattle.std.proofs.Common.{◌≡◌, ◌≤◌, ◌<◌, ◌⊎◌, ℕ, Bool, not, ◌||◌, List, [], ◌∷◌, refl, ap, ◌∙◌, sym, length, eqb, rules}
use borrow.Author.Tests.{le-leb}
use Rattle.std.specs.List.{list_any}
use Rattle.stopper.specs.Paper.Table.{has}
use Rattle.texts.specs.Paper.Hits.{good_pattern, most_pattern}
use Rattle.texts.specs.Laws.Patterns.{pattern_bad}
use Rattle.texts.proofs.pattern.good_pattern.Goals as goal

any_has : (b : ℕ) (l : List ℕ) → list_any (λ x. eqb x b) l ≡ has b l
unfolding has
any_has b [] = refl
any_has b (x ∷ l) = ap (λ (t : Bool). eqb x b || t) (any_has b l)

pub returns-then-contains : goal.returns-then-contains
unfolding good_pattern
returns-then-contains c =
    let pattern = c.args.pattern.now in
    let low : 1 ≤ length pattern = search rules in
    let high : length pattern ≤ most_pattern = search rules in
    rw (le-leb _ _ low, le-leb _ _ high) (ap not (c.contains-then-contains.ensures.value ∙ any_has 10 pattern))

pub returns-else-contains : goal.returns-else-contains
returns-else-contains c =
    let pattern = c.args.pattern.now in
    let out : (length pattern < 1) ⊎ (most_pattern < length pattern) = search rules in
    c.if-contains.false ∙ sym (pattern_bad pattern out)
