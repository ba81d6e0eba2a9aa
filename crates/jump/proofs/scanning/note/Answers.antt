-- `jump::scanning::note` meets its contract.
use Rattle.std.proofs.Common.{◌≡◌, List, ℕ, length, set, refl, sym, ap, ap₂, ◌∙◌, arith}
use Rattle.texts.specs.Paper.Hits.{listed}
use Rattle.texts.specs.Laws.Finding.{listed_more, listed_full}
use Rattle.jump.specs.Helpers.Counting.{number_at}
use Rattle.jump.specs.Laws.Hits.{listed_length}
use Rattle.jump.proofs.scanning.note.Goals as goal
use Rattle.jump.proofs.scanning.note.Goals.{then-at-slice, else-at-slice}

pub returns : goal.returns
returns c =
    let a = c.args in
    let number : ℕ = number_at a.searched.now.good.code a.searched.now.buf.now a.a in
    elim c.if-at-slice.branch [
      | then-at-slice w ↦ (
        refl,
        rw w.counted-is w.count_near-counted.ensures.0,
        (λ hits e first q.
            let r : length a.slice.now ≡ length first = ap length q ∙ listed_length hits first in
            w.slice-is
            ∙ ap₂ (λ (l : List ℕ) (x : ℕ). set l a.found.total x) q w.number_of.ensures
            ∙ ap (λ (i : ℕ). set (listed hits first) i number) e
            ∙ sym (listed_more hits first number (omega (arith, w.if-at-slice.true)))),
      )
      | else-at-slice w ↦ (
        refl,
        rw w.counted-is c.requires.1,
        (λ hits e first q.
            let r : length a.slice.now ≡ length first = ap length q ∙ listed_length hits first in
            w.slice-is ∙ q ∙ sym (listed_full hits first number (omega (arith, w.if-at-slice.false)))),
      )
    ]
