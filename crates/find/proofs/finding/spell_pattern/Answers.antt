-- `find::finding::spell_pattern` meets its contract: the characters passed are in the table, and their symbols stand at the front.
use Rattle.std.proofs.Common.{◌≡◌, sym, ap, ap₂, ◌∙◌, ℕ, ◌+◌, ◌-◌, ◌≤◌, ◌<◌, List, ◌++◌, append_assoc, length, take, drop, get_or, length-append, zero-add, add-one, arith}
use borrow.Rule.Slice.PartMut.{mid_len, Post-is}
use lib.Seq.{length-take-le, take_at, take_all}
use Rattle.ground.specs.Paper.Runs.{over}
use Rattle.ground.specs.Laws.Rows.{tab_at}
use Rattle.stopper.specs.Paper.Table.{rank_in, word_of, length_of, longest}
use Rattle.stopper.specs.Helpers.Alphabets.{characters_in}
use Rattle.stopper.specs.Helpers.Answers.{ranks_of}
use Rattle.stopper.specs.Laws.Table.{length_small}
use Rattle.stopper.specs.declared.code.Code.{Code}
use Rattle.texts.specs.Paper.Characters.{first_foreign}
use Rattle.texts.specs.Laws.Characters.{foreign_more, foreign_first, foreign_end}
use Rattle.sound.specs.Paper.Roll.{text_row}
use Rattle.sound.specs.Laws.Texts.{text_none, text_more}
use Rattle.find.specs.Helpers.Finding.{pattern_row}
use Rattle.find.specs.Laws.Finding.{pattern_known, pattern_foreign}
use Rattle.find.proofs.finding.spell_pattern.Invariants.{Spelling}
use Rattle.find.proofs.finding.spell_pattern.Goals as goal

start : (c : Code) (l pattern symbols : List ℕ) → Spelling c l pattern symbols 0 0
start c l pattern symbols = record { few = omega arith; foreign = sym (zero-add _); long = sym (ap length (text_none c l)); row = sym (text_none c l) }

-- all characters, or one that is not in the row
module _ {c : Code} {l pattern symbols : List ℕ} {p i : ℕ} (s : Spelling c l pattern symbols p i) where
  all : i ≡ length pattern → (first_foreign l pattern ≡ length pattern) × (p ≡ length (pattern_row c l pattern)) × (take p symbols ≡ pattern_row c l pattern)
  all e =
      let f : first_foreign l pattern ≡ length pattern = s.foreign ∙ ap (λ (n : ℕ). n + first_foreign l (drop n pattern)) e ∙ omega (arith, foreign_end l pattern) in
      let t : take i pattern ≡ pattern = take_all i pattern (omega arith) in
      (f, s.long ∙ rw (pattern_known c l pattern f, t), s.row ∙ rw (pattern_known c l pattern f, t))

  none : i < length pattern → length l ≤ rank_in l (get_or pattern i 0) → first_foreign l pattern < length pattern
  none h k = omega (arith, s.foreign, foreign_first l pattern i h k)

  -- one more: its word laid after the others
  more : i < length pattern → {r n : ℕ} → r ≡ rank_in l (get_or pattern i 0) → r < length l → n ≡ length_of c r → n ≤ longest → {after ys : List ℕ} (tail : List ℕ)
      → after ≡ over symbols p ys (p + longest) → ys ≡ word_of c r ++ tail → Spelling c l pattern after (p + n) (i + 1)
  unfolding length_of
  more h {r} {n} e k size short {after} {ys} tail laid word =
      let w : List ℕ = word_of c r in
      let rest : List ℕ = drop (p + longest) symbols in
      let t : text_row c l (take (i + 1) pattern) ≡ take p symbols ++ w
      = ap (λ (m : ℕ). text_row c l (take m pattern)) (add-one i) ∙ text_more c l pattern i h ∙ ap₂ (λ (a b : List ℕ). a ++ b) (sym s.row) (ap (word_of c) (sym e)) in
      let long : p + n ≡ length (take p symbols ++ w) = omega (arith, length-append (take p symbols) w, ap length s.row, s.long, size) in
      record {
        few = omega (arith, s.few);
        foreign = s.foreign ∙ ap (λ (m : ℕ). i + m) (foreign_more l pattern i h (omega (arith, e))) ∙ rw add-one (omega arith);
        long = long ∙ ap length (sym t);
        row = ap (take (p + n)) (laid ∙ rw word (simp append_assoc)) ∙ take_at (take p symbols ++ w) (tail ++ rest) (p + n) (sym long) ∙ sym t;
      }

-- the rank of the character b, read at index x
rank_is : (l : List ℕ) {ranks : List ℕ} → ranks ≡ ranks_of l → (b : ℕ) → b < 256 → {x : ℕ} → x ≡ b → get_or ranks x 0 ≡ rank_in l b
unfolding ranks_of
rank_is l {ranks} is b h at = ap (λ (i : ℕ). get_or ranks i 0) at ∙ ap (λ (xs : List ℕ). get_or xs b 0) is ∙ tab_at (rank_in l) 256 b h

-- the characters in rank order
row_long : (sigma : ℕ) (places : List ℕ) → length places ≡ 256 → sigma ≤ 256 → length (take sigma places) ≡ sigma
row_long sigma places long h = length-take-le sigma places (omega arith)

-- the part that a word goes to
part_long : (p : ℕ) (symbols : List ℕ) → p + longest ≤ length symbols → length (take (p + longest - p) (drop p symbols)) ≡ longest
part_long p symbols h = mid_len p (p + longest) symbols h ∙ omega arith

pub loop-b-init : goal.loop-b-init
loop-b-init c = start c.args.alphabet.now.ranks.good.code (characters_in c.args.alphabet.now) c.args.pattern.now c.args.symbols.now

pub returns-then-sigma-rank : goal.returns-then-sigma-rank
returns-then-sigma-rank c =
    let row = characters_in c.args.alphabet.now in
    let e = none c.loop-b.invariant c.loop-b-test.true
    (omega (
      arith,
      c.if-sigma-rank.true,
      rank_is row c.ranks_of-ranks.ensures (get_or c.args.pattern.now c.loop-b.b-index 0) (c.type_inv.pattern c.loop-b.b-index).fits c.from.ensures,
      row_long c.args.alphabet.now.ranks.sigma c.args.alphabet.now.places.now c.args.alphabet.now.all c.args.alphabet.now.ranks.few,
    )) in
    record { known = e; length = pattern_foreign c.args.alphabet.now.ranks.good.code row c.args.pattern.now e; symbols = tt }

pub spell_word-p-requires : goal.spell_word-p-requires
spell_word-p-requires c =
    let few : c.from-rank.result < 256 = omega (arith, c.from-rank.ensures, c.if-sigma-rank.false, c.args.alphabet.now.ranks.few) in
    (few, omega (arith, length_small c.args.alphabet.now.ranks.good.code c.args.alphabet.now.ranks.good.good c.from-rank.result few, part_long c.loop-b.p c.loop-b.symbols (omega (arith, c.loop-b.invariant.few, c.requires.0, c.requires.1))))

pub overflow_add-p-in-loop-b : goal.overflow_add-p-in-loop-b
overflow_add-p-in-loop-b c =
    let few : c.from-rank.result < 256 = omega (arith, c.from-rank.ensures, c.if-sigma-rank.false, c.args.alphabet.now.ranks.few) in
    omega (arith, c.spell_word-p.ensures.length, length_small c.args.alphabet.now.ranks.good.code c.args.alphabet.now.ranks.good.good c.from-rank.result few, c.loop-b.invariant.few, c.requires.0)

pub loop-b-preserved : goal.loop-b-preserved
loop-b-preserved c =
    let p = c.loop-b.p in
    let row = characters_in c.args.alphabet.now in
    let r = c.from-rank.result in
    let few : r < 256 = omega (arith, c.from-rank.ensures, c.if-sigma-rank.false, c.args.alphabet.now.ranks.few) in
    more c.loop-b.invariant c.loop-b-test.true
    (c.from-rank.ensures ∙ rank_is row c.ranks_of-ranks.ensures (get_or c.args.pattern.now c.loop-b.b-index 0) (c.type_inv.pattern c.loop-b.b-index).fits c.from.ensures)
    (omega (arith, c.from-rank.ensures, c.if-sigma-rank.false, row_long c.args.alphabet.now.ranks.sigma c.args.alphabet.now.places.now c.args.alphabet.now.all c.args.alphabet.now.ranks.few))
    c.spell_word-p.ensures.length
    (omega (arith, c.spell_word-p.ensures.length, length_small c.args.alphabet.now.ranks.good.code c.args.alphabet.now.ranks.good.good r few))
    _
    (ap (λ (l : List ℕ). take p c.loop-b.symbols ++ (c.spell_word-p.new.out ++ l)) (Post-is p (p + longest) c.loop-b.symbols (omega (arith, c.loop-b.invariant.few, c.requires.0, c.requires.1))))
    c.spell_word-p.ensures.symbols

pub returns : goal.returns
returns c =
    let s = all c.loop-b.invariant (omega arith) in
    record { known = s.0; length = s.1; symbols = s.2 }
