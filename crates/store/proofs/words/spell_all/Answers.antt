-- `store::words::spell_all` meets its contract: the characters from place i on are spelled.
use Rattle.std.proofs.Common.{◌≡◌, ◌≢◌, refl, sym, ap, subst, ◌∙◌, true, false, ℕ, zero, suc, ◌+◌, ◌-◌, ◌*◌, ◌≤◌, ◌<◌, List, ◌++◌, T, append_assoc, length, take, drop, get_or, set, length-drop, get_or-take, zero-add, add-zero, eq-eqb, ne_eqb, ltb-true, arith, rules}
use Rattle.std.proofs.Math.Decide.{ℕ_discrete, dec_lt}
use borrow.Rule.Slice.PartMut.{mid_len, Post-is}
use lib.Seq.{length-take-le, take_at}
use Rattle.ground.specs.Paper.Rows.{zeros}
use Rattle.ground.specs.Paper.Runs.{over}
use Rattle.ground.specs.Laws.Rows.{length_tab, tab_at, tab_ext, tab_set, tab_zeros}
use Rattle.ground.specs.Laws.Runs.{over_length, drop_over, run_before, run_after}
use Rattle.stopper.specs.Paper.Table.{good_code, has, rank_in, word_of, length_of, longest}
use Rattle.stopper.specs.Helpers.Alphabets.{characters_in}
use Rattle.stopper.specs.Laws.Characters.{has_rank, rank_here, rank_next, has_next, has_end}
use Rattle.stopper.specs.Laws.Table.{length_small}
use Rattle.stopper.specs.declared.code.Code.{Code}
use Rattle.store.specs.Helpers.Words.{length_for, Spelt}
use Rattle.store.proofs.words.spell_all.Invariants.{rank_from, length_from, From}
use Rattle.store.proofs.words.spell_all.Goals as goal

start : (c : Code) (places lengths words : List ℕ) (n : ℕ) → length places ≡ 256 → n ≤ 256 → lengths ≡ zeros 256 → length words ≡ 256 * longest
    → From c (take n places) n lengths words
start c places lengths words n e h z w =
    let t : length (take n places) ≡ n = length-take-le n places (omega arith) in
    let none : (b : ℕ) → has b (drop n (take n places)) ≡ false = λ b. ap (λ (m : ℕ). has b (drop m (take n places))) (sym t) ∙ has_end (take n places) b in
    record {
      inside = omega arith;
      few = omega arith;
      sizes = z ∙ tab_zeros (length_from c (take n places) n) 256 (λ b. rw (none b));
      long = w;
      word = λ b k q. let x : true ≡ false = sym q ∙ none b in let y : ◌≡◌ {A = ℕ} 0 1 = cc in absurd (omega arith);
    }

whole : {c : Code} {l : List ℕ} {i : ℕ} {lengths words : List ℕ} → From c l i lengths words → i ≤ 0 → Spelt c l lengths words
unfolding length_for
whole {c} {l} {i = zero} s h =
    record {
      sizes = s.sizes ∙ tab_ext (length_for c l) 256 _ (length_tab _ 0 256) (λ b k. tab_at _ 256 b k ∙ rw zero-add);
      long = s.long;
      word = λ b k e. rw e (rw zero-add at (s.word b k e));
    }
whole {i = suc i} s h = absurd (omega arith)

-- the part of another character is as it was
apart : (words ys : List ℕ) (b x n : ℕ) → length words ≡ 256 * longest → length ys ≡ longest → b < 256 → n ≤ longest → x ≢ b
    → take n (drop (x * longest) (over words (b * longest) ys (b * longest + longest))) ≡ take n (drop (x * longest) words)
apart words ys b x n w y h k q =
    let e : x * longest + n - x * longest ≡ n = omega arith in
    ap (λ (m : ℕ). take m (drop (x * longest) (over words (b * longest) ys (b * longest + longest)))) (sym e)
    ∙ elim (dec_lt x b) [
      | yes p ↦ run_before words (b * longest) ys (b * longest + longest) (x * longest) (x * longest + n) (omega arith) (omega arith) (omega arith)
      | no p ↦ run_after words (b * longest) ys (b * longest + longest) (x * longest) (x * longest + n) (omega arith) (omega arith) (omega arith)
    ]
    ∙ ap (λ (m : ℕ). take m (drop (x * longest) words)) e

-- one place down, at character b: its length and its word are stored
module _ {c : Code} (g : T (good_code c)) {l : List ℕ} {j : ℕ} {lengths words : List ℕ} (s : From c l (suc j) lengths words) {b n : ℕ} (this : get_or l j 0 ≡ b) (h : b < 256)
    (size : n ≡ length_of c j) {after ys : List ℕ} (tail : List ℕ) (laid : after ≡ over words (b * longest) ys (b * longest + longest)) (full : length ys ≡ longest) (word : ys ≡ word_of c j ++ tail) where
  in_row : j < length l
  in_row = s.inside

  here : has b (drop j l) ≡ true
  here = has_next l j in_row b ∙ rw (eq-eqb (get_or l j 0) b this)

  rank : rank_from l j b ≡ j
  rank = ap (λ (r : ℕ). j + r) (rank_here l j in_row b this) ∙ add-zero j

  has_other : (x : ℕ) → x ≢ b → has x (drop j l) ≡ has x (drop (suc j) l)
  has_other x q = has_next l j in_row x ∙ rw (ne_eqb (get_or l j 0) x (λ p. q (sym p ∙ this)))

  rank_other : (x : ℕ) → x ≢ b → rank_from l j x ≡ rank_from l (suc j) x
  rank_other x q = ap (λ (r : ℕ). j + r) (rank_next l j in_row x (λ p. q (sym p ∙ this))) ∙ omega arith

  ends : b * longest + longest ≤ length words
  ends = omega (arith, s.long)

  word_here : take (length_of c j) (drop (b * longest) after) ≡ word_of c j
  unfolding length_of
  word_here =
      rw (laid, drop_over words (b * longest) ys (b * longest + longest) (omega arith) ends, word, append_assoc) (take_at (word_of c j) _ (length_of c j) refl)

  word_other : (x : ℕ) → x ≢ b → has x (drop (suc j) l) ≡ true
      → take (length_of c (rank_from l (suc j) x)) (drop (x * longest) after) ≡ take (length_of c (rank_from l (suc j) x)) (drop (x * longest) words)
  word_other x q e =
      let r : rank_in (drop (suc j) l) x < length (drop (suc j) l) = ltb-true _ _ (sym (has_rank (drop (suc j) l) x) ∙ e) in
      let k : rank_from l (suc j) x < 256 = omega (arith, length-drop (suc j) l, s.few, s.inside) in
      rw laid (apart words ys b x (length_of c (rank_from l (suc j) x)) s.long full h (length_small c g (rank_from l (suc j) x) k) q)

  down : From c l j (set lengths b n) after
  down = record {
    inside = omega (arith, s.inside);
    few = s.few;
    sizes = rw s.sizes
        (tab_set (length_from c l (suc j)) (length_from c l j) 256 b n h
        (rw here (ap (length_of c) rank ∙ sym size))
        (λ x q. rw (has_other x q, rank_other x q)));
    long = ap length laid ∙ over_length words (b * longest) ys (b * longest + longest) (omega arith) ends ∙ s.long;
    word = λ x k e. entry x k e (ℕ_discrete x b);
  }
    where
      entry : (x : ℕ) → x < 256 → has x (drop j l) ≡ true → Dec (x ≡ b) → take (length_of c (rank_from l j x)) (drop (x * longest) after) ≡ word_of c (rank_from l j x)
      entry x k e (yes q) = rw (q, rank) word_here
      entry x k e (no q) =
          let f : has x (drop (suc j) l) ≡ true = sym (has_other x q) ∙ e in
          rw (rank_other x q) (word_other x q f ∙ s.word x k f)

-- the part of words that is lent for character b
part_long : (b : ℕ) (words : List ℕ) → b < 256 → length words ≡ 256 * longest → length (take (b * longest + longest - b * longest) (drop (b * longest) words)) ≡ longest
part_long b words h long = mid_len (b * longest) (b * longest + longest) words (omega arith) ∙ omega arith

pub loop-i-init : goal.loop-i-init
loop-i-init c =
    start c.args.alphabet.now.ranks.good.code c.args.alphabet.now.places.now _ _ c.args.alphabet.now.ranks.sigma c.args.alphabet.now.all c.args.alphabet.now.ranks.few c.requires (search rules)

pub spell_word-long-requires : goal.spell_word-long-requires
spell_word-long-requires c =
    let h : c.from-b.result < 256 = omega (arith, c.from-b.ensures) in
    (omega arith, omega (arith, part_long c.from-b.result c.loop-i.words.symbols h c.loop-i.invariant.long, length_small c.args.alphabet.now.ranks.good.code c.args.alphabet.now.ranks.good.good (c.loop-i.i - 1) (omega arith)))

pub overflow_cast-words : goal.overflow_cast-words
overflow_cast-words c =
    omega (arith, c.spell_word-long.ensures.length, length_small c.args.alphabet.now.ranks.good.code c.args.alphabet.now.ranks.good.good (c.loop-i.i - 1) (omega arith))

pub loop-i-preserved : goal.loop-i-preserved
loop-i-preserved c =
    let b = c.from-b.result in
    let at : ℕ = b * longest in
    let h : b < 256 = omega (arith, c.from-b.ensures) in
    down c.args.alphabet.now.ranks.good.good
    (subst (λ (i : ℕ). From c.args.alphabet.now.ranks.good.code (characters_in c.args.alphabet.now) i c.loop-i.words.lengths c.loop-i.words.symbols) {y = suc (c.loop-i.i - 1)} (omega arith) c.loop-i.invariant)
    (get_or-take c.args.alphabet.now.ranks.sigma c.args.alphabet.now.places.now (c.loop-i.i - 1) 0 (omega arith) ∙ sym c.from-b.ensures)
    h
    c.spell_word-long.ensures.length
    _
    (ap (λ (r : List ℕ). take at c.loop-i.words.symbols ++ (c.spell_word-long.new.out ++ r)) (Post-is at (at + longest) c.loop-i.words.symbols (omega arith)))
    (c.spell_word-long.auto.out ∙ part_long b c.loop-i.words.symbols h c.loop-i.invariant.long)
    c.spell_word-long.ensures.symbols

pub returns : goal.returns
returns c = whole c.loop-i.invariant c.loop-i-test.false
