-- What a good code and a good table give.
use Rattle.std.specs.Prelude.{◌≡◌, refl, ◌⊎◌, Bool, true, false, not, ◌&&◌, ℕ, suc, ◌+◌, ◌-◌, ◌*◌, ◌^◌, ◌≤◌, ◌<◌, T, eqb}
use Rattle.std.proofs.Math.Path.{sym}
use Rattle.std.proofs.Common.{subst, ◌∙◌, inl, inr, ⊎_elim, arith, add-one}
use Rattle.std.proofs.Math.Facts.{and_yes, yes_and, or_yes, eqb_yes, leb_yes, yes_leb}
use Rattle.std.proofs.Math.Dec.{leb}
use Rattle.stopper.specs.Paper.Code.{Good, shorter}
use Rattle.stopper.specs.Paper.Table.{base, stoppers, good_width, good_code, length_of, good_table, good_characters, repeats, characters, longest}
use Rattle.stopper.specs.Helpers.Answers.{place_of}
use Rattle.stopper.specs.Laws.Code.{length_codeword, length_86, opens_const}
use Rattle.stopper.specs.declared.table.Table.{Table}
use Rattle.stopper.specs.declared.code.Code.{Code}

pub width_is : (k : ℕ) → T (good_width k) → (k ≡ 2) ⊎ (k ≡ 4)
unfolding good_width
width_is k t = ⊎_elim (λ e. inl (eqb_yes e)) (λ e. inr (eqb_yes e)) (or_yes (eqb k 2) (eqb k 4) t)

pub width_base : (k : ℕ) → T (good_width k) → (4 ≤ 2 ^ k) × (2 ^ k ≤ 16)
width_base k t = ⊎_elim (λ e. rw e (omega arith, omega arith)) (λ e. rw e (omega arith, omega arith)) (width_is k t)

pub yes_code : (c : Code) → T (good_width c.k) → 1 ≤ c.s → c.s ≤ base c - 1 → T (good_code c)
unfolding good_code
yes_code c g l h = yes_and (good_width c.k) _ g (yes_and (leb 1 c.s) (leb c.s (base c - 1)) (yes_leb l) (yes_leb h))

-- the stopper count is the same at every place: nothing else says so
pub one_number : (c : Code) (i : ℕ) → stoppers c i ≡ c.s
unfolding stoppers
one_number c i = refl

pub one_place : (c : Code) (i : ℕ) → stoppers c i ≡ stoppers c 0
one_place c i = one_number c i ∙ sym (one_number c 0)

module _ (c : Code) (g : T (good_code c)) where
  code_parts : T (good_width c.k) × T (leb 1 c.s) × T (leb c.s (base c - 1))
  unfolding good_code
  code_parts =
      let p = and_yes (good_width c.k) (leb 1 c.s && leb c.s (base c - 1)) g in
      let q = and_yes (leb 1 c.s) (leb c.s (base c - 1)) p.1 in
      (p.0, q.0, q.1)

  pub code_width : (c.k ≡ 2) ⊎ (c.k ≡ 4)
  code_width = width_is c.k code_parts.0

  pub code_base : (4 ≤ base c) × (base c ≤ 16)
  code_base = width_base c.k code_parts.0

  code_stoppers : (0 < c.s) × (c.s < base c)
  code_stoppers =
      let a : (4 ≤ base c) × (base c ≤ 16) = code_base in
      let l : 1 ≤ c.s = leb_yes code_parts.1 in
      let h : c.s ≤ base c - 1 = leb_yes code_parts.2 in
      (omega arith, omega arith)

  pub code_good : Good (base c) (stoppers c)
  unfolding stoppers
  code_good = record { low = λ _. code_stoppers.0; high = λ _. code_stoppers.1 }

  -- there are s · c ^ i codewords of i + 1 symbols, c being 2 ^ k - s (their ranks: `length_iff`, `rank_within`)
  pub codewords_of_length : (i : ℕ) → shorter (base c) (stoppers c) (suc i) ≡ shorter (base c) (stoppers c) i + (base c - c.s) ^ i * c.s
  unfolding shorter stoppers
  codewords_of_length i = rw (opens_const (base c) c.s i)

  -- the length of a codeword is its stopper's place and one
  pub length_place : (r : ℕ) → length_of c r ≡ (place_of c r).at + 1
  unfolding length_of place_of
  length_place r = length_codeword (base c) (stoppers c) code_good r ∙ sym (add-one _)

  pub length_small : (r : ℕ) → r < 256 → length_of c r ≤ longest
  unfolding length_of
  length_small r h = length_86 (base c) (stoppers c) code_good code_base.0 r h

pub is_good : (t : Table) → good_table t ≡ true → T (good_table t)
is_good t e = subst T (sym e) tt

module _ (t : Table) (g : T (good_table t)) where
  table_parts : T (good_code t.code) × T (good_characters t.sigma t.places)
  unfolding good_table
  table_parts = and_yes (good_code t.code) (good_characters t.sigma t.places) g

  pub table_code : T (good_code t.code)
  table_code = table_parts.0

  characters_parts : T (leb t.sigma 256) × T (not (repeats (characters t)))
  unfolding good_characters
  characters_parts = and_yes (leb t.sigma 256) (not (repeats (characters t))) table_parts.1

  pub table_few : t.sigma ≤ 256
  table_few = leb_yes characters_parts.0

  -- no character stands twice
  pub table_apart : repeats (characters t) ≡ false
  table_apart = no_test (repeats (characters t)) characters_parts.1
    where
      no_test : (b : Bool) → T (not b) → b ≡ false
      no_test true t = absurd t
      no_test false t = refl
