-- The promises: a law for a refused call and one for an accepted call.
use Rattle.std.specs.Prelude.{◌≡◌, refl, Bool, true, false, cond, List, [], ◌++◌, ℕ, ◌≤◌, ◌<◌, T, drop, get_or, Some, None, Result, Ok, Err}
use Rattle.std.specs.Result.{result_unwrap_or}
use Rattle.std.proofs.Math.Path.{sym}
use Rattle.std.proofs.Common.{subst, arith, ltb→lt}
use borrow.Author.Tests.{le-leb}
use Rattle.std.proofs.Math.Facts.{and_yes}
use Rattle.ground.specs.Paper.Refusals.{accepted, refused}
use Rattle.ground.specs.Paper.Answers.{number_of, value_of}
use Rattle.ground.specs.declared.refusal.Refusal.{Refusal}
use Rattle.ground.specs.Paper.Rows.{zeros}
use Rattle.ground.specs.Laws.Refusals.{Accepted}
use Rattle.ground.specs.Laws.Answers.{beside_kept}
use Rattle.ground.specs.Laws.Rows.{padded_over}
use Rattle.stopper.specs.Paper.Code.{is_word, rank_of}
use Rattle.stopper.specs.Paper.Table.{base, stoppers, has, characters, good_table, rank_in, word_of, length_of, longest}
use Rattle.stopper.specs.Paper.Operations.{codeword_says, codeword_for, codeword_given, Coding, is_one, word_in, character_says}
use Rattle.stopper.specs.Helpers.Answers.{ranked_as, ranked_in}
use Rattle.stopper.specs.declared.code.Code.{Code}
use Rattle.stopper.specs.declared.table.Table.{Table}
use Rattle.stopper.specs.declared.codeword_of.Codeword.{Codeword}

-- ---- codeword of a character

-- what a rank of a character, or none, says
pub ranked_some : (l : List ℕ) (b : ℕ) {r : ℕ} → Some r ≡ ranked_in l b → (has b l ≡ true) × (r ≡ rank_in l b)
unfolding ranked_in
ranked_some l b {r} e = go (has b l) e
  where
    go : (t : Bool) → Some r ≡ cond t (Some (rank_in l b)) None → (t ≡ true) × (r ≡ rank_in l b)
    go true f = (refl, cc)
    go false f = let n : ◌≡◌ {A = ℕ} 0 1 = cc in absurd (omega arith)

pub ranked_none : (l : List ℕ) (b : ℕ) → None ≡ ranked_in l b → has b l ≡ false
unfolding ranked_in
ranked_none l b e = go (has b l) e
  where
    go : (t : Bool) → None ≡ cond t (Some (rank_in l b)) None → t ≡ false
    go true f = let n : ◌≡◌ {A = ℕ} 0 1 = cc in absurd (omega arith)
    go false f = refl

module _ {t : Table} {b : ℕ} where
  pub codeword_refused : {e : Refusal} → codeword_says t b ≡ refused (number_of e) (value_of e) → Coding t b (Err e)
  codeword_refused e = record { says = rw e }

  -- the codeword of rank r, laid over zeros
  pub codeword_yes : {r n : ℕ} {l : List ℕ} → Accepted (codeword_says t b) → r ≡ rank_in (characters t) b
      → n ≡ length_of t.code r → l ≡ word_of t.code r ++ drop (length_of t.code r) (zeros longest)
      → Coding t b (Ok (record { length = n; symbols = l }))
  unfolding length_of
  codeword_yes {r} e p q o = record { says = rw (e, q, o, padded_over longest (word_of t.code r), p) }

  -- what is answered, or `no_word` beside a refusal
  pub coding_word : {r : Result Codeword Refusal} → Coding t b r → result_unwrap_or r (codeword_for []) ≡ codeword_given t b
  coding_word {r} p = beside_kept (codeword_says t b) r _ _ p.says

-- ---- character of a codeword

-- what a rank found, or not found, says
rank_found : (c : Code) (σ : ℕ) (w : List ℕ) {k : ℕ} → Some k ≡ ranked_as c σ w → (is_one c σ w ≡ true) × (k ≡ rank_of (base c) (stoppers c) w)
unfolding ranked_as
rank_found c σ w {k} e = go (is_one c σ w) e
  where
    go : (b : Bool) → Some k ≡ cond b (Some (rank_of (base c) (stoppers c) w)) None → (b ≡ true) × (k ≡ rank_of (base c) (stoppers c) w)
    go true e = (refl, cc)
    go false e = let n : ◌≡◌ {A = ℕ} 0 1 = cc in absurd (omega arith)

rank_none : (c : Code) (σ : ℕ) (w : List ℕ) → None ≡ ranked_as c σ w → is_one c σ w ≡ false
unfolding ranked_as
rank_none c σ w e = go (is_one c σ w) e
  where
    go : (b : Bool) → None ≡ cond b (Some (rank_of (base c) (stoppers c) w)) None → b ≡ false
    go true e = let n : ◌≡◌ {A = ℕ} 0 1 = cc in absurd (omega arith)
    go false e = refl

pub rank_below : (c : Code) (σ : ℕ) (w : List ℕ) {k : ℕ} → Some k ≡ ranked_as c σ w → k < σ
unfolding is_one
rank_below c σ w {k} e =
    let f = rank_found c σ w e in
    let l : rank_of (base c) (stoppers c) w < σ = ltb→lt _ _ (and_yes (is_word (base c) (stoppers c) 0 w) _ (subst T (sym f.0) tt)).1 in
    omega (arith, f.1)

module _ (t : Table) (w : Codeword) (g : good_table t ≡ true) (h : w.length ≤ longest) where
  pub character_none : None ≡ ranked_as t.code t.sigma (word_in w) → character_says t w ≡ refused 6 0
  unfolding character_says
  character_none e = rw (g, le-leb _ _ h, rank_none _ _ _ e)

  pub character_read : {k : ℕ} → Some k ≡ ranked_as t.code t.sigma (word_in w) → character_says t w ≡ accepted (get_or t.places k 0)
  unfolding character_says
  character_read e =
      let f = rank_found t.code t.sigma (word_in w) e in
      rw (g, le-leb _ _ h, f.0, f.1)
