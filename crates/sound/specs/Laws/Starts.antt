-- The codewords of a row of ranks: where each starts, and that it is found there.
use Rattle.std.specs.Prelude.{◌≡◌, refl, List, [], ◌∷◌, map, T, length, take, drop, get_or}
use Rattle.std.proofs.Common.{sym, ap, ◌∙◌, append-nil, add-suc, suc-add, arith, take-append-drop}
use Prim.Native.Nat.{ℕ, zero, suc, ◌+◌, ◌≤◌, ◌<◌}
use Rattle.std.proofs.Math.Nat.{add-zero}
use Rattle.std.proofs.Math.ListN.{length-append}
use Rattle.std.proofs.Math.Seq.{drop-cons, take-suc}
use Rattle.ground.specs.Helpers.Below.{Below}
use Rattle.ground.specs.Laws.Rows.{below_at}
use Rattle.stopper.specs.Paper.Table.{base, stoppers, good_code, word_of, length_of}
use Rattle.stopper.specs.Paper.Reading.{write}
use Rattle.stopper.specs.Laws.Table.{code_good}
use Rattle.stopper.specs.Laws.Reading.{write_append, drop_write}
use Rattle.stopper.proofs.Laws.Reading.{first_codeword}
use Rattle.stopper.specs.declared.code.Code.{Code}
use Rattle.texts.specs.Paper.Directory.{sum, start_at}
use Rattle.reading.specs.Helpers.Codewords.{found_in, found_at, passed_from}
use Rattle.std.specs.Prelude.{Some, Ok}

-- codeword j starts behind the ones before it: as many symbols as these have
pub start_at_lem : (c : Code) (rs : List ℕ) (j : ℕ) → length (write (base c) (stoppers c) (take j rs)) ≡ start_at (map (length_of c) rs) j
unfolding start_at sum write length_of
start_at_lem c rs zero = refl
start_at_lem c [] (suc j) = refl
start_at_lem c (r ∷ rs) (suc j) = length-append (word_of c r) (write (base c) (stoppers c) (take j rs)) ∙ ap (λ (n : ℕ). length (word_of c r) + n) (start_at_lem c rs j)

module _ (c : Code) (rs : List ℕ) where
  abbrev starts : ℕ → ℕ
  starts j = start_at (map (length_of c) rs) j

  pub start_next : (j : ℕ) → j < length rs → starts (suc j) ≡ starts j + length_of c (get_or rs j 0)
  unfolding write length_of
  start_next j h = rw (← start_at_lem c rs (suc j), ← start_at_lem c rs j, take-suc rs j 0 h, write_append, length-append, append-nil)

  -- and none ends past the last
  pub start_upto : (j : ℕ) → starts j ≤ length (write (base c) (stoppers c) rs)
  start_upto j =
      let e : length (write (base c) (stoppers c) rs) ≡ length (write (base c) (stoppers c) (take j rs)) + length (write (base c) (stoppers c) (drop j rs))
      = ap (λ (l : List ℕ). length (write (base c) (stoppers c) l)) (sym (take-append-drop j rs)) ∙ rw (write_append, length-append) in
      omega (arith, e, start_at_lem c rs j)

  pub drop_start : (j : ℕ) → drop (starts j) (write (base c) (stoppers c) rs) ≡ write (base c) (stoppers c) (drop j rs)
  drop_start j = rw (← start_at_lem c rs j) (drop_write (base c) (stoppers c) rs j)

module _ (c : Code) (g : T (good_code c)) (σ : ℕ) {rs : List ℕ} (b : Below σ rs) where
  -- codeword j stands where the ones before it end
  pub found_rank : (j : ℕ) → j < length rs → found_at c σ (write (base c) (stoppers c) rs) (starts c rs j) ≡ Some (record { rank = get_or rs j 0; next = starts c rs (suc j) })
  unfolding found_at found_in write length_of
  found_rank j h =
      rw (
        drop_start c rs j,
        drop-cons rs j 0 h,
        first_codeword (base c) (stoppers c) (code_good c g) σ (get_or rs j 0) (write (base c) (stoppers c) (drop (suc j) rs)) (below_at b j h),
        start_next c rs j h,
      )

  pub passed_ranks : (n j : ℕ) → j + n ≤ length rs → passed_from c σ (write (base c) (stoppers c) rs) (starts c rs j) n ≡ Ok (starts c rs (j + n))
  unfolding passed_from
  passed_ranks zero j h = rw add-zero
  passed_ranks (suc n) j h = rw (found_rank j (omega arith), add-suc) (passed_ranks n (suc j) (omega arith) ∙ rw suc-add)
