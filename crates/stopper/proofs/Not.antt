-- What the promises forbid, on a named input or on all.
use mathlib.Core.Path.{◌≡◌}
use mathlib.Core.List.{[], ◌∷◌, ◌++◌}
use Prim.Native.Nat.{ℕ, suc, ◌<◌}
use native.Mathlib.Omega.{arith}
use lib.Dec.{T}
use lib.ListN.{replicate}
use Rattle.ground.specs.Paper.Refusals.{Outcome, accepted, refused}
use Rattle.ground.specs.Paper.Rows.{zeros, padded}
use Rattle.std.specs.Prelude.{Ok}
use Rattle.stopper.specs.Paper.Code.{opens, shorter, rank_at, rank_from, rank_of, is_word}
use Rattle.stopper.specs.Paper.Table.{base, stoppers, length_of, good_width, good_code, good_characters, good_table, has, repeats, table_of}
use Rattle.stopper.specs.Paper.Operations.{is_one, codeword_for, character_says, Decoding}
use Rattle.stopper.specs.Laws.Code.{length_iff}
use Rattle.stopper.specs.Laws.Table.{code_good}
use Rattle.stopper.specs.declared.code.Code.{Code}

-- a rank worked out in a number that wraps: with k 2 and s 2, thirty times 2, then 3 and the stopper 0 is rank 2 ^ 32, which 32 bits take
-- for rank 0
pub character_of_not_wrapped : {character : ℕ} → Decoding (table_of (record { k = 2; s = 2 }) (97 ∷ [])) (codeword_for (replicate 30 2 ++ 3 ∷ 0 ∷ [])) (Ok character) → ⊥
unfolding zeros padded opens shorter rank_at rank_from rank_of is_word stoppers good_width good_code good_characters good_table has repeats is_one character_says
character_of_not_wrapped {character} p =
    let e : ◌≡◌ {A = Outcome ℕ} (accepted character) (refused 6 0) = p.says in
    let z : ◌≡◌ {A = ℕ} 0 1 = cc in
    omega arith

-- a length one too great: of a rank below the border of i + 1 symbols and i + 2
pub length_of_not_longer : (c : Code) → T (good_code c) → (i : ℕ) {r : ℕ} → r < shorter (base c) (stoppers c) (suc i) → length_of c r ≡ suc (suc i) → ⊥
unfolding length_of
length_of_not_longer c g i {r} h e = omega (arith, ((length_iff (base c) (stoppers c) (code_good c g) r (suc i)).0 e).above)
