-- The laws of moves that say what the whole row gives: the rest of Laws/Moves stands in specs/.
use Rattle.std.specs.Prelude.{◌≡◌, refl, List, ℕ, ◌≤◌, T, length, take, drop, Result, Ok, Err}
use Rattle.std.proofs.Common.{sym, ap, subst, ◌∙◌, take-append-drop, take_all}
use Rattle.stopper.specs.Paper.Table.{good_code}
use Rattle.stopper.specs.Paper.Reading.{Fault, done, bad}
use Rattle.stopper.specs.declared.code.Code.{Code}
use Rattle.reading.specs.Paper.Reading.{row_reading}
use Rattle.reading.specs.Helpers.Codewords.{scanned}
use Rattle.reading.specs.declared.codewords.BadWord.{BadWord}
use Rattle.moves.specs.Helpers.States.{state_after, ranks_ended, open_from, Stuck}
use Rattle.moves.specs.Helpers.Moves.{Here}
use Rattle.moves.proofs.Laws.States.{read_done, read_bad}

scanned_done : (rs : List ℕ) → scanned (done rs) ≡ Ok (length rs)
unfolding scanned
scanned_done rs = refl

scanned_bad : (f : Fault) (p : ℕ) (rs : List ℕ) → scanned (bad f p rs) ≡ Err (record { first = p })
unfolding scanned
scanned_bad f p rs = refl

module _ (c : Code) (σ : ℕ) where
  -- ---- what the whole row gives

  module _ (g : T (good_code c)) (row : List ℕ) {q x n : ℕ} (z : Here c σ row q x n) where
    -- no codeword is open at the end
    pub here_end : x ≡ 0 → length row ≤ q → scanned (row_reading c σ row 0) ≡ Ok n
    here_end e h =
        let a : take q row ≡ row = take_all q row h in
        ap scanned (read_done c g σ row (subst (λ (u : List ℕ). state_after c 0 u ≡ x) a z.state ∙ e) (rw a at z.good))
        ∙ scanned_done (ranks_ended c 0 row)
        ∙ ap {B = Result ℕ BadWord} (λ (k : ℕ). Ok k) (ap (λ (u : List ℕ). length (ranks_ended c 0 u)) (sym a) ∙ z.ends)

    -- the codeword that is open there is bad
    pub here_bad : Stuck c σ x (drop q row) → scanned (row_reading c σ row 0) ≡ Err (record { first = open_from c 0 0 (take q row) })
    here_bad s =
        let (f, rs, e) = read_bad c g σ (take q row) (drop q row) z.good (rw z.state s) in
        ap (λ (u : List ℕ). scanned (row_reading c σ u 0)) (sym (take-append-drop q row)) ∙ ap scanned e ∙ scanned_bad f _ rs
