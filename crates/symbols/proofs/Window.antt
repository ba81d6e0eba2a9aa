-- A byte read from any symbol on has the symbols of the row from there.
use mathlib.Core.Path.{◌≡◌, ◌∙◌, sym, ap}
use mathlib.Core.List.{List, [], ◌∷◌}
use Prim.Native.Nat.{ℕ, ◌+◌, ◌*◌, ◌-◌, ◌^◌, ◌≤◌, ◌<◌}
use native.Mathlib.Nat.{one-mul, add-zero, add_assoc}
use native.Mathlib.Decide.{dec_lt}
use native.Mathlib.Omega.{arith}
use lib.ListN.{length, drop, get_or}
use lib.Seq.{ext_get_or, get_or-take, get_or-drop}
use Rattle.ground.specs.Paper.Runs.{run}
use Rattle.ground.specs.Laws.Runs.{run_length}
use Rattle.symbols.specs.Paper.Symbols.{per, shift, symbols_of}
use Rattle.symbols.specs.Helpers.Widths.{Width}
use Rattle.symbols.specs.Helpers.Bits.{cut_out, joined}
use Rattle.symbols.specs.Laws.Rows.{symbols_length, symbols_in}
use Rattle.symbols.proofs.Cut.{from_first, from_second}

module _ {k : ℕ} (w : Width k) (bs : List ℕ) where
  -- a byte whose symbols are those of the row
  matches : (b i : ℕ) → i + per k ≤ length (symbols_of k bs)
      → ((t : ℕ) → t < per k → cut_out k (shift k t) b ≡ get_or (symbols_of k bs) (i + t) 0)
      → symbols_of k (b ∷ []) ≡ run (symbols_of k bs) i (i + per k)
  matches b i inside h =
      let e : length (symbols_of k (b ∷ [])) ≡ per k = symbols_length k (b ∷ []) ∙ one-mul (per k) in
      ext_get_or 0 _ _
      (omega (arith, run_length (symbols_of k bs) i (i + per k) (omega arith) inside))
      (λ t ht.
      let l : t < per k = omega arith in
      let z : 0 * per k + t ≡ t = omega arith in
      ap (λ (n : ℕ). get_or (symbols_of k (b ∷ [])) n 0) (sym z)
      ∙ symbols_in w (b ∷ []) 0 t l
      ∙ h t l
      ∙ sym (get_or-take (i + per k - i) (drop i (symbols_of k bs)) t 0 (omega arith) ∙ get_or-drop i (symbols_of k bs) t 0))

  pub window_whole : (j : ℕ) → j * per k + 0 + per k ≤ length (symbols_of k bs)
      → symbols_of k (get_or bs j 0 ∷ []) ≡ run (symbols_of k bs) (j * per k + 0) (j * per k + 0 + per k)
  window_whole j inside =
      matches (get_or bs j 0) (j * per k + 0) inside
      (λ t l. sym (rw add-zero (symbols_in w bs j t l)))

  pub window_joined : (j p : ℕ) → p < per k → get_or bs (j + 1) 0 < 2 ^ 8 → j * per k + p + per k ≤ length (symbols_of k bs)
      → symbols_of k (joined (k * p) (get_or bs j 0) (get_or bs (j + 1) 0) ∷ []) ≡ run (symbols_of k bs) (j * per k + p) (j * per k + p + per k)
  window_joined j p h small inside =
      matches (joined (k * p) (get_or bs j 0) (get_or bs (j + 1) 0)) (j * per k + p) inside
      (λ t l. either t l (dec_lt (p + t) (per k)))
    where
      either : (t : ℕ) → t < per k → Dec (p + t < per k)
          → cut_out k (shift k t) (joined (k * p) (get_or bs j 0) (get_or bs (j + 1) 0)) ≡ get_or (symbols_of k bs) (j * per k + p + t) 0
      either t l (yes a) =
          from_first w p (get_or bs j 0) (get_or bs (j + 1) 0) h small t a
          ∙ sym (rw add_assoc (symbols_in w bs j (p + t) a))
      either t l (no a) =
          let u = p + t - per k in
          let e : j * per k + p + t ≡ (j + 1) * per k + u = omega arith in
          from_second w p (get_or bs j 0) (get_or bs (j + 1) 0) h small t u l (omega arith)
          ∙ sym (rw e (symbols_in w bs (j + 1) u (omega arith)))
