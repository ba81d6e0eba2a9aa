-- A byte stored that was read from another place of the row: a byte's symbols are moved.
use mathlib.Core.Path.{◌≡◌, ◌∙◌, ap, ap₂}
use mathlib.Core.List.{List, [], ◌∷◌}
use Prim.Native.Nat.{ℕ, ◌+◌, ◌*◌, ◌-◌, ◌<◌}
use native.Mathlib.Omega.{arith}
use lib.ListN.{length, set}
use Rattle.ground.specs.Paper.Runs.{over, run}
use Rattle.ground.specs.Helpers.Moved.{moved_up, moved_down}
use Rattle.ground.specs.Laws.Runs.{set_over}
use Rattle.symbols.specs.Paper.Symbols.{per, symbols_of}
use Rattle.symbols.specs.Helpers.Widths.{Width}
use Rattle.symbols.specs.Laws.Whole.{symbols_over}

module _ {k : ℕ} (w : Width k) (bs : List ℕ) where
  byte_stored : (j b : ℕ) → j < length bs → symbols_of k (set bs j b) ≡ over (symbols_of k bs) (j * per k) (symbols_of k (b ∷ [])) ((j + 1) * per k)
  byte_stored j b h = ap (symbols_of k) (set_over bs j b h) ∙ symbols_over w bs j (b ∷ []) (j + 1)

  -- by so many bytes less `place` symbols
  pub byte_up : (i back place by b : ℕ) → i + back < length bs → by + place ≡ back * per k
      → symbols_of k (b ∷ []) ≡ run (symbols_of k bs) (i * per k + place) (i * per k + place + per k)
      → symbols_of k (set bs (i + back) b) ≡ moved_up (symbols_of k bs) ((i + back) * per k - by) ((i + back + 1) * per k - by) by
  byte_up i back place by b h e read =
      let row = symbols_of k bs in
      let from : i * per k + place ≡ (i + back) * per k - by = omega arith in
      let to : i * per k + place + per k ≡ (i + back + 1) * per k - by = omega arith in
      let start : (i + back) * per k ≡ i * per k + place + by = omega arith in
      let end : (i + back + 1) * per k ≡ i * per k + place + per k + by = omega arith in
      byte_stored (i + back) b h
      ∙ ap (λ (xs : List ℕ). over row ((i + back) * per k) xs ((i + back + 1) * per k)) read
      ∙ ap₂ (λ (m n : ℕ). over row m (run row (i * per k + place) (i * per k + place + per k)) n) start end
      ∙ ap₂ (λ (m n : ℕ). moved_up row m n by) from to

  -- by so many bytes and `place` symbols
  pub byte_down : (j ahead place by b : ℕ) → j < length bs → by ≡ ahead * per k + place
      → symbols_of k (b ∷ []) ≡ run (symbols_of k bs) ((j + ahead) * per k + place) ((j + ahead) * per k + place + per k)
      → symbols_of k (set bs j b) ≡ moved_down (symbols_of k bs) (j * per k + by) ((j + 1) * per k + by) by
  byte_down j ahead place by b h e read =
      let row = symbols_of k bs in
      let from : (j + ahead) * per k + place ≡ j * per k + by = omega arith in
      let to : (j + ahead) * per k + place + per k ≡ (j + 1) * per k + by = omega arith in
      let start : j * per k ≡ j * per k + by - by = omega arith in
      let end : (j + 1) * per k ≡ (j + 1) * per k + by - by = omega arith in
      byte_stored j b h
      ∙ ap (λ (xs : List ℕ). over row (j * per k) xs ((j + 1) * per k)) (read ∙ ap₂ (run row) from to)
      ∙ ap₂ (λ (m n : ℕ). over row m (run row (j * per k + by) ((j + 1) * per k + by)) n) start end
