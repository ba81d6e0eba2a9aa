-- Runs of whole bytes.
use Rattle.std.specs.Prelude.{◌≡◌, List, ◌++◌, ℕ, ◌-◌, ◌*◌, ◌/◌, take, drop}
use Rattle.std.proofs.Common.{sym, ap, ap₂, ◌∙◌, mul_comm}
use Rattle.std.proofs.Math.Nat.{mul-sub, zero-div, zero-mod}
use Rattle.std.proofs.Math.Seq.{ext_get_or}
use Rattle.ground.specs.Paper.Rows.{zeros}
use Rattle.ground.specs.Paper.Runs.{over}
use Rattle.ground.specs.Helpers.Moved.{cleared}
use Rattle.ground.specs.Laws.Rows.{length_zeros, get_or_zeros}
use Rattle.symbols.specs.Paper.Symbols.{per, symbol_at, symbols_of}
use Rattle.symbols.specs.Helpers.Widths.{Width}
use Rattle.symbols.specs.Laws.Rows.{symbols_length, symbols_at, symbols_append, symbols_take, symbols_drop}

module _ {k : ℕ} (w : Width k) where
  pub symbols_over : (bs : List ℕ) (from : ℕ) (xs : List ℕ) (to : ℕ)
      → symbols_of k (over bs from xs to) ≡ over (symbols_of k bs) (from * per k) (symbols_of k xs) (to * per k)
  symbols_over bs from xs to =
      symbols_append w (take from bs) (xs ++ drop to bs)
      ∙ ap₂ ◌++◌ (sym (symbols_take w from bs))
      (symbols_append w xs (drop to bs) ∙ ap (λ (l : List ℕ). symbols_of k xs ++ l) (sym (symbols_drop w to bs)))

  pub symbols_zeros : (n : ℕ) → symbols_of k (zeros n) ≡ zeros (n * per k)
  unfolding symbol_at
  symbols_zeros n =
      ext_get_or 0 _ _ (simp (symbols_length, length_zeros))
      (λ i h. symbols_at w (zeros n) i ∙ rw (get_or_zeros n (i / per k), zero-div, zero-mod) (sym (get_or_zeros (n * per k) i)))

  pub symbols_cleared : (bs : List ℕ) (from to : ℕ) → symbols_of k (cleared bs from to) ≡ cleared (symbols_of k bs) (from * per k) (to * per k)
  symbols_cleared bs from to =
      symbols_over bs from (zeros (to - from)) to
      ∙ ap (λ (xs : List ℕ). over (symbols_of k bs) (from * per k) xs (to * per k))
      (symbols_zeros (to - from) ∙ ap zeros (mul_comm (to - from) (per k) ∙ mul-sub (per k) to from ∙ ap₂ ◌-◌ (mul_comm (per k) to) (mul_comm (per k) from)))
