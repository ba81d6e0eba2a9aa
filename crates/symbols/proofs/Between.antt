-- The whole bytes between two places of a row.
use mathlib.Core.Path.{◌≡◌}
use mathlib.Core.List.{List}
use Prim.Native.Nat.{ℕ, ◌*◌, ◌/◌, ◌≤◌, ◌<◌}
use native.Mathlib.Nat.{le_of_lt, div-mul-le_self, mul-le-mul_right, le_of_mul-le-mul_right}
use native.Mathlib.Omega.{arith}
use lib.ListN.{length}
use Rattle.symbols.specs.Paper.Symbols.{per, bytes_for, symbols_of}
use Rattle.symbols.specs.Helpers.Widths.{Width}
use Rattle.symbols.specs.Laws.Width.{per_pos}
use Rattle.symbols.specs.Laws.Sizes.{bytes_for_enough}
use Rattle.symbols.specs.Laws.Rows.{symbols_length}

-- bytes `first` to `last` lie between the places `low` and `high`, where n symbols fill a byte
pub record Between (k : ℕ) (bs : List ℕ) (low high first last n : ℕ) : Type 0 where
  pub fill : n ≡ per k
  pub starts : low ≤ first * n
  pub grows : first * n ≤ last * n
  pub ends : last * n ≤ high
  pub inside : last ≤ length bs

pub between : {k : ℕ} → Width k → (bs : List ℕ) (low high first last n : ℕ)
    → n ≡ per k → first ≡ bytes_for k low → last ≡ high / per k → first < last → high ≤ length (symbols_of k bs)
    → Between k bs low high first last n
between {k} w bs low high first last n en ef el h inside =
    let most : last * per k ≤ high = rw el (div-mul-le_self high (per k)) in
    record {
      fill = en;
      starts = rw (en, ef) (bytes_for_enough w low);
      grows = mul-le-mul_right n (le_of_lt h);
      ends = rw en most;
      inside = le_of_mul-le-mul_right {k = per k} (omega (arith, symbols_length k bs)) (per_pos w);
    }
