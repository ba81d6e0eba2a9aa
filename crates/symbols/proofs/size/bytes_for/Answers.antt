-- `symbols::size::bytes_for` meets its contract.
use mathlib.Core.Path.{◌∙◌, sym, ap}
use Prim.Native.Nat.{ℕ, ◌+◌}
use Rattle.symbols.specs.Laws.Sizes.{bytes_for_even, bytes_for_odd}
use Rattle.symbols.proofs.size.bytes_for.Goals as goal

pub returns-then-place_in_byte-eq0 : goal.returns-then-place_in_byte-eq0
returns-then-place_in_byte-eq0 c = c.byte_of-whole.ensures ∙ sym (bytes_for_even c.requires _ (sym c.place_in_byte.ensures ∙ c.if-place_in_byte-eq0.true))

pub returns-else-place_in_byte-eq0 : goal.returns-else-place_in_byte-eq0
returns-else-place_in_byte-eq0 c =
    ap (λ (n : ℕ). n + 1) c.byte_of-whole.ensures
    ∙ sym (bytes_for_odd c.requires _ (λ e. c.if-place_in_byte-eq0.false (c.place_in_byte.ensures ∙ e)))
