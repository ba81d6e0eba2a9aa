-- `moves::byte::moved_twice` meets its contract: what the first byte leaves is multiplied out.
use Rattle.std.proofs.Common.{◌≡◌, ℕ, ◌+◌, ◌*◌, ◌≤◌, arith, mul-le-mul_left, mul_assoc, add-mul}
use Rattle.moves.proofs.byte.moved_twice.Goals as goal

multiplied_out : (x t p t₂ p₂ : ℕ) → t₂ ≤ 255 → p₂ ≤ 255
    → (x * (t * t₂) + (p * t₂ + p₂) ≡ (x * t + p) * t₂ + p₂) × (x * (t * t₂) + (p * t₂ + p₂) ≤ (x * t + p) * 255 + 255)
multiplied_out x t p t₂ p₂ h l =
    let e : x * (t * t₂) + (p * t₂ + p₂) ≡ (x * t + p) * t₂ + p₂ = omega (arith, mul_assoc x t t₂, add-mul (x * t) p t₂) in
    (e, omega (arith, e, mul-le-mul_left (x * t + p) h))

pub returns : goal.returns
returns c =
    let a = c.args in
    rw (c.from-5.ensures, c.from-4.ensures, c.from-3.ensures, c.from-2.ensures, c.from.ensures, c.from-t.ensures)
    (multiplied_out a.x a.times a.plus a.times2 a.plus2 (omega arith) (omega arith))
