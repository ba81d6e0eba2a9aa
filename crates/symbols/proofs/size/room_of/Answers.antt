-- `symbols::size::room_of` meets its contract.
use Rattle.std.proofs.Common.{◌≡◌, ◌*◌, ◌≤◌, ◌∙◌, ℕ, min, sym, arith, mul-le-mul_left}
use Rattle.std.proofs.Math.Nat.{le-mul_of_pos_right}
use Rattle.std.proofs.Math.Decide.{dec_le}
use Rattle.ground.specs.Paper.Limit.{limit}
use Rattle.ground.specs.Laws.Limit.{limit_fits}
use Rattle.symbols.specs.Paper.Symbols.{per, room}
use Rattle.symbols.specs.Laws.Sizes.{room_full, room_all}
use Rattle.symbols.specs.Laws.Width.{per_pos, per_few}
use Rattle.symbols.proofs.size.room_of.Goals as goal

smaller : (k n : ℕ) → min (n * per k) limit ≡ room k n
smaller k n =
    elim (dec_le limit (n * per k)) [
      | yes h ↦ omega (arith, room_full k n h)
      | no h ↦ omega (arith, room_all k n (omega arith))
    ]

pub returns-then-limit-bytes : goal.returns-then-limit-bytes
returns-then-limit-bytes c =
    let n = c.args.bytes in
    let e : c.limit-limit.result ≡ limit = c.limit-limit.ensures in
    e ∙ sym (room_full c.args.k n (omega (arith, c.if-limit-bytes.true, le-mul_of_pos_right n (per_pos c.requires))))

pub overflow_mul-bytes : goal.overflow_mul-bytes
overflow_mul-bytes c =
    let few : c.per_byte.result ≤ 4 = rw c.per_byte.ensures (per_few c.requires) in
    let e : c.limit-limit.result ≡ limit = c.limit-limit.ensures in
    omega (arith, c.if-limit-bytes.false, limit_fits, mul-le-mul_left c.args.bytes few)

pub returns : goal.returns
returns c =
    let e : c.limit-limit.result ≡ limit = c.limit-limit.ensures in
    c.min.ensures ∙ rw (c.per_byte.ensures, e) (smaller c.args.k c.args.bytes)
