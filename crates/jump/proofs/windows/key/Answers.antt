-- `jump::windows::key` meets its contract.
use Rattle.std.proofs.Common.{ℕ, ◌+◌, ◌*◌, ◌/◌, ◌%◌, sym, ap₂, ◌∙◌, arith}
use Rattle.jump.specs.Laws.Table.{key_zero, key_pair}
use Rattle.jump.proofs.windows.key.Goals as goal

pub returns-then-back-eq0 : goal.returns-then-back-eq0
returns-then-back-eq0 c =
    let a = c.args in
    (c.from.ensures ∙ sym (key_zero a.back a.y a.z c.if-back-eq0.true), omega (arith, c.from.ensures))

pub returns-else-back-eq0 : goal.returns-else-back-eq0
returns-else-back-eq0 c =
    let a = c.args in (
      ap₂ (λ (y z : ℕ). (y + 256 * z) * 2654435761 % 4294967296 / 524288) c.from-else-back-eq0.ensures c.from-else-back-eq0-2.ensures
          ∙ sym (key_pair a.back a.y a.z (omega (arith, c.if-back-eq0.false, c.requires))),
      omega arith,
    )
