use Rattle.std.proofs.Common.{◌≡◌, ℕ, ◌<◌, length, get_or}
use Rattle.stretches.specs.Helpers.Codewords.{role_of}
use Rattle.stretches.specs.declared.codewords.Role.{Role}
use Rattle.stretches.proofs.codewords.roles_of.Given as goal

abbrev pub invariant-loop-y : goal.invariant-loop-y
invariant-loop-y l = (length l.roles ≡ 16) × ((i : ℕ) (d : Role) → i < l.y → get_or l.roles i d ≡ role_of l.s l.c i)
