use Rattle.std.proofs.Common.{◌≡◌, ◌*◌, ◌≤◌, ℕ, List, take}
use Rattle.stopper.specs.declared.code.Code.{Code}
use Rattle.sound.specs.Helpers.Ends.{end_from}
use Rattle.sound.specs.Laws.Directory.{by_stops}
use Rattle.sound.proofs.lookup.first_wrong.Given as goal

-- before entry e: character j starts at symbol p, and the entries so far are right
pub record Before (code : Code) (buf dir : List ℕ) (last e j p : ℕ) : Type 0 where
  pub ordered : j ≤ e * 32
  pub starts : p ≡ end_from code buf 0 j
  pub agree : take e dir ≡ take e (by_stops code buf last)

abbrev pub invariant-loop-e : goal.invariant-loop-e
invariant-loop-e l = Before l.sound.roll.table.code l.sound.buf.now l.dir l.last l.e l.j l.p
