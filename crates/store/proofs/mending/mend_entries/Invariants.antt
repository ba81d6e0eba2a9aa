use Rattle.std.proofs.Common.{◌≡◌, ◌*◌, ◌≤◌, ℕ, List}
use Rattle.ground.specs.Helpers.Moved.{laid}
use Rattle.stopper.specs.declared.code.Code.{Code}
use Rattle.texts.specs.Paper.Directory.{entries}
use Rattle.sound.specs.Helpers.Ends.{end_from}
use Rattle.sound.specs.Laws.Directory.{by_stops}
use Rattle.store.proofs.mending.mend_entries.Given as goal

-- before entry e: character j starts at symbol p, and the entries from that of `from` up to e are written
pub record Before (code : Code) (buf old : List ℕ) (from upto e j p : ℕ) (dir : List ℕ) : Type 0 where
  pub ordered : j ≤ e * 32
  pub starts : p ≡ end_from code buf 0 j
  pub written : dir ≡ laid old (by_stops code buf (entries upto)) (entries from) e

abbrev pub invariant-loop-e : goal.invariant-loop-e
invariant-loop-e l = Before l.sound.roll.table.code l.sound.buf.now l.initial.dir l.from l.upto l.e l.j l.p l.dir
