-- `unpacking::range::unpack_from` meets its contract.
use Rattle.std.proofs.Common.{List, ◌++◌, ℕ, sym, ◌∙◌, ap₂, arith, take-append-drop}
use Rattle.stopper.specs.Laws.Table.{code_width}
use Rattle.unpacking.specs.Laws.Gives.{wrote_start, wrote_end}
use Rattle.unpacking.proofs.range.unpack_from.Goals as goal

pub border-first-requires : goal.border-first-requires
border-first-requires c = let reads = c.args.task.now.unpacks.reads in (code_width c.args.task.now.packed.ranks.good.code reads.good, reads.upto, reads.small)

pub write_symbols-begun-requires : goal.write_symbols-begun-requires
write_symbols-begun-requires c = (c.requires, c.border-first.ensures.1, c.border-first.ensures.0, omega arith, wrote_start _)

pub write_symbols-requires : goal.write_symbols-requires
write_symbols-requires c =
    let later = c.write_bytes-later.ensures in
    (omega (arith, c.requires, c.write_bytes-later.auto.out, c.write_symbols-begun.auto.out), omega arith, later.0, later.1, later.2)

pub returns : goal.returns
returns c =
    let end = c.write_symbols.ensures in
    sym (take-append-drop c.args.task.now.m c.write_symbols.new.out)
    ∙ ap₂ (λ (a b : List ℕ). a ++ b) (wrote_end c.args.task.now.unpacks end.3 end.1 end.0 end.2) (end.4 ∙ c.write_bytes-later.ensures.3 ∙ c.write_symbols-begun.ensures.4)
