use Rattle.std.proofs.Common.{◌≡◌, ◌+◌, take, drop}
use Rattle.symbols.specs.Paper.Symbols.{symbols_of}
use Rattle.texts.specs.Paper.Hits.{stands}
use Rattle.jump.specs.Helpers.Hits.{occurs}
use Rattle.jump.proofs.scanning.same.Given as goal

abbrev pub invariant-loop-j : goal.invariant-loop-j
invariant-loop-j l =
    occurs l.searched.good.code l.searched.h l.searched.buf.now l.symbols l.a ≡ stands (drop l.j l.symbols) (drop (l.a + l.j) (take l.searched.h (symbols_of l.searched.good.code.k l.searched.buf.now)))
