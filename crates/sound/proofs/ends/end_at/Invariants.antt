use Rattle.std.proofs.Common.{◌≡◌, ℕ, ◌+◌, ◌-◌, ◌<◌, List, length}
use Rattle.stopper.specs.Paper.Table.{stoppers}
use Rattle.stopper.specs.Helpers.State.{near}
use Rattle.stopper.specs.declared.code.Code.{Code}
use Rattle.symbols.specs.Paper.Symbols.{symbols_of}
use Rattle.sound.specs.Helpers.Ends.{stops, end_of, symbols_from}
use Rattle.sound.proofs.ends.end_at.Given as goal

-- symbol q is at a place of the codeword that starts at p; its end is yet to come, and is as far as it was from p
pub record Open (code : Code) (buf : List ℕ) (p q place : ℕ) : Type 0 where
  pub i : ℕ
  pub at : place ≡ near i
  pub some : 0 < stops (stoppers code) i (symbols_from code buf q)
  pub ends : p + end_of (stoppers code) 1 0 (symbols_from code buf p) ≡ q + end_of (stoppers code) 1 i (symbols_from code buf q)

abbrev pub invariant-loop-code : goal.invariant-loop-code
invariant-loop-code l = Open l.code l.buf l.p l.q l.place

abbrev pub decreases-loop-code : goal.decreases-loop-code
decreases-loop-code l = length (symbols_of l.code.k l.buf) - l.q
