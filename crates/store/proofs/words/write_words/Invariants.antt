use Rattle.store.proofs.Written.{Written}
use Rattle.store.proofs.words.write_words.Given as goal

abbrev pub invariant-loop-b : goal.invariant-loop-b
invariant-loop-b l = Written l.k l.words.lengths l.words.symbols l.text l.initial.buf l.first l.buf l.g l.b-index
