-- `store::words::write_words` meets its contract: the codewords of the characters passed are gathered.
use Rattle.std.proofs.Common.{◌∙◌, arith}
use Rattle.symbols.specs.Laws.Gathered.{finished}
use Rattle.store.proofs.Written.{start, waits, ends, more, all_upto, all}
use Rattle.store.proofs.words.write_words.Goals as goal

pub loop-b-init : goal.loop-b-init
loop-b-init c =
    let g = c.begin-g.ensures in
    start c.requires.0 g.few.0 g.few.1 g.upto g.symbols

pub add_word-g-requires : goal.add_word-g-requires
add_word-g-requires c =
    (c.requires.0.laid, c.requires.1, waits c.requires.0 c.loop-b.invariant (ends c.requires.0 c.loop-b.invariant c.loop-b-test.true))

pub loop-b-preserved : goal.loop-b-preserved
loop-b-preserved c =
    more c.requires.0 c.loop-b.invariant c.loop-b-test.true c.add_word-g.auto.buf c.add_word-g.ensures

pub finish-requires : goal.finish-requires
finish-requires c =
    (c.requires.0.laid.width, waits c.requires.0 c.loop-b.invariant (omega (arith, all_upto c.requires.0 c.loop-b.invariant c.loop-b-test.false)))

pub returns : goal.returns
returns c =
    c.finish.ensures
    ∙ finished c.requires.0.laid.width c.loop-b.g c.loop-b.buf
    ∙ all c.requires.0 c.loop-b.invariant c.loop-b-test.false
