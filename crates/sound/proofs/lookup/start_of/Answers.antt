-- `sound::lookup::start_of` meets its contract: from the entry on, the codeword of the counter starts at the symbol in hand.
use Rattle.std.proofs.Common.{◌≡◌, sym, ap, ◌∙◌, ℕ, ◌*◌, ◌/◌, arith}
use Rattle.texts.specs.Paper.Directory.{start_at}
use Rattle.sound.specs.Paper.Lengths.{lengths_of}
use Rattle.sound.specs.Helpers.Ends.{end_from}
use Rattle.sound.specs.Laws.Directory.{sound_last, right_held, right_entry}
use Rattle.sound.specs.Laws.Ends.{sound_end, sound_one, sound_next}
use Rattle.sound.proofs.lookup.start_of.Goals as goal

pub returns-then-roll-j : goal.returns-then-roll-j
returns-then-roll-j c =
    let e : c.args.sound.now.roll.n ≡ c.args.j = omega arith in
    sym (sound_last c.args.sound.now.sound) ∙ ap (start_at (lengths_of c.args.sound.now.roll c.args.sound.now.buf.now)) e

pub bounds-dir-j : goal.bounds-dir-j
bounds-dir-j c =
    right_held c.args.sound.now.sound c.args.dir.now c.requires.0 c.args.j c.if-roll-j.false

pub loop-init : goal.loop-init
loop-init c =
    let j = c.args.j in
    right_entry c.args.sound.now.sound c.args.dir.now c.requires.0 j c.if-roll-j.false ∙ sym (sound_end c.args.sound.now.sound (j / 32 * 32) (omega (arith, c.requires.1)))

pub end_at-at-requires : goal.end_at-at-requires
end_at-at-requires c =
    rw c.loop.invariant (sound_one c.args.sound.now.sound c.loop.counter (omega (arith, c.loop-test.true, c.if-roll-j.false)))

pub loop-preserved : goal.loop-preserved
loop-preserved c =
    c.end_at-at.ensures
    ∙ ap (λ (p : ℕ). end_from c.args.sound.now.roll.table.code c.args.sound.now.buf.now p 1) c.loop.invariant
    ∙ sound_next c.args.sound.now.sound c.loop.counter (omega (arith, c.loop-test.true, c.if-roll-j.false))

pub returns : goal.returns
returns c =
    let e : c.loop.counter ≡ c.args.j = omega arith in
    c.loop.invariant
    ∙ ap (end_from c.args.sound.now.roll.table.code c.args.sound.now.buf.now 0) e
    ∙ sound_end c.args.sound.now.sound c.args.j c.requires.1
