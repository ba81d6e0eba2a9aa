-- `store::replace::first_over` meets its contract: before character j the symbol is where its codeword starts, and what is left of the room
-- is the room without the codewords passed.
use Rattle.std.proofs.Common.{◌≡◌, sym, ap, ◌∙◌, ℕ, suc, ◌+◌, ◌≤◌, ◌<◌, List, add-one, arith}
use Rattle.texts.specs.Paper.Directory.{start_at}
use Rattle.reading.specs.Paper.Reading.{ranks_read}
use Rattle.sound.specs.Paper.Roll.{reading, Sound}
use Rattle.sound.specs.Paper.Lengths.{lengths_of}
use Rattle.sound.specs.Helpers.Ends.{end_from}
use Rattle.sound.specs.Laws.Starts.{start_next}
use Rattle.sound.specs.Laws.Ends.{sound_end, sound_one, sound_next}
use Rattle.sound.specs.declared.records.Roll.{Roll}
use Rattle.store.specs.Laws.Editing.{over_from}
use Rattle.store.proofs.replace.first_over.Goals as goal

module _ {roll : Roll} {buf : List ℕ} (sound : Sound roll buf) where
  abbrev starts : ℕ → ℕ
  starts j = start_at (lengths_of roll buf) j

  -- codeword j, from symbol p to symbol next
  module _ {j p : ℕ} (h : j < roll.n) (p_is : p ≡ end_from roll.table.code buf 0 j) where
    here : p ≡ starts j
    here = p_is ∙ sound_end sound j (omega arith)

    module _ {next : ℕ} (is : next ≡ end_from roll.table.code buf p 1) where
      next_is : next ≡ end_from roll.table.code buf 0 (j + 1)
      next_is = is ∙ ap (λ (p : ℕ). end_from roll.table.code buf p 1) p_is ∙ sound_next sound j h

      next_starts : next ≡ starts (suc j)
      next_starts = rw (← add-one) (next_is ∙ sound_end sound (j + 1) (omega arith))

      grows : p ≤ next
      unfolding lengths_of
      grows = omega (arith, here, next_starts, start_next roll.table.code (ranks_read (reading roll buf)) j (omega (arith, sound.count)))

pub loop-j-init : goal.loop-j-init
loop-j-init c = (c.requires.1 ∙ sym (sound_end c.args.sound.now.sound c.args.from c.requires.0), omega arith)

pub end_at-next-requires : goal.end_at-next-requires
end_at-next-requires c = rw c.loop-j.invariant.0 (sound_one c.args.sound.now.sound c.loop-j.j c.loop-j-test.true)

pub overflow_sub-next : goal.overflow_sub-next
overflow_sub-next c = grows c.args.sound.now.sound c.loop-j-test.true c.loop-j.invariant.0 c.end_at-next.ensures

pub returns-then-left-next : goal.returns-then-left-next
returns-then-left-next c =
    let sound = c.args.sound.now.sound in
    let p = c.loop-j.invariant.0 in
    let h = c.loop-j-test.true in
    over_from (record { sound = sound; places = c.args.sound.now.places }) c.args.room c.args.from c.loop-j.j (omega arith) (omega arith)
    (omega (arith, here sound h p, c.loop-j.invariant.1, c.requires.1))
    (λ _. omega (arith, c.if-left-next.true, grows sound h p c.end_at-next.ensures, next_starts sound h p c.end_at-next.ensures, c.loop-j.invariant.1, c.requires.1))

pub overflow_sub-left : goal.overflow_sub-left
overflow_sub-left c = grows c.args.sound.now.sound c.loop-j-test.true c.loop-j.invariant.0 c.end_at-next.ensures

pub loop-j-preserved : goal.loop-j-preserved
loop-j-preserved c =
    let h = c.loop-j-test.true in
    let p = c.loop-j.invariant.0 in
    (next_is c.args.sound.now.sound h p c.end_at-next.ensures, omega (arith, c.if-left-next.false, grows c.args.sound.now.sound h p c.end_at-next.ensures, c.loop-j.invariant.1))

pub returns : goal.returns
returns c =
    let sound = c.args.sound.now.sound in
    let e : c.loop-j.j ≡ c.args.sound.now.roll.n = omega arith in
    let p : c.loop-j.p ≡ starts sound c.args.sound.now.roll.n = c.loop-j.invariant.0 ∙ sound_end sound c.loop-j.j (omega arith) ∙ ap (starts sound) e in
    over_from (record { sound = sound; places = c.args.sound.now.places }) c.args.room c.args.from c.args.sound.now.roll.n c.requires.0 (omega arith) (omega (arith, c.loop-j.invariant.1, c.requires.1)) (λ h. absurd (omega arith))
