-- `frames::write_frames::write_frames` meets its contract.
use Rattle.std.proofs.Common.{◌≡◌, sym, ap, subst, ◌∙◌, List, ℕ, ◌≤◌, length, take, length-take-le, Ok, arith, rules}
use Rattle.std.proofs.lemmas.Result.{err_from_is_err_and}
use native.Mathlib.Nat.{le-mul_of_pos_right}
use Rattle.ground.specs.Helpers.Bound.{limit_bound}
use Rattle.ground.specs.Laws.Limit.{limit_fits}
use Rattle.stopper.specs.Laws.Table.{table_few}
use Rattle.symbols.specs.Laws.Width.{per_pos}
use Rattle.symbols.specs.Laws.Sizes.{bytes_for_within, room_bytes, room_limit}
use Rattle.sound.specs.Paper.Roll.{Sound}
use Rattle.sound.specs.Laws.Sound.{sound_width}
use Rattle.sound.specs.declared.records.Roll.{Roll}
use Rattle.roll.specs.Paper.Operations.{Checking}
use Rattle.roll.specs.Laws.Operations.{check_sound}
use Rattle.frames.specs.Paper.Frames.{bytes_used, frame_text}
use Rattle.frames.specs.Paper.Operations.{bytes_into}
use Rattle.frames.specs.Helpers.Sizes.{frames_of, text_size}
use Rattle.frames.specs.Laws.Writing.{text_frames, text_long, text_few}
use Rattle.frames.specs.Laws.Operations.{write_refused, write_yes, write_check, write_13, write_accepted}
use Rattle.frames.proofs.write_frames.write_frames.Goals as goal

module _ (r : Roll) (buf : List ℕ) (checked : Checking r buf (Ok tt)) where
  sound : Sound r buf
  sound = check_sound checked

  few : r.table.sigma ≤ 256
  few = table_few r.table sound.table

  -- its bytes are there, and not many
  held : bytes_used r ≤ length buf
  held = room_bytes (sound_width sound) r.h (length buf) sound.fits

  small : bytes_used r ≤ limit_bound
  small =
      let w = sound_width sound in
      omega (
        arith,
        bytes_for_within w r.h r.h (le-mul_of_pos_right r.h (per_pos w)),
        sound.fits,
        room_limit r.table.code.k (length buf),
        limit_fits,
      )

  module _ {used : ℕ} (u : used ≡ bytes_used r) where
    used_held : used ≤ length buf
    used_held = subst (λ (n : ℕ). n ≤ length buf) (sym u) held

    used_small : used ≤ limit_bound
    used_small = subst (λ (n : ℕ). n ≤ limit_bound) (sym u) small

    -- its bytes
    part : frames_of r (take used buf) ≡ frame_text r buf
    part = ap (λ (n : ℕ). frames_of r (take n buf)) u ∙ sym (text_frames r buf held)

    -- how long the text is
    size_is : length r.table.places ≡ 256 → {size : ℕ} → size ≡ text_size r.table.sigma used → size ≡ length (frame_text r buf)
    size_is e z = z ∙ ap (text_size r.table.sigma) u ∙ sym (text_long r buf held (length-take-le r.table.sigma r.table.places (omega (arith, few))))

pub returns-in_err-check : goal.returns-in_err-check
returns-in_err-check c =
    let p = err_from_is_err_and c.from_residual.result c.from_residual.ensures.1 in
    rw (p.1, p.2) (write_refused (write_check _ _ _ (sym c.in_err-check.ensures.says)))

pub bytes_for-used-requires : goal.bytes_for-used-requires
bytes_for-used-requires c = sound_width (check_sound c.in_ok-check.ensures)

pub text_size-size-requires : goal.text_size-size-requires
text_size-size-requires c =
    let r = c.args.roll in
    let buf = c.args.buf.now in
    (few r buf c.in_ok-check.ensures, used_small r buf c.in_ok-check.ensures c.bytes_for-used.ensures)

pub returns-then-out-size : goal.returns-then-out-size
returns-then-out-size c =
    let r = c.args.roll in
    let buf = c.args.buf.now in
    let e : length r.table.places ≡ 256 = search rules in
    let size = size_is r buf c.in_ok-check.ensures c.bytes_for-used.ensures e c.text_size-size.ensures in
    rw size (write_refused (write_13 r buf c.args.out.now (sym c.in_ok-check.ensures.says) (omega (arith, size, c.if-out-size.true))))

pub slice_bounds-text_out-end : goal.slice_bounds-text_out-end
slice_bounds-text_out-end c = sym (length-take-le _ _ (used_held c.args.roll c.args.buf.now c.in_ok-check.ensures c.bytes_for-used.ensures))

pub text_out-requires : goal.text_out-requires
text_out-requires c =
    let r = c.args.roll in
    let buf = c.args.buf.now in
    let e : length r.table.places ≡ 256 = search rules in
    let u = c.bytes_for-used.ensures in
    let size = size_is r buf c.in_ok-check.ensures u e c.text_size-size.ensures in
    (few r buf c.in_ok-check.ensures, omega (arith, ap length (part r buf c.in_ok-check.ensures u), size, c.if-out-size.false))

pub overflow_cast-result : goal.overflow_cast-result
overflow_cast-result c =
    let r = c.args.roll in
    let buf = c.args.buf.now in
    omega (arith, text_few r.table.sigma c.bytes_for-used.result (few r buf c.in_ok-check.ensures) (used_small r buf c.in_ok-check.ensures c.bytes_for-used.ensures), c.text_size-size.ensures)

pub returns : goal.returns
returns c =
    let r = c.args.roll in
    let buf = c.args.buf.now in
    let out = c.args.out.now in
    let e : length r.table.places ≡ 256 = search rules in
    let u = c.bytes_for-used.ensures in
    let size = size_is r buf c.in_ok-check.ensures u e c.text_size-size.ensures in
    write_yes (write_accepted r buf out (sym c.in_ok-check.ensures.says) (omega (arith, size, c.if-out-size.false))) size
    (c.text_out.ensures ∙ ap (λ (l : List ℕ). bytes_into l out) (part r buf c.in_ok-check.ensures u))
