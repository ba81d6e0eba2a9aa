-- `frames::write_frames::text_out` meets its contract: the first frame and the later ones are put one after the other.
use Rattle.std.proofs.Common.{◌≡◌, refl, sym, List, [], ◌++◌, append-nil, ℕ, ◌+◌, ◌≤◌, length}
use Rattle.ground.specs.Paper.Runs.{over}
use Rattle.sound.specs.declared.records.Roll.{Roll}
use Rattle.writing.specs.Laws.Written.{Going, going_none, going_as, going_next, going_more, going_whole}
use Rattle.frames.specs.Paper.Frames.{frame, first_bytes, later_for, later_frames}
use Rattle.frames.specs.Helpers.Sizes.{frames_of}
use Rattle.frames.proofs.write_frames.text_out.Goals as goal

module _ (r : Roll) (bytes out : List ℕ) (room : 0 + length (frames_of r bytes) ≤ length out) where
  abbrev later : List ℕ
  later = later_frames (later_for (length bytes)) bytes

  begun : Going (frames_of r bytes) out 0 out 0 (frame (first_bytes r) ++ later)
  unfolding frames_of
  begun = going_none (frames_of r bytes) out 0

  first_fits : 0 + length (frame (first_bytes r)) ≤ length out
  first_fits = going_next room (frame (first_bytes r)) later begun

  first : {row : List ℕ} {p : ℕ} → row ≡ over out 0 (frame (first_bytes r)) (0 + length (frame (first_bytes r))) → p ≡ 0 + length (frame (first_bytes r))
      → Going (frames_of r bytes) out 0 row p (later ++ [])
  first o n = going_as (sym (append-nil later)) (going_more room (frame (first_bytes r)) begun o n)

pub first_out-p-requires : goal.first_out-p-requires
first_out-p-requires c = (c.requires.0, first_fits c.args.roll c.args.bytes.now c.args.out.now c.requires.1)

pub frames_out-requires : goal.frames_out-requires
frames_out-requires c =
    let bytes = c.args.bytes.now in
    let o = c.first_out-p.ensures in
    going_next c.requires.1 (later_frames (later_for (length bytes)) bytes) [] (first c.args.roll bytes c.args.out.now c.requires.1 o.out o.next)

pub returns : goal.returns
returns c =
    let bytes = c.args.bytes.now in
    let o = c.first_out-p.ensures in
    let begun = first c.args.roll bytes c.args.out.now c.requires.1 o.out o.next in
    (going_whole c.requires.1 (going_more c.requires.1 (later_frames (later_for (length bytes)) bytes) begun c.frames_out.ensures refl)).1
