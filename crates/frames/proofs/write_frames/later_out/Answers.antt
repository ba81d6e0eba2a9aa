-- `frames::write_frames::later_out` meets its contract: 02, the bytes and byte 10 are put one after the other.
use Rattle.std.proofs.Common.{◌≡◌, List, [], ◌∷◌, ◌++◌, ℕ, ◌+◌, ◌≤◌, length, length-set, arith}
use Rattle.ground.specs.Paper.Runs.{over}
use Rattle.writing.specs.Paper.Written.{hex_of, hex_row}
use Rattle.writing.specs.Laws.Written.{Going, going_none, going_as, going_room, going_next, going_more, going_byte, going_all}
use Rattle.frames.specs.Paper.Frames.{frame}
use Rattle.frames.specs.Laws.Writing.{frame_byte}
use Rattle.frames.proofs.write_frames.later_out.Goals as goal

module _ (bytes out : List ℕ) (at : ℕ) (room : at + length (frame (2 ∷ bytes)) ≤ length out) where
  abbrev after : List ℕ
  after = hex_row bytes ++ (10 ∷ [])

  begun : Going (frame (2 ∷ bytes)) out at out at (hex_of 2 ++ after)
  begun = going_as (frame_byte 2 bytes) (going_none (frame (2 ∷ bytes)) out at)

  two_fits : at + length (hex_of 2) ≤ length out
  two_fits = going_next room (hex_of 2) after begun

  module _ {row : List ℕ} {p : ℕ} (o : row ≡ over out at (hex_of 2) (at + length (hex_of 2))) (n : p ≡ at + length (hex_of 2)) where
    formed : Going (frame (2 ∷ bytes)) out at row p after
    formed = going_more room (hex_of 2) begun o n

    bytes_fit : p + length (hex_row bytes) ≤ length row
    bytes_fit = going_next room (hex_row bytes) (10 ∷ []) formed

    filled : {row' : List ℕ} {q : ℕ} → row' ≡ over row p (hex_row bytes) (p + length (hex_row bytes)) → q ≡ p + length (hex_row bytes)
        → Going (frame (2 ∷ bytes)) out at row' q (10 ∷ [])
    filled x y = going_more room (hex_row bytes) formed x y

pub byte_out-p-requires : goal.byte_out-p-requires
byte_out-p-requires c = two_fits c.args.bytes.now c.args.out.now c.args.at c.requires

pub row_out-p-requires : goal.row_out-p-requires
row_out-p-requires c =
    let o = c.byte_out-p.ensures in
    bytes_fit c.args.bytes.now c.args.out.now c.args.at c.requires o.out o.next

-- the room for byte 10
pub bounds-out-p : goal.bounds-out-p
bounds-out-p c =
    let o = c.byte_out-p.ensures in
    let t = c.row_out-p.ensures in
    omega (arith, going_room c.requires (filled c.args.bytes.now c.args.out.now c.args.at c.requires o.out o.next t.out t.next))

pub shape_of-out : goal.shape_of-out
shape_of-out c =
    let o = c.byte_out-p.ensures in
    let t = c.row_out-p.ensures in
    simp length-set (going_room c.requires (filled c.args.bytes.now c.args.out.now c.args.at c.requires o.out o.next t.out t.next)).1

pub returns : goal.returns
returns c =
    let o = c.byte_out-p.ensures in
    let t = c.row_out-p.ensures in
    let all = going_all c.requires (going_byte c.requires (filled c.args.bytes.now c.args.out.now c.args.at c.requires o.out o.next t.out t.next)) in
    record { next = all.0; out = all.1 }
