-- `frames::write_frames::first_out` meets its contract: the head, the characters and byte 10 are put one after the other.
use Rattle.std.proofs.Common.{◌≡◌, sym, List, [], ◌∷◌, ◌++◌, ℕ, ◌+◌, ◌≤◌, length, take, length-set, length-take-le, arith, rules}
use Rattle.ground.specs.Paper.Runs.{over}
use Rattle.stopper.specs.Paper.Table.{characters}
use Rattle.sound.specs.declared.records.Roll.{Roll}
use Rattle.writing.specs.Paper.Written.{hex_row}
use Rattle.writing.specs.Laws.Written.{Going, going_none, going_as, going_room, going_next, going_more, going_byte, going_all}
use Rattle.frames.specs.Paper.Frames.{frame, head_bytes, first_bytes}
use Rattle.frames.specs.Laws.Writing.{head_frame}
use Rattle.frames.proofs.write_frames.first_out.Goals as goal

module _ (r : Roll) (out : List ℕ) (room : 0 + length (frame (first_bytes r)) ≤ length out) where
  abbrev text : List ℕ
  text = frame (first_bytes r)

  abbrev head : List ℕ
  head = hex_row (head_bytes r)

  abbrev after : List ℕ
  after = hex_row (characters r.table)

  begun : Going text out 0 out 0 (head ++ (after ++ (10 ∷ [])))
  begun = going_as (head_frame r) (going_none text out 0)

  head_fits : {bytes : List ℕ} → bytes ≡ head_bytes r → 0 + length (hex_row bytes) ≤ length out
  head_fits e = rw e (going_next room head (after ++ (10 ∷ [])) begun)

  module _ {bytes row : List ℕ} {p : ℕ} (e : bytes ≡ head_bytes r) (o : row ≡ over out 0 (hex_row bytes) (0 + length (hex_row bytes))) (n : p ≡ 0 + length (hex_row bytes)) where
    headed : Going text out 0 row p (after ++ (10 ∷ []))
    headed = going_more room head begun (rw e at o) (rw e at n)

    module _ {sigma : ℕ} (z : sigma ≡ r.table.sigma) where
      after_fits : p + length (hex_row (take sigma r.table.places)) ≤ length row
      after_fits = rw z (going_next room after (10 ∷ []) headed)

      filled : {row' : List ℕ} {q : ℕ} → row' ≡ over row p (hex_row (take sigma r.table.places)) (p + length (hex_row (take sigma r.table.places)))
          → q ≡ p + length (hex_row (take sigma r.table.places)) → Going text out 0 row' q (10 ∷ [])
      filled x y = going_more room after headed (rw z at x) (rw z at y)

pub row_out-p-requires : goal.row_out-p-requires
row_out-p-requires c = head_fits c.args.roll c.args.out.now c.requires.1 c.head_of-head.ensures

pub row_out-p-requires-2 : goal.row_out-p-requires-2
row_out-p-requires-2 c =
    let o = c.row_out-p.ensures in
    after_fits c.args.roll c.args.out.now c.requires.1 c.head_of-head.ensures o.out o.next c.from.ensures

-- the room for byte 10
pub bounds-out-p : goal.bounds-out-p
bounds-out-p c =
    let o = c.row_out-p.ensures in
    let t = c.row_out-p-2.ensures in
    let g = filled c.args.roll c.args.out.now c.requires.1 c.head_of-head.ensures o.out o.next c.from.ensures t.out t.next in
    omega (arith, going_room c.requires.1 g)

pub shape_of-out : goal.shape_of-out
shape_of-out c =
    let o = c.row_out-p.ensures in
    let t = c.row_out-p-2.ensures in
    let g = filled c.args.roll c.args.out.now c.requires.1 c.head_of-head.ensures o.out o.next c.from.ensures t.out t.next in
    simp length-set (going_room c.requires.1 g).1

pub returns : goal.returns
returns c =
    let o = c.row_out-p.ensures in
    let t = c.row_out-p-2.ensures in
    let g = filled c.args.roll c.args.out.now c.requires.1 c.head_of-head.ensures o.out o.next c.from.ensures t.out t.next in
    let all = going_all c.requires.1 (going_byte c.requires.1 g) in
    record { next = all.0; out = all.1 }

pub slice_bounds-row_out-end-2 : goal.slice_bounds-row_out-end-2
slice_bounds-row_out-end-2 c =
    let places = c.args.roll.table.places in
    let e : length places ≡ 256 = search rules in
    sym (length-take-le c.from.result places (omega (arith, c.from.ensures, c.requires.0)))
