-- `frames::read_frames::store_lines` meets its contract: the bytes of the lines that have come are laid over the front.
use Rattle.std.proofs.Common.{◌≡◌, refl, ap, ap₂, ◌∙◌, List, ◌++◌, append-nil, ℕ, ◌+◌, ◌-◌, ◌*◌, ◌≤◌, T, length, take, arith}
use Rattle.std.proofs.Math.Nat.{sub-zero}
use Rattle.std.proofs.Math.ListN.{drop_of_length-le}
use Rattle.std.specs.Slice.Iter.{chunks_rest, chunks_size}
use borrow.Rule.Slice.PartMut.{mid_len, Post-is}
use Rattle.ground.specs.Paper.Runs.{over}
use Rattle.writing.specs.Laws.Written.{going_none, going_as, going_room, going_more, going_whole}
use Rattle.frames.specs.Paper.Frames.{later_for, most_bytes, all_right, packed_in, packed_from}
use Rattle.frames.specs.Laws.Later.{packed_none, packed_length, over_bytes, Cut, cut_chunk}
use Rattle.frames.proofs.read_frames.store_lines.Goals as goal

-- there is room for all bytes
fits : (rest out : List ℕ) → T (all_right (later_for (length out)) (length out) rest) → 0 + length (packed_from (later_for (length out)) rest) ≤ length out
fits rest out h = omega (arith, packed_length (length out) rest h)

pub loop-line-init : goal.loop-line-init
loop-line-init c =
    let a = c.args in
    let it = c.into_iter-line-iterator.ensures.into_iter_gives in
    let rest : chunks_rest c.into_iter-line-iterator.result ≡ a.rest.now = ap chunks_rest it ∙ c.chunks-line-items.ensures.rest in
    let size : chunks_size c.into_iter-line-iterator.result ≡ 2 * most_bytes + 3 = ap chunks_size it ∙ c.chunks-line-items.ensures.size in
    let all = packed_from (later_for (length a.out.now)) a.rest.now in
    (omega arith, tt, size, omega arith, refl, rw (rest, sub-zero) c.requires, rw (rest, sub-zero) (going_none all a.out.now 0))

pub bytes_of-requires : goal.bytes_of-requires
bytes_of-requires c = let i = c.loop-line.invariant in (cut_chunk i.2 i.5 c.in-Some.ensures.steps.1).later

pub overflow_add-to : goal.overflow_add-to
overflow_add-to c =
    let i = c.loop-line.invariant in
    omega (arith, (cut_chunk i.2 i.5 c.in-Some.ensures.steps.1).upto, c.bytes_of.ensures.many, i.3)

pub slice_bounds-take_packed-end : goal.slice_bounds-take_packed-end
slice_bounds-take_packed-end c =
    let i = c.loop-line.invariant in
    omega (arith, (cut_chunk i.2 i.5 c.in-Some.ensures.steps.1).upto, c.bytes_of.ensures.many, i.3, i.4)

pub take_packed-requires : goal.take_packed-requires
take_packed-requires c =
    let i = c.loop-line.invariant in
    let at = c.loop-line.at in
    let cut = cut_chunk i.2 i.5 c.in-Some.ensures.steps.1 in
    let many = c.bytes_of.ensures.many in
    (cut.later, mid_len at (at + c.bytes_of.result) c.loop-line.out (omega (arith, cut.upto, many, i.3, i.4)) ∙ omega (arith, many))

pub loop-line-preserved : goal.loop-line-preserved
loop-line-preserved c =
    let i = c.loop-line.invariant in
    let rest = c.args.rest.now in
    let whole = c.args.out.now in
    let at = c.loop-line.at in
    let out = c.loop-line.out in
    let xs = packed_in c.in-Some.line.now in
    let cut : Cut (length whole - at) (chunks_rest c.loop-line.line-iterator) c.in-Some.line.now (chunks_rest c.next.new.self) = cut_chunk i.2 i.5 c.in-Some.ensures.steps.1 in
    let many : c.bytes_of.result ≡ length xs = c.bytes_of.ensures.many in
    let laid = ap (λ (r : List ℕ). take at out ++ (c.take_packed.new.out ++ r)) (Post-is at (at + c.bytes_of.result) out (omega arith))
    ∙ ap₂ (λ (ys : List ℕ) (m : ℕ). over out at ys (at + m)) c.take_packed.ensures many in
    let left : length whole - at - length xs ≡ length whole - (at + c.bytes_of.result) = omega (arith, many) in
    let room = fits rest whole c.requires in
    let went = going_more room xs (going_as cut.packed i.6) laid (ap (λ (m : ℕ). at + m) many) in
    let size : chunks_size c.next.new.self ≡ 2 * most_bytes + 3 = c.in-Some.ensures.steps.0 ∙ i.2 in
    (omega arith, tt, size, omega (arith, cut.upto, many, i.3), (going_room room went).1, rw (← left) cut.all, rw (← left) went)

pub returns : goal.returns
returns c =
    let i = c.loop-line.invariant in
    let rest = c.args.rest.now in
    let out = c.args.out.now in
    let others = chunks_rest c.loop-line.line-iterator in
    let none : length out - c.loop-line.at ≡ 0 = over_bytes _ others i.5 c.in-None.ensures.steps.1.0 in
    let left = ap (λ (n : ℕ). packed_from (later_for n) others) none ∙ packed_none others in
    let all = packed_from (later_for (length out)) rest in
    (going_whole (fits rest out c.requires) (going_as left i.6)).1
    ∙ ap (λ (l : List ℕ). all ++ l) (drop_of_length-le out (omega (arith, packed_length (length out) rest c.requires)))
    ∙ append-nil all
