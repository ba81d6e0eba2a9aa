-- `frames::write_frames::frames_out` meets its contract: the frames of the bytes that have come are put.
use Rattle.std.proofs.Common.{◌≡◌, refl, sym, ◌∙◌, ap, List, [], ◌∷◌, ◌++◌, ℕ, ◌-◌, ◌<◌, min, length, take, drop, length-append, arith}
use Rattle.std.proofs.lemmas.List.{take_min, drop_min}
use Rattle.std.proofs.Math.Seq.{take_at, drop_at}
use Rattle.std.specs.Slice.Iter.{chunks_rest, chunks_size}
use Rattle.writing.specs.Laws.Written.{Going, going_none, going_as, going_next, going_more, going_all}
use Rattle.frames.specs.Paper.Frames.{frame, later_frames, most_bytes}
use Rattle.frames.specs.Laws.Later.{later_suc}
use Rattle.frames.specs.Laws.Writing.{frames_none}
use Rattle.frames.proofs.write_frames.frames_out.Invariants.{later}
use Rattle.frames.proofs.write_frames.frames_out.Goals as goal

-- the first 32 bytes, or all, and those after them
later_more : (bytes packed rest : List ℕ) → bytes ≡ packed ++ rest → length packed ≡ min most_bytes (length bytes) → 0 < length bytes → later bytes ≡ frame (2 ∷ packed) ++ later rest
unfolding later_frames
later_more bytes packed rest e n h =
    let front : take most_bytes bytes ≡ packed = sym (take_min most_bytes bytes) ∙ rw (← n, e) (take_at packed rest (length packed) refl) in
    let back : drop most_bytes bytes ≡ rest = sym (drop_min most_bytes bytes) ∙ rw (← n, e) (drop_at packed rest (length packed) refl) in
    let left : length bytes - most_bytes ≡ length rest = omega (arith, ap length e, length-append packed rest) in
    rw (later_suc (length bytes) h, front, back, left)

later_all : (bytes : List ℕ) → length bytes ≡ 0 → later bytes ≡ []
later_all bytes e = rw e (frames_none bytes)

pub loop-packed-init : goal.loop-packed-init
loop-packed-init c =
    let a = c.args in
    let it = c.into_iter-packed-iterator.ensures.into_iter_gives in
    let rest : chunks_rest c.into_iter-packed-iterator.result ≡ a.bytes.now = ap chunks_rest it ∙ c.chunks-packed-items.ensures.rest in
    let size : chunks_size c.into_iter-packed-iterator.result ≡ most_bytes = ap chunks_size it ∙ c.chunks-packed-items.ensures.size in
    (omega arith, tt, size, rw rest (going_none (later a.bytes.now) a.out.now a.at))

-- the next frame, and those after it
next : {whole bytes out row : List ℕ} {at p size : ℕ} (packed rest : List ℕ) → size ≡ most_bytes → Going whole out at row p (later bytes)
    → (bytes ≡ packed ++ rest) × (length packed ≡ min size (length bytes)) × (0 < length bytes) → Going whole out at row p (frame (2 ∷ packed) ++ later rest)
next {bytes = bytes} packed rest n g s = going_as (later_more bytes packed rest s.0 (omega (arith, s.1)) s.2) g

pub later_out-p-requires : goal.later_out-p-requires
later_out-p-requires c =
    let i = c.loop-packed.invariant in
    going_next c.requires (frame (2 ∷ c.in-Some.packed.now)) (later (chunks_rest c.next.new.self)) (next _ _ i.2 i.3 c.in-Some.ensures.steps.1)

pub loop-packed-preserved : goal.loop-packed-preserved
loop-packed-preserved c =
    let i = c.loop-packed.invariant in
    let s = c.in-Some.ensures.steps in
    let size : chunks_size c.next.new.self ≡ most_bytes = s.0 ∙ i.2 in (
      omega arith,
      tt,
      size,
      going_more c.requires (frame (2 ∷ c.in-Some.packed.now)) (next _ _ i.2 i.3 s.1) c.later_out-p.ensures.out c.later_out-p.ensures.next,
    )

pub returns : goal.returns
returns c =
    let i = c.loop-packed.invariant in
    (going_all c.requires (going_as (later_all _ c.in-None.ensures.steps.1.0) i.3)).1
