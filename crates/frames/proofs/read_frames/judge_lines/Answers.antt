-- `frames::read_frames::judge_lines` meets its contract: the judge heard the lines that have come, and the others it has still to hear.
use Rattle.std.proofs.Common.{◌≡◌, refl, sym, ap, subst, ◌∙◌, List, ◌++◌, ℕ, ◌+◌, ◌-◌, ◌*◌, ◌≤◌, T, length, take, drop, length-append, length-drop, length-take-le, arith}
use Rattle.std.proofs.Math.Seq.{take_at}
use Rattle.std.specs.Slice.Iter.{chunks_rest, chunks_size}
use native.Mathlib.Nat.{mul-le-mul}
use Rattle.stopper.specs.Paper.Table.{good_table}
use Rattle.stopper.specs.Laws.Table.{code_width, table_code}
use Rattle.symbols.specs.Paper.Symbols.{per}
use Rattle.symbols.specs.Laws.Width.{per_few}
use Rattle.sound.specs.declared.records.Roll.{Roll}
use Rattle.judge.specs.Paper.Judge.{judge_after, verdict_says}
use Rattle.judge.specs.Helpers.Steady.{Steady, Judges}
use Rattle.judge.specs.Laws.Judged.{judge_append, judge_none, judge_roll, judge_begins, judge_steady}
use Rattle.judge.specs.declared.records.Judge.{Judge}
use Rattle.frames.specs.Paper.Frames.{later_for, bytes_used, most_bytes, packed_in, packed_from}
use Rattle.frames.specs.Paper.Operations.{packed_after}
use Rattle.frames.specs.Laws.Later.{packed_none, over_bytes, Cut, cut_chunk}
use Rattle.frames.proofs.read_frames.judge_lines.Goals as goal

-- a line's bytes, at the front of the piece
module _ (piece : List ℕ) {bytes out : List ℕ} {many : ℕ} (o : out ≡ bytes) (n : many ≡ length bytes) where
  front : take many (out ++ drop many piece) ≡ bytes
  front = take_at out (drop many piece) many (ap length o ∙ sym n) ∙ o

  whole : many ≤ most_bytes → length piece ≡ most_bytes → length (out ++ drop many piece) ≡ most_bytes
  whole few e = omega (arith, length-append out (drop many piece), length-drop many piece, ap length o)

-- the judge keeps its roll
table : (j : Judge) {roll : Roll} → T (good_table roll.table) → j.roll ≡ roll → T (good_table j.roll.table)
table j t e = subst (λ (r : Roll). T (good_table r.table)) (sym e) t

judges : (j : Judge) {piece : List ℕ} → T (good_table j.roll.table) → Steady j.roll.h j.progress → length piece ≤ most_bytes → Judges j piece
judges j t s few =
    let four : per j.roll.table.code.k ≤ 4 = per_few (code_width _ (table_code _ t)) in
    record { fits = omega (arith, mul-le-mul few four); table = t; steady = s }

pub loop-line-init : goal.loop-line-init
unfolding packed_after
loop-line-init c =
    let a = c.args in
    let it = c.into_iter-line-iterator.ensures.into_iter_gives in
    let rest : chunks_rest c.into_iter-line-iterator.result ≡ a.rest.now = ap chunks_rest it ∙ c.chunks-line-items.ensures.rest in
    let size : chunks_size c.into_iter-line-iterator.result ≡ 2 * most_bytes + 3 = ap chunks_size it ∙ c.chunks-line-items.ensures.size in (
      omega arith,
      tt,
      size,
      refl,
      ap (λ (j : Judge). j.roll) c.judge_of-judge.ensures,
      rw c.judge_of-judge.ensures (judge_begins a.roll),
      record { bytes = bytes_used a.roll; right = rw rest c.requires.1; heard = rw rest refl },
    )

pub bytes_of-many-requires : goal.bytes_of-many-requires
bytes_of-many-requires c = let i = c.loop-line.invariant in (cut_chunk i.2 i.6.right c.in-Some.ensures.steps.1).later

pub take_packed-requires : goal.take_packed-requires
take_packed-requires c =
    let i = c.loop-line.invariant in
    let n = c.bytes_of-many.ensures in
    ((cut_chunk i.2 i.6.right c.in-Some.ensures.steps.1).later, length-take-le _ c.loop-line.piece (omega (arith, n.few, i.3)) ∙ n.many)

pub judge_piece-judge-requires : goal.judge_piece-judge-requires
judge_piece-judge-requires c =
    let i = c.loop-line.invariant in
    let n = c.bytes_of-many.ensures in
    let f = front c.loop-line.piece c.take_packed.ensures n.many in
    judges c.loop-line.judge (table c.loop-line.judge c.requires.0 i.4) i.5 (omega (arith, ap length f, n.many, n.few))

pub loop-line-preserved : goal.loop-line-preserved
loop-line-preserved c =
    let i = c.loop-line.invariant in
    let n = c.bytes_of-many.ensures in
    let j = c.loop-line.judge in
    let xs = packed_in c.in-Some.line.now in
    let left = i.6.bytes in
    let cut : Cut left (chunks_rest c.loop-line.line-iterator) c.in-Some.line.now (chunks_rest c.next.new.self) = cut_chunk i.2 i.6.right c.in-Some.ensures.steps.1 in
    let size : chunks_size c.next.new.self ≡ 2 * most_bytes + 3 = c.in-Some.ensures.steps.0 ∙ i.2 in
    let t = table j c.requires.0 i.4 in
    let heard : c.judge_piece-judge.result ≡ judge_after j xs = c.judge_piece-judge.ensures ∙ ap (judge_after j) (front c.loop-line.piece c.take_packed.ensures n.many) in (
      omega arith,
      tt,
      size,
      whole c.loop-line.piece c.take_packed.ensures n.many n.few i.3,
      ap (λ (q : Judge). q.roll) heard ∙ judge_roll j xs ∙ i.4,
      rw (heard, judge_roll) (judge_steady j t i.5 xs),
      record {
        bytes = left - length xs;
        right = cut.all;
        heard = i.6.heard ∙ rw (cut.packed, heard) (judge_append j (table_code j.roll.table t) xs _);
      },
    )

pub returns : goal.returns
returns c =
    let i = c.loop-line.invariant in
    let j = c.loop-line.judge in
    let others = chunks_rest c.loop-line.line-iterator in
    let none : i.6.bytes ≡ 0 = over_bytes _ others i.6.right c.in-None.ensures.steps.1.0 in
    let all : judge_after j (packed_from (later_for i.6.bytes) others) ≡ j = ap (λ (n : ℕ). judge_after j (packed_from (later_for n) others)) none ∙ ap (judge_after j) (packed_none others) ∙ judge_none j in
    c.verdict.ensures.says
    ∙ ap verdict_says (sym (ap (λ (q : Judge). judge_after q (packed_after c.args.roll c.args.rest.now)) (sym c.judge_of-judge.ensures) ∙ i.6.heard ∙ all))
