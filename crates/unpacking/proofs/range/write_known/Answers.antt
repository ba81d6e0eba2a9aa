-- `unpacking::range::write_known` meets its contract: `Wrote` after every byte.
use Rattle.std.proofs.Common.{◌≡◌, List, [], ◌∷◌, ◌++◌, ℕ, suc, ◌+◌, ◌*◌, ◌≤◌, ◌<◌, length, drop, get_or, set, refl, sym, ap, ◌∙◌, arith, mul-le-mul_right}
use Rattle.stopper.specs.Laws.Table.{code_width}
use Rattle.symbols.specs.Paper.Symbols.{per, symbols_of}
use Rattle.symbols.specs.Laws.Width.{per_pos, per_few}
use Rattle.symbols.specs.Laws.Rows.{symbols_length, starts_within}
use Rattle.reading.specs.Paper.Reading.{row_upto}
use Rattle.moves.specs.Helpers.Moves.{part_in, bound_in, times_in, plus_in, stops_in}
use Rattle.moves.specs.Laws.Moves.{byte_split}
use Rattle.unpacking.specs.Helpers.Gives.{first_times, first_plus, KnownByByte}
use Rattle.unpacking.specs.Helpers.Tasks.{WrittenBytes}
use Rattle.unpacking.specs.declared.task.Task.{Task}
use Rattle.unpacking.specs.Laws.Gives.{ranks_few, spells_first, wrote_byte, wrote_as, back_kept}
use Rattle.unpacking.proofs.range.write_known.Goals as goal

module _ (s : Task) (j whole : ℕ) (v : whole * per s.packed.ranks.good.code.k ≤ s.packed.h) (l : j < whole) where
  -- byte j is whole
  inside : suc j * per s.packed.ranks.good.code.k ≤ s.packed.h
  inside = omega (arith, mul-le-mul_right (per s.packed.ranks.good.code.k) l)

  in_buffer : j < length s.packed.buf.now
  in_buffer = let w = code_width s.packed.ranks.good.code s.unpacks.reads.good in starts_within w s.packed.buf.now j (omega (arith, inside, per_pos w, s.unpacks.reads.held))

  -- it is b, and what b gives is known at the state x
  module _ (t u : List ℕ) (known : KnownByByte s.packed.ranks.good.code s.packed.ranks.sigma s.places.now t u) {b x : ℕ} (e : b ≡ get_or s.packed.buf.now j 0) (taken : x < bound_in (get_or t b 0)) where
    short : length (symbols_of s.packed.ranks.good.code.k (b ∷ [])) ≤ 4
    short = omega (arith, symbols_length s.packed.ranks.good.code.k (b ∷ []), per_few (code_width s.packed.ranks.good.code s.unpacks.reads.good))

    ended_few : stops_in (get_or t b 0) ≤ 4
    ended_few = omega (arith, (known b).0.ends x taken, ranks_few s.packed.ranks.good.code (symbols_of s.packed.ranks.good.code.k (b ∷ [])) x, short)

    rank_small : x * first_times (get_or u b 0) + first_plus (get_or u b 0) < 256
    rank_small = spells_first s.packed.ranks.good.code s.places.now ((known b).1 (omega (arith, taken))) x ((known b).0.good x taken) s.unpacks.reads.few

    one_byte : {out : List ℕ} {n : ℕ} → WrittenBytes s out (record { at = j; x = x; n = n }) → n + 4 ≤ length out
        → let g = get_or u b 0 in
        let first = get_or s.places.now (x * first_times g + first_plus g) 0 in
        WrittenBytes s (set (set (set (set out n first) (n + 1) (part_in 16 g)) (n + 2) (part_in 24 g)) (n + 3) (part_in 32 g))
        (record { at = j + 1; x = x * times_in (get_or t b 0) + plus_in (get_or t b 0); n = n + stops_in (get_or t b 0) })
    one_byte w room =
        let rest = drop (suc j * per s.packed.ranks.good.code.k) (row_upto s.packed.ranks.good.code s.packed.h s.packed.buf.now) in
        let split : drop (j * per s.packed.ranks.good.code.k) (row_upto s.packed.ranks.good.code s.packed.h s.packed.buf.now) ≡ symbols_of s.packed.ranks.good.code.k (b ∷ []) ++ rest
        = byte_split s.packed.ranks.good.code s.unpacks.reads.good s.packed.buf.now s.packed.h j inside s.unpacks.reads.held ∙ ap (λ (y : ℕ). symbols_of s.packed.ranks.good.code.k (y ∷ []) ++ rest) (sym e) in
        let at : (j + 1) * per s.packed.ranks.good.code.k ≡ j * per s.packed.ranks.good.code.k + length (symbols_of s.packed.ranks.good.code.k (b ∷ [])) = omega (arith, symbols_length s.packed.ranks.good.code.k (b ∷ [])) in
        wrote_as at refl refl (wrote_byte w rest split (known b).0 taken ((known b).1 (omega (arith, taken))) short room)

pub bounds-buf-at : goal.bounds-buf-at
bounds-buf-at c = in_buffer c.args.task.now c.loop-at.at c.args.whole c.requires.2 c.loop-at-test.true

pub bounds-places-first : goal.bounds-places-first
bounds-places-first c =
    let taken = rw c.bound_of.ensures.0 at c.if-bound_of-x.false in
    rw c.first.ensures
    (rank_small c.args.task.now c.loop-at.at c.args.whole c.requires.2 c.loop-at-test.true _ _ c.requires.0 c.from-b.ensures taken)

pub loop-at-preserved : goal.loop-at-preserved
loop-at-preserved c =
    let s = c.args.task.now in
    let at = c.loop-at.at in
    let l = c.loop-at-test.true in
    let known = c.requires.0 in
    let b = c.from-b.ensures in
    let taken = rw c.bound_of.ensures.0 at c.if-bound_of-x.false in
    let ended = ended_few s at c.args.whole c.requires.2 l _ _ known b taken in
    let room : c.loop-at.n + 4 ≤ s.m = omega (arith, c.loop-at.invariant.few) in
    rw (c.first.ensures, c.part.ensures, c.part-in-loop-at.ensures, c.part-in-loop-at-2.ensures, c.moved_by-x.ensures.0, c.ended-n.ensures.0) (record {
      few = omega (arith, ended, room);
      wrote = one_byte s at c.args.whole c.requires.2 l _ _ known b taken c.loop-at.invariant.wrote (omega (arith, room));
      kept = back_kept s.m c.loop-at.out c.loop-at.n _ _ _ _ room ∙ c.loop-at.invariant.kept;
    })
