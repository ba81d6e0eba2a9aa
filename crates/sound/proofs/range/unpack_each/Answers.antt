-- `sound::range::unpack_each` meets its contract: before character start + i the symbol is where its codeword starts, and the
-- characters before it are written.
use Rattle.std.proofs.Common.{◌≡◌, refl, sym, ap, ap₂, ◌∙◌, List, ◌++◌, map, ℕ, suc, ◌+◌, ◌-◌, ◌≤◌, ◌<◌, length, take, drop, get_or, set, Some, arith}
use Prim.Native.Nat.{zero-le}
use native.Mathlib.Nat.{add-zero, add-suc}
use native.Mathlib.Numerals.{add-one}
use lib.ListN.{length-map, length-drop}
use lib.Seq.{get_or-drop}
use Rattle.ground.specs.Laws.Rows.{map_at, below_at}
use Rattle.ground.specs.Laws.Runs.{front_more}
use Rattle.stopper.specs.Paper.Table.{length_of}
use Rattle.stopper.specs.Laws.Table.{table_few}
use Rattle.texts.specs.Paper.Directory.{start_at}
use Rattle.reading.specs.Paper.Reading.{row_upto}
use Rattle.reading.specs.Helpers.Codewords.{found_at}
use Rattle.reading.specs.declared.codewords.Word.{Word}
use Rattle.sound.specs.Paper.Roll.{reading_from, text_of, Sound}
use Rattle.sound.specs.Paper.Lengths.{lengths_of}
use Rattle.sound.specs.Laws.Sound.{sound_code, sound_reads, sound_below, sound_found, sound_start}
use Rattle.sound.specs.declared.records.Roll.{Roll}
use Rattle.sound.proofs.range.unpack_each.Invariants.{ranks, characters}
use Rattle.sound.proofs.range.unpack_each.Goals as goal

module _ {r : Roll} {buf : List ℕ} (s : Sound r buf) (start : ℕ) where
  abbrev rs : List ℕ
  rs = ranks r.table.code r.table.sigma buf r.h

  abbrev text : List ℕ
  text = drop start (characters r.table.places rs)

  abbrev starts : ℕ → ℕ
  starts = start_at (map (length_of r.table.code) rs)

  many : length rs ≡ r.n
  unfolding reading_from
  many = s.count

  long : length text ≡ r.n - start
  long = length-drop start _ ∙ rw (length-map, many)

  -- the codeword of character start + i: its rank, and the symbol after it
  there : (i : ℕ) → start + i < r.n → {p : ℕ} → p ≡ starts (start + i)
      → found_at r.table.code r.table.sigma (row_upto r.table.code r.h buf) p ≡ Some (record { rank = get_or rs (start + i) 0; next = starts (suc (start + i)) })
  unfolding reading_from lengths_of
  there i h e = ap (found_at r.table.code r.table.sigma (row_upto r.table.code r.h buf)) e ∙ sound_found s (start + i) h

  word_is : (i : ℕ) → start + i < r.n → {p : ℕ} → p ≡ starts (start + i) → {f : Word} → Some f ≡ found_at r.table.code r.table.sigma (row_upto r.table.code r.h buf) p
      → f ≡ record { rank = get_or rs (start + i) 0; next = starts (suc (start + i)) }
  word_is i h e f = let q = f ∙ there i h e in cc

  -- its character, written
  written : (before : List ℕ) {out : List ℕ} {i rank : ℕ} → start + i < r.n → rank ≡ get_or rs (start + i) 0 → out ≡ take i text ++ drop i before → i < length before
      → set out i (get_or r.table.places rank 0) ≡ take (i + 1) text ++ drop (i + 1) before
  written before {i = i} {rank} h e o k =
      let character : ℕ → ℕ = λ rank. get_or r.table.places rank 0 in
      let v : character rank ≡ get_or text i 0
      = ap character e ∙ sym (map_at character rs (start + i) (omega (arith, many, h))) ∙ sym (get_or-drop start (characters r.table.places rs) i 0) in
      ap₂ (λ (out : List ℕ) (v : ℕ). set out i v) o v ∙ front_more before text i (omega (arith, long, h)) k

-- where character `start` starts
pub loop-i-init : goal.loop-i-init
unfolding reading_from lengths_of
loop-i-init c = (rw add-zero c.requires.3, refl)

-- what is read
pub overflow_cast-packed : goal.overflow_cast-packed
overflow_cast-packed c = omega (arith, table_few c.args.sound.now.roll.table c.args.sound.now.sound.table)

pub invariant_of-packed : goal.invariant_of-packed
invariant_of-packed c = record { good = sound_code c.args.sound.now.sound }

pub invariant_of-packed-2 : goal.invariant_of-packed-2
invariant_of-packed-2 c = record { few = table_few c.args.sound.now.roll.table c.args.sound.now.sound.table }

pub invariant_of-packed-in-loop-i : goal.invariant_of-packed-in-loop-i
invariant_of-packed-in-loop-i c = let reads = sound_reads c.args.sound.now.sound 0 zero-le in record { held = reads.held; small = reads.small }

pub codeword_at-requires : goal.codeword_at-requires
unfolding reading_from lengths_of
codeword_at-requires c = rw c.loop-i.invariant.0 (sound_start c.args.sound.now.sound (c.args.start + c.loop-i.i))

-- the codeword of character start + i is there
inside : {i start end n : ℕ} → start ≤ end → end ≤ n → i < end - start → start + i < n
inside a b h = omega arith

pub unwrap-word-requires : goal.unwrap-word-requires
unwrap-word-requires c =
    rw (c.codeword_at.ensures ∙ there c.args.sound.now.sound c.args.start c.loop-i.i (inside c.requires.0 c.requires.1 c.loop-i-test.true) c.loop-i.invariant.0) refl

pub bounds-table-word : goal.bounds-table-word
unfolding reading_from
bounds-table-word c =
    let s = c.args.sound.now.sound in
    let h = inside c.requires.0 c.requires.1 c.loop-i-test.true in
    let w = word_is s c.args.start c.loop-i.i h c.loop-i.invariant.0 (sym c.unwrap-word.ensures ∙ c.codeword_at.ensures) in
    let b = below_at (sound_below s) (c.args.start + c.loop-i.i) (omega (arith, many s c.args.start, h)) in
    omega (arith, b, ap (λ (x : Word). x.rank) w, table_few c.args.sound.now.roll.table s.table)

pub loop-i-preserved : goal.loop-i-preserved
loop-i-preserved c =
    let s = c.args.sound.now.sound in
    let h = inside c.requires.0 c.requires.1 c.loop-i-test.true in
    let w = word_is s c.args.start c.loop-i.i h c.loop-i.invariant.0 (sym c.unwrap-word.ensures ∙ c.codeword_at.ensures) in (
      rw (add-one, add-suc) (ap (λ (x : Word). x.next) w),
      written s c.args.start c.args.out.now h (ap (λ (x : Word). x.rank) w) c.loop-i.invariant.1 (omega (arith, c.requires.2, c.loop-i-test.true)),
    )

pub returns : goal.returns
unfolding text_of reading_from
returns c =
    let e : c.loop-i.i ≡ c.args.end - c.args.start = omega (arith, c.loop-i-test.false, c.loop-i.auto.i-end) in
    c.loop-i.invariant.1 ∙ ap (λ (i : ℕ). take i (text c.args.sound.now.sound c.args.start) ++ drop i c.args.out.now) e
