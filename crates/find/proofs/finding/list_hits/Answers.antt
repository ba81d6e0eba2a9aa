-- `find::finding::list_hits` meets its contract: before codeword i the hits among the codewords before it are counted and listed.
use Rattle.std.proofs.Common.{◌≡◌, ◌≢◌, refl, sym, ap, ap₂, ◌∙◌, Bool, true, false, ℕ, ◌+◌, ◌≤◌, ◌<◌, List, [], ◌∷◌, ◌++◌, length, drop, get_or, set, length-append, get_or-take, add_assoc, arith}
use Rattle.std.proofs.Math.Nat.{add-zero}
use lib.Seq.{length-take-le}
use Rattle.stopper.specs.declared.code.Code.{Code}
use Rattle.symbols.specs.Paper.Symbols.{symbols_of}
use Rattle.texts.specs.Paper.Hits.{stands, listed}
use Rattle.texts.specs.Helpers.Passing.{grown, passing}
use Rattle.texts.specs.Laws.Finding.{passing_more, listed_none, listed_more, listed_full, stands_end, stands_past, stands_same, stands_differ}
use Rattle.reading.specs.Paper.Reading.{row_upto}
use Rattle.sound.specs.Helpers.Ends.{end_of, end_from}
use Rattle.sound.specs.Paper.Roll.{Sound}
use Rattle.sound.specs.Laws.Sound.{sound_width, sound_reads, sound_start}
use Rattle.sound.specs.Laws.Ends.{sound_end, sound_one, sound_next}
use Rattle.sound.specs.declared.records.Roll.{Roll}
use Rattle.find.specs.Helpers.Finding.{stands_behind, word_hits}
use Rattle.find.specs.Laws.Finding.{words_behind}
use Rattle.find.proofs.finding.list_hits.Invariants.{found, Before}
use Rattle.find.proofs.finding.list_hits.Goals as goal
use Rattle.find.proofs.finding.list_hits.Goals.{Joined-same, then-loop-j-test+then-p-j, then-p-j-via-then-p-j, then-p-j-via-else-p-j+then-get-symbol, else-loop-j-test, then-same, then-total-slice, else-total-slice, else-same}

-- ---- the symbols compared at symbol p

module _ (code : Code) (buf symbols : List ℕ) (h p j : ℕ) (held : h ≤ length (symbols_of code.k buf)) (there : j < length symbols) where
  abbrev row : List ℕ
  row = row_upto code h buf

  long : length row ≡ h
  long = length-take-le h (symbols_of code.k buf) held

  past : h ≤ p + j → stands (drop j symbols) (drop (p + j) row) ≡ false
  past l = stands_past symbols row j (p + j) there (omega (arith, long))

  module _ {y : ℕ} (inside : p + j < h) (is : y ≡ get_or (symbols_of code.k buf) (p + j) 0) where
    symbol_is : y ≡ get_or row (p + j) 0
    symbol_is = is ∙ sym (get_or-take h (symbols_of code.k buf) (p + j) 0 inside)

    same : y ≡ get_or symbols j 0 → stands (drop j symbols) (drop (p + j) row) ≡ stands (drop (j + 1) symbols) (drop (p + (j + 1)) row)
    same e =
        stands_same symbols row j (p + j) there (omega (arith, long)) (sym symbol_is ∙ e)
        ∙ ap (λ (n : ℕ). stands (drop (j + 1) symbols) (drop n row)) (add_assoc p j 1)

    differs : y ≢ get_or symbols j 0 → stands (drop j symbols) (drop (p + j) row) ≡ false
    differs n = stands_differ symbols row j (p + j) there (omega (arith, long)) (λ e. n (symbol_is ∙ e))

-- ---- the codewords

module _ {roll : Roll} {buf symbols old : List ℕ} {i p total : ℕ} {slice : List ℕ} (sound : Sound roll buf) (before : Before roll.table.code buf roll.h symbols old i p total slice) where
  -- before codeword roll.n all hits
  all : i ≡ roll.n → found roll.table.code buf roll.h symbols i ≡ word_hits roll buf symbols
  all e = ap (found roll.table.code buf roll.h symbols) e ∙ words_behind sound symbols

  module _ (h : i < roll.n) where
    -- codeword i starts before the row ends
    starts : p ≤ roll.h
    starts = omega (arith, before.starts, sound_end sound i (omega arith), sound_start sound i)

    module _ {same : Bool} {next : ℕ} (stands_is : same ≡ stands symbols (drop p (row_upto roll.table.code roll.h buf))) (next_is : next ≡ end_from roll.table.code buf p 1) where
      next_starts : next ≡ end_from roll.table.code buf 0 (i + 1)
      next_starts = next_is ∙ ap (λ (p : ℕ). end_from roll.table.code buf p 1) before.starts ∙ sound_next sound i h

      hits : found roll.table.code buf roll.h symbols (i + 1) ≡ grown same i (found roll.table.code buf roll.h symbols i)
      hits = passing_more (stands_behind roll.table.code buf roll.h symbols) i (stands_is ∙ ap (λ (p : ℕ). stands symbols (drop p (row_upto roll.table.code roll.h buf))) before.starts)

      missed : same ≡ false → Before roll.table.code buf roll.h symbols old (i + 1) next total slice
      missed is =
          let e : found roll.table.code buf roll.h symbols (i + 1) ≡ found roll.table.code buf roll.h symbols i = hits ∙ ap (λ (b : Bool). grown b i (found roll.table.code buf roll.h symbols i)) is in
          record { starts = next_starts; few = omega (arith, before.few); count = before.count ∙ ap length (sym e); list = before.list ∙ ap (λ (xs : List ℕ). listed xs old) (sym e) }

      module _ (is : same ≡ true) where
        abbrev hs : List ℕ
        hs = found roll.table.code buf roll.h symbols i

        one_more : found roll.table.code buf roll.h symbols (i + 1) ≡ hs ++ (i ∷ [])
        one_more = hits ∙ ap (λ (b : Bool). grown b i hs) is

        -- a hit, listed as far as there is room
        hit : {after : List ℕ} → after ≡ listed (hs ++ (i ∷ [])) old → Before roll.table.code buf roll.h symbols old (i + 1) next (total + 1) after
        hit list =
            record {
              starts = next_starts;
              few = omega (arith, before.few);
              count = omega (arith, before.count, ap length one_more, length-append hs (i ∷ []));
              list = list ∙ ap (λ (xs : List ℕ). listed xs old) (sym one_more);
            }

        hit_listed : total < length old → Before roll.table.code buf roll.h symbols old (i + 1) next (total + 1) (set slice total i)
        hit_listed room =
            hit (ap₂ (λ (xs : List ℕ) (n : ℕ). set xs n i) before.list before.count ∙ sym (listed_more hs old i (omega (arith, before.count))))

        hit_full : length old ≤ total → Before roll.table.code buf roll.h symbols old (i + 1) next (total + 1) slice
        hit_full full = hit (before.list ∙ sym (listed_full hs old i (omega (arith, before.count))))

held : (roll : Roll) (buf : List ℕ) → Sound roll buf → roll.h ≤ length (symbols_of roll.table.code.k buf)
held roll buf sound = (sound_reads sound 0 (omega arith)).held

pub loop-i-init : goal.loop-i-init
unfolding passing end_from end_of
loop-i-init c = record { starts = refl; few = omega arith; count = refl; list = sym (listed_none c.args.slice.now) }

pub loop-j-init : goal.loop-j-init
loop-j-init c =
    let row = row_upto c.args.sound.now.roll.table.code c.args.sound.now.roll.h c.args.sound.now.buf.now in (
      omega (arith, starts c.args.sound.now.sound c.loop-i.invariant c.loop-i-test.true),
      ap (λ (n : ℕ). stands c.args.symbols.now (drop n row)) (sym (add-zero c.loop-i.p)),
    )

pub overflow_add-p : goal.overflow_add-p
overflow_add-p c = omega (arith, c.loop-j.invariant.0, (sound_reads c.args.sound.now.sound 0 (omega arith)).small)

pub overflow_add-p-else-p-j : goal.overflow_add-p-else-p-j
overflow_add-p-else-p-j c = omega (arith, c.loop-j.invariant.0, (sound_reads c.args.sound.now.sound 0 (omega arith)).small)

pub get-requires : goal.get-requires
get-requires c = (sound_width c.args.sound.now.sound, omega (arith, c.if-p-j.false, c.loop-j.invariant.0, held c.args.sound.now.roll c.args.sound.now.buf.now c.args.sound.now.sound))

pub loop-j-preserved : goal.loop-j-preserved
loop-j-preserved c =
    let roll = c.args.sound.now.roll in
    let inside : c.loop-i.p + c.loop-j.j < roll.h = omega (arith, c.if-p-j.false, c.loop-j.invariant.0) in (
      omega (arith, inside),
      c.loop-j.invariant.1
          ∙ same roll.table.code c.args.sound.now.buf.now c.args.symbols.now roll.h c.loop-i.p c.loop-j.j (held roll c.args.sound.now.buf.now c.args.sound.now.sound) c.loop-j-test.true inside c.get.ensures c.if-get-symbol.false,
    )

pub overflow_add-total : goal.overflow_add-total
overflow_add-total c = omega (arith, c.loop-i.invariant.few, c.loop-i-test.true, c.loop-i.auto.i-end)

pub end_at-p-requires : goal.end_at-p-requires
end_at-p-requires c = rw c.loop-i.invariant.starts (sound_one c.args.sound.now.sound c.loop-i.i c.loop-i-test.true)

-- whether the symbols stand at the codeword
stood : (c : Joined-same) → c.loop-j-test.same ≡ stands c.args.symbols.now (drop c.loop-i.p (row_upto c.args.sound.now.roll.table.code c.args.sound.now.roll.h c.args.sound.now.buf.now))
stood c =
    let roll = c.args.sound.now.roll in
    let row = row_upto roll.table.code roll.h c.args.sound.now.buf.now in
    let symbols = c.args.symbols.now in
    let kept = held roll c.args.sound.now.buf.now c.args.sound.now.sound in
    elim c.loop-j-test.branch [
      | then-loop-j-test+then-p-j w ↦
          w.same-is
          ∙ sym (c.loop-j.invariant.1 ∙ elim w.then-p-j.branch [
            | then-p-j-via-then-p-j v ↦ past roll.table.code c.args.sound.now.buf.now symbols roll.h c.loop-i.p c.loop-j.j kept w.loop-j-test.true (omega (arith, v.if-p-j.true))
            | then-p-j-via-else-p-j+then-get-symbol v ↦
                differs roll.table.code c.args.sound.now.buf.now symbols roll.h c.loop-i.p c.loop-j.j kept w.loop-j-test.true (omega (arith, v.if-p-j.false, c.loop-j.invariant.0)) v.get.ensures v.if-get-symbol.true
          ])
      | else-loop-j-test w ↦
          let e : c.loop-j.j ≡ length symbols = omega (arith, w.loop-j-test.false, c.loop-j.auto.j-end) in
          let rest = drop (c.loop-i.p + c.loop-j.j) row in
          w.same-is ∙ sym (c.loop-j.invariant.1 ∙ ap (λ (n : ℕ). stands (drop n symbols) rest) e ∙ stands_end symbols rest)
    ]

pub loop-i-preserved : goal.loop-i-preserved
loop-i-preserved c =
    let h = c.loop-i-test.true in
    let s = stood (goal.at.loop-i-preserved c).Joined-same in
    elim c.if-same.branch [
      | then-same w ↦
          rw (w.total-is, w.slice-is)
          (elim w.if-total-slice.branch [
            | then-total-slice v ↦
                rw v.slice-is
                (hit_listed c.args.sound.now.sound c.loop-i.invariant h s c.end_at-p.ensures w.if-same.true (omega (arith, v.if-total-slice.true, c.loop-i.auto.slice)))
            | else-total-slice v ↦
                rw v.slice-is
                (hit_full c.args.sound.now.sound c.loop-i.invariant h s c.end_at-p.ensures w.if-same.true (omega (arith, v.if-total-slice.false, c.loop-i.auto.slice)))
          ])
      | else-same w ↦
          rw (w.total-is, w.slice-is) (missed c.args.sound.now.sound c.loop-i.invariant h s c.end_at-p.ensures w.if-same.false)
    ]

pub returns-clause-total : goal.returns-clause-total
returns-clause-total c =
    let e : c.loop-i.i ≡ c.args.sound.now.roll.n = omega arith in
    c.loop-i.invariant.count ∙ ap length (all c.args.sound.now.sound c.loop-i.invariant e)

pub returns-clause-list : goal.returns-clause-list
returns-clause-list c =
    let e : c.loop-i.i ≡ c.args.sound.now.roll.n = omega arith in
    c.loop-i.invariant.list ∙ ap (λ (xs : List ℕ). listed xs c.args.slice.now) (all c.args.sound.now.sound c.loop-i.invariant e)
