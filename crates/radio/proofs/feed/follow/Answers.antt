-- `radio::feed::follow` meets its contract.
use Rattle.std.proofs.Common.{◌≡◌, List, [], ℕ, ◌+◌, ◌-◌, ◌*◌, ◌%◌, ◌^◌, ◌≤◌, ◌<◌, min, cond, Some, length, take, drop, refl, sym, ◌∙◌, ⊎_elim, rules, arith, one-mul, shl_exact, length-take-le}
use Rattle.std.proofs.Math.Decide.{dec_lt}
use Rattle.ground.specs.Paper.Rows.{zeros}
use Rattle.ground.specs.Laws.Limit.{limit_fits}
use Rattle.ground.specs.Laws.Runs.{run_length}
use Rattle.stopper.specs.Laws.Table.{table_code, table_few}
use Rattle.stopper.specs.declared.code.Code.{Code}
use Rattle.stopper.specs.declared.reading.Reader.{Reader}
use Rattle.texts.specs.Laws.Patterns.{pattern_least, pattern_most}
use Rattle.judge.specs.Paper.Judge.{progress, ranks_heard}
use Rattle.judge.specs.Laws.Judge.{past_silent, full_silent}
use Rattle.judge.specs.declared.records.Progress.{Progress}
use Rattle.stretches.specs.Helpers.Codewords.{bad_at, Reads, ReadStretch}
use Rattle.stretches.specs.declared.codewords.Stretch.{Stretch}
use Rattle.radio.specs.Paper.Operations.{code_in, pattern_in}
use Rattle.radio.specs.Paper.Matching.{whole_bit}
use Rattle.radio.specs.Helpers.Naming.{Names, NamedIn}
use Rattle.radio.specs.Helpers.Following.{row, Follows, Along}
use Rattle.radio.specs.Laws.Following.{progress_is, along_start, hits_few, along_on, along_silent, characters_length, went_none, along_went, silent_piece, silent_roll}
use Rattle.radio.specs.declared.records.Searcher.{Searcher}
use Rattle.radio.specs.declared.matching.Named.{Named}
use Rattle.radio.proofs.feed.follow.Goals as goal
use Rattle.radio.proofs.feed.follow.Goals.{then-on, else-on, then-p-ne0-via-then-p-ne0, then-p-ne0-via-else-p-ne0+then-left-eq0, else-loop-i-test, then-loop-i-test+in_default}

module _ (s : Searcher) (piece : List ℕ) {all : ℕ} (slice : List ℕ) (f : Follows s piece all slice) where
  abbrev code : Code
  code = code_in s

  abbrev σ : ℕ
  σ = s.judge.roll.table.sigma

  abbrev places : List ℕ
  places = s.judge.roll.table.places

  abbrev h : ℕ
  h = s.judge.roll.h

  abbrev p : Progress
  p = s.judge.progress

  h_fits : h < 2 ^ 32
  h_fits = omega (arith, f.ready.limited, limit_fits)

  -- the pattern
  pattern_some : 0 < length (pattern_in s)
  pattern_some = pattern_least (pattern_in s) f.ready.pattern

  whole_is : (1 * 2 ^ (length (pattern_in s) - 1)) % 2 ^ 64 ≡ whole_bit (pattern_in s)
  whole_is =
      let n : ℕ = length (pattern_in s) - 1 in
      shl_exact 1 n 64 (omega arith) (omega (arith, pattern_most (pattern_in s) f.ready.pattern)) ∙ one-mul (2 ^ n)

  pattern_long : length s.pattern ≡ 64 → s.length ≡ length (pattern_in s)
  pattern_long long = sym (length-take-le s.length s.pattern (omega (arith, f.ready.long)))

  -- symbols up to the last of the roll, or of the piece
  module _ {upto : ℕ} (u : upto ≡ min (h - p.read) all) where
    upto_roll : p.read + upto ≤ h
    upto_roll = omega (arith, f.ready.steady.read)

    upto_piece : upto ≤ length (row s piece)
    upto_piece = omega (arith, f.symbols)

    -- behind the last of them
    at_end : {i : ℕ} → upto ≤ i → {after : List ℕ} {ends : ℕ} {r : Reader} {count first hits : ℕ}
        → Along code σ places h p (pattern_in s) s.ends (row s piece) slice after ends r count first hits i
        → ranks_heard code σ h (progress (p.read + i) count first r (bad_at h (p.read + i) first) p.stained) (drop i (row s piece)) ≡ []
    at_end {i} over z =
        elim (dec_lt (p.read + i) h) [
          | yes q ↦ silent_piece s piece slice z (omega (arith, f.symbols))
          | no q ↦ silent_roll s piece slice z (omega (arith, q))
        ]

    -- a turn
    module _ {i : ℕ} (here : i < upto) {after : List ℕ} {ends : ℕ} {r : Reader} {count first hits : ℕ}
        (z : Along code σ places h p (pattern_in s) s.ends (row s piece) slice after ends r count first hits i) where
      in_roll : p.read + i < h
      in_roll = omega (arith, upto_roll)

      reads : {text : List ℕ} → length text ≡ 256 → Reads code.k r piece i upto text
      reads long =
          record {
            small = z.small;
            order = here;
            inside = upto_piece;
            fits = omega (arith, upto_roll, h_fits);
            long = long;
          }

      -- the stretch stays in the roll and in the piece, and has no more characters than symbols
      module _ {on : Stretch} {text : List ℕ} (x : ReadStretch code σ places r piece i upto (Some on) text) where
        on_few : i + on.characters ≤ on.to
        on_few =
            let run = run_length (row s piece) i on.to (omega (arith, x.on)) (omega (arith, x.within, upto_piece)) in
            omega (arith, x.through.few, characters_length text on.characters x.long x.few, run)

        on_roll : p.read + on.to ≤ h
        on_roll = omega (arith, x.within, upto_roll)

        on_slice : on.to ≤ length slice
        on_slice = omega (arith, x.within, upto_piece, f.symbols, f.room)

        count_fits : count + on.characters < 2 ^ 32
        count_fits = omega (arith, z.counted, z.started, on_few, on_roll, h_fits)

        names : {whole : ℕ} → whole ≡ whole_bit (pattern_in s) → length after ≡ length slice → Names whole (take on.characters text) count (record { ends = ends; hits = hits }) after
        names bit same =
            let few = characters_length text on.characters x.long x.few in
            record {
              low = rw bit z.low;
              ended = z.ended;
              fits = omega (arith, few, count_fits);
              room = omega (arith, few, hits_few code σ places h p (pattern_in s) s.ends _ _ z, on_few, on_slice, same);
            }

      next : {on : Stretch} {text : List ℕ} → ReadStretch code σ places r piece i upto (Some on) text → {named : Named} {after' : List ℕ}
          → NamedIn (pattern_in s) (take on.characters text) count ends after hits named after' → {first' : ℕ} → first' ≡ cond on.ended (p.read + on.to) first
          → Along code σ places h p (pattern_in s) s.ends (row s piece) slice after' named.ends on.reader (count + on.characters) first' named.hits on.to
      next {on} {text} x named e =
          rw (e, ← characters_length text on.characters x.long x.few)
          (along_on code σ places h p (pattern_in s) s.ends (row s piece) slice z in_roll (omega (arith, x.on)) (on_roll x) (omega (arith, x.within, upto_piece)) (on_slice x) x.through named)

pub returns-then-p-ne0 : goal.returns-then-p-ne0
returns-then-p-ne0 c =
    let s = c.args.searcher in
    let p = s.judge.progress in
    let w : List ℕ = row s c.args.piece.now in
    rw c.nowhere.ensures
    (went_none s c.args.piece.now c.args.slice.now
    (⊎_elim
    (λ e. past_silent (code_in s) _ _ p w (omega (arith, c.requires.ready.past)))
    (λ e. full_silent (code_in s) _ _ p w (omega arith))
    c.then-p-ne0.either))

pub invariant_of-alphabet : goal.invariant_of-alphabet
invariant_of-alphabet c =
    record { good = table_code _ c.requires.ready.table }

pub invariant_of-alphabet-2 : goal.invariant_of-alphabet-2
invariant_of-alphabet-2 c = record { few = table_few _ c.requires.ready.table }

pub slice_bounds-pattern-end : goal.slice_bounds-pattern-end
slice_bounds-pattern-end c = pattern_long _ _ _ c.requires (search rules)

pub mark_places-requires : goal.mark_places-requires
unfolding zeros
mark_places-requires c = (pattern_most _ c.requires.ready.pattern, refl)

pub overflow_sub-good : goal.overflow_sub-good
overflow_sub-good c = omega (arith, pattern_some _ _ _ c.requires)

pub invariant_of-good : goal.invariant_of-good
invariant_of-good c =
    record { some = pattern_some _ _ _ c.requires; most = pattern_most _ c.requires.ready.pattern; places = c.mark_places.ensures; bit = whole_is _ _ _ c.requires }

pub loop-i-init : goal.loop-i-init
loop-i-init c =
    let s = c.args.searcher in
    let y = c.requires.ready in (
      omega arith,
      refl,
      rw c.reader_of-r.ensures
          (along_start (code_in s) _ s.judge.roll.table.places s.judge.roll.h s.judge.progress (pattern_in s) s.ends (row s c.args.piece.now) c.args.slice.now y.steady.small c.if-p-ne0.false y.going
          y.steady.count y.steady.first (omega arith) y.ends y.ended),
    )

pub read_stretch-requires : goal.read_stretch-requires
read_stretch-requires c = reads _ _ _ c.requires c.min-upto.ensures c.loop-i-test.true c.loop-i.invariant.2 c.loop-i.invariant.1

pub slice_bounds-name_hits-end : goal.slice_bounds-name_hits-end
slice_bounds-name_hits-end c = sym (characters_length c.read_stretch.new.text c.in-Some.on.characters c.in-Some.ensures.long c.in-Some.ensures.few)

pub name_hits-named-requires : goal.name_hits-named-requires
name_hits-named-requires c = names _ _ _ c.requires c.min-upto.ensures c.loop-i-test.true c.loop-i.invariant.2 c.in-Some.ensures (whole_is _ _ _ c.requires) c.loop-i.auto.slice

pub overflow_add-count : goal.overflow_add-count
overflow_add-count c = omega (arith, count_fits _ _ _ c.requires c.min-upto.ensures c.loop-i-test.true c.loop-i.invariant.2 c.in-Some.ensures)

pub loop-i-preserved : goal.loop-i-preserved
loop-i-preserved c =
    let s = c.args.searcher in
    let x = c.in-Some.ensures in
    let start : c.if-on.first ≡ cond c.in-Some.on.ended (s.judge.progress.read + c.in-Some.on.to) c.loop-i.first
    = elim c.if-on.branch [ then-on w ↦ rw w.if-on.true w.first-is | else-on w ↦ rw w.if-on.false w.first-is ] in
    (x.within, x.long, next _ _ _ c.requires c.min-upto.ensures c.loop-i-test.true c.loop-i.invariant.2 x c.name_hits-named.ensures start)

pub returns : goal.returns
returns c =
    let s = c.args.searcher in
    let z = c.loop-i.invariant.2 in
    let a = c.args in
    let none : ranks_heard (code_in s) s.judge.roll.table.sigma s.judge.roll.h
    (progress (s.judge.progress.read + c.loop-i.i) c.loop-i.count c.loop-i.first c.loop-i.r (bad_at s.judge.roll.h (s.judge.progress.read + c.loop-i.i) c.loop-i.first) s.judge.progress.stained)
    (drop c.loop-i.i (row s a.piece.now)) ≡ []
    = elim c.loop-i-test.branch [
      | else-loop-i-test w ↦ at_end _ _ _ c.requires c.min-upto.ensures w.loop-i-test.false z
      | then-loop-i-test+in_default w ↦
          let x = w.in_default.ensures in
          along_silent (code_in s) _ s.judge.roll.table.places s.judge.roll.h s.judge.progress (pattern_in s) s.ends (row s a.piece.now) a.slice.now z
          (in_roll _ _ _ c.requires c.min-upto.ensures w.loop-i-test.true z) x.silent
    ] in
    along_went s a.piece.now a.slice.now z none
    (progress_is (s.judge.progress.read + c.loop-i.i) c.loop-i.count c.loop-i.first c.loop-i.r s.judge.progress.stained z.going (search (rules, c.from.ensures)))
