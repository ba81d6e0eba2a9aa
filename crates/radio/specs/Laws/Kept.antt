-- Start makes searchers within their bounds, and feeding keeps them there.
use Rattle.std.specs.Prelude.{◌≡◌, ◌⊎◌, Bool, true, false, ◌||◌, T, leb, eqb}
use Rattle.std.proofs.Math.Path.{refl, ap}
use Rattle.std.proofs.Common.{sym, ◌∙◌, lt_of_not-le, pow_pos}
use Rattle.std.proofs.Math.Logic.{inl, inr, ⊎_elim}
use mathlib.Core.List.{List, [], ◌∷◌}
use Prim.Native.Nat.{ℕ, ◌+◌, ◌-◌, ◌*◌, ◌%◌, ◌≤◌}
use Rattle.std.proofs.Math.Nat.{zero-mod, add-mul, add-mul-mod_self_right, mul-le-mul_right}
use Rattle.std.proofs.Math.Decide.{ℕ_discrete, dec_le}
use native.Mathlib.Omega.{arith}
use borrow.Author.Tests.{lt-ltb, le-leb, eq-eqb, ltb-false, eqb-true, not-false}
use Rattle.std.proofs.Math.ListN.{length}
use Rattle.ground.specs.Paper.Refusals.{accepted}
use Rattle.ground.specs.Laws.Refusals.{accepted_none, accepted_parts}
use Rattle.ground.specs.Laws.Rows.{take_padded}
use Rattle.ground.specs.Laws.Tests.{by_value, yes_true, true_yes}
use Rattle.stopper.specs.Paper.Table.{good_code, good_table}
use Rattle.stopper.specs.Helpers.State.{stepped}
use Rattle.stopper.specs.Laws.Table.{table_code, table_few, code_width}
use Rattle.stopper.specs.declared.code.Code.{Code}
use Rattle.stopper.specs.declared.reading.Step.{Step}
use Rattle.stopper.specs.declared.reading.Step.TheVariants.{Rank, Bad, Open}
use Rattle.symbols.specs.Paper.Symbols.{per, bytes_for, symbols_of}
use Rattle.symbols.specs.Laws.Sizes.{bytes_for_enough, bytes_for_least, bytes_for_one}
use Rattle.symbols.specs.Laws.Rows.{symbols_length}
use Rattle.texts.specs.Paper.Hits.{good_pattern}
use Rattle.texts.specs.Laws.Patterns.{pattern_most}
use Rattle.sound.specs.declared.records.Roll.{Roll}
use Rattle.judge.specs.Paper.Judge.{flag, reader_of, heard_as, stained_by, hears, hears_all, judge_for, judge_bounds, judge_after}
use Rattle.radio.specs.Paper.Matching.{whole_bit}
use Rattle.radio.specs.Paper.Operations.{start_rows, start_says, searcher_for, pattern_in, code_in, in_bounds, kept_says, feed_rows, feed_reads, characters_heard, searcher_after}
use Rattle.judge.specs.Helpers.Steady.{Steady}
use Rattle.radio.specs.Helpers.Following.{Ready}
use Rattle.judge.specs.Laws.Judge.{by_hears, hears_symbol, bad_all, all_steady}
use Rattle.radio.specs.Laws.Matching.{all_low, all_count}
use Rattle.judge.specs.Laws.Reading.{begun, unused}
use Rattle.radio.specs.Laws.Joined.{after_count}
use Rattle.radio.specs.Laws.Operations.{kept_accepted, kept_stained, kept_whole, kept_ready}
use Rattle.judge.specs.declared.records.Progress.{Progress}
use Rattle.judge.specs.declared.records.Judge.{Judge}
use Rattle.radio.specs.declared.records.Searcher.{Searcher}

-- ---- the marks are 0 or 1

pub record Marks (p : Progress) : Type 0 where
  pub past : p.past ≤ 1
  pub bad : p.bad ≤ 1
  pub stained : p.stained ≤ 1

flag_few : (b : Bool) → flag b ≤ 1
flag_few true = omega arith
flag_few false = omega arith

module _ (c : Code) (σ h : ℕ) where
  hears_marks : (p : Progress) (y : ℕ) → Marks p → Marks (hears c σ h p y)
  unfolding stained_by heard_as
  hears_marks p y m =
      by_hears c σ h Marks p y (λ _. m)
      (λ _ _. by_value (eqb y 0) (λ e. rw e m) (λ e. rw e (record { past = m.past; bad = m.bad; stained = omega arith })))
      (λ _ _. go (stepped c σ (reader_of p) y))
    where
      go : (s : Step) → Marks (heard_as h p s)
      go (Rank r) = record { past = omega arith; bad = omega arith; stained = m.stained }
      go Bad = record { past = omega arith; bad = omega arith; stained = m.stained }
      go (Open r) = record { past = flag_few r.past; bad = flag_few (leb h (p.read + 1)); stained = m.stained }

  all_marks : (p : Progress) (w : List ℕ) → Marks p → Marks (hears_all c σ h p w)
  unfolding hears_all
  all_marks p [] m = m
  all_marks p (y ∷ w) m = all_marks (hears c σ h p y) w (hears_marks p y m)

  -- ---- how far the roll is read: by all symbols, or to symbol h

  heard_read : (p : Progress) (s : Step) → (heard_as h p s).read ≡ p.read + 1
  unfolding heard_as
  heard_read p (Rank r) = refl
  heard_read p Bad = refl
  heard_read p (Open r) = refl

  read_all : T (good_code c) → (p : Progress) (w : List ℕ) → p.read ≤ h → (hears_all c σ h p w).bad ≡ 0
      → (((hears_all c σ h p w).read ≡ h) × (h ≤ p.read + length w)) ⊎ ((hears_all c σ h p w).read ≡ p.read + length w)
  unfolding hears_all
  read_all g p [] l b = inr (omega arith)
  read_all g p (y ∷ w) l b =
      elim (ℕ_discrete p.bad 0) [
        | yes e ↦
            elim (dec_le h p.read) [
              | yes k ↦ inl ((unused c g σ h (y ∷ w) p e k).read ∙ omega arith, omega arith)
              | no k ↦
                  let one : (hears c σ h p y).read ≡ p.read + 1 = ap (λ (q : Progress). q.read) (hears_symbol c σ h p y e (lt_of_not-le k)) ∙ heard_read p (stepped c σ (reader_of p) y) in
                  ⊎_elim (λ z. inl (z.0, omega (arith, one, z.1))) (λ z. inr (omega (arith, one, z))) (read_all g (hears c σ h p y) w (omega arith) b)
            ]
        | no e ↦ absurd (e (ap (λ (q : Progress). q.bad) (sym (bad_all c σ h p (y ∷ w) e)) ∙ b))
      ]

-- ---- a judge within its bounds

bounds_made : (j : Judge) → Marks j.progress → Steady j.roll.h j.progress
    → (eqb j.progress.bad 1 || eqb j.progress.read j.roll.h || eqb (j.progress.read % per j.roll.table.code.k) 0) ≡ true → judge_bounds j ≡ true
unfolding judge_bounds
bounds_made j m z whole =
    rw (
      le-leb _ _ m.past,
      le-leb _ _ z.small.place,
      le-leb _ _ z.small.shorter,
      le-leb _ _ z.small.rows,
      le-leb _ _ z.small.value,
      le-leb _ _ m.bad,
      le-leb _ _ m.stained,
      le-leb _ _ z.count,
      le-leb _ _ z.first,
      le-leb _ _ z.read,
    ) whole

or_second : (a b c : Bool) → b ≡ true → (a || b || c) ≡ true
or_second true b c e = refl
or_second false b c e = rw e

or_third : (a b c : Bool) → c ≡ true → (a || b || c) ≡ true
or_third true b c e = refl
or_third false true c e = refl
or_third false false c e = e

-- ---- start

pub start_kept : (r : Roll) (pattern : List ℕ) → start_says r pattern ≡ accepted tt → kept_says (searcher_for r pattern) ≡ accepted tt
unfolding start_says in_bounds
start_kept r pattern e =
    let (t, (l, (p, z))) = accepted_none (start_rows r pattern) tt e in
    let good : good_pattern pattern ≡ true = not-false (good_pattern pattern) p in
    let marks : Marks begun = record { past = omega arith; bad = omega arith; stained = omega arith } in
    let steady : Steady r.h begun
    = record { small = record { place = omega arith; shorter = omega arith; rows = omega arith; value = omega arith }; count = omega arith; first = omega arith; read = omega arith } in
    let whole = or_third (eqb 0 1) (eqb 0 r.h) (eqb (0 % per r.table.code.k) 0) (eq-eqb _ _ (zero-mod (per r.table.code.k))) in
    kept_accepted (searcher_for r pattern) (not-false (good_table r.table) t) (ltb-false _ _ l) (rw (take_padded, good, le-leb _ _ (pattern_most pattern (true_yes (good_pattern pattern) good))))
    (rw (bounds_made (judge_for r) marks steady whole, take_padded, lt-ltb 0 (whole_bit pattern) (pow_pos (length pattern - 1))))

-- ---- feeding

module _ (s : Searcher) (piece slice : List ℕ) (e : feed_reads s piece slice ≡ accepted tt) where
  abbrev p : Progress
  p = s.judge.progress

  abbrev σ : ℕ
  σ = s.judge.roll.table.sigma

  abbrev h : ℕ
  h = s.judge.roll.h

  abbrev k : ℕ
  k = (code_in s).k

  abbrev row : List ℕ
  row = symbols_of k piece

  abbrev q : Progress
  q = hears_all (code_in s) σ h p row

  kept : kept_says s ≡ accepted tt
  unfolding feed_reads
  kept = (accepted_parts (kept_says s) e).0

  rows : (p.bad ≡ 0) × (bytes_for k p.read + length piece ≤ bytes_for k h)
  unfolding feed_reads
  rows =
      let (a, (b, z)) = accepted_none (feed_rows s piece slice) tt (accepted_parts (kept_says s) e).1 in
      (eqb-true _ _ (not-false (eqb p.bad 0) a), ltb-false _ _ b)

  ready : Ready s
  ready = kept_ready s kept rows.0

  good : T (good_code (code_in s))
  good = table_code s.judge.roll.table ready.table

  steady : Steady h q
  steady = all_steady (code_in s) σ h good (table_few s.judge.roll.table ready.table) p row ready.steady

  marks : Marks q
  marks = all_marks (code_in s) σ h p row (record { past = ready.past; bad = omega (arith, rows.0); stained = kept_stained s kept })

  -- how far the roll was read, and how far it is
  before : (p.read ≡ h) ⊎ (p.read % per k ≡ 0)
  before =
      by_value (eqb p.read h) (λ a. inl (eqb-true _ _ a))
      (λ a. inr (eqb-true _ _ (yes_true _ (rw (rows.0, a) at (kept_whole s kept)))))

  how_far : q.bad ≡ 0 → ((q.read ≡ h) × (h ≤ p.read + length row)) ⊎ (q.read ≡ p.read + length row)
  how_far = read_all (code_in s) σ h good p row ready.steady.read

  whole : (eqb q.bad 1 || eqb q.read h || eqb (q.read % per k) 0) ≡ true
  whole =
      elim (ℕ_discrete q.bad 0) [
        | yes b ↦ ⊎_elim (λ z. at_end z.0) (λ z. ⊎_elim (λ l. at_end (omega (arith, steady.read, z, l))) (λ l. at_byte (bytes z ∙ l)) before) (how_far b)
        | no b ↦ let one : q.bad ≡ 1 = omega (arith, marks.bad) in rw (eq-eqb q.bad 1 one)
      ]
    where
      at_end : q.read ≡ h → (eqb q.bad 1 || eqb q.read h || eqb (q.read % per k) 0) ≡ true
      at_end l = or_second (eqb q.bad 1) (eqb q.read h) (eqb (q.read % per k) 0) (eq-eqb _ _ l)

      bytes : q.read ≡ p.read + length row → q.read % per k ≡ p.read % per k
      bytes z = ap (λ (n : ℕ). n % per k) (z ∙ ap (λ (n : ℕ). p.read + n) (symbols_length k piece)) ∙ add-mul-mod_self_right p.read (length piece) (per k)

      at_byte : q.read % per k ≡ 0 → (eqb q.bad 1 || eqb q.read h || eqb (q.read % per k) 0) ≡ true
      at_byte l = or_third (eqb q.bad 1) (eqb q.read h) (eqb (q.read % per k) 0) (eq-eqb _ _ l)

  pub kept_after : kept_says (searcher_after s piece) ≡ accepted tt
  unfolding searcher_after judge_after in_bounds
  kept_after =
      kept_accepted (searcher_after s piece) (yes_true (good_table s.judge.roll.table) ready.table) ready.limited
      (rw (le-leb _ _ ready.long, yes_true (good_pattern (pattern_in s)) ready.pattern))
      (rw (
        bounds_made (judge_after s.judge piece) marks steady whole,
        lt-ltb _ _ (all_low (pattern_in s) s.ends (characters_heard s piece) ready.ends),
        lt-ltb _ _ (rw (← after_count s piece) at (all_count (pattern_in s) s.ends p.count (characters_heard s piece) ready.ended)),
      ))

  -- the bytes that came
  pub bytes_after_lem : (searcher_after s piece).judge.progress.bad ≡ 0 → bytes_for k (searcher_after s piece).judge.progress.read ≡ bytes_for k p.read + length piece
  unfolding searcher_after judge_after
  bytes_after_lem b =
      let w = code_width (code_in s) good in
      let m : ℕ = bytes_for k p.read in
      let t : ℕ = bytes_for k h in
      let both : (m + length piece) * per k ≡ m * per k + length row = add-mul m (length piece) (per k) ∙ ap (λ (n : ℕ). m * per k + n) (sym (symbols_length k piece)) in
      let low = bytes_for_enough w p.read in
      let high = bytes_for_least w p.read in
      let most : (m + length piece) * per k ≤ t * per k = mul-le-mul_right (per k) rows.1 in
      bytes_for_one w q.read (m + length piece)
      (⊎_elim (λ z. omega (arith, z.0, z.1)) (λ z. omega (arith, z)) (how_far b))
      (⊎_elim (λ z. omega (arith, z.0, bytes_for_least w h)) (λ z. omega (arith, z)) (how_far b))
