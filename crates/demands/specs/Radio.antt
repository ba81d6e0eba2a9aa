-- A roll that comes in pieces, by the operations alone: any cutting gives the same, the hits are those of the text read so far, and finishing says what check says.
use Rattle.std.proofs.Math.Path.{◌≡◌, sym, ap, ap₂}
use Rattle.std.specs.Prelude.{refl, ◌≢◌, ◌⊎◌, ◌↔◌, true, false, not, T, ltb, eqb, replicate, Result, Ok, Err}
use Rattle.std.proofs.Common.{subst, ◌∙◌, lt_of_not-le, arith, length-append}
use Rattle.std.proofs.Math.Logic.{inl, inr, ⊎_elim}
use mathlib.Core.List.{List, [], ◌∷◌, ◌++◌, flatten}
use Prim.Native.Nat.{ℕ, suc, ◌+◌, ◌*◌, ◌≤◌, ◌<◌}
use Rattle.std.proofs.Math.Decide.{ℕ_discrete, dec_le}
use borrow.Author.Tests.{lt-ltb, eq-eqb, ne_eqb, ltb-false, eqb-true, not-false}
use Rattle.std.proofs.Math.ListN.{length, take, drop}
use Rattle.std.proofs.Math.Seq.{take_at}
use Rattle.ground.specs.Paper.Limit.{limit}
use Rattle.ground.specs.Paper.Refusals.{accepted, refused, judged}
use Rattle.ground.specs.Paper.Answers.{number_of, value_of, outcome_of}
use Rattle.ground.specs.Laws.Answers.{says_as, says_one, accepted_ok, ok_accepted, err_refused}
use Rattle.ground.specs.Laws.Refusals.{refused_keeps, accepted_leaves, accepted_none, accepted_parts, Refuses, refused_row, refused_parts}
use Rattle.ground.specs.Laws.Tests.{neither, yes_true, true_yes}
use Rattle.ground.specs.declared.refusal.Refusal.{Refusal}
use Rattle.ground.specs.declared.refusal.Refusal.TheVariants.{BadSymbolCount, BadCodeword, BadPattern, ShortHits}
use Rattle.stopper.specs.Paper.Table.{good_code, good_table}
use Rattle.stopper.specs.Laws.Characters.{◌∈◌}
use Rattle.stopper.specs.Laws.Table.{table_code, code_width}
use Rattle.symbols.specs.Paper.Symbols.{per, bytes_for, room, symbols_of}
use Rattle.symbols.specs.Laws.Sizes.{bytes_for_enough, bytes_for_within, bytes_for_mono, room_full, room_all, room_bytes}
use Rattle.symbols.specs.Laws.Rows.{symbols_length}
use Rattle.texts.specs.Paper.Hits.{hits, good_pattern, listed}
use Rattle.texts.specs.Laws.Patterns.{pattern_newline, pattern_least, pattern_most, pattern_line, pattern_good}
use Rattle.texts.specs.Laws.Hits.{Front, stands_front, front_stands, Rising, hit_is, hits_rising}
use Rattle.reading.specs.Paper.Reading.{is_bad, first_bad}
use Rattle.sound.specs.Paper.Roll.{reading, text_of, Sound}
use Rattle.sound.specs.declared.records.Roll.{Roll}
use Rattle.judge.specs.Paper.Judge.{judge_for, judge_after, verdict_rows, verdict_says}
use Rattle.radio.specs.Paper.Operations.{start_rows, start_says, searcher_for, start_searcher, Starting, code_in, kept_rows, kept_says, feed_rows, feed_reads, searcher_after, hits_named, bad_rows, feed_says, feed_hits, Feeding, finish_says, Finishing}
use Rattle.judge.specs.Laws.Reading.{first_one}
use Rattle.judge.specs.Laws.Judged.{judge_roll, judge_bad, judge_part, judge_whole, verdict_is}
use Rattle.radio.specs.Laws.Joined.{after_roll, after_none, hits_none, after_bad, hits_bad, after_append, hits_append, hits_so_far}
use Rattle.radio.specs.Laws.Operations.{start_11, start_accepted, kept_table, kept_limited, kept_judge, feed_6, feed_5, feed_14, feed_accepted}
use Rattle.radio.specs.Laws.Kept.{start_kept, kept_after, bytes_after_lem}
use Rattle.judge.specs.declared.records.Progress.{Progress}
use Rattle.judge.specs.declared.records.Judge.{Judge}
use Rattle.radio.specs.declared.records.Searcher.{Searcher}
use Rattle.radio.specs.declared.feed.Fed.{Fed}
use Rattle.roll.specs.Paper.Operations.{fit_rows, fit_says, check_rows, check_says, Checking, Searching}
use Rattle.roll.specs.Laws.Accepting.{fits_is, accepted_sound, searches_is}
use Rattle.demands.specs.Orders.{DecidedBy, decided, decided_then, then_refuses}

-- a searcher that no refusal of start's and no bound stops: start makes such, and feeding keeps them so
abbrev pub Within : Searcher → Type 0
Within s = kept_says s ≡ accepted tt

-- a call that read its piece, or answered 6
abbrev pub Took : Fed → Type 0
Took r = (r.answer ≡ Ok tt) ⊎ ((v : ℕ) × (r.answer ≡ Err (BadCodeword v)))

-- pieces fed one after the other, none refused 5 or 14: the hits written, and the searcher then
pub data FedAll : Searcher → List (List ℕ) → List ℕ → Searcher → Type 0 where
  none : {s : Searcher} → FedAll s [] [] s
  more : {s s' : Searcher} {piece slice after hits : List ℕ} {r : Fed} {pieces : List (List ℕ)} → Feeding s piece slice r after → Took r → FedAll r.searcher pieces hits s'
      → FedAll s (piece ∷ pieces) (take r.hits after ++ hits) s'

-- ---- one call

pub record One (s : Searcher) (piece : List ℕ) (r : Fed) (after : List ℕ) : Type 0 where
  pub within : Within r.searcher
  pub searcher : r.searcher ≡ searcher_after s piece
  pub hits : take r.hits after ≡ hits_named s piece
  pub says : outcome_of r.answer ≡ judged (bad_rows r.searcher) tt
  pub bytes : r.searcher.judge.progress.bad ≡ 0
      → bytes_for (code_in s).k r.searcher.judge.progress.read ≡ bytes_for (code_in s).k s.judge.progress.read + length piece

module _ {s : Searcher} {piece slice after : List ℕ} {r : Fed} (w : Within s) (p : Feeding s piece slice r after) where
  abbrev wide : ℕ
  wide = (code_in s).k

  -- a codeword was bad before, 5, 14, or the piece is read
  by_reads {ℓ} : {X : Type ℓ} → (s.judge.progress.bad ≢ 0 → feed_reads s piece slice ≡ refused 6 s.judge.progress.first → X)
      → (feed_reads s piece slice ≡ refused 5 s.judge.roll.h → X) → (feed_reads s piece slice ≡ refused 14 (length piece * per wide) → X) → (feed_reads s piece slice ≡ accepted tt → X) → X
  by_reads six five fourteen reads =
      elim (ℕ_discrete s.judge.progress.bad 0) [
        | yes b ↦
            elim (dec_le (bytes_for wide s.judge.progress.read + length piece) (bytes_for wide s.judge.roll.h)) [
              | yes l ↦
                  elim (dec_le (length piece * per wide) (length slice)) [
                    | yes m ↦ reads (feed_accepted s piece slice w b l m)
                    | no m ↦ fourteen (feed_14 s piece slice w b l (lt_of_not-le m))
                  ]
              | no l ↦ five (feed_5 s piece slice w b (lt_of_not-le l))
            ]
        | no b ↦ six b (feed_6 s piece slice w b)
      ]

  -- whatever it answers, the searcher stays within its bounds
  pub feed_within : Within r.searcher
  feed_within =
      by_reads (λ _ e. stays e) stays stays (λ e. rw (p.searcher ∙ accepted_leaves e _ _) (kept_after s piece slice e))
    where
      stays : {n v : ℕ} → feed_reads s piece slice ≡ refused n v → Within r.searcher
      stays e = rw (p.searcher ∙ refused_keeps e _ _) w

  -- so it answers Ok, 6, 5 or 14
  pub feed_answers : Took r ⊎ ((r.answer ≡ Err (BadSymbolCount s.judge.roll.h)) ⊎ (r.answer ≡ Err (ShortHits (length piece * per wide))))
  unfolding feed_says
  feed_answers =
      by_reads (λ _ e. inl (inr (_, says (BadCodeword _) e))) (λ e. inr (inl (says (BadSymbolCount _) e))) (λ e. inr (inr (says (ShortHits _) e))) (λ e. inl (read e))
    where
      says : (q : Refusal) → feed_reads s piece slice ≡ refused (number_of q) (value_of q) → r.answer ≡ Err q
      says q e = says_one r.answer (Err q) (p.says ∙ rw e)

      read : feed_reads s piece slice ≡ accepted tt → Took r
      read e =
          elim (ℕ_discrete (searcher_after s piece).judge.progress.bad 0) [
            | yes b ↦ inl (says_one r.answer (Ok tt) (p.says ∙ rw (e, eq-eqb _ _ b)))
            | no b ↦ inr (_, says_one r.answer (Err (BadCodeword (searcher_after s piece).judge.progress.first)) (p.says ∙ rw (e, ne_eqb _ _ b)))
          ]

module _ {s : Searcher} {piece slice after : List ℕ} {r : Fed} (w : Within s) (p : Feeding s piece slice r after) (t : Took r) where
  -- it was not refused another number
  not_took : {n v : ℕ} → n ≢ 6 → feed_reads s piece slice ≡ refused n v → ⊥
  unfolding feed_says
  not_took {n} {v} d e =
      let says : outcome_of r.answer ≡ refused n v = p.says ∙ rw e in
      ⊎_elim
      (λ y. let x = sym says ∙ ap outcome_of y in let z : ◌≡◌ {A = ℕ} 0 1 = cc in omega arith)
      (λ y. let x = sym says ∙ ap outcome_of y.1 in d cc)
      t

  pub fed_one : One s piece r after
  unfolding feed_says
  fed_one =
      by_reads w p
      (λ b e.
      let now : r.searcher ≡ s = p.searcher ∙ refused_keeps e _ _ in
      record {
        within = rw now w;
        searcher = now ∙ sym (after_bad s piece b);
        hits = ap (λ (n : ℕ). take n after) (p.hits ∙ ap length (refused_keeps e [] (hits_named s piece))) ∙ sym (hits_bad s piece b);
        says = p.says ∙ rw (e, now, ne_eqb _ _ b);
        bytes = λ z. absurd (b (rw now at z));
      })
      (λ e. absurd (not_took (λ z. omega arith) e))
      (λ e. absurd (not_took (λ z. omega arith) e))
      (λ e.
      let now : r.searcher ≡ searcher_after s piece = p.searcher ∙ accepted_leaves e _ _ in
      let found : List ℕ = hits_named s piece in
      let number : r.hits ≡ length found = p.hits ∙ ap length (accepted_leaves e [] found) in
      let left : after ≡ found ++ drop (length found) slice = p.leaves ∙ ap (λ (l : List ℕ). l ++ drop (length l) slice) (accepted_leaves e [] found) in
      record {
        within = rw now (kept_after s piece slice e);
        searcher = now;
        hits = ap₂ (λ (n : ℕ) (l : List ℕ). take n l) number left ∙ take_at found (drop (length found) slice) (length found) refl;
        says = p.says ∙ rw (e, now);
        bytes = λ z. rw now (bytes_after_lem s piece slice e (rw now at z));
      })

-- ---- any list of pieces is as all of them joined

pub record Came (s : Searcher) (bytes found : List ℕ) (s' : Searcher) : Type 0 where
  pub within : Within s'
  pub searcher : s' ≡ searcher_after s bytes
  pub hits : found ≡ hits_named s bytes
  pub bytes_in : s'.judge.progress.bad ≡ 0 → bytes_for (code_in s).k s'.judge.progress.read ≡ bytes_for (code_in s).k s.judge.progress.read + length bytes

within_code : (s : Searcher) → Within s → T (good_code (code_in s))
within_code s w = table_code s.judge.roll.table (kept_table s w)

-- a bad codeword stays
bad_came : {s s' : Searcher} {bytes found : List ℕ} → Came s bytes found s' → s.judge.progress.bad ≢ 0 → s' ≡ s
bad_came {s} {s'} {bytes} z b = z.searcher ∙ after_bad s bytes b

good_came : {s s' : Searcher} {bytes found : List ℕ} → Came s bytes found s' → s'.judge.progress.bad ≡ 0 → s.judge.progress.bad ≡ 0
good_came {s} z e =
    elim (ℕ_discrete s.judge.progress.bad 0) [
      | yes b ↦ b
      | no b ↦ absurd (b (ap (λ (x : Searcher). x.judge.progress.bad) (sym (bad_came z b)) ∙ e))
    ]

came_more : {s s' : Searcher} {piece bytes after found : List ℕ} {r : Fed} → Within s → One s piece r after → Came r.searcher bytes found s'
    → Came s (piece ++ bytes) (take r.hits after ++ found) s'
came_more {s} {s'} {piece} {bytes} {after} {found} {r} w o z =
    let g = within_code s w in
    record {
      within = z.within;
      searcher = z.searcher ∙ ap (λ (x : Searcher). searcher_after x bytes) o.searcher ∙ sym (after_append s g piece bytes);
      hits = ap₂ (λ (a b : List ℕ). a ++ b) o.hits (z.hits ∙ ap (λ (x : Searcher). hits_named x bytes) o.searcher) ∙ sym (hits_append s g piece bytes);
      bytes_in = λ b.
          let same : (code_in r.searcher).k ≡ (code_in s).k = ap (λ (x : Searcher). (code_in x).k) o.searcher ∙ ap (λ (x : Roll). x.table.code.k) (after_roll s piece) in
          omega (arith, length-append piece bytes, rw same at (z.bytes_in b), o.bytes (good_came z b));
    }

pub fed_came : {s s' : Searcher} {pieces : List (List ℕ)} {found : List ℕ} → Within s → FedAll s pieces found s' → Came s (flatten pieces) found s'
unfolding flatten
fed_came {s} w none = record { within = w; searcher = sym (after_none s); hits = sym (hits_none s); bytes_in = λ _. omega arith }
fed_came w (more p t rest) = let o = fed_one w p t in came_more w o (fed_came o.within rest)

pub fed_joined : {s s' : Searcher} {pieces : List (List ℕ)} {found : List ℕ} → Within s → FedAll s pieces found s'
    → (s' ≡ searcher_after s (flatten pieces)) × (found ≡ hits_named s (flatten pieces))
fed_joined w f = let z = fed_came w f in (z.searcher, z.hits)

-- any two cuttings of the same bytes give the same hits and the same searcher
pub cuttings_agree : {s s₁ s₂ : Searcher} {one two : List (List ℕ)} {hits₁ hits₂ : List ℕ} → Within s → FedAll s one hits₁ s₁ → FedAll s two hits₂ s₂ → flatten one ≡ flatten two
    → (hits₁ ≡ hits₂) × (s₁ ≡ s₂)
cuttings_agree {s} w f g e =
    let (a, b) = fed_joined w f in
    let (c, d) = fed_joined w g in
    (b ∙ ap (hits_named s) e ∙ sym d, a ∙ ap (searcher_after s) e ∙ sym c)

-- feeding a piece and then another is feeding them joined, the last answer too
pub feed_two : {s : Searcher} {a b slice₁ slice₂ slice₃ after₁ after₂ after₃ : List ℕ} {r₁ r₂ r₃ : Fed} → Within s
    → Feeding s a slice₁ r₁ after₁ → Took r₁ → Feeding r₁.searcher b slice₂ r₂ after₂ → Took r₂ → Feeding s (a ++ b) slice₃ r₃ after₃ → Took r₃
    → (take r₃.hits after₃ ≡ take r₁.hits after₁ ++ take r₂.hits after₂) × (r₃.searcher ≡ r₂.searcher) × (r₃.answer ≡ r₂.answer)
feed_two {s} {a} {b} {r₁ = r₁} {r₂ = r₂} {r₃ = r₃} w p t q u j v =
    let x = fed_one w p t in
    let y = fed_one x.within q u in
    let z = fed_one w j v in
    let g = within_code s w in
    let same : r₃.searcher ≡ r₂.searcher = z.searcher ∙ after_append s g a b ∙ ap (λ (x : Searcher). searcher_after x b) (sym x.searcher) ∙ sym y.searcher in (
      z.hits ∙ hits_append s g a b ∙ ap₂ (λ (l m : List ℕ). l ++ m) (sym x.hits) (ap (λ (x : Searcher). hits_named x b) (sym x.searcher) ∙ sym y.hits),
      same,
      says_one r₃.answer r₂.answer (z.says ∙ ap (λ (x : Searcher). judged (bad_rows x) tt) same ∙ sym y.says),
    )

-- ---- the answers

-- what each call answered
unfoldable pub answers : {s s' : Searcher} {pieces : List (List ℕ)} {found : List ℕ} → FedAll s pieces found s' → List (Result (Unit {0}) Refusal)
answers none = []
answers (more {r = r} p t rest) = r.answer ∷ answers rest

module _ (r : Fed) (says : outcome_of r.answer ≡ judged (bad_rows r.searcher) tt) where
  says_good : r.searcher.judge.progress.bad ≡ 0 → r.answer ≡ Ok tt
  says_good b = says_one r.answer (Ok tt) (says ∙ rw (eq-eqb _ _ b))

  says_bad : (v : ℕ) → r.searcher.judge.progress.bad ≢ 0 → r.searcher.judge.progress.first ≡ v → r.answer ≡ Err (BadCodeword v)
  says_bad v b e = says_one r.answer (Err (BadCodeword v)) (says ∙ rw (ne_eqb _ _ b, e))

-- no codeword was bad: Ok, each time
pub answers_good : {s s' : Searcher} {pieces : List (List ℕ)} {found : List ℕ} → Within s → (f : FedAll s pieces found s') → s'.judge.progress.bad ≡ 0
    → answers f ≡ replicate (length pieces) (Ok tt)
unfolding answers
answers_good w none b = refl
answers_good w (more {r = r} p t rest) b =
    let o = fed_one w p t in
    ap₂ (λ (a : Result (Unit {0}) Refusal) (l : List (Result (Unit {0}) Refusal)). a ∷ l) (says_good r o.says (good_came (fed_came o.within rest) b)) (answers_good o.within rest b)

-- one was bad before: 6 with its first symbol, each time
pub answers_later : {s s' : Searcher} {pieces : List (List ℕ)} {found : List ℕ} {v : ℕ} → Within s → (f : FedAll s pieces found s') → s.judge.progress.bad ≢ 0
    → s.judge.progress.first ≡ v → answers f ≡ replicate (length pieces) (Err (BadCodeword v))
unfolding answers
answers_later w none b e = refl
answers_later {s} {v = v} w (more {piece = piece} {r = r} p t rest) b e =
    let o = fed_one w p t in
    let now : r.searcher ≡ s = o.searcher ∙ after_bad s piece b in
    let bad : r.searcher.judge.progress.bad ≢ 0 = λ z. b (rw now at z) in
    let first : r.searcher.judge.progress.first ≡ v = ap (λ (x : Searcher). x.judge.progress.first) now ∙ e in
    ap₂ (λ (a : Result (Unit {0}) Refusal) (l : List (Result (Unit {0}) Refusal)). a ∷ l) (says_bad r o.says v bad first) (answers_later o.within rest bad first)

-- one is bad: Ok up to the call that reads it, and 6 with its first symbol from there on
pub answers_bad : {s s' : Searcher} {pieces : List (List ℕ)} {found : List ℕ} → Within s → (f : FedAll s pieces found s') → s.judge.progress.bad ≡ 0 → s'.judge.progress.bad ≢ 0
    → (m n : ℕ) × (answers f ≡ replicate m (Ok tt) ++ replicate (suc n) (Err (BadCodeword s'.judge.progress.first)))
unfolding answers
answers_bad w none b d = absurd (d b)
answers_bad {s' = s'} w (more {r = r} {pieces = pieces} p t rest) b d =
    let o = fed_one w p t in
    elim (ℕ_discrete r.searcher.judge.progress.bad 0) [
      | yes c ↦ let (m, n, e) = answers_bad o.within rest c d in (suc m, n, ap₂ (λ (a : Result (Unit {0}) Refusal) (l : List (Result (Unit {0}) Refusal)). a ∷ l) (says_good r o.says c) e)
      | no c ↦
          let first : r.searcher.judge.progress.first ≡ s'.judge.progress.first = ap (λ (x : Searcher). x.judge.progress.first) (sym (bad_came (fed_came o.within rest) c)) in
          (0, length pieces, ap₂ (λ (a : Result (Unit {0}) Refusal) (l : List (Result (Unit {0}) Refusal)). a ∷ l) (says_bad r o.says _ c first) (answers_later o.within rest c first))
    ]

-- ---- a roll from its first byte on

pub start_within : {r : Roll} {pattern : List ℕ} {s : Searcher} → Starting r pattern (Ok s) → Within s
start_within {r} {pattern} start =
    let (e, made) = ok_accepted (start_searcher r pattern) start.says refl in
    rw (made ∙ accepted_leaves e _ _) (start_kept r pattern e)

started_good : {r : Roll} {pattern : List ℕ} {s : Searcher} → Starting r pattern (Ok s) → T (good_pattern pattern)
unfolding start_says
started_good {r} {pattern} start =
    let (e, made) = ok_accepted (start_searcher r pattern) start.says refl in
    true_yes _ (not-false (good_pattern pattern) (accepted_none (start_rows r pattern) tt e).1.1.0)

-- of a good table and an h within the limit a searcher is made for any pattern of 1 to 64 characters without byte 10
pub start_accepts : {r : Roll} {pattern : List ℕ} {st : Result Searcher Refusal} → T (good_table r.table) → r.h ≤ limit → 1 ≤ length pattern → length pattern ≤ 64
    → (10 ∈ pattern → ⊥) → Starting r pattern st → (s : Searcher) × (st ≡ Ok s)
start_accepts {r} {pattern} {st} t h low high line start =
    (start_searcher r pattern, accepted_ok (start_searcher r pattern) start.says (start_accepted r pattern (yes_true _ t) h (yes_true _ (pattern_good pattern low high line))))

-- with byte 10 it is 11
pub start_newline : {r : Roll} {pattern : List ℕ} {st : Result Searcher Refusal} → T (good_table r.table) → r.h ≤ limit → 10 ∈ pattern → Starting r pattern st
    → st ≡ Err BadPattern
start_newline {r} {pattern} {st} t h m start =
    let e = start_11 r pattern (yes_true _ t) h (pattern_newline pattern m) in
    says_one st (Err BadPattern) (start.says ∙ rw e)

-- no searcher is made for another pattern
pub started_pattern : {r : Roll} {pattern : List ℕ} {s : Searcher} → Starting r pattern (Ok s) → (1 ≤ length pattern) × (length pattern ≤ 64) × (10 ∈ pattern → ⊥)
started_pattern {pattern = pattern} start = let good = started_good start in (pattern_least pattern good, pattern_most pattern good, pattern_line pattern good)

room_holds : (k h n : ℕ) → h ≤ limit → h ≤ n * per k → h ≤ room k n
room_holds k h n l m =
    elim (dec_le limit (n * per k)) [
      | yes a ↦ rw (room_full k n a) l
      | no a ↦ rw (room_all k n (lt_of_not-le a)) m
    ]

module _ {r : Roll} {pattern : List ℕ} {s : Searcher} {pieces : List (List ℕ)} {found : List ℕ} {s' : Searcher} (start : Starting r pattern (Ok s))
    (fed : FedAll s pieces found s') where
  -- the bytes that came
  abbrev bytes : List ℕ
  bytes = flatten pieces

  abbrev k : ℕ
  k = r.table.code.k

  abbrev p : Progress
  p = s'.judge.progress

  begins : start_says r pattern ≡ accepted tt
  begins = (ok_accepted (start_searcher r pattern) start.says refl).0

  made : s ≡ searcher_for r pattern
  made = (ok_accepted (start_searcher r pattern) start.says refl).1 ∙ accepted_leaves begins _ _

  first_within : Within (searcher_for r pattern)
  first_within = start_kept r pattern begins

  came : Came (searcher_for r pattern) bytes found s'
  came = subst (λ (x : Searcher). Came x bytes found s') made (fed_came (start_within start) fed)

  code : T (good_code r.table.code)
  code = within_code (searcher_for r pattern) first_within

  pattern_is_good : T (good_pattern pattern)
  pattern_is_good = started_good start

  judge_is : s'.judge ≡ judge_after (judge_for r) bytes
  unfolding searcher_after
  judge_is = ap (λ (x : Searcher). x.judge) came.searcher

  roll_is : s'.judge.roll.h ≡ r.h
  roll_is = ap (λ (j : Judge). j.roll.h) judge_is ∙ ap (λ (x : Roll). x.h) (judge_roll (judge_for r) bytes)

  -- the bytes that are read, where no codeword was bad
  came_read : p.bad ≡ 0 → (p.read ≤ r.h) × (bytes_for k p.read ≡ length bytes)
  came_read b =
      let start_of : bytes_for k 0 ≤ 0 = bytes_for_within (code_width r.table.code code) 0 0 (omega arith) in
      (rw roll_is at (kept_judge s' came.within).1.read, omega (arith, came.bytes_in b))

  all_in : r.h ≤ room k (length bytes) → p.bad ≡ 0 → length bytes ≡ bytes_for k r.h
  all_in l b =
      let w = code_width r.table.code code in
      let (most, e) = came_read b in
      omega (arith, bytes_for_mono w p.read r.h most, room_bytes w r.h (length bytes) l)

  -- what is bad when it is heard is bad when it is read
  bad_read : p.bad ≢ 0 → (is_bad (reading r bytes) ≡ true) × (p.first ≡ first_bad r.h (reading r bytes))
  bad_read b =
      let (x, e) = judge_bad r code bytes (λ z. b (ap (λ (j : Judge). j.progress.bad) judge_is ∙ z)) in
      (x, ap (λ (j : Judge). j.progress.first) judge_is ∙ e)

  good_read : is_bad (reading r bytes) ≡ false → p.bad ≡ 0
  good_read e =
      elim (ℕ_discrete p.bad 0) [
        | yes b ↦ b
        | no b ↦ let x = (bad_read b).0 in let z : ◌≡◌ {A = ℕ} 0 1 = cc in absurd (omega arith)
      ]

  -- ---- the hits written are the places of the pattern in the text read so far: all of them, in order

  pub text_so_far : found ≡ hits pattern (text_of r bytes)
  text_so_far = came.hits ∙ hits_so_far r pattern code (pattern_least pattern pattern_is_good) bytes

  pub each_so_far : Rising 0 found × ((i : ℕ) → i ∈ found ↔ ((i < length (text_of r bytes)) × Front pattern (drop i (text_of r bytes))))
  each_so_far = rw text_so_far (
    hits_rising pattern (text_of r bytes),
    λ i. (
      λ m. let h = (hit_is pattern (text_of r bytes) i).0 m in (h.0, stands_front pattern (drop i (text_of r bytes)) h.1),
      λ h. (hit_is pattern (text_of r bytes) i).1 (h.0, front_stands pattern (drop i (text_of r bytes)) h.1),
    ),
  )

  -- ---- finishing says what check says of the bytes that came, where they hold h symbols

  pub finish_check : r.h ≤ room k (length bytes) → finish_says s' ≡ check_says r bytes
  unfolding finish_says check_says
  finish_check l =
      rw (came.within, judge_is, (fits_is r bytes).0 (kept_table (searcher_for r pattern) first_within, l))
      (verdict_is r code bytes (λ b. all_in l (ap (λ (j : Judge). j.progress.bad) judge_is ∙ b)))

  finished_fits : finish_says s' ≡ accepted tt → r.h ≤ room k (length bytes)
  unfolding finish_says verdict_says
  finished_fits e =
      let (a, z) = accepted_none (verdict_rows s'.judge) tt (accepted_parts (kept_says s') e).1 in
      let (b, l) = neither (not (eqb p.bad 0)) (ltb p.read s'.judge.roll.h) a in
      let (most, all) = came_read (eqb-true _ _ (not-false (eqb p.bad 0) b)) in
      let full : s'.judge.roll.h ≤ p.read = ltb-false _ _ l in
      room_holds k r.h (length bytes) (kept_limited (searcher_for r pattern) first_within)
      (omega (arith, roll_is, bytes_for_enough (code_width r.table.code code) p.read, ap (λ (n : ℕ). n * per k) all))

  pub finish_sound : Finishing s' (Ok tt) → Checking r bytes (Ok tt)
  finish_sound f = record { says = f.says ∙ finish_check (finished_fits (sym f.says)) }

  -- and as many bytes came as the roll has
  pub finish_bytes : Finishing s' (Ok tt) → length bytes ≡ bytes_for k r.h
  finish_bytes f = let s = accepted_sound r bytes (sym (finish_sound f).says) in all_in s.fits (good_read s.reads)

  -- and all hits are the search's
  pub finish_search : {slice after : List ℕ} {answer : Result ℕ Refusal} → Finishing s' (Ok tt) → Searching r bytes pattern slice answer after
      → (answer ≡ Ok (length found)) × (after ≡ listed found slice)
  finish_search {slice} {after} {answer} f q =
      let e = (searches_is r bytes pattern).0 (accepted_sound r bytes (sym (finish_sound f).says), pattern_is_good) in
      rw text_so_far (says_one answer (Ok (length (hits pattern (text_of r bytes)))) (q.says ∙ e), q.leaves ∙ accepted_leaves e _ _)

  -- a sound roll: finishing accepts, and so did each call
  module _ (c : Checking r bytes (Ok tt)) where
    sound : Sound r bytes
    sound = accepted_sound r bytes (sym c.says)

    pub sound_finish : {answer : Result (Unit {0}) Refusal} → Finishing s' answer → answer ≡ Ok tt
    sound_finish {answer} f = says_one answer (Ok tt) (f.says ∙ finish_check sound.fits ∙ sym c.says)

    pub sound_fed : answers fed ≡ replicate (length pieces) (Ok tt)
    sound_fed = answers_good (start_within start) fed (good_read sound.reads)

  -- a roll that check refuses with 6, 7 or 8
  module _ {e : Refusal} (c : Checking r bytes (Err e)) (late : 6 ≤ number_of e) where
    refused_fits : r.h ≤ room k (length bytes)
    unfolding check_says fit_says
    refused_fits =
        ⊎_elim
        (λ e. absurd (⊎_elim (λ z. omega (arith, z.1)) (λ z. ⊎_elim (λ u. omega (arith, u.1)) (λ u. u.1) z.1) (refused_row (fit_rows r bytes) tt e)))
        (λ e. ((fits_is r bytes).1 e.0).1)
        (refused_parts (fit_says r bytes) (sym c.says))

    pub refused_same : {answer : Result (Unit {0}) Refusal} → Finishing s' answer → answer ≡ Err e
    refused_same {answer} f = says_one answer (Err e) (f.says ∙ finish_check refused_fits ∙ sym c.says)

  -- with 6: feeding names it too, the call that reads the bad codeword and each one after it, which changes nothing
  module _ {v : ℕ} (c : Checking r bytes (Err (BadCodeword v))) where
    six_row : (is_bad (reading r bytes) ≡ true) × (first_bad r.h (reading r bytes) ≡ v)
    unfolding check_says
    six_row =
        let e : judged (check_rows r bytes) tt ≡ refused 6 v = sym (rw ((fits_is r bytes).0 (kept_table (searcher_for r pattern) first_within, refused_fits c (omega arith))) at c.says) in
        ⊎_elim (λ z. (z.0, z.2))
        (λ z. absurd (⊎_elim (λ u. omega (arith, u.1)) (λ u. ⊎_elim (λ x. omega (arith, x.1)) (λ x. x.1) u.1) z.1))
        (refused_row (check_rows r bytes) tt e)

    six_bad : p.bad ≢ 0
    six_bad b =
        let x : is_bad (reading r bytes) ≡ false = (judge_whole r code bytes (all_in (refused_fits c (omega arith)) b) (ap (λ (j : Judge). j.progress.bad) (sym judge_is) ∙ b)).0 in
        let z : ◌≡◌ {A = ℕ} 0 1 = cc six_row.0 in
        omega arith

    six_first : p.first ≡ v
    six_first = (bad_read six_bad).1 ∙ six_row.1

    pub six_fed : (m n : ℕ) × (answers fed ≡ replicate m (Ok tt) ++ replicate (suc n) (Err (BadCodeword v)))
    six_fed =
        let (m, n, e) = answers_bad (start_within start) fed (rw made) six_bad in
        (m, n, e ∙ ap (λ (x : ℕ). replicate m (Ok tt) ++ replicate (suc n) (Err (BadCodeword x))) six_first)

    pub six_later : {piece slice after : List ℕ} {a : Fed} → Feeding s' piece slice a after
        → (a.answer ≡ Err (BadCodeword v)) × (a.hits ≡ 0) × (a.searcher ≡ s') × (after ≡ slice)
    unfolding feed_says
    six_later {piece} {slice} {after} {a} q =
        let e : feed_reads s' piece slice ≡ refused 6 v = feed_6 s' piece slice came.within six_bad ∙ ap (refused 6) six_first in
        (says_one a.answer (Err (BadCodeword v)) (q.says ∙ rw e), q.hits ∙ rw e, q.searcher ∙ rw e, q.leaves ∙ rw e)

  -- ---- input that ends too soon is 6: the first symbol of the bad or unfinished codeword, or the symbols read if none is open

  module _ (l : length bytes < bytes_for k r.h) where
    few : length (symbols_of k bytes) < r.h
    few =
        elim (dec_le r.h (length bytes * per k)) [
          | yes m ↦ absurd (omega (arith, bytes_for_within (code_width r.table.code code) r.h (length bytes) m))
          | no m ↦ omega (arith, lt_of_not-le m, symbols_length k bytes)
        ]

    -- how far it is read, where no codeword was bad
    part_read : p.bad ≡ 0 → (p.read ≡ length (symbols_of k bytes)) × (p.first ≡ first_bad (length (symbols_of k bytes)) (reading r bytes))
    part_read b = rw judge_is (judge_part r code bytes (omega (arith, few)) (rw judge_is at b))

    soon_says : finish_says s' ≡ refused 6 p.first
    unfolding finish_says verdict_says
    soon_says =
        elim (ℕ_discrete p.bad 0) [
          | yes b ↦ rw (came.within, eq-eqb _ _ b, lt-ltb p.read s'.judge.roll.h (omega (arith, roll_is, few, (part_read b).0)))
          | no b ↦ rw (came.within, ne_eqb _ _ b)
        ]

    soon_first : p.first ≡ first_bad (length bytes * per k) (reading r bytes)
    soon_first =
        elim (ℕ_discrete p.bad 0) [
          | yes b ↦ (part_read b).1 ∙ ap (λ (n : ℕ). first_bad n (reading r bytes)) (symbols_length k bytes)
          | no b ↦ let (x, e) = bad_read b in e ∙ first_one r.h (length bytes * per k) (reading r bytes) x
        ]

    pub too_soon : {answer : Result (Unit {0}) Refusal} → Finishing s' answer → (answer ≡ Err (BadCodeword p.first)) × (p.first ≡ first_bad (length bytes * per k) (reading r bytes))
    too_soon {answer} f = (says_one answer (Err (BadCodeword p.first)) (f.says ∙ soon_says), soon_first)

-- ---- a refusal is the first that applies, in the fixed order, with its value (demand 1)

pub order_start : {r : Roll} {pattern : List ℕ} {e : Refusal} → Starting r pattern (Err e) → Refuses (start_rows r pattern) (number_of e) (value_of e)
unfolding start_says
order_start {r} {pattern} call = refused_row (start_rows r pattern) tt (err_refused (start_searcher r pattern) call.says refl)

kept_decided : (s : Searcher) → DecidedBy (kept_says s) (kept_rows s)
unfolding kept_says
kept_decided s = decided (kept_rows s)

reads_decided : (s : Searcher) (piece slice : List ℕ) → DecidedBy (feed_reads s piece slice) (kept_rows s ++ feed_rows s piece slice)
unfolding feed_reads
reads_decided s piece slice = decided_then (kept_decided s) (feed_rows s piece slice)

pub order_feed : {s : Searcher} {piece slice after : List ℕ} {r : Fed} {e : Refusal} → Feeding s piece slice r after → r.answer ≡ Err e
    → Refuses ((kept_rows s ++ feed_rows s piece slice) ++ bad_rows (searcher_after s piece)) (number_of e) (value_of e)
unfolding feed_says
order_feed {s} {piece} {slice} call y = then_refuses (reads_decided s piece slice) (bad_rows (searcher_after s piece)) tt (says_as call.says y)

pub order_finish : {s : Searcher} {e : Refusal} → Finishing s (Err e) → Refuses (kept_rows s ++ verdict_rows s.judge) (number_of e) (value_of e)
unfolding finish_says verdict_says
order_finish {s} call = then_refuses (kept_decided s) (verdict_rows s.judge) tt (sym call.says)

-- a refusal other than 6 changes neither the searcher nor the slice
pub feed_keeps : {s : Searcher} {piece slice after : List ℕ} {r : Fed} {e : Refusal} → Feeding s piece slice r after → r.answer ≡ Err e → number_of e ≢ 6
    → (r.searcher ≡ s) × (after ≡ slice) × (r.hits ≡ 0)
unfolding feed_says
feed_keeps {s} {piece} {slice} call y other =
    ⊎_elim
    (λ x.
    let none : feed_hits s piece slice ≡ [] = refused_keeps x [] (hits_named s piece) in
    (call.searcher ∙ refused_keeps x _ _, call.leaves ∙ rw none, call.hits ∙ rw none))
    (λ q. absurd (other (bad_six (refused_row (bad_rows (searcher_after s piece)) tt q.1))))
    (refused_parts (feed_reads s piece slice) (says_as call.says y))
  where
    bad_six : {n v : ℕ} → Refuses (bad_rows (searcher_after s piece)) n v → n ≡ 6
    bad_six (inl x) = sym x.1
    bad_six (inr x) = absurd x.1
