-- The promises: a law for a refused call and one for an accepted call.
use Rattle.std.specs.Prelude.{◌≡◌, refl, ◌≢◌, true, false, not, ◌&&◌, ◌||◌, T, eqb, take, Result, Ok, Err}
use Rattle.std.specs.Result.{result_unwrap_or}
use Rattle.std.proofs.Math.Path.{sym, ap}
use Rattle.std.proofs.Common.{◌∙◌, arith, nltb→le, leb→le, take-append-drop}
use Rattle.std.proofs.Math.Bool.{Bool}
use mathlib.Core.List.{List, [], ◌∷◌, ◌++◌, map, append-nil}
use Prim.Native.Nat.{ℕ, ◌+◌, ◌*◌, ◌%◌, ◌^◌, ◌≤◌, ◌<◌}
use borrow.Author.Tests.{lt-ltb, le-ltb, eq-eqb, ne_eqb}
use Rattle.std.proofs.Math.Facts.{and_yes}
use Rattle.std.proofs.Math.Dec.{ltb, leb, ltb→lt}
use Rattle.std.proofs.Math.ListN.{length, drop, get_or}
use Rattle.ground.specs.Paper.Limit.{limit}
use Rattle.ground.specs.Paper.Refusals.{refuse, accepted, refused, judged}
use Rattle.ground.specs.Paper.Answers.{number_of, value_of, outcome_of}
use Rattle.ground.specs.Laws.Answers.{err_refused, beside_kept}
use Rattle.ground.specs.Laws.Refusals.{NoneApplies, accepted_none}
use Rattle.ground.specs.declared.refusal.Refusal.{Refusal}
use Rattle.stopper.specs.Paper.Table.{good_table}
use Rattle.symbols.specs.Paper.Symbols.{per, bytes_for}
use Rattle.texts.specs.Paper.Hits.{good_pattern, most_pattern}
use Rattle.sound.specs.declared.records.Roll.{Roll}
use Rattle.judge.specs.Paper.Judge.{hears_all, ranks_heard, judge_bounds, judge_after}
use Rattle.radio.specs.Paper.Matching.{whole_bit, named}
use Rattle.radio.specs.Paper.Operations.{start_says, searcher_for, start_searcher, Starting, pattern_in, code_in, in_bounds, kept_rows, kept_says, feed_reads, characters_heard, searcher_after, hits_named, feed_says, Feeding}
use Rattle.judge.specs.Helpers.Steady.{Steady}
use Rattle.radio.specs.Helpers.Kept.{refused_fed}
use Rattle.radio.specs.Helpers.Following.{Ready, row, heard_upto, characters_upto, named_upto, Went}
use Rattle.judge.specs.Laws.Judge.{hears_append, ranks_append}
use Rattle.judge.specs.declared.records.Progress.{Progress}
use Rattle.judge.specs.declared.records.Judge.{Judge}
use Rattle.radio.specs.declared.records.Searcher.{Searcher}
use Rattle.radio.specs.declared.feed.Fed.{Fed}
use Rattle.radio.specs.declared.feed.Followed.{Followed}

-- what is not refused passed its test
not_no : (b : Bool) → not b ≡ false → T b
not_no true e = tt
not_no false e = let z : ◌≡◌ {A = ℕ} 0 1 = cc in absurd (omega arith)

three : (a b c : Bool) → T (a && b && c) → T a × T b × T c
three a b c t = let (x, z) = and_yes (a && b) c t in let (u, v) = and_yes a b x in (u, v, z)

seven : (a b c d e f g : Bool) → T (a && b && c && d && e && f && g) → T a × T b × T c × T d × T e × T f × T g
seven a b c d e f g t =
    let (x, y, z) = three (a && b && c && d && e) f g t in
    let (u, v, w) = three (a && b && c) d e x in
    let (i, j, k) = three a b c u in
    (i, j, k, v, w, y, z)

no_lt : (a b : ℕ) → ltb a b ≡ false → b ≤ a
no_lt a b e = nltb→le a b (rw e tt)

-- ---- start

module _ {r : Roll} {pattern : List ℕ} where
  pub start_refused : {e : Refusal} → start_says r pattern ≡ refused (number_of e) (value_of e) → Starting r pattern (Err e)
  start_refused e = record { says = rw e }

  pub start_yes : {q : Searcher} → start_says r pattern ≡ accepted tt → q ≡ searcher_for r pattern → Starting r pattern (Ok q)
  start_yes e p = rw p (record { says = rw e })

  -- what stands beside a refusal
  pub start_beside : {e : Refusal} → Starting r pattern (Err e) → start_searcher r pattern ≡ searcher_for r []
  start_beside {e} s = rw (err_refused (start_searcher r pattern) s.says {e = e} refl)

  -- what is answered, or `no_searcher` beside a refusal
  pub starting_searcher : {s : Result Searcher Refusal} → Starting r pattern s → result_unwrap_or s (searcher_for r []) ≡ start_searcher r pattern
  starting_searcher {s} p = beside_kept (start_says r pattern) s _ _ p.says

module _ (r : Roll) (pattern : List ℕ) where
  pub start_1 : good_table r.table ≡ false → start_says r pattern ≡ refused 1 0
  unfolding start_says
  start_1 t = rw t

  module _ (t : good_table r.table ≡ true) where
    pub start_5 : limit < r.h → start_says r pattern ≡ refused 5 r.h
    unfolding start_says
    start_5 h = rw (t, lt-ltb _ _ h)

    module _ (h : r.h ≤ limit) where
      pub start_11 : good_pattern pattern ≡ false → start_says r pattern ≡ refused 11 0
      unfolding start_says
      start_11 p = rw (t, le-ltb _ _ h, p)

      pub start_accepted : good_pattern pattern ≡ true → start_says r pattern ≡ accepted tt
      unfolding start_says
      start_accepted p = rw (t, le-ltb _ _ h, p)

-- ---- any searcher

module _ (s : Searcher) where
  pub kept_1 : good_table s.judge.roll.table ≡ false → kept_says s ≡ refused 1 0
  unfolding kept_says
  kept_1 t = rw t

  module _ (t : good_table s.judge.roll.table ≡ true) where
    pub kept_5 : limit < s.judge.roll.h → kept_says s ≡ refused 5 s.judge.roll.h
    unfolding kept_says
    kept_5 h = rw (t, lt-ltb _ _ h)

    module _ (h : s.judge.roll.h ≤ limit) where
      pub kept_11 : (leb s.length most_pattern && good_pattern (pattern_in s)) ≡ false → kept_says s ≡ refused 11 0
      unfolding kept_says
      kept_11 p = rw (t, le-ltb _ _ h, p)

      module _ (p : (leb s.length most_pattern && good_pattern (pattern_in s)) ≡ true) where
        pub kept_bounds : in_bounds s ≡ false → kept_says s ≡ refused 1 0
        unfolding kept_says
        kept_bounds b = rw (t, le-ltb _ _ h, p, b)

        pub kept_accepted : in_bounds s ≡ true → kept_says s ≡ accepted tt
        unfolding kept_says
        kept_accepted b = rw (t, le-ltb _ _ h, p, b)

-- one that is not refused
module _ (s : Searcher) (e : kept_says s ≡ accepted tt) where
  within : NoneApplies (kept_rows s)
  unfolding kept_says
  within = accepted_none (kept_rows s) tt e

  abbrev j : Judge
  j = s.judge

  bounds : T (judge_bounds j) × (s.ends < 2 ^ j.progress.count) × (s.ends < whole_bit (pattern_in s))
  unfolding in_bounds
  bounds =
      let first : Bool = ltb s.ends (2 ^ j.progress.count) in
      let second : Bool = ltb s.ends (whole_bit (pattern_in s)) in
      let (a, b) = and_yes (judge_bounds j) (first && second) (not_no (in_bounds s) within.1.1.1.0) in
      let (x, y) = and_yes first second b in
      (a, ltb→lt _ _ x, ltb→lt _ _ y)

  pub kept_table : T (good_table j.roll.table)
  kept_table = not_no (good_table j.roll.table) within.0

  pub kept_limited : j.roll.h ≤ limit
  kept_limited = no_lt _ _ within.1.0

  -- its judge's numbers, one by one
  abbrev whole : Bool
  whole = eqb j.progress.bad 1 || eqb j.progress.read j.roll.h || eqb (j.progress.read % per j.roll.table.code.k) 0

  judge_parts : let p : Progress = j.progress in (
      T (leb p.past 1) × T (leb p.place 2) × T (leb p.shorter 256) × T (leb p.rows 4096) × T (leb p.value 256) × T (leb p.bad 1) × T (leb p.stained 1)
      ) × (T (leb p.count p.first) × T (leb p.first p.read) × T (leb p.read j.roll.h)) × T whole
  unfolding judge_bounds
  judge_parts =
      let p : Progress = j.progress in
      let state : Bool = leb p.past 1 && leb p.place 2 && leb p.shorter 256 && leb p.rows 4096 && leb p.value 256 && leb p.bad 1 && leb p.stained 1 in
      let counts : Bool = leb p.count p.first && leb p.first p.read && leb p.read j.roll.h in
      let (a, b, c) = three state counts whole bounds.0 in (
        seven (leb p.past 1) (leb p.place 2) (leb p.shorter 256) (leb p.rows 4096) (leb p.value 256) (leb p.bad 1) (leb p.stained 1) a,
        three (leb p.count p.first) (leb p.first p.read) (leb p.read j.roll.h) b,
        c,
      )

  pub kept_judge : (j.progress.past ≤ 1) × Steady j.roll.h j.progress
  kept_judge =
      let p : Progress = j.progress in
      let ((past, place, shorter, rows, value, bad, stained), (count, first, read), c) = judge_parts in (
        leb→le p.past 1 past,
        record {
          small = record { place = leb→le p.place 2 place; shorter = leb→le p.shorter 256 shorter; rows = leb→le p.rows 4096 rows; value = leb→le p.value 256 value };
          count = leb→le p.count p.first count;
          first = leb→le p.first p.read first;
          read = leb→le p.read j.roll.h read;
        },
      )

  pub kept_stained : j.progress.stained ≤ 1
  kept_stained = let ((past, place, shorter, rows, value, bad, stained), b, c) = judge_parts in leb→le j.progress.stained 1 stained

  -- pieces are whole bytes
  pub kept_whole : T whole
  kept_whole = let (a, b, c) = judge_parts in c

  pub kept_ready : j.progress.bad ≡ 0 → Ready s
  kept_ready b =
      let p = and_yes (leb s.length most_pattern) (good_pattern (pattern_in s)) (not_no (leb s.length most_pattern && good_pattern (pattern_in s)) within.1.1.0) in
      record {
        table = kept_table;
        limited = kept_limited;
        long = leb→le _ _ p.0;
        pattern = p.1;
        steady = kept_judge.1;
        past = kept_judge.0;
        going = b;
        ended = bounds.1;
        ends = bounds.2;
      }

-- ---- feed

module _ {s : Searcher} {piece slice : List ℕ} where
  pub feed_refused : {r : Fed} (e : Refusal) → feed_reads s piece slice ≡ refused (number_of e) (value_of e) → r ≡ refused_fed s e → Feeding s piece slice r slice
  unfolding refused_fed feed_says
  feed_refused e q p = rw p (record { says = rw q; hits = rw q; searcher = rw q; leaves = rw q })

module _ (s : Searcher) (piece slice : List ℕ) where
  pub feed_kept : {n v : ℕ} → kept_says s ≡ refused n v → feed_reads s piece slice ≡ refused n v
  unfolding feed_reads
  feed_kept e = rw e

  module _ (e : kept_says s ≡ accepted tt) where
    pub feed_6 : s.judge.progress.bad ≢ 0 → feed_reads s piece slice ≡ refused 6 s.judge.progress.first
    unfolding feed_reads
    feed_6 b = rw (e, ne_eqb _ _ b)

    module _ (b : s.judge.progress.bad ≡ 0) where
      abbrev k : ℕ
      k = (code_in s).k

      pub feed_5 : bytes_for k s.judge.roll.h < bytes_for k s.judge.progress.read + length piece → feed_reads s piece slice ≡ refused 5 s.judge.roll.h
      unfolding feed_reads
      feed_5 l = rw (e, eq-eqb _ _ b, lt-ltb _ _ l)

      module _ (l : bytes_for k s.judge.progress.read + length piece ≤ bytes_for k s.judge.roll.h) where
        pub feed_14 : length slice < length piece * per k → feed_reads s piece slice ≡ refused 14 (length piece * per k)
        unfolding feed_reads
        feed_14 h = rw (e, eq-eqb _ _ b, le-ltb _ _ l, lt-ltb _ _ h)

        pub feed_accepted : length piece * per k ≤ length slice → feed_reads s piece slice ≡ accepted tt
        unfolding feed_reads
        feed_accepted h = rw (e, eq-eqb _ _ b, le-ltb _ _ l, le-ltb _ _ h)

  -- the piece is read: followed, and the rest judged
  module _ {w : Followed} {after : List ℕ} (z : Went s piece slice w after) where
    abbrev σ : ℕ
    σ = s.judge.roll.table.sigma

    abbrev h : ℕ
    h = s.judge.roll.h

    parts : take w.at (row s piece) ++ drop w.at (row s piece) ≡ row s piece
    parts = take-append-drop w.at (row s piece)

    all_heard : hears_all (code_in s) σ h w.progress (drop w.at (row s piece)) ≡ heard_upto s (row s piece)
    all_heard =
        ap (λ (p : Progress). hears_all (code_in s) σ h p (drop w.at (row s piece))) z.progress
        ∙ sym (hears_append (code_in s) σ h s.judge.progress (take w.at (row s piece)) (drop w.at (row s piece))) ∙ ap (heard_upto s) parts

    all_characters : characters_upto s (take w.at (row s piece)) ≡ characters_heard s piece
    unfolding characters_heard
    all_characters =
        let ranks : List ℕ = ranks_heard (code_in s) σ h s.judge.progress (take w.at (row s piece)) in
        ap (map (λ rank. get_or s.judge.roll.table.places rank 0))
        (sym (ap (ranks_heard (code_in s) σ h s.judge.progress) (sym parts)
        ∙ ranks_append (code_in s) σ h s.judge.progress (take w.at (row s piece)) (drop w.at (row s piece))
        ∙ ap (λ (l : List ℕ). ranks ++ l) (ap (λ (p : Progress). ranks_heard (code_in s) σ h p (drop w.at (row s piece))) (sym z.progress) ∙ z.silent)
        ∙ append-nil ranks))

    pub feed_read : feed_reads s piece slice ≡ accepted tt → {q : Progress} → q ≡ hears_all (code_in s) σ h w.progress (drop w.at (row s piece))
        → (a : Result (Unit {0}) Refusal) → outcome_of a ≡ judged (refuse 6 q.first (not (eqb q.bad 0)) ∷ []) tt
        → Feeding s piece slice
        (record { answer = a; hits = w.hits; searcher = record { judge = record { roll = s.judge.roll; progress = q }; pattern = s.pattern; length = s.length; ends = w.ends } }) after
    unfolding feed_says searcher_after judge_after hits_named
    feed_read e {q} d a says =
        let now : q ≡ heard_upto s (row s piece) = d ∙ all_heard in
        let hits : named_upto s (take w.at (row s piece)) ≡ named (pattern_in s) s.ends s.judge.progress.count (characters_heard s piece)
        = ap (named (pattern_in s) s.ends s.judge.progress.count) all_characters in
        record {
          says = rw e (says ∙ rw now);
          hits = rw e (z.hits ∙ ap length hits);
          searcher = rw (e, now, z.ends, all_characters);
          leaves = rw e (z.leaves ∙ ap (λ (n : ℕ). named_upto s (take w.at (row s piece)) ++ drop n slice) z.hits ∙ ap (λ (l : List ℕ). l ++ drop (length l) slice) hits);
        }
