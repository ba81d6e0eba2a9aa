-- What the promises of a roll that comes in forbid, each on a named input: banana of P5, whose bytes are 20 10 10, and abracadabra of P2.
use Rattle.std.specs.Prelude.{◌≡◌, List, [], ◌∷◌, ℕ, replicate, Ok, Err}
use Rattle.std.proofs.Common.{sym, ap, ◌∙◌, arith}
use Rattle.ground.specs.Paper.Answers.{outcome_of}
use Rattle.ground.specs.declared.refusal.Refusal.{Refusal}
use Rattle.ground.specs.declared.refusal.Refusal.TheVariants.{BadPattern, ShortHits}
use Rattle.stopper.specs.Helpers.State.{stepped, nearer}
use Rattle.texts.specs.Paper.Hits.{good_pattern}
use Rattle.judge.specs.Paper.Judge.{heard_as, ended_as, stained_by, hears, ends, hears_all, ranks_heard, judge_after, verdict_says, judge_bounds}
use Rattle.radio.specs.Paper.Matching.{grown, matches_all, named}
use Rattle.radio.specs.Paper.Operations.{start_says, searcher_for, Starting, in_bounds, kept_says, feed_reads, characters_heard, searcher_after, hits_named, feed_says, Feeding, finish_says, Finishing}
use Rattle.radio.specs.declared.records.Searcher.{Searcher}
use Rattle.radio.specs.declared.feed.Fed.{Fed}
use Rattle.worked.specs.Cases.{abra, bananas, rolled, computed}
use Rattle.worked.specs.Not.{apart, number_of}

unfoldable heard : Unit {0}
unfolding computed stepped nearer good_pattern heard_as ended_as stained_by hears ends hears_all ranks_heard judge_after verdict_says judge_bounds grown matches_all named start_says in_bounds kept_says feed_reads characters_heard searcher_after hits_named feed_says finish_says
heard = tt

abbrev begun : Searcher
begun = searcher_for (rolled bananas 6 6) (97 ∷ 110 ∷ 97 ∷ [])

-- a start that refuses everything
pub start_not_refusing : {e : Refusal} → Starting (rolled bananas 6 6) (97 ∷ 110 ∷ 97 ∷ []) (Err e) → ⊥
unfolding bananas heard
start_not_refusing p = apart (sym p.says)

-- 11 asked before 5
pub start_not_11_first : Starting (rolled bananas 6 1048577) [] (Err BadPattern) → ⊥
unfolding bananas heard
start_not_11_first p = let e = number_of p.says in omega arith

-- byte 10 let pass at the end
pub start_not_newline_last : {s : Searcher} → Starting (rolled bananas 6 6) (97 ∷ 10 ∷ []) (Ok s) → ⊥
unfolding bananas heard
start_not_newline_last p = apart p.says

-- byte 13 refused too
pub start_not_13 : {e : Refusal} → Starting (rolled bananas 6 6) (97 ∷ 13 ∷ []) (Err e) → ⊥
unfolding bananas heard
start_not_13 p = apart (sym p.says)

-- 11 for byte 10 before 5
pub start_not_newline_first : Starting (rolled bananas 6 1048577) (97 ∷ 10 ∷ []) (Err BadPattern) → ⊥
unfolding bananas heard
start_not_newline_first p = let e = number_of p.says in omega arith

-- a searcher with byte 10 in its pattern fed, and finished
pub feed_not_newline : {r : Fed} {after : List ℕ} → Feeding (searcher_for (rolled bananas 6 6) (97 ∷ 10 ∷ [])) (32 ∷ []) (9 ∷ 9 ∷ []) r after → r.answer ≡ Ok tt → ⊥
unfolding bananas heard
feed_not_newline p q = apart (sym (ap outcome_of q) ∙ p.says)

pub finish_not_newline : Finishing (searcher_for (rolled bananas 0 0) (97 ∷ 10 ∷ [])) (Ok tt) → ⊥
unfolding bananas heard
finish_not_newline p = apart p.says

-- a hit named a call late: in 20 10 stands ana
pub feed_not_late : {r : Fed} {after : List ℕ} → Feeding begun (32 ∷ 16 ∷ []) (replicate 4 9) r after → r.hits ≡ 0 → ⊥
unfolding bananas heard
feed_not_late p q = omega (arith, p.hits, q)

-- a border that loses the hit that overlaps it: behind 20 10 comes 10, and with it the second ana
pub feed_not_border : {r : Fed} {after : List ℕ} → Feeding (searcher_after begun (32 ∷ 16 ∷ [])) (16 ∷ []) (9 ∷ 9 ∷ []) r after → r.hits ≡ 0 → ⊥
unfolding bananas heard
feed_not_border p q = omega (arith, p.hits, q)

-- 14 asked before 5: four bytes are too many, and no entry is lent
pub feed_not_14_first : {r : Fed} {after : List ℕ} {v : ℕ} → Feeding begun (replicate 4 0) [] r after → r.answer ≡ Err (ShortHits v) → ⊥
unfolding bananas heard
feed_not_14_first p q = let e = number_of (sym (ap outcome_of q) ∙ p.says) in omega arith

-- hits written under a later 6: the second byte ends a codeword that is none of the table's, and the third is not read
pub feed_not_under_6 : {r : Fed} {after : List ℕ} → Feeding (searcher_after begun (32 ∷ 48 ∷ [])) (16 ∷ []) (9 ∷ 9 ∷ []) r after → r.answer ≡ Ok tt → ⊥
unfolding bananas heard
feed_not_under_6 p q = apart (sym (ap outcome_of q) ∙ p.says)

-- unused symbols not looked at where the last byte comes alone: of 13 symbols the last byte has one, and three that are unused
pub finish_not_unused : Finishing (searcher_after (searcher_after (searcher_for (rolled abra 11 13) (97 ∷ [])) (24 ∷ 195 ∷ 70 ∷ [])) (1 ∷ [])) (Ok tt) → ⊥
unfolding abra heard
finish_not_unused p = apart p.says

-- a finish that accepts too soon
pub finish_not_early : Finishing (searcher_after begun (32 ∷ 16 ∷ [])) (Ok tt) → ⊥
unfolding bananas heard
finish_not_early p = apart p.says

-- and one that refuses everything
pub finish_not_refusing : {e : Refusal} → Finishing (searcher_after begun (32 ∷ 16 ∷ 16 ∷ [])) (Err e) → ⊥
unfolding bananas heard
finish_not_refusing p = apart (sym p.says)
