-- `stopper::table::ranks_of` meets its contract: the ranks are those among the characters from place i on, and i more.
use Rattle.std.proofs.Common.{◌≡◌, sym, ap, ◌∙◌, ℕ, zero, suc, ◌+◌, ◌-◌, ◌≤◌, ◌<◌, List, length, take, drop, get_or, set, replicate, arith, rules, add-zero, length-take-le, get_or-take, subst}
use Rattle.std.proofs.Math.Nat.{zero-add}
use Rattle.std.proofs.lemmas.List.{length-replicate, get_or-replicate}
use Rattle.ground.specs.Laws.Rows.{length_tab, tab_at, tab_ext, tab_set}
use Rattle.stopper.specs.Paper.Table.{rank_in}
use Rattle.stopper.specs.Helpers.Answers.{ranks_of}
use Rattle.stopper.specs.Laws.Characters.{rank_here, rank_next, rank_end}
use Rattle.stopper.proofs.table.ranks_of.Invariants.{from, Filled}
use Rattle.stopper.proofs.table.ranks_of.Goals as goal

start : (places : List ℕ) (n : ℕ) → length places ≡ 256 → n ≤ 256 → Filled places n (replicate 256 n) n
start places n e h =
    let t : length (take n places) ≡ n = length-take-le n places (omega arith) in
    record {
      long = t;
      few = h;
      upto = omega arith;
      row = tab_ext (from (take n places) n) 256 (replicate 256 n) (length-replicate 256 n)
          (λ b k. get_or-replicate 256 b n 0 k ∙ sym (ap (λ (x : ℕ). n + rank_in (drop x (take n places)) b) (sym t) ∙ ap (λ (x : ℕ). n + x) (rank_end (take n places) b) ∙ add-zero n));
    }

-- one place down, at character b
down : {places : List ℕ} {n : ℕ} {ranks : List ℕ} {j : ℕ} → Filled places n ranks (suc j) → {b : ℕ} → b ≡ get_or places j 0 → b < 256 → Filled places n (set ranks b j) j
down {places} {n} {ranks} {j} s {b} e h =
    let l = take n places in
    let inside : j < length l = omega (arith, s.long, s.upto) in
    let this : get_or l j 0 ≡ b = get_or-take n places j 0 (omega (arith, s.upto)) ∙ sym e in
    record {
      long = s.long;
      few = s.few;
      upto = omega (arith, s.upto);
      row = rw s.row
          (tab_set (from l (suc j)) (from l j) 256 b j h
          (ap (λ (x : ℕ). j + x) (rank_here l j inside b this) ∙ add-zero j)
          (λ x q. ap (λ (z : ℕ). j + z) (rank_next l j inside x (λ p. q (sym p ∙ this))) ∙ omega arith));
    }

whole : {places : List ℕ} {n : ℕ} {ranks : List ℕ} {i : ℕ} → Filled places n ranks i → i ≤ 0 → ranks ≡ ranks_of (take n places)
unfolding ranks_of
whole {places} {n} {i = zero} s h = s.row ∙ tab_ext (rank_in (take n places)) 256 _ (length_tab _ 0 256) (λ b k. tab_at _ 256 b k ∙ zero-add _)
whole {i = suc i} s h = absurd (omega arith)

pub loop-i-init : goal.loop-i-init
loop-i-init c = start c.args.places c.args.sigma (search rules) c.requires

pub loop-i-preserved : goal.loop-i-preserved
loop-i-preserved c =
    let a = c.args in
    let e : c.from-in-loop-i.result ≡ get_or a.places (c.loop-i.i - 1) 0 = c.from-in-loop-i.ensures ∙ ap (λ (x : ℕ). get_or a.places x 0) c.from.ensures in
    down (subst (Filled a.places a.sigma c.loop-i.ranks) (omega arith) c.loop-i.invariant) e (search rules)

pub returns : goal.returns
returns c = whole c.loop-i.invariant c.loop-i-test.false
