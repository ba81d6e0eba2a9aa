-- The laws of the reading state: it stands for the continuers read, and one more symbol does to it what the symbol does to the codeword.
use Rattle.std.proofs.Math.Path.{◌≡◌, refl}
use Rattle.std.proofs.Common.{sym, ◌∙◌, mul-le-mul, lt_of_not-le, leb→le}
use Rattle.std.specs.Prelude.{Bool, cond, T, leb}
use Rattle.std.proofs.Math.Bool.{true, false}
use Prim.Native.Nat.{ℕ, zero, suc, ◌+◌, ◌-◌, ◌*◌, ◌≤◌, ◌<◌}
use Rattle.std.proofs.Math.Nat.{le_trans}
use Rattle.std.proofs.Math.Decide.{dec_le}
use native.Mathlib.Omega.{arith}
use borrow.Author.Tests.{lt-ltb, le-ltb, le-leb, lt-leb}
use Rattle.std.proofs.Math.Dec.{nleb→lt}
use Rattle.ground.specs.Laws.Tests.{by_test}
use Rattle.stopper.specs.Paper.Code.{opens, shorter, rank_at}
use Rattle.stopper.specs.Paper.Table.{base, stoppers, good_code}
use Rattle.stopper.specs.Helpers.State.{Small, near, nearer, open_at, past_at, state_at, opened, stepped}
use Rattle.stopper.specs.Laws.Table.{one_number, code_base, code_good}
use Rattle.stopper.specs.Laws.Reading.{rank_least, least_grows, opens_le}
use Rattle.stopper.specs.declared.code.Code.{Code}
use Rattle.stopper.specs.declared.reading.Reader.{Reader}
use Rattle.stopper.specs.declared.reading.Step.{Step}
use Rattle.stopper.specs.declared.reading.Step.TheVariants.{Rank, Bad, Open}

-- ---- a step, case by case: s stoppers, m base symbols

module _ (c : Code) (σ : ℕ) (r : Reader) (y s : ℕ) (e : s ≡ stoppers c r.place) where
  pub step_past_stop : y < s → r.past ≡ true → stepped c σ r y ≡ Bad
  unfolding stepped
  step_past_stop h p = rw (← e, lt-ltb _ _ h, p)

  pub step_bad : y < s → r.past ≡ false → σ ≤ r.shorter + (r.value * s + y) → stepped c σ r y ≡ Bad
  unfolding stepped
  step_bad h p k = rw (← e, lt-ltb _ _ h, p, le-leb _ _ k)

  pub step_rank : y < s → r.past ≡ false → r.shorter + (r.value * s + y) < σ → stepped c σ r y ≡ Rank (r.shorter + (r.value * s + y))
  unfolding stepped
  step_rank h p k = rw (← e, lt-ltb _ _ h, p, lt-leb _ _ k)

  pub step_past_on : s ≤ y → r.past ≡ true → stepped c σ r y ≡ Open (past_at (nearer r.place))
  unfolding stepped
  step_past_on h p = rw (← e, le-ltb _ _ h, p)

  module _ (m : ℕ) (f : m ≡ base c) (h : s ≤ y) (p : r.past ≡ false) where
    pub step_reach : σ ≤ r.shorter + r.rows * s + (r.value * (m - s) + (y - s)) → stepped c σ r y ≡ Open (past_at (nearer r.place))
    unfolding stepped
    step_reach k = rw (← e, le-ltb _ _ h, p, ← f, le-leb _ _ k)

    pub step_on : r.shorter + r.rows * s + (r.value * (m - s) + (y - s)) < σ
        → stepped c σ r y ≡ Open (record { past = false; place = nearer r.place; shorter = r.shorter + r.rows * s; rows = r.rows * (m - s); value = r.value * (m - s) + (y - s) })
    unfolding stepped
    step_on k = rw (← e, le-ltb _ _ h, p, ← f, lt-leb _ _ k)

-- what a step works out is small
pub record Sizes (m s : ℕ) (r : Reader) : Type 0 where
  pub fewer : s < m
  pub symbols : m ≤ 16
  pub short : r.shorter ≤ 256
  pub value_s : r.value * s ≤ 256 * 16
  pub rows_s : r.rows * s ≤ 4096 * 16
  pub value_c : r.value * (m - s) ≤ 256 * 16
  pub rows_c : r.rows * (m - s) ≤ 4096 * 16

pub sizes : (c : Code) → T (good_code c) → (r : Reader) → Small r → (s : ℕ) → s ≡ stoppers c r.place → (m : ℕ) → m ≡ base c → Sizes m s r
sizes c g r z s e m f =
    let a = code_base c g in
    let b : s < base c = rw e ((code_good c g).high r.place) in
    record {
      fewer = omega arith;
      symbols = omega arith;
      short = z.shorter;
      value_s = mul-le-mul {n₂ = 256} {m₂ = 16} z.value (omega arith);
      rows_s = mul-le-mul {n₂ = 4096} {m₂ = 16} z.rows (omega arith);
      value_c = mul-le-mul {n₂ = 256} {m₂ = 16} z.value (omega arith);
      rows_c = mul-le-mul {n₂ = 4096} {m₂ = 16} z.rows (omega arith);
    }

-- ---- the state after i continuers that spell x

pub near_next : (i : ℕ) → nearer (near i) ≡ near (suc i)
unfolding nearer
near_next zero = refl
near_next (suc zero) = refl
near_next (suc (suc i)) = refl

-- as far as places are counted, they have their own stoppers
pub stoppers_near : (c : Code) (i : ℕ) → stoppers c (near i) ≡ stoppers c i
stoppers_near c i = one_number c (near i) ∙ sym (one_number c i)

pub state_opened : (c : Code) (σ : ℕ) → opened ≡ state_at c σ 0 0
unfolding state_at shorter opens
state_opened c σ = refl

module _ (c : Code) (g : T (good_code c)) (σ : ℕ) where
  abbrev rank : ℕ → ℕ → ℕ → ℕ
  rank i x y = rank_at (base c) (stoppers c) i x y

  abbrev next : ℕ → ℕ → ℕ → ℕ
  next i x y = x * (base c - stoppers c i) + (y - stoppers c i)

  -- σ is reached, or it is not
  reached : (i x : ℕ) → σ ≤ shorter (base c) (stoppers c) (suc i) + x → state_at c σ (suc i) x ≡ past_at (near (suc i))
  unfolding state_at
  reached i x h = rw (le-leb _ _ h)

  not_reached : (i x : ℕ) → shorter (base c) (stoppers c) (suc i) + x < σ → state_at c σ (suc i) x ≡ open_at c (suc i) x
  unfolding state_at
  not_reached i x h = rw (lt-leb _ _ h)

  -- so a property of the state goes by two cases
  by_state {ℓ} : (P : Reader → Type ℓ) (i x : ℕ) → P (open_at c i x) → (σ ≤ shorter (base c) (stoppers c) i + x → P (past_at (near i))) → P (state_at c σ i x)
  unfolding state_at
  by_state P zero x a b = a
  by_state P (suc i) x a b =
      by_test (leb σ (shorter (base c) (stoppers c) (suc i) + x))
      (λ t. rw (reached i x (leb→le _ _ t)) (b (leb→le _ _ t)))
      (λ t. rw (not_reached i x (nleb→lt _ _ t)) a)

  pub state_stop : (i x y : ℕ) → y < stoppers c i → rank i x y < σ → stepped c σ (state_at c σ i x) y ≡ Rank (rank i x y)
  unfolding rank_at
  state_stop i x y h k =
      by_state (λ r. stepped c σ r y ≡ Rank (rank i x y)) i x
      (step_rank c σ (open_at c i x) y (stoppers c i) (sym (stoppers_near c i)) h refl k)
      (λ p. absurd (omega (arith, le_trans p (rank_least (base c) (stoppers c) (code_good c g) σ i x y))))

  pub state_stuck : (i x y : ℕ) → y < stoppers c i → σ ≤ rank i x y → stepped c σ (state_at c σ i x) y ≡ Bad
  unfolding rank_at
  state_stuck i x y h k =
      by_state (λ r. stepped c σ r y ≡ Bad) i x
      (step_bad c σ (open_at c i x) y (stoppers c i) (sym (stoppers_near c i)) h refl k)
      (λ p. step_past_stop c σ (past_at (near i)) y (stoppers c i) (sym (stoppers_near c i)) h refl)

  opened_more : (i x y : ℕ) → stoppers c i ≤ y → stepped c σ (open_at c i x) y ≡ Open (state_at c σ (suc i) (next i x y))
  unfolding stepped state_at shorter opens
  opened_more i x y h = rw (stoppers_near c i, near_next i, le-ltb _ _ h)

  pub state_more : (i x y : ℕ) → stoppers c i ≤ y → stepped c σ (state_at c σ i x) y ≡ Open (state_at c σ (suc i) (next i x y))
  state_more i x y h =
      by_state (λ r. stepped c σ r y ≡ Open (state_at c σ (suc i) (next i x y))) i x
      (opened_more i x y h)
      (λ p.
      step_past_on c σ (past_at (near i)) y (stoppers c i) (sym (stoppers_near c i)) h refl
      ∙ rw (near_next i, reached i (next i x y) (le_trans p (least_grows (base c) (stoppers c) (code_good c g) σ i x (y - stoppers c i)))))

  -- and its numbers are small
  pub state_small : σ ≤ 256 → (i x : ℕ) → x < opens (base c) (stoppers c) i → Small (state_at c σ i x)
  unfolding state_at shorter opens
  state_small few zero x h = record { place = omega arith; shorter = omega arith; rows = omega arith; value = omega arith }
  state_small few (suc i) x h =
      by_test (leb σ (shorter (base c) (stoppers c) (suc i) + x))
      (λ t. rw (reached i x (leb→le _ _ t)) (record { place = near_small (suc i); shorter = omega arith; rows = omega arith; value = omega arith }))
      (λ t.
      let k : shorter (base c) (stoppers c) (suc i) + x < σ = nleb→lt _ _ t in
      rw (not_reached i x k)
      (record {
        place = near_small (suc i);
        shorter = omega arith;
        rows = le_trans (opens_le (base c) (stoppers c) (code_good c g) σ i) (mul-le-mul {n₂ = 256} {m₂ = 16} (omega arith) (code_base c g).1);
        value = omega arith;
      }))
    where
      near_small : (i : ℕ) → near i ≤ 2
      near_small zero = omega arith
      near_small (suc zero) = omega arith
      near_small (suc (suc i)) = omega arith

  -- a state that is past stays so, whatever follows: reading may stop there
  pub state_past : (i x : ℕ) → (state_at c σ i x).past ≡ true → σ ≤ shorter (base c) (stoppers c) i + x
  unfolding state_at
  state_past zero x e = let z : ◌≡◌ {A = ℕ} 0 1 = cc in absurd (omega arith)
  state_past (suc i) x e = go (leb σ (shorter (base c) (stoppers c) (suc i) + x)) (leb→le _ _) e
    where
      go : (b : Bool) → (T b → σ ≤ shorter (base c) (stoppers c) (suc i) + x) → (cond b (past_at (near (suc i))) (open_at c (suc i) x)).past ≡ true
          → σ ≤ shorter (base c) (stoppers c) (suc i) + x
      go true f e = f tt
      go false f e = let z : ◌≡◌ {A = ℕ} 0 1 = cc in absurd (omega arith)

-- what a symbol does to the codeword that is open at place i after continuers that spell x
pub data Turn (c : Code) (σ i x y : ℕ) : Step → Type 0 where
  stops : y < stoppers c i → rank_at (base c) (stoppers c) i x y < σ → Turn c σ i x y (Rank (rank_at (base c) (stoppers c) i x y))
  stuck : y < stoppers c i → σ ≤ rank_at (base c) (stoppers c) i x y → Turn c σ i x y Bad
  goes : stoppers c i ≤ y → Turn c σ i x y (Open (state_at c σ (suc i) (x * (base c - stoppers c i) + (y - stoppers c i))))

pub turn : (c : Code) → T (good_code c) → (σ i x y : ℕ) → Turn c σ i x y (stepped c σ (state_at c σ i x) y)
turn c g σ i x y =
    elim (dec_le (stoppers c i) y) [
      | yes h ↦ rw (state_more c g σ i x y h) (goes h)
      | no h ↦
          elim (dec_le σ (rank_at (base c) (stoppers c) i x y)) [
            | yes k ↦ rw (state_stuck c g σ i x y (lt_of_not-le h) k) (stuck (lt_of_not-le h) k)
            | no k ↦ rw (state_stop c g σ i x y (lt_of_not-le h) (lt_of_not-le k)) (stops (lt_of_not-le h) (lt_of_not-le k))
          ]
    ]
