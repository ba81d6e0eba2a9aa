-- The borders of the lengths: where all places are alike, and behind a place from which on they are.
use mathlib.Core.Path.{◌≡◌, refl, sym, ap, ap₂, ◌∙◌}
use mathlib.Core.Logic.{◌⊎◌, inl, inr}
use Prim.Native.Nat.{ℕ, zero, suc, ◌+◌, ◌-◌, ◌*◌, ◌/◌, ◌≤◌, ◌<◌}
use native.Mathlib.Nat.{add-zero, zero-add, add-suc, add-sub_cancel_left, mul-one, zero-mul, one-mul, mul-le-mul, mul-le-mul_left, le_trans, div-mul-le_self, lt-div-mul-add, div-lt_iff_lt-mul}
use native.Mathlib.Omega.{arith}
use Rattle.stopper.specs.Paper.Code.{Within, opens, shorter}
use Rattle.stopper.specs.Laws.Code.{shorter_ge}

-- where each place has `one` stoppers and c continuers: `low` codewords have at most i symbols, and `many` have one more
pub record At (one c i low many : ℕ) : Type 0 where
  pub shorter_is : low ≡ shorter (one + c) (λ _. one) i
  pub many_is : many ≡ opens (one + c) (λ _. one) i * one

module _ {one c : ℕ} where
  pub start : At one c 0 0 one
  unfolding opens shorter
  start = record { shorter_is = refl; many_is = sym (one-mul one) }

  -- each length has c times as many as the one before
  pub next : {i low many : ℕ} → At one c i low many → At one c (suc i) (low + many) (many * c)
  unfolding opens shorter
  next {i} a = record {
    shorter_is = ap₂ (λ (x y : ℕ). x + y) a.shorter_is a.many_is;
    many_is = rw add-sub_cancel_left (omega (arith, ap (λ (n : ℕ). n * c) a.many_is));
  }

  pub first : At one c 1 one (one * c)
  first = rw zero-add at (next start)

  pub within : {r i low many : ℕ} → At one c i low many → low ≤ r → r < low + many → Within (one + c) (λ _. one) r i
  unfolding shorter
  within a l h = record { above = omega (arith, a.shorter_is); below = omega (arith, a.shorter_is, a.many_is) }

  -- each length has a codeword
  pub place_le : 0 < one → 0 < c → {r i : ℕ} → Within (one + c) (λ _. one) r i → i ≤ r
  place_le p q {i = i} w = le_trans (shorter_ge (one + c) (λ _. one) (record { low = λ _. p; high = λ _. omega arith }) i) w.above

  -- where c is 1 all lengths have as many
  same : c ≡ 1 → {i low many : ℕ} → At one c i low many → (x : ℕ) → At one c (i + x) (low + x * many) many
  same e {i} {low} {many} a zero = rw (add-zero, zero-mul, add-zero) a
  same e {i} {low} {many} a (suc x) =
      let b : At one c (suc (i + x)) (low + x * many + many) (many * c) = next (same e a x) in
      let n : low + x * many + many ≡ low + suc x * many = omega arith in
      let m : many * c ≡ many = ap (λ (k : ℕ). many * k) e ∙ mul-one many in
      rw (m, n, ← add-suc) at b

  -- x lengths of `many` behind a border: c is 1, or there is one at most
  pub lengths : {i low many : ℕ} → At one c i low many → 0 < many → 0 < c → {r : ℕ} → low ≤ r → ((c ≡ 1) ⊎ (r < low + (many + many)))
      → let x : ℕ = (r - low) / many in Within (one + c) (λ _. one) r (i + x) × (low + x * many ≡ shorter (one + c) (λ _. one) (i + x))
  lengths {i} {low} {many} a p k {r} l (inl e) =
      let x : ℕ = (r - low) / many in
      let b : At one c (i + x) (low + x * many) many = same e a x in
      (within b (omega (arith, div-mul-le_self (r - low) many)) (omega (arith, lt-div-mul-add {a = r - low} p)), b.shorter_is)
  lengths {i} {low} {many} a p k {r} l (inr h) = go ((r - low) / many) ((div-lt_iff_lt-mul {x = r - low} {y = 2} p).1 (omega arith)) (div-mul-le_self (r - low) many) (lt-div-mul-add {a = r - low} p)
    where
      go : (x : ℕ) → x < 2 → x * many ≤ r - low → r - low < x * many + many
          → Within (one + c) (λ _. one) r (i + x) × (low + x * many ≡ shorter (one + c) (λ _. one) (i + x))
      go zero t u v =
          let b : At one c (i + 0) (low + 0 * many) many = rw (add-zero, zero-mul, add-zero) a in
          (within b (omega arith) (omega arith), b.shorter_is)
      go (suc zero) t u v =
          let n : low + many ≡ low + 1 * many = omega arith in
          let j : suc i ≡ i + 1 = omega arith in
          let b : At one c (i + 1) (low + 1 * many) (many * c) = rw (n, j) at (next a) in
          (within b (omega arith) (omega (arith, mul-le-mul_left many k)), b.shorter_is)
      go (suc (suc x)) t u v = absurd (omega arith)

-- of four base symbols or more, if c is not 1, eight codewords or more have three symbols
eight : (one c : ℕ) → 0 < one → 2 ≤ c → 4 ≤ one + c → 8 ≤ one * c * c
eight zero c p h k = absurd (omega arith)
eight (suc zero) c p h k = le_trans (omega arith) (mul-le-mul {n₁ = 3} {m₁ = 3} {n₂ = 1 * c} {m₂ = c} (omega arith) (omega arith))
eight (suc (suc o)) c p h k = mul-le-mul {n₁ = 4} {m₁ = 2} {n₂ = suc (suc o) * c} {m₂ = c} (mul-le-mul {n₁ = 2} {m₁ = 2} {n₂ = suc (suc o)} {m₂ = c} (omega arith) h) h

-- and 128 or more have seven: two such lengths pass all ranks below 256
pub wide : {one c : ℕ} → 0 < one → 2 ≤ c → 4 ≤ one + c → 128 ≤ one * c * c * c * c * c * c
wide {one} {c} p h k =
    let twice : (n : ℕ) → n + n ≤ n * c = λ n. omega (arith, mul-le-mul_left n h) in
    omega (arith, eight one c p h k, twice (one * c * c), twice (one * c * c * c), twice (one * c * c * c * c), twice (one * c * c * c * c * c))

-- ---- where all places from n on are alike, what is behind them is a code of its own: `one` codewords of n + 1 symbols, and c times as many each
-- symbol more

module _ (m : ℕ) (st : ℕ → ℕ) (n u one c : ℕ) (alike : (j : ℕ) → st (n + j) ≡ u) (o : one ≡ opens m st n * u) (e : c ≡ m - u) where
  opens_later : (j : ℕ) → opens m st (n + j) * u ≡ opens (one + c) (λ _. one) j * one
  unfolding opens
  opens_later zero = rw add-zero (sym o ∙ sym (one-mul one))
  opens_later (suc j) =
      let p : opens m st (n + suc j) ≡ opens m st (n + j) * (m - u) = rw (add-suc, alike j) in
      rw (p, add-sub_cancel_left, ← e) (omega (arith, ap (λ (x : ℕ). x * c) (opens_later j)))

  pub shorter_later : (j : ℕ) → shorter m st (n + j) ≡ shorter m st n + shorter (one + c) (λ _. one) j
  unfolding shorter
  shorter_later zero = rw (add-zero, add-zero)
  shorter_later (suc j) = rw (add-suc, alike j, shorter_later j, opens_later j) (omega arith)

  pub within_later : {r q j : ℕ} → r ≡ shorter m st n + q → Within (one + c) (λ _. one) q j → Within m st r (n + j)
  within_later {j = j} h w = record {
    above = omega (arith, shorter_later j, w.above);
    below = rw (← add-suc) (omega (arith, shorter_later (suc j), w.below));
  }
