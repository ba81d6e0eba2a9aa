-- The laws of reading.
use Rattle.std.proofs.Math.Path.{◌≡◌, refl, sym, ap, subst}
use Rattle.std.proofs.Common.{◌∙◌, le_trans, add-suc, suc-add, ltb→lt, nltb→le, length-append}
use mathlib.Core.List.{List, [], ◌∷◌, ◌++◌, append_assoc}
use Prim.Native.Nat.{ℕ, zero, suc, ◌+◌, ◌-◌, ◌*◌, ◌≤◌, ◌<◌}
use Rattle.std.proofs.Math.Nat.{mul-le-mul, le-mul_of_pos_right, add-zero, zero-add, sub-zero}
use native.Mathlib.Omega.{arith}
use Rattle.std.proofs.Math.Facts.{yes_ltb, no_ltb}
use Rattle.std.specs.Prelude.{ltb, take, drop, get_or}
use Rattle.std.proofs.Math.ListN.{length}
use Rattle.std.proofs.Math.Seq.{drop-append-add}
use Rattle.ground.specs.Laws.Tests.{cond_yes, cond_no, by_test}
use Rattle.stopper.specs.Paper.Code.{Good, opens, shorter, spell, rank_at}
use Rattle.stopper.specs.Paper.Reading.{Fault, unfinished, beyond, Reading, done, bad, ahead, read_from, write}
use Rattle.stopper.specs.Helpers.First.{First, whole, broken, first_from, first_word}
use Rattle.stopper.specs.Laws.Code.{conts_pos, through}

unfoldable pub aheads : List ℕ → Reading → Reading
aheads [] o = o
aheads (r ∷ rs) o = ahead r (aheads rs o)

pub aheads_done : (rs ts : List ℕ) → aheads rs (done ts) ≡ done (rs ++ ts)
unfolding aheads ahead
aheads_done [] ts = refl
aheads_done (r ∷ rs) ts = ap (ahead r) (aheads_done rs ts)

pub ahead_done : (r : ℕ) (o : Reading) (rs : List ℕ) → ahead r o ≡ done rs → (ts : List ℕ) × (o ≡ done ts) × (r ∷ ts ≡ rs)
unfolding ahead
ahead_done r (done ts) rs e = (ts, refl, cc)
ahead_done r (bad f p ts) rs e = let z : ◌≡◌ {A = ℕ} 0 1 = cc in absurd (omega arith)

-- codewords written one after the other: those of two rows of ranks, and those from codeword j on
module _ (m : ℕ) (s : ℕ → ℕ) where
  pub write_append : (rs ts : List ℕ) → write m s (rs ++ ts) ≡ write m s rs ++ write m s ts
  unfolding write
  write_append [] ts = refl
  write_append (r ∷ rs) ts = rw (write_append rs ts, append_assoc)

  pub drop_write : (rs : List ℕ) (j : ℕ) → drop (length (write m s (take j rs))) (write m s rs) ≡ write m s (drop j rs)
  unfolding write
  drop_write rs zero = refl
  drop_write [] (suc j) = refl
  drop_write (r ∷ rs) (suc j) = rw (length-append, drop-append-add) (drop_write rs j)

-- ---- a symbol, place by place

module _ (m : ℕ) (s : ℕ → ℕ) (g : Good m s) (σ : ℕ) where
  pub read_stop : (from i x y : ℕ) (w : List ℕ) → y < s i → rank_at m s i x y < σ
      → read_from m s σ from i x (y ∷ w) ≡ ahead (rank_at m s i x y) (read_from m s σ (from + suc i) 0 0 w)
  unfolding read_from
  read_stop from i x y w h k = cond_yes (ltb y (s i)) _ _ (yes_ltb h) ∙ cond_yes (ltb (rank_at m s i x y) σ) _ _ (yes_ltb k)

  pub read_stuck : (from i x y : ℕ) (w : List ℕ) → y < s i → σ ≤ rank_at m s i x y → read_from m s σ from i x (y ∷ w) ≡ bad beyond from []
  unfolding read_from
  read_stuck from i x y w h k = cond_yes (ltb y (s i)) _ _ (yes_ltb h) ∙ cond_no (ltb (rank_at m s i x y) σ) _ _ (no_ltb k)

  pub read_more : (from i x y : ℕ) (w : List ℕ) → s i ≤ y
      → read_from m s σ from i x (y ∷ w) ≡ read_from m s σ from (suc i) (x * (m - s i) + (y - s i)) w
  unfolding read_from
  read_more from i x y w h = cond_no (ltb y (s i)) _ _ (no_ltb h)

  pub first_stop : (i x y : ℕ) (w : List ℕ) → y < s i → rank_at m s i x y < σ → first_from m s σ i x (y ∷ w) ≡ whole (rank_at m s i x y) (suc i)
  unfolding first_from
  first_stop i x y w h k = cond_yes (ltb y (s i)) _ _ (yes_ltb h) ∙ cond_yes (ltb (rank_at m s i x y) σ) _ _ (yes_ltb k)

  pub first_stuck : (i x y : ℕ) (w : List ℕ) → y < s i → σ ≤ rank_at m s i x y → first_from m s σ i x (y ∷ w) ≡ broken beyond
  unfolding first_from
  first_stuck i x y w h k = cond_yes (ltb y (s i)) _ _ (yes_ltb h) ∙ cond_no (ltb (rank_at m s i x y) σ) _ _ (no_ltb k)

  pub first_more : (i x y : ℕ) (w : List ℕ) → s i ≤ y → first_from m s σ i x (y ∷ w) ≡ first_from m s σ (suc i) (x * (m - s i) + (y - s i)) w
  unfolding first_from
  first_more i x y w h = cond_no (ltb y (s i)) _ _ (no_ltb h)

  -- what stands first is what stands behind the continuers read
  pub first_spell : (i x : ℕ) (w : List ℕ) → x < opens m s i → first_word m s σ (spell m s i x w) ≡ first_from m s σ i x w
  unfolding first_word
  first_spell = through m s g (first_from m s σ) (λ i x y w a _. first_more i x y w a)

  -- by what a symbol is at place i, after continuers that spell x: the stopper of a rank below σ, that of another, a continuer
  pub by_symbol {ℓ} : {X : Type ℓ} (i x y : ℕ) → (y < s i → rank_at m s i x y < σ → X) → (y < s i → σ ≤ rank_at m s i x y → X) → (s i ≤ y → X) → X
  by_symbol i x y a b c =
      by_test (ltb y (s i))
      (λ t. by_test (ltb (rank_at m s i x y) σ) (λ u. a (ltb→lt _ _ t) (ltb→lt _ _ u)) (λ u. b (ltb→lt _ _ t) (nltb→le _ _ u)))
      (λ t. c (nltb→le _ _ t))

  -- the rank of an open codeword is at least `shorter i + x`, which never falls: once it is σ or more, the codeword is bad whatever follows
  pub rank_least : (i x y : ℕ) → shorter m s i + x ≤ rank_at m s i x y
  unfolding rank_at
  rank_least i x y = omega (arith, le-mul_of_pos_right x (g.low i))

  pub least_grows : (i x d : ℕ) → shorter m s i + x ≤ shorter m s (suc i) + (x * (m - s i) + d)
  unfolding shorter
  least_grows i x d = omega (arith, le-mul_of_pos_right x (conts_pos m s g i))

  pub first_past : (w : List ℕ) (i x : ℕ) → σ ≤ shorter m s i + x → (f : Fault) × (first_from m s σ i x w ≡ broken f)
  unfolding first_from
  first_past [] i x h = (unfinished, refl)
  first_past (y ∷ w) i x h =
      by_test (ltb y (s i))
      (λ t. (beyond, first_stuck i x y w (ltb→lt _ _ t) (le_trans h (rank_least i x y))))
      (λ t.
      let (f, e) = first_past w (suc i) _ (le_trans h (least_grows i x (y - s i))) in
      (f, first_more i x y w (nltb→le _ _ t) ∙ e))

  -- and up to there all numbers are small
  pub opens_le : (i : ℕ) → opens m s (suc i) ≤ shorter m s (suc i) * m
  unfolding opens shorter
  opens_le i = mul-le-mul (omega (arith, le-mul_of_pos_right (opens m s i) (g.low i))) (omega arith)

  -- ---- what stands first is read off, or met

  -- what stands first at place i says of the reading from there
  unfoldable Met : ℕ → ℕ → ℕ → List ℕ → First → Type 0
  Met from i x w (whole r n) = (r < σ) × (i < n) × (n ≤ i + length w) × (read_from m s σ from i x w ≡ ahead r (read_from m s σ (from + n) 0 0 (drop (n - i) w)))
  Met from i x w (broken f) = 0 < i + length w → read_from m s σ from i x w ≡ bad f from []

  met_more : (from i x y : ℕ) (w : List ℕ) (f : First) → s i ≤ y → Met from (suc i) (x * (m - s i) + (y - s i)) w f → Met from i x (y ∷ w) f
  unfolding Met
  met_more from i x y w (whole r n) h (k, some, upto, reads) =
      let o : n - i ≡ suc (n - suc i) = omega arith in
      (k, omega arith, omega arith, rw o (read_more from i x y w h ∙ reads))
  met_more from i x y w (broken f) h later = λ _. read_more from i x y w h ∙ later (omega arith)

  met : (w : List ℕ) (from i x : ℕ) → Met from i x w (first_from m s σ i x w)
  unfolding Met first_from read_from
  met [] from zero x = λ h. absurd (omega arith)
  met [] from (suc i) x = λ h. refl
  met (y ∷ w) from i x =
      by_symbol i x y
      (λ h k.
      let o : suc i - i ≡ 1 = omega arith in
      rw (first_stop i x y w h k) (k, omega arith, omega arith, rw o (read_stop from i x y w h k)))
      (λ h k. rw (first_stuck i x y w h k) (λ _. read_stuck from i x y w h k))
      (λ h.
      let next : ℕ = x * (m - s i) + (y - s i) in
      rw (first_more i x y w h) (met_more from i x y w (first_from m s σ (suc i) next w) h (met w from (suc i) next)))

  -- a codeword that has reached σ is bad whatever follows
  pub read_past : (from i x : ℕ) (w : List ℕ) → σ ≤ shorter m s (suc i) + x → (f : Fault) × (read_from m s σ from (suc i) x w ≡ bad f from [])
  unfolding Met
  read_past from i x w h = let (f, e) = first_past w (suc i) x h in (f, subst (Met from (suc i) x w) e (met w from (suc i) x) (omega arith))

  pub first_whole : (from : ℕ) (w : List ℕ) {r n : ℕ} → first_word m s σ w ≡ whole r n
      → (r < σ) × (0 < n) × (n ≤ length w) × (read_from m s σ from 0 0 w ≡ ahead r (read_from m s σ (from + n) 0 0 (drop n w)))
  unfolding first_word Met
  first_whole from w e = let (k, some, upto, reads) = subst (Met from 0 0 w) e (met w from 0 0) in (k, some, omega arith, rw sub-zero at reads)

  pub first_broken : (from : ℕ) (w : List ℕ) {f : Fault} → first_word m s σ w ≡ broken f → 0 < length w → read_from m s σ from 0 0 w ≡ bad f from []
  unfolding first_word Met
  first_broken from w e h = subst (Met from 0 0 w) e (met w from 0 0) (omega arith)

  -- an unfinished one: each symbol is a continuer at its place
  first_open : (w : List ℕ) (i x : ℕ) → first_from m s σ i x w ≡ broken unfinished → (j : ℕ) → j < length w → s (i + j) ≤ get_or w j 0
  first_open [] i x e j h = absurd (omega arith)
  first_open (y ∷ w) i x e j h =
      by_symbol i x y
      (λ a b. let f = sym (first_stop i x y w a b) ∙ e in let z : ◌≡◌ {A = ℕ} 0 1 = cc in absurd (omega arith))
      (λ a b. let f = sym (first_stuck i x y w a b) ∙ e in let z : ◌≡◌ {A = ℕ} 0 1 = cc in absurd (omega arith))
      (λ a. at j h (first_open w (suc i) _ (sym (first_more i x y w a) ∙ e)) a)
    where
      at : (j : ℕ) → j < length (y ∷ w) → ((j : ℕ) → j < length w → s (suc i + j) ≤ get_or w j 0) → s i ≤ y → s (i + j) ≤ get_or (y ∷ w) j 0
      at zero h later a = rw add-zero a
      at (suc j) h later a = rw (add-suc, ← suc-add) (later j (omega arith))

  pub unfinished_open : (w : List ℕ) → first_word m s σ w ≡ broken unfinished → (j : ℕ) → j < length w → s j ≤ get_or w j 0
  unfolding first_word
  unfinished_open w e j h = rw zero-add at (first_open w 0 0 e j h)
