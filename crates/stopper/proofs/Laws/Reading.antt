-- The laws of reading that say what a codeword's symbols give: the rest of Laws/Reading stands in specs/.
use Rattle.std.proofs.Math.Path.{◌≡◌, refl, sym, ap, subst}
use Rattle.std.proofs.Common.{◌∙◌, lt_trans, add-one, length-append}
use mathlib.Core.List.{List, [], ◌∷◌, ◌++◌, append_assoc, append-nil}
use Prim.Native.Nat.{ℕ, zero, suc, ◌+◌, ◌-◌, ◌≤◌, ◌<◌}
use Rattle.std.proofs.Math.Nat.{add-zero, add_assoc}
use native.Mathlib.Omega.{arith}
use Rattle.std.proofs.Math.Arith.{digits_lt}
use Rattle.std.proofs.Math.ListN.{length}
use Rattle.std.proofs.Math.Seq.{drop-append_seam}
use Rattle.ground.specs.Helpers.Below.{Below, none, also}
use Rattle.ground.specs.Laws.Rows.{below_append}
use Rattle.stopper.specs.Paper.Code.{Good, IsCodeword, stop, more, opens, spell, codeword, rank_at}
use Rattle.stopper.specs.Paper.Reading.{Fault, beyond, Reading, done, bad, ahead, read_from, write}
use Rattle.stopper.specs.Helpers.First.{whole, broken, first_from, first_word}
use Rattle.stopper.specs.Laws.Code.{by_parts, spell_append, length_spell, spell_more}
use Rattle.stopper.specs.Laws.Reading.{aheads, aheads_done, read_stop, read_stuck, read_more, first_stop, first_stuck, first_more, first_spell, by_symbol, first_whole}
use Rattle.stopper.proofs.Laws.Code.{codeword_at, codeword_word}

module _ (m : ℕ) (s : ℕ → ℕ) (g : Good m s) (σ : ℕ) where
  -- ---- L6: reading gives back what was written

  -- a codeword in front
  pub first_codeword : (r : ℕ) (w : List ℕ) → r < σ → first_word m s σ (codeword m s r ++ w) ≡ whole r (length (codeword m s r))
  first_codeword r w =
      by_parts m s g (λ r. r < σ → first_word m s σ (codeword m s r ++ w) ≡ whole r (length (codeword m s r)))
      (λ i x y hx hy h.
      rw (codeword_at m s g i hx hy, spell_append, length_spell, add-one) (first_spell m s g σ i x (y ∷ w) hx ∙ first_stop m s g σ i x y w hy h)) r

  -- is read off
  read_codeword : (from r : ℕ) (w : List ℕ) → r < σ
      → read_from m s σ from 0 0 (codeword m s r ++ w) ≡ ahead r (read_from m s σ (from + length (codeword m s r)) 0 0 w)
  read_codeword from r w h = rw drop-append_seam at (first_whole m s g σ from (codeword m s r ++ w) (first_codeword r w h)).3

  -- codewords in front are read off
  pub read_front : (from : ℕ) {rs : List ℕ} → Below σ rs → (w : List ℕ)
      → read_from m s σ from 0 0 (write m s rs ++ w) ≡ aheads rs (read_from m s σ (from + length (write m s rs)) 0 0 w)
  unfolding write aheads
  read_front from none w = rw add-zero
  read_front from (also {x = r} {xs = rs} h hs) w =
      rw append_assoc (read_codeword from r (write m s rs ++ w) h)
      ∙ ap (ahead r) (read_front (from + length (codeword m s r)) hs w)
      ∙ rw (length-append, add_assoc)

  pub read_write : (from : ℕ) {rs : List ℕ} → Below σ rs → read_from m s σ from 0 0 (write m s rs) ≡ done rs
  unfolding read_from
  read_write from {rs} h = ap (read_from m s σ from 0 0) (sym (append-nil (write m s rs))) ∙ read_front from h [] ∙ aheads_done rs [] ∙ ap done (append-nil rs)

  -- ---- L6: what is read is what its ranks write, and behind them what is bad

  -- what a reading from symbol `from` on says of the row there
  unfoldable Back : ℕ → List ℕ → Reading → Type 0
  Back from w (done rs) = Below σ rs × (write m s rs ≡ w)
  Back from w (bad f p rs) = Below σ rs × (v : List ℕ) × (write m s rs ++ v ≡ w) × (from + length (write m s rs) ≡ p) × (first_word m s σ v ≡ broken f)

  back_ahead : (from r : ℕ) (w : List ℕ) (o : Reading) → r < σ → Back (from + length (codeword m s r)) w o → Back from (codeword m s r ++ w) (ahead r o)
  unfolding Back ahead write
  back_ahead from r w (done rs) h (b, e) = (also h b, rw e)
  back_ahead from r w (bad f p rs) h (b, v, e, n, k) = (also h b, v, rw (append_assoc, e), rw (length-append, ← add_assoc, n), k)

  back : (w : List ℕ) → Below m w → (from i x : ℕ) → x < opens m s i → Back from (spell m s i x w) (read_from m s σ from i x w)
  unfolding Back read_from first_from write opens spell
  back [] none from zero x hx = (none, refl)
  back [] none from (suc i) x hx = (none, spell m s (suc i) x [], refl, add-zero from, first_spell m s g σ (suc i) x [] hx)
  back (y ∷ w) (also hy hw) from i x hx =
      by_symbol m s g σ i x y
      (λ h k.
      let n : length (codeword m s (rank_at m s i x y)) ≡ suc i = rw (codeword_at m s g i hx h, length_spell, add-one) in
      let e : codeword m s (rank_at m s i x y) ++ w ≡ spell m s i x (y ∷ w) = rw (codeword_at m s g i hx h, spell_append) in
      rw (read_stop m s g σ from i x y w h k, ← e) (back_ahead from _ w _ k (rw n (back w hw (from + suc i) 0 0 (omega arith)))))
      (λ h k. rw (read_stuck m s g σ from i x y w h k) (none, spell m s i x (y ∷ w), refl, add-zero from, first_spell m s g σ i x (y ∷ w) hx ∙ first_stuck m s g σ i x y w h k))
      (λ h.
      let d : y - s i < m - s i = omega arith in
      rw (read_more m s g σ from i x y w h, ← spell_more m s i x y w h hy) (back w hw from (suc i) _ (digits_lt hx d)))

  pub write_read : {w : List ℕ} → Below m w → (from : ℕ) (rs : List ℕ) → read_from m s σ from 0 0 w ≡ done rs → Below σ rs × (write m s rs ≡ w)
  unfolding spell opens Back
  write_read {w} h from rs e = subst (Back from w) e (back w h from 0 0 (omega arith))

  -- a bad codeword: the ranks before it are the row up to its first symbol
  pub read_bad : {w : List ℕ} → Below m w → (from : ℕ) {f : Fault} {p : ℕ} {rs : List ℕ} → read_from m s σ from 0 0 w ≡ bad f p rs
      → Below σ rs × (v : List ℕ) × (write m s rs ++ v ≡ w) × (from + length (write m s rs) ≡ p) × (first_word m s σ v ≡ broken f)
  unfolding spell opens Back
  read_bad {w} h from e = subst (Back from w) e (back w h from 0 0 (omega arith))

  -- one of rank σ or more
  first_high : (w : List ℕ) → Below m w → (i x : ℕ) → x < opens m s i → first_from m s σ i x w ≡ broken beyond
      → (r : ℕ) × (v : List ℕ) × (σ ≤ r) × (codeword m s r ++ v ≡ spell m s i x w)
  unfolding first_from opens
  first_high [] none i x hx e = let z : ◌≡◌ {A = ℕ} 0 1 = cc in absurd (omega arith)
  first_high (y ∷ w) (also hy hw) i x hx e =
      by_symbol m s g σ i x y
      (λ a b. let f = sym (first_stop m s g σ i x y w a b) ∙ e in let z : ◌≡◌ {A = ℕ} 0 1 = cc in absurd (omega arith))
      (λ a b. (rank_at m s i x y, w, b, rw (codeword_at m s g i hx a, spell_append)))
      (λ a.
      let d : y - s i < m - s i = omega arith in
      rw (← spell_more m s i x y w a hy) (first_high w hw (suc i) _ (digits_lt hx d) (sym (first_more m s g σ i x y w a) ∙ e)))

  pub beyond_word : {w : List ℕ} → Below m w → first_word m s σ w ≡ broken beyond → (r : ℕ) × (v : List ℕ) × (σ ≤ r) × (codeword m s r ++ v ≡ w)
  unfolding first_word spell opens
  beyond_word {w} h e = first_high w h 0 0 (omega arith) e

-- what is written is symbols
module _ (m : ℕ) (s : ℕ → ℕ) (g : Good m s) where
  word_below : {i : ℕ} {w : List ℕ} → IsCodeword m s i w → Below m w
  word_below {i} (stop h) = also (lt_trans h (g.high i)) none
  word_below (more a b h) = also b (word_below h)

  pub write_below : (rs : List ℕ) → Below m (write m s rs)
  unfolding write
  write_below [] = none
  write_below (r ∷ rs) = below_append (word_below (codeword_word m s g r)) (write_below rs)
