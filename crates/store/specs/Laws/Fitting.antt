-- The first character whose codeword does not fit.
use Rattle.std.specs.Prelude.{◌≡◌, ◌↔◌, List, [], ◌∷◌, ◌++◌, ℕ, suc, ◌+◌, ◌-◌, ◌≤◌, ◌<◌, length, take}
use Rattle.std.proofs.Math.Path.{refl}
use Rattle.std.proofs.Common.{sym, ap, ◌∙◌, le_of_suc-le-suc, le_antisymm, lt_of_not-le, zero-add, suc-add, arith, le-leb}
use Rattle.std.proofs.Math.Nat.{sub-zero}
use Rattle.std.proofs.Math.Decide.{dec_le}
use Rattle.std.proofs.lemmas.Bool.{lt-leb}
use Rattle.std.proofs.Math.Seq.{take-length}
use Rattle.stopper.specs.Paper.Table.{length_of, rank_in}
use Rattle.stopper.specs.declared.code.Code.{Code}
use Rattle.sound.specs.Paper.Roll.{text_row}
use Rattle.sound.specs.Laws.Texts.{length_cons, length_up, length_none}
use Rattle.store.specs.Paper.Fitting.{first_over}

module _ (c : Code) (l : List ℕ) where
  over_none : (room : ℕ) → first_over c l room [] ≡ 0
  unfolding first_over
  over_none room = refl

  over_here : (room b : ℕ) (text : List ℕ) → room < length_of c (rank_in l b) → first_over c l room (b ∷ text) ≡ 0
  unfolding first_over
  over_here room b text h = rw (lt-leb _ _ h)

  over_later : (room b : ℕ) (text : List ℕ) → length_of c (rank_in l b) ≤ room
      → first_over c l room (b ∷ text) ≡ suc (first_over c l (room - length_of c (rank_in l b)) text)
  unfolding first_over
  over_later room b text h = rw (le-leb _ _ h)

  pub over_within : (room : ℕ) (text : List ℕ) → first_over c l room text ≤ length text
  over_within room [] = rw (over_none room) (omega arith)
  over_within room (b ∷ text) =
      elim (dec_le (length_of c (rank_in l b)) room) [
        | yes h ↦ rw (over_later room b text h) (omega (arith, over_within (room - length_of c (rank_in l b)) text))
        | no h ↦ rw (over_here room b text (lt_of_not-le h)) (omega arith)
      ]

  -- those before it fit together
  pub over_fits : (room : ℕ) (text : List ℕ) → length (text_row c l (take (first_over c l room text) text)) ≤ room
  over_fits room [] = rw (over_none room) (omega (arith, length_none c l))
  over_fits room (b ∷ text) =
      elim (dec_le (length_of c (rank_in l b)) room) [
        | yes h ↦
            let room' : ℕ = room - length_of c (rank_in l b) in
            rw (over_later room b text h) (omega (arith, over_fits room' text, length_cons c l b (take (first_over c l room' text) text)))
        | no h ↦ rw (over_here room b text (lt_of_not-le h)) (omega (arith, length_none c l))
      ]

  -- and with it they do not
  pub over_exceeds : (room : ℕ) (text : List ℕ) → first_over c l room text < length text
      → room < length (text_row c l (take (suc (first_over c l room text)) text))
  over_exceeds room [] h = absurd (omega arith)
  over_exceeds room (b ∷ text) h =
      elim (dec_le (length_of c (rank_in l b)) room) [
        | yes k ↦
            let room' : ℕ = room - length_of c (rank_in l b) in
            let e = over_later room b text k in
            rw e (omega (arith, over_exceeds room' text (le_of_suc-le-suc (rw e at h)), length_cons c l b (take (suc (first_over c l room' text)) text)))
        | no k ↦ rw (over_here room b text (lt_of_not-le k)) (omega (arith, lt_of_not-le k, length_cons c l b []))
      ]

  -- of two texts: the first decides if it does not fit, else the second does
  pub over_front : (room : ℕ) (a b : List ℕ) → first_over c l room a < length a → first_over c l room (a ++ b) ≡ first_over c l room a
  over_front room [] b h = absurd (omega arith)
  over_front room (x ∷ a) b h =
      elim (dec_le (length_of c (rank_in l x)) room) [
        | yes k ↦
            let e = over_later room x a k in
            over_later room x (a ++ b) k ∙ ap suc (over_front (room - length_of c (rank_in l x)) a b (le_of_suc-le-suc (rw e at h))) ∙ sym e
        | no k ↦ over_here room x (a ++ b) (lt_of_not-le k) ∙ sym (over_here room x a (lt_of_not-le k))
      ]

  pub over_behind : (room : ℕ) (a b : List ℕ) → length (text_row c l a) ≤ room
      → first_over c l room (a ++ b) ≡ length a + first_over c l (room - length (text_row c l a)) b
  over_behind room [] b h = rw (length_none c l, sub-zero, zero-add)
  over_behind room (x ∷ a) b h =
      let n : ℕ = length_of c (rank_in l x) in
      let e = length_cons c l x a in
      let left : (room - n) - length (text_row c l a) ≡ room - length (text_row c l (x ∷ a)) = omega arith in
      over_later room x (a ++ b) (omega arith)
      ∙ ap suc (over_behind (room - n) a b (omega arith))
      ∙ ap (λ (m : ℕ). suc (length a + first_over c l m b)) left
      ∙ sym (suc-add (length a) (first_over c l (room - length (text_row c l (x ∷ a))) b))

  module _ (room : ℕ) (text : List ℕ) where
    -- as many characters as it numbers fit, and no more
    pub fits_over : (i : ℕ) → i ≤ length text → length (text_row c l (take i text)) ≤ room ↔ i ≤ first_over c l room text
    fits_over i h = (
      λ k.
          elim (dec_le i (first_over c l room text)) [
            | yes p ↦ p
            | no p ↦
                omega (arith, over_exceeds room text (omega (arith, lt_of_not-le p)), length_up c l text (suc (first_over c l room text)) i (lt_of_not-le p))
          ],
      λ k. omega (arith, over_fits room text, length_up c l text i (first_over c l room text) k),
    )

    -- no other number is so
    pub over_one : (i : ℕ) → i ≤ length text → length (text_row c l (take i text)) ≤ room
        → (i < length text → room < length (text_row c l (take (suc i) text))) → i ≡ first_over c l room text
    over_one i h k n =
        le_antisymm ((fits_over i h).0 k) (
        elim (dec_le (first_over c l room text) i) [
          | yes p ↦ p
          | no p ↦
              omega (arith, n (omega (arith, lt_of_not-le p, over_within room text)), over_fits room text, length_up c l text (suc i) (first_over c l room text) (lt_of_not-le p))
        ])

    -- all fit exactly if it is the text's length
    pub over_all : (first_over c l room text ≡ length text) ↔ length (text_row c l text) ≤ room
    over_all =
        let all : length (text_row c l (take (length text) text)) ≡ length (text_row c l text) = rw take-length in (
          λ e. omega (arith, all, (fits_over (length text) (omega arith)).1 (omega arith)),
          λ h. le_antisymm (over_within room text) ((fits_over (length text) (omega arith)).0 (omega arith)),
        )
