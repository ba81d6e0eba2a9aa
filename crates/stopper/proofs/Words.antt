-- A row of symbols that should be one codeword, by what is seen of it.
use mathlib.Core.Path.{◌≡◌, refl, sym, ap, ◌∙◌}
use mathlib.Core.Bool.{Bool, true, false, cond, ◌&&◌}
use mathlib.Core.List.{List, ◌∷◌}
use Prim.Native.Nat.{ℕ, suc, ◌+◌, ◌≤◌, ◌<◌}
use native.Mathlib.Numerals.{add-one}
use native.Mathlib.Decide.{dec_lt}
use native.Mathlib.Omega.{arith}
use borrow.Author.Tests.{lt-ltb, le-ltb}
use lib.Dec.{T, ltb}
use lib.ListN.{length, drop, get_or, drop_of_length-le}
use lib.Seq.{drop-cons}
use Rattle.std.specs.Prelude.{Option, Some, None}
use Rattle.stopper.specs.Paper.Code.{spell, rank_at, rank_from, rank_of, is_word}
use Rattle.stopper.specs.Paper.Table.{base, stoppers, good_code}
use Rattle.stopper.specs.Paper.Operations.{is_one}
use Rattle.stopper.specs.Helpers.State.{stepped}
use Rattle.stopper.specs.Helpers.Answers.{ranked_as, if_last}
use Rattle.stopper.specs.Laws.Code.{through, rank_stop, rank_more, word_stop, word_last, word_more, word_big}
use Rattle.stopper.specs.Laws.Table.{code_good}
use Rattle.stopper.specs.Laws.State.{Turn, stops, stuck}
use Rattle.stopper.specs.Laws.Seen.{Seen, seen_row, seen_turn}
use Rattle.stopper.specs.declared.code.Code.{Code}
use Rattle.stopper.specs.declared.reading.Reader.{Reader}
use Rattle.stopper.specs.declared.reading.Step.TheVariants.{Rank, Bad}

module _ (c : Code) (g : T (good_code c)) (σ : ℕ) (w : List ℕ) where
  no_word : is_word (base c) (stoppers c) 0 w ≡ false → None ≡ ranked_as c σ w
  unfolding ranked_as is_one
  no_word e = rw e

  high : σ ≤ rank_of (base c) (stoppers c) w → None ≡ ranked_as c σ w
  unfolding ranked_as is_one
  high h = rw (le-ltb _ _ h) (go (is_word (base c) (stoppers c) 0 w))
    where
      go : (b : Bool) → None ≡ cond (b && false) (Some (rank_of (base c) (stoppers c) w)) None
      go true = refl
      go false = refl

  one : is_word (base c) (stoppers c) 0 w ≡ true → rank_of (base c) (stoppers c) w < σ → Some (rank_of (base c) (stoppers c) w) ≡ ranked_as c σ w
  unfolding ranked_as is_one
  one p h = rw (p, lt-ltb _ _ h)

  module _ {i : ℕ} {r : Reader} (s : Seen c σ w i r) where
    -- what is left decides
    is_word_lem : (v : List ℕ) → spell (base c) (stoppers c) i s.x v ≡ w → is_word (base c) (stoppers c) 0 w ≡ is_word (base c) (stoppers c) i v
    is_word_lem v e =
        ap (is_word (base c) (stoppers c) 0) (sym e)
        ∙ through (base c) (stoppers c) (code_good c g) (λ i _ v. is_word (base c) (stoppers c) i v) (λ i _ y v. word_more (base c) (stoppers c) i y v) i s.x v s.value

    pub ended : length w ≤ i → None ≡ ranked_as c σ w
    unfolding is_word
    ended h = no_word (is_word_lem (drop i w) s.row ∙ rw (drop_of_length-le w h))

    module _ (h : i < length w) {y : ℕ} (e : get_or w i 0 ≡ y) where
      word_now : is_word (base c) (stoppers c) 0 w ≡ is_word (base c) (stoppers c) i (y ∷ drop (suc i) w)
      word_now = is_word_lem (y ∷ drop (suc i) w) (seen_row c g σ w s h e)

      -- the rank, if this symbol is the stopper
      rank_now : y < stoppers c i → rank_of (base c) (stoppers c) w ≡ rank_at (base c) (stoppers c) i s.x y
      unfolding rank_of
      rank_now a =
          ap (rank_of (base c) (stoppers c)) (sym (seen_row c g σ w s h e))
          ∙ through (base c) (stoppers c) (code_good c g) (rank_from (base c) (stoppers c)) (λ i x y v b _. rank_more (base c) (stoppers c) (code_good c g) i x y v b) i s.x _ s.value
          ∙ rank_stop (base c) (stoppers c) (code_good c g) i s.x y (drop (suc i) w) a

      -- no symbol is 2 ^ k or more
      pub too_big : base c ≤ y → None ≡ ranked_as c σ w
      too_big k = no_word (word_now ∙ word_big (base c) (stoppers c) i y (drop (suc i) w) ((code_good c g).high i) k)

      pub is_bad_lem : Bad ≡ stepped c σ r y → None ≡ ranked_as c σ w
      is_bad_lem q = go (seen_turn c g σ w s h e q)
        where
          go : Turn c σ i s.x y Bad → None ≡ ranked_as c σ w
          go (stuck a b) = high (rw (rank_now a) b)

      stop_early : y < stoppers c i → suc i < length w → None ≡ ranked_as c σ w
      stop_early a l = no_word (word_now ∙ rw (drop-cons w (suc i) 0 l) (word_stop (base c) (stoppers c) i y _ _ a))

      stop_last : y < stoppers c i → length w ≤ suc i → is_word (base c) (stoppers c) 0 w ≡ true
      stop_last a l = word_now ∙ rw (drop_of_length-le w l) (word_last (base c) (stoppers c) i y a)

      pub is_rank : {k : ℕ} → Rank k ≡ stepped c σ r y → (n : ℕ) → n ≡ length w → if_last k (i + 1) n ≡ ranked_as c σ w
      unfolding if_last
      is_rank {k} q n l = rw (l, add-one) (go (seen_turn c g σ w s h e q))
        where
          go : {k : ℕ} → Turn c σ i s.x y (Rank k) → cond (ltb (suc i) (length w)) None (Some k) ≡ ranked_as c σ w
          go (stops a b) =
              elim (dec_lt (suc i) (length w)) [
                | yes l ↦ rw (lt-ltb _ _ l) (stop_early a l)
                | no l ↦
                    let l' : length w ≤ suc i = omega arith in
                    rw (le-ltb _ _ l') (ap {B = Option ℕ} (λ (z : ℕ). Some z) (sym (rank_now a)) ∙ one (stop_last a l') (rw (rank_now a) b))
              ]
