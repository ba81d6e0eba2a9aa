-- Reading the codeword that stands first in a row, symbol by symbol: what is known of the state when i symbols are read.
use Rattle.std.specs.Prelude.{◌≡◌, refl, true, List, ◌∷◌, ℕ, suc, ◌+◌, ◌-◌, ◌*◌, ◌≤◌, ◌<◌, T, length, drop, get_or}
use Rattle.std.proofs.Common.{sym, ap, subst, ◌∙◌, add-one, drop_of_length-le, drop-cons}
use native.Mathlib.Omega.{arith}
use Rattle.std.proofs.Math.Arith.{digits_lt}
use Rattle.stopper.specs.Paper.Code.{opens, spell}
use Rattle.stopper.specs.Paper.Table.{base, stoppers, good_code}
use Rattle.stopper.specs.Paper.Reading.{Fault, unfinished, beyond}
use Rattle.stopper.specs.Helpers.State.{Small, opened, state_at, stepped}
use Rattle.stopper.specs.Helpers.First.{whole, broken, first_from, first_word}
use Rattle.stopper.specs.Laws.Code.{spell_more}
use Rattle.stopper.specs.Laws.Table.{code_good}
use Rattle.stopper.specs.Laws.State.{Turn, stops, stuck, goes, turn, state_opened, state_past, state_small}
use Rattle.stopper.specs.Laws.Reading.{first_stop, first_stuck, first_spell, first_past}
use Rattle.stopper.specs.declared.code.Code.{Code}
use Rattle.stopper.specs.declared.reading.Reader.{Reader}
use Rattle.stopper.specs.declared.reading.Step.{Step}
use Rattle.stopper.specs.declared.reading.Step.TheVariants.{Rank, Bad, Open}

-- they are continuers, that spell x
pub record Seen (c : Code) (σ : ℕ) (w : List ℕ) (i : ℕ) (r : Reader) : Type 0 where
  pub x : ℕ
  pub value : x < opens (base c) (stoppers c) i
  pub row : spell (base c) (stoppers c) i x (drop i w) ≡ w
  pub state : r ≡ state_at c σ i x

pub seen_none : (c : Code) (σ : ℕ) (w : List ℕ) → Seen c σ w 0 opened
unfolding spell opens
seen_none c σ w = record { x = 0; value = omega arith; row = refl; state = state_opened c σ }

module _ (c : Code) (g : T (good_code c)) (σ : ℕ) (w : List ℕ) {i : ℕ} {r : Reader} (s : Seen c σ w i r) where
  pub seen_small : σ ≤ 256 → Small r
  seen_small few = rw s.state (state_small c g σ few i s.x s.value)

  -- what is left decides
  seen_first : first_word (base c) (stoppers c) σ w ≡ first_from (base c) (stoppers c) σ i s.x (drop i w)
  seen_first = ap (first_word (base c) (stoppers c) σ) (sym s.row) ∙ first_spell (base c) (stoppers c) (code_good c g) σ i s.x (drop i w) s.value

  -- none is left
  pub seen_all : length w ≤ i → first_word (base c) (stoppers c) σ w ≡ broken unfinished
  unfolding first_from
  seen_all h = seen_first ∙ rw (drop_of_length-le w h)

  -- past σ it is bad, whatever follows
  pub seen_past : r.past ≡ true → (f : Fault) × (first_word (base c) (stoppers c) σ w ≡ broken f)
  seen_past e =
      let (f, b) = first_past (base c) (stoppers c) (code_good c g) σ (drop i w) i s.x (state_past c g σ i s.x (rw s.state at e)) in
      (f, seen_first ∙ b)

  -- one more, y
  module _ (h : i < length w) {y : ℕ} (e : get_or w i 0 ≡ y) where
    here : drop i w ≡ y ∷ drop (suc i) w
    here = drop-cons w i 0 h ∙ ap (λ (z : ℕ). z ∷ drop (suc i) w) e

    pub seen_row : spell (base c) (stoppers c) i s.x (y ∷ drop (suc i) w) ≡ w
    seen_row = rw here at s.row

    pub seen_turn : {z : Step} → z ≡ stepped c σ r y → Turn c σ i s.x y z
    seen_turn q = subst (Turn c σ i s.x y) (sym (q ∙ ap (λ (r : Reader). stepped c σ r y) s.state)) (turn c g σ i s.x y)

    pub seen_bad : Bad ≡ stepped c σ r y → first_word (base c) (stoppers c) σ w ≡ broken beyond
    seen_bad q = go (seen_turn q)
      where
        go : Turn c σ i s.x y Bad → first_word (base c) (stoppers c) σ w ≡ broken beyond
        go (stuck a b) = seen_first ∙ rw here (first_stuck (base c) (stoppers c) (code_good c g) σ i s.x y (drop (suc i) w) a b)

    pub seen_rank : {k : ℕ} → Rank k ≡ stepped c σ r y → first_word (base c) (stoppers c) σ w ≡ whole k (suc i)
    seen_rank q = go (seen_turn q)
      where
        go : {k : ℕ} → Turn c σ i s.x y (Rank k) → first_word (base c) (stoppers c) σ w ≡ whole k (suc i)
        go (stops a b) = seen_first ∙ rw here (first_stop (base c) (stoppers c) (code_good c g) σ i s.x y (drop (suc i) w) a b)

    pub seen_open : {on : Reader} → y < base c → Open on ≡ stepped c σ r y → Seen c σ w (i + 1) on
    unfolding opens
    seen_open k q = go (seen_turn q)
      where
        go : {on : Reader} → Turn c σ i s.x y (Open on) → Seen c σ w (i + 1) on
        go (goes a) =
            let d : y - stoppers c i < base c - stoppers c i = omega arith in
            rw (add-one i)
            (record {
              x = s.x * (base c - stoppers c i) + (y - stoppers c i);
              value = digits_lt s.value d;
              row = spell_more (base c) (stoppers c) i s.x y (drop (suc i) w) a k ∙ seen_row;
              state = refl;
            })
