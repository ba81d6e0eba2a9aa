-- What count and choose answer, in plain words.
use Rattle.std.specs.Prelude.{◌≡◌, ◌⊎◌, List, ℕ, zero, suc, ◌<◌, length, get_or}
use Rattle.std.proofs.Common.{ap, inl, inr, arith}
use Rattle.std.proofs.Math.Decide.{dec_lt}
use Rattle.stopper.specs.Laws.Characters.{◌∈◌, mem_at}
use Rattle.choosing.specs.Paper.Ranking.{key, Down, nil, cons}
use Rattle.choosing.specs.Laws.Ranking.{Ranking, key_count, key_byte}

-- of two in a row in order, the first has the greater key
down_at : (f : ℕ → ℕ) {l : List ℕ} → Down f l → (i j : ℕ) → i < j → j < length l → f (get_or l j 0) < f (get_or l i 0)
down_at f nil i j h k = absurd (omega arith)
down_at f (cons {a = a} {l = l} h d) zero zero le k = absurd (omega arith)
down_at f (cons {a = a} {l = l} h d) zero (suc j) le k = h (get_or l j 0) (mem_at l j (omega arith))
down_at f (cons {a = a} {l = l} h d) (suc i) zero le k = absurd (omega arith)
down_at f (cons {a = a} {l = l} h d) (suc i) (suc j) le k = down_at f d i j (omega arith) (omega arith)

-- the character of the smaller rank counts more, or as much and is the smaller byte
pub record InOrder (count : ℕ → ℕ) (l : List ℕ) : Type 0 where
  pub order : (i j : ℕ) → i < j → j < length l
      → (count (get_or l j 0) < count (get_or l i 0)) ⊎ ((count (get_or l j 0) ≡ count (get_or l i 0)) × (get_or l i 0 < get_or l j 0))
  pub only : (x : ℕ) → x ∈ l → (x < 256) × (0 < count x)
  pub all : (x : ℕ) → x < 256 → 0 < count x → x ∈ l

pub ranking_order : {count : ℕ → ℕ} {l : List ℕ} → Ranking count l → InOrder count l
ranking_order {count} {l} r = record { order = by; only = r.only; all = r.all }
  where
    by : (i j : ℕ) → i < j → j < length l → (count (get_or l j 0) < count (get_or l i 0)) ⊎ ((count (get_or l j 0) ≡ count (get_or l i 0)) × (get_or l i 0 < get_or l j 0))
    by i j h k =
        let x : ℕ = get_or l i 0 in
        let y : ℕ = get_or l j 0 in
        let above : key count y < key count x = down_at (key count) r.order i j h k in
        let bx : x < 256 = (r.only x (mem_at l i (omega arith))).0 in
        let by_y : y < 256 = (r.only y (mem_at l j k)).0 in
        elim (dec_lt (count y) (count x)) [
          | yes p ↦ inl p
          | no p ↦
              elim (dec_lt (count x) (count y)) [
                | yes q ↦ absurd (omega (arith, key_count count q))
                | no q ↦
                    elim (dec_lt x y) [
                      | yes s ↦ inr (omega arith, s)
                      | no s ↦
                          elim (dec_lt y x) [
                            | yes u ↦ absurd (omega (arith, key_byte count bx u (omega arith)))
                            | no u ↦ let e : x ≡ y = omega arith in absurd (omega (arith, ap (key count) e))
                          ]
                    ]
              ]
        ]
