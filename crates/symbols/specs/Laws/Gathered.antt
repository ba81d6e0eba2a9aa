-- The digits of a number, and symbols gathered behind others. The digits of a byte, and what rests on them, stand in proofs/Laws/Gathered.
use Rattle.std.specs.Prelude.{◌≡◌, refl, ℕ, zero, suc, ◌+◌, ◌-◌, ◌*◌, ◌/◌, ◌%◌, ◌^◌, ◌<◌, length, take}
use Rattle.std.proofs.Math.Path.{sym, ap}
use Rattle.std.proofs.Common.{ap₂, ◌∙◌, add-zero, add-suc, pow-suc, mul-add, mul_assoc, div-one, mod-eq_of_lt, div-add-mod', add-one, arith, length-append, pow_pos, pow-add, shr-shr, drop-drop}
use mathlib.Core.List.{List, [], ◌∷◌, ◌++◌, append-nil, append_assoc}
use Rattle.std.proofs.Math.Nat.{pow-zero, pow-succ', div-div-eq-div-mul, mul-add-div_right, mul-add-mod_self_right}
use Rattle.std.proofs.Math.Arith.{digits_lt, digits_div, digits_mod}
use Rattle.std.proofs.Math.ListN.{drop}
use Rattle.ground.specs.Paper.Runs.{over}
use Rattle.symbols.specs.Paper.Symbols.{per, symbols_of}
use Rattle.symbols.specs.Helpers.Widths.{Width}
use Rattle.symbols.specs.Helpers.Gathered.{digits, gathered, up_to, Added}
use Rattle.symbols.specs.Laws.Packing.{pow_mul}
use Rattle.symbols.specs.Laws.Rows.{symbols_take, symbols_drop}
use Rattle.symbols.specs.Laws.Width.{by_width}
use Rattle.symbols.specs.declared.gather.Gather.{Gather}

-- ---- digits

pub digits_length : (m n v : ℕ) → length (digits m n v) ≡ n
unfolding digits
digits_length m zero v = refl
digits_length m (suc n) v = length-append (digits m n (v / m)) (v % m ∷ []) ∙ rw (digits_length m n (v / m)) (add-one n)

-- the last b digits, and the others
digits_parts : (m a b v : ℕ) → digits m (a + b) v ≡ digits m a (v / m ^ b) ++ digits m b v
unfolding digits
digits_parts m a zero v = rw (add-zero, pow-zero, div-one) (sym (append-nil (digits m a v)))
digits_parts m a (suc b) v =
    rw (add-suc, digits_parts m a b (v / m), div-div-eq-div-mul, pow-succ')
    (append_assoc (digits m a (v / (m * m ^ b))) (digits m b (v / m)) (v % m ∷ []))

-- what stands above them does not matter
digits_low : (m n u v : ℕ) → 0 < m → digits m n (u * m ^ n + v) ≡ digits m n v
unfolding digits
digits_low m zero u v h = refl
digits_low m (suc n) u v h =
    rw (pow-suc, ← mul_assoc, mul-add-div_right h (u * m ^ n) v, mul-add-mod_self_right (u * m ^ n) m v, digits_low m n u (v / m) h)

pub digits_mod_pow : (m n v : ℕ) → 0 < m → digits m n (v % m ^ n) ≡ digits m n v
digits_mod_pow m n v h = sym (digits_low m n (v / m ^ n) (v % m ^ n) h) ∙ ap (digits m n) (div-add-mod' v (m ^ n))

-- those of two numbers, one after the other
pub digits_append : (m a b v w : ℕ) → 0 < m → w < m ^ b → digits m (a + b) (v * m ^ b + w) ≡ digits m a v ++ digits m b w
digits_append m a b v w h l =
    digits_parts m a b (v * m ^ b + w) ∙ ap₂ ◌++◌ (ap (digits m a) (digits_div v l)) (digits_low m b v w h)

pub digits_one : (m y : ℕ) → y < m → digits m 1 y ≡ y ∷ []
unfolding digits
digits_one m y h = rw (mod-eq_of_lt h)

-- one digit more
pub digits_more : (m n v y : ℕ) → y < m → digits m (n + 1) (v * m + y) ≡ digits m n v ++ (y ∷ [])
unfolding digits
digits_more m n v y h = rw (add-one, digits_div v h, digits_mod v h)

-- ---- bits of digits

-- those of n bytes
pub bits_under : {k : ℕ} → Width k → (n : ℕ) {c : ℕ} → c < n * per k → k * c < n * 8
unfolding per
bits_under w n {c} h = by_width (λ k. c < n * per k → k * c < n * 8) w (λ l. omega arith) (λ l. omega arith) h

-- one number behind another
pub joined_small : (k a b v w : ℕ) → v < 2 ^ (k * a) → w < 2 ^ (k * b) → v * 2 ^ (k * b) + w < 2 ^ (k * (a + b))
joined_small k a b v w hv hw = rw (mul-add, pow-add) (digits_lt hv hw)

-- the parts of a number, by its bits
pub digits_shifted : (k a n v : ℕ) → digits (2 ^ k) (a + n) v ≡ digits (2 ^ k) a (v / 2 ^ (k * n)) ++ digits (2 ^ k) n v
digits_shifted k a n v = rw (pow_mul 2 k n) (digits_parts (2 ^ k) a n v)

-- one symbol after the other, n left
pub laid_more : (k i n v : ℕ) → digits (2 ^ k) (i + 1) (v / 2 ^ (k * n)) ≡ digits (2 ^ k) i (v / 2 ^ (k * (n + 1))) ++ (v / 2 ^ (k * n) % 2 ^ k ∷ [])
unfolding digits
laid_more k i n v =
    let e : k * n + k ≡ k * (n + 1) = omega arith in
    rw (add-one i, shr-shr v (k * n) k, e)

-- ---- symbols gathered

-- the bytes stored, and what is left
pub stored_all : (k a n v : ℕ) (front : List ℕ)
    → (front ++ digits (2 ^ k) a (v / 2 ^ (k * n))) ++ digits (2 ^ k) n (v % 2 ^ (k * n)) ≡ front ++ digits (2 ^ k) (a + n) v
stored_all k a n v front =
    append_assoc front (digits (2 ^ k) a (v / 2 ^ (k * n))) _
    ∙ ap (λ (l : List ℕ). front ++ l)
    (ap (λ (l : List ℕ). digits (2 ^ k) a (v / 2 ^ (k * n)) ++ l) (rw (pow_mul 2 k n) (digits_mod_pow (2 ^ k) n v (pow_pos k)))
    ∙ sym (digits_shifted k a n v))

-- more symbols behind those that wait
pub waiting_more : (k a b v w : ℕ) (front : List ℕ) → w < 2 ^ (k * b)
    → front ++ digits (2 ^ k) (a + b) (v * 2 ^ (k * b) + w) ≡ (front ++ digits (2 ^ k) a v) ++ digits (2 ^ k) b w
waiting_more k a b v w front h =
    ap (λ (l : List ℕ). front ++ l) (rw (pow_mul 2 k b) (digits_append (2 ^ k) a b v w (pow_pos k) (rw (pow_mul 2 k b) at h)))
    ∙ sym (append_assoc front (digits (2 ^ k) a v) (digits (2 ^ k) b w))

-- nothing added; one row, and then another
pub added_none : (k : ℕ) (g : Gather) (buf : List ℕ) → g.count < 4 * per k → g.bits < 2 ^ (k * g.count) → Added k g buf [] g buf
added_none k g buf few small = record {
  few = few;
  small = small;
  onward = omega arith;
  upto = sym (add-zero _);
  symbols = sym (append-nil (gathered k g buf));
  rest = refl;
}

pub added_more : {k : ℕ} {g r s : Gather} {before mid after xs ys : List ℕ} → Added k g before xs r mid → Added k r mid ys s after
    → Added k g before (xs ++ ys) s after
added_more {k} {g} {r} {s} {before} {mid} {after} {xs} {ys} a b =
    let e : r.next + (s.next - r.next) ≡ s.next = omega (arith, b.onward) in
    let part = s.next - r.next in record {
      few = b.few;
      small = b.small;
      onward = omega (arith, a.onward, b.onward);
      upto = omega (arith, a.upto, b.upto, length-append xs ys);
      symbols = b.symbols ∙ ap (λ (l : List ℕ). l ++ ys) a.symbols ∙ append_assoc (gathered k g before) xs ys;
      rest =
          b.rest
          ∙ rw e at (sym (drop-drop part r.next mid) ∙ ap (drop part) a.rest ∙ drop-drop part r.next before);
    }

-- ---- for every crate

module _ {k : ℕ} (w : Width k) where
  -- nothing behind those that wait changes
  pub added_past : {g r : Gather} {before row after : List ℕ} → Added k g before row r after
      → drop (up_to k r) (symbols_of k after) ≡ drop (up_to k r) (symbols_of k before)
  added_past {r = r} {before = before} {after = after} a = past after ∙ ap (λ (l : List ℕ). drop r.count (symbols_of k l)) a.rest ∙ sym (past before)
    where
      past : (bs : List ℕ) → drop (up_to k r) (symbols_of k bs) ≡ drop r.count (symbols_of k (drop r.next bs))
      past bs = sym (drop-drop r.count (r.next * per k) (symbols_of k bs)) ∙ ap (drop r.count) (symbols_drop w r.next bs)

  -- those that wait, stored
  pub finished : (g : Gather) (buf : List ℕ)
      → over (symbols_of k buf) (g.next * per k) (digits (2 ^ k) g.count g.bits) (up_to k g) ≡ gathered k g buf ++ drop (up_to k g) (symbols_of k buf)
  unfolding gathered
  finished g buf =
      ap (λ (l : List ℕ). l ++ (digits (2 ^ k) g.count g.bits ++ drop (up_to k g) (symbols_of k buf))) (symbols_take w g.next buf)
      ∙ sym (append_assoc (symbols_of k (take g.next buf)) (digits (2 ^ k) g.count g.bits) (drop (up_to k g) (symbols_of k buf)))
