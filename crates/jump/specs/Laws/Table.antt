-- How the table of jumps comes to be.
use Rattle.std.specs.Prelude.{◌≡◌, refl, ◌⊎◌, List, ◌++◌, ℕ, zero, suc, ◌+◌, ◌-◌, ◌*◌, ◌/◌, ◌%◌, ◌^◌, ◌≤◌, ◌<◌, length, set}
use Rattle.std.proofs.Math.Path.{sym, ap}
use Rattle.std.proofs.Common.{ap₂, ◌∙◌, inl, inr, ⊎_elim, le_refl, le_trans, mod-eq_of_lt, div-lt_iff_lt-mul, lt_of_lt_of_le, mul-le-mul_left, zero-add, add-zero, add-suc, mul-one, pow-suc, div-add-mod', le-div_iff_mul-le, div-mul-le_self, add-one, arith, length-set, pow_pos, pow_mono, pow-add, get_or-append-add, get_or-drop, get_or-set_same, get_or-set_other}
use Rattle.std.proofs.Math.Nat.{pow-zero, div-eq_of_lt}
use Rattle.std.proofs.Math.Decide.{dec_lt, ℕ_discrete}
use Rattle.std.proofs.Math.Arith.{digits_div, digits_mod, lt_of_le-ne}
use Rattle.std.proofs.Math.ListN.{get_or}
use Rattle.std.proofs.Math.Seq.{drop-append-add}
use Rattle.ground.specs.Paper.Rows.{zeros}
use Rattle.ground.specs.Helpers.Below.{Below}
use Rattle.ground.specs.Laws.Rows.{get_or_below, below_append, get_or_zeros, length_zeros}
use Rattle.symbols.specs.Paper.Symbols.{per, number, byte_at}
use Rattle.symbols.specs.Helpers.Widths.{Width}
use Rattle.symbols.specs.Laws.Width.{by_width, per_pos, fills}
use Rattle.symbols.specs.Laws.Packing.{pow_mul, number_lt, number_ext}
use Rattle.jump.specs.Helpers.Windows.{byte_from, number_from, key_of, key_from, Upto, Marks}

-- ---- numbers of symbols

number_split : (m : ℕ) (f : ℕ → ℕ) (a b : ℕ) → number m f (a + b) ≡ number m f a * m ^ b + number m (λ t. f (a + t)) b
unfolding number
number_split m f a zero = rw (add-zero, pow-zero, mul-one, add-zero)
number_split m f a (suc b) = rw (add-suc, number_split m f a b, pow-suc) (omega arith)

-- the last b of a + b
number_last : (m : ℕ) (f : ℕ → ℕ) → ((j : ℕ) → f j < m) → (a b : ℕ) → number m f (a + b) % m ^ b ≡ number m (λ t. f (a + t)) b
number_last m f h a b = rw (number_split m f a b) (digits_mod (number m f a) (number_lt m (λ t. f (a + t)) (λ j. h (a + j)) b))

pub byte_number : (k : ℕ) (row : List ℕ) (j : ℕ) → byte_from k row j ≡ number_from k row j (per k)
unfolding byte_at
byte_number k row j =
    number_ext (2 ^ k) _ _ (per k) (λ t h. get_or-drop j row (0 * per k + t) 0 ∙ ap (λ (n : ℕ). get_or row (j + n) 0) (omega arith))

-- behind symbols before them
pub byte_behind : (k : ℕ) (u symbols : List ℕ) (j : ℕ) → byte_from k (u ++ symbols) (length u + j) ≡ byte_from k symbols j
byte_behind k u symbols j = ap (λ (l : List ℕ). byte_at k l 0) (drop-append-add u symbols j)

-- a symbol behind a byte, whose first symbol is lost
pub shifted : {k : ℕ} → Width k → (y x : ℕ) → x < 2 ^ k → (y * 2 ^ k + x) % 256 ≡ y % 2 ^ (8 - k) * 2 ^ k + x
shifted w y x = by_width (λ k. x < 2 ^ k → (y * 2 ^ k + x) % 256 ≡ y % 2 ^ (8 - k) * 2 ^ k + x) w (λ h. omega arith) (λ h. omega arith)

pub key_zero : (back y z : ℕ) → back ≡ 0 → key_of back y z ≡ y
unfolding key_of
key_zero back y z e = rw e

pub key_pair : (back y z : ℕ) → back ≡ 1 → key_of back y z ≡ (y + 256 * z) * 2654435761 % 4294967296 / 524288
unfolding key_of
key_pair back y z e = rw e

key_same : (back y z z' : ℕ) → back ≤ 1 → (back ≡ 1 → z ≡ z') → key_of back y z ≡ key_of back y z'
key_same zero y z z' h e = key_zero 0 y z refl ∙ sym (key_zero 0 y z' refl)
key_same (suc n) y z z' h e = ap (key_of (suc n) y) (e (omega arith))

module _ {k : ℕ} (w : Width k) where
  -- n symbols and one more fill a byte
  last_one : per k - 1 + 1 ≡ per k
  last_one = omega (arith, per_pos w)

  bits : k * (per k - 1) ≡ 8 - k
  bits = omega (arith, ap (λ (n : ℕ). k * n) last_one, fills w)

  -- bytes by their last n symbols
  pub bits_few : (n : ℕ) → n ≤ per k → k * n ≤ 8
  bits_few n h = omega (arith, mul-le-mul_left k h, fills w)

  pub step_whole : (n : ℕ) → n ≤ per k → 256 / 2 ^ (k * n) * 2 ^ (k * n) ≡ 256
  step_whole n h =
      let f : 8 - k * n + k * n ≡ 8 = omega (arith, bits_few n h) in
      let e : 2 ^ (8 - k * n) * 2 ^ (k * n) ≡ 256 = sym (pow-add 2 (8 - k * n) (k * n)) ∙ ap (λ (x : ℕ). 2 ^ x) f in
      ap (λ (x : ℕ). x / 2 ^ (k * n) * 2 ^ (k * n)) (sym e) ∙ ap (λ (x : ℕ). x * 2 ^ (k * n)) (ap (λ (x : ℕ). x / 2 ^ (k * n)) (sym (add-zero (2 ^ (8 - k * n) * 2 ^ (k * n)))) ∙ digits_div (2 ^ (8 - k * n)) (pow_pos (k * n))) ∙ e

  module _ {row : List ℕ} (b : Below (2 ^ k) row) where
    small : (j t : ℕ) → get_or row (j + t) 0 < 2 ^ k
    small j t = get_or_below b (pow_pos k) (j + t)

    -- the byte at symbol j, once symbol j + per - 1 is behind those before it
    pub byte_next : (y j : ℕ) → y % 2 ^ (8 - k) ≡ number_from k row j (per k - 1) → (y * 2 ^ k + get_or row (j + (per k - 1)) 0) % 256 ≡ byte_from k row j
    unfolding number
    byte_next y j e =
        shifted w y (get_or row (j + (per k - 1)) 0) (small j (per k - 1))
        ∙ ap (λ (n : ℕ). n * 2 ^ k + get_or row (j + (per k - 1)) 0) e
        ∙ ap (number_from k row j) (sym (add-one (per k - 1)) ∙ last_one)
        ∙ sym (byte_number k row j)

    pub next_start : (j : ℕ) → byte_from k row j % 2 ^ (8 - k) ≡ number_from k row (j + 1) (per k - 1)
    next_start j =
        let e : per k ≡ 1 + (per k - 1) = omega (arith, per_pos w) in
        let f : 2 ^ (8 - k) ≡ (2 ^ k) ^ (per k - 1) = ap (λ (n : ℕ). 2 ^ n) (sym bits) ∙ pow_mul 2 k (per k - 1) in
        rw (byte_number k row j, f)
        (ap (λ (n : ℕ). number_from k row j n % (2 ^ k) ^ (per k - 1)) e
        ∙ number_last (2 ^ k) (λ t. get_or row (j + t) 0) (small j) 1 (per k - 1)
        ∙ number_ext (2 ^ k) _ _ (per k - 1) (λ t h. ap (λ (n : ℕ). get_or row n 0) (omega arith)))

    pub number_under : (j n : ℕ) → number_from k row j n < 2 ^ (k * n)
    number_under j n = rw pow_mul (number_lt (2 ^ k) (λ t. get_or row (j + t) 0) (small j) n)

    pub number_start : (j : ℕ) → number_from k row j (per k - 1) % 2 ^ (8 - k) ≡ number_from k row j (per k - 1)
    number_start j = mod-eq_of_lt (rw (← bits) (number_under j (per k - 1)))

    pub number_small : (j n : ℕ) → n ≤ per k → number_from k row j n < 256
    number_small j n h = lt_of_lt_of_le (number_under j n) (pow_mono {i = k * n} {j = 8} (bits_few n h))

    -- one symbol more
    pub number_next : (j n : ℕ) → n < per k → (number_from k row j n * 2 ^ k + get_or row (j + n) 0) % 256 ≡ number_from k row j (n + 1)
    unfolding number
    number_next j n h = rw (add-one n) (mod-eq_of_lt (number_small j (suc n) h))

  -- ---- the pattern's symbols with the free ones before them

  module _ {u symbols : List ℕ} (bu : Below (2 ^ k) u) (bs : Below (2 ^ k) symbols) where
    key_behind : (back j : ℕ) → key_from k back (u ++ symbols) (length u + j) ≡ key_from k back symbols j
    key_behind back j =
        let e : length u + j + back * per k ≡ length u + (j + back * per k) = omega arith in
        ap₂ (key_of back) (byte_behind k u symbols j) (ap (byte_from k (u ++ symbols)) e ∙ byte_behind k u symbols (j + back * per k))

    -- the byte at a free symbol ends in the pattern's first n
    free_end : (i n : ℕ) → i + per k ≡ length u + n → n ≤ per k → byte_from k (u ++ symbols) i % 2 ^ (k * n) ≡ number_from k symbols 0 n
    free_end i n e h =
        let f : per k ≡ (per k - n) + n = omega arith in
        rw (byte_number k (u ++ symbols) i, pow_mul)
        (ap (λ (x : ℕ). number_from k (u ++ symbols) i x % (2 ^ k) ^ n) f
        ∙ number_last (2 ^ k) (λ t. get_or (u ++ symbols) (i + t) 0) (small (below_append bu bs) i) (per k - n) n
        ∙ number_ext (2 ^ k) _ _ n
        (λ t x. ap (λ (y : ℕ). get_or (u ++ symbols) y 0) (omega arith) ∙ get_or-append-add u symbols t 0 ∙ ap (λ (y : ℕ). get_or symbols y 0) (sym (zero-add t))))

-- ---- the table, entry by entry

div_mono : {i j q : ℕ} → 0 < q → i ≤ j → i / q ≤ j / q
div_mono {i} {j} {q} h le = (le-div_iff_mul-le h).1 (le_trans (div-mul-le_self i q) le)

module _ {k back free most : ℕ} {symbols : List ℕ} where
  pub upto_none : Upto k back free most symbols (zeros 8192) 0
  upto_none = record { long = length_zeros 8192; seen = λ u l b i h. absurd (omega arith); under = λ x. rw (get_or_zeros 8192 x) (omega arith) }

  module _ (w : Width k) {t : List ℕ} {i : ℕ} (a : Upto k back free most symbols t i) where
    -- a free symbol's keys
    pub upto_marked : (n : ℕ) {t' : List ℕ} {z head step many : ℕ} → back ≤ 1 → 0 < most → Below (2 ^ k) symbols → free < per k → i < free → i + per k ≡ free + n
        → step ≡ 2 ^ (k * n) → head ≡ number_from k symbols 0 n → many * step ≡ 256 → (back ≡ 1 → z ≡ byte_from k symbols n)
        → Marks back z head step t t' many → Upto k back free most symbols t' (i + 1)
    upto_marked n {t'} {z} {head} {step} {many} near some bs few lt e es eh em ez m =
        record {
          long = m.long ∙ a.long;
          seen = λ u l b j h. one_more u l b j h (dec_lt j i);
          under = λ x. ⊎_elim (λ q. rw q (a.under x)) (λ q. omega arith) (m.kept x);
        }
      where
        one_more : (u : List ℕ) → length u ≡ free → Below (2 ^ k) u → (j : ℕ) → j < i + 1 → Dec (j < i) → suc (j / per k) ≤ get_or t' (key_from k back (u ++ symbols) j) 0
        one_more u l b j h (yes y) =
            let zero : j / per k ≡ 0 = div-eq_of_lt (omega arith) in
            ⊎_elim (λ q. rw q (a.seen u l b j y)) (λ q. omega arith) (m.kept (key_from k back (u ++ symbols) j))
        one_more u l b j h (no y) =
            let same : j ≡ i = omega arith in
            let f : i + per k ≡ length u + n = omega arith in
            let y : ℕ = byte_from k (u ++ symbols) i in
            let low : y % step ≡ head = ap (λ (p : ℕ). y % p) es ∙ free_end w b bs i n f (omega arith) ∙ sym eh in
            let high : y / step * step + head ≡ y = omega (arith, div-add-mod' y step) in
            let more : y / step < many = (div-lt_iff_lt-mul {k = step} {x = y} {y = many} (omega (arith, es, pow_pos (k * n)))).1 (omega (arith, byte_number k (u ++ symbols) i, number_small w (below_append b bs) i (per k) (le_refl (per k)))) in
            let second : back ≡ 1 → z ≡ byte_from k (u ++ symbols) (i + back * per k)
            = λ q.
            let r : i + back * per k ≡ length u + n = omega (arith, f, ap (λ (p : ℕ). p * per k) q) in
            ez q ∙ sym (ap (byte_from k (u ++ symbols)) r ∙ byte_behind k u symbols n) in
            let at : get_or t' (key_from k back (u ++ symbols) i) 0 ≡ 1
            = ap (λ (p : ℕ). get_or t' p 0) (sym (ap (λ (p : ℕ). key_of back p z) high ∙ key_same back y z _ near second)) ∙ m.seen (y / step) more in
            let zero : j / per k ≡ 0 = div-eq_of_lt (omega arith) in
            rw same (omega (arith, at, zero, ap (λ (p : ℕ). p / per k) same))

    pub upto_more : (j x v : ℕ) → Below (2 ^ k) symbols → i ≡ free + j → x ≡ key_from k back symbols j → x < 8192 → v ≡ i / per k + 1 → v ≤ most
        → Upto k back free most symbols (set t x v) (i + 1)
    upto_more j x v bs e ex lt ev le =
        record {
          long = length-set t x v ∙ a.long;
          seen = λ u l b n h. one_more u l b n h (ℕ_discrete (key_from k back (u ++ symbols) n) x) (dec_lt n i);
          under = λ y. at_most y (ℕ_discrete y x);
        }
      where
        inside : x < length t
        inside = omega (arith, a.long)

        at_most : (y : ℕ) → Dec (y ≡ x) → get_or (set t x v) y 0 ≤ most
        at_most y (yes q) = rw (q, get_or-set_same t x v 0 inside) le
        at_most y (no q) = rw (get_or-set_other t x y v 0 q) (a.under y)

        one_more : (u : List ℕ) → length u ≡ free → Below (2 ^ k) u → (n : ℕ) → n < i + 1 → Dec (key_from k back (u ++ symbols) n ≡ x) → Dec (n < i)
            → suc (n / per k) ≤ get_or (set t x v) (key_from k back (u ++ symbols) n) 0
        one_more u l b n h (yes q) d = rw (q, get_or-set_same t x v 0 inside) (omega (arith, div_mono {i = n} {j = i} (per_pos w) (omega arith)))
        one_more u l b n h (no q) (yes y) = rw (get_or-set_other t x (key_from k back (u ++ symbols) n) v 0 q) (a.seen u l b n y)
        one_more u l b n h (no q) (no y) =
            let f : n ≡ length u + j = omega arith in
            absurd (q (ap (key_from k back (u ++ symbols)) f ∙ key_behind w b bs back j ∙ sym ex))

-- ---- the bytes that end in `head`

pub marks_none : {back z head step : ℕ} (t : List ℕ) → Marks back z head step t t 0
marks_none t = record { long = refl; kept = λ x. inl refl; seen = λ i h. absurd (omega arith) }

module _ {back z head step : ℕ} {old t : List ℕ} {n : ℕ} (m : Marks back z head step old t n) where
  pub marks_more : (x : ℕ) → x ≡ key_of back (n * step + head) z → x < length t → Marks back z head step old (set t x 1) (n + 1)
  marks_more x e lt =
      record {
        long = length-set t x 1 ∙ m.long;
        kept = λ y. at y (ℕ_discrete y x);
        seen = λ i h. key (key_of back (i * step + head) z) i refl h (ℕ_discrete (key_of back (i * step + head) z) x);
      }
    where
      at : (y : ℕ) → Dec (y ≡ x) → (get_or (set t x 1) y 0 ≡ get_or old y 0) ⊎ (get_or (set t x 1) y 0 ≡ 1)
      at y (yes q) = inr (rw q (get_or-set_same t x 1 0 lt))
      at y (no q) = rw (get_or-set_other t x y 1 0 q) (m.kept y)

      key : (y i : ℕ) → key_of back (i * step + head) z ≡ y → i < n + 1 → Dec (y ≡ x) → get_or (set t x 1) y 0 ≡ 1
      key y i f h (yes q) = rw q (get_or-set_same t x 1 0 lt)
      key y i f h (no q) =
          let g : i ≡ n → ⊥ = λ r. q (sym f ∙ ap (λ (p : ℕ). key_of back (p * step + head) z) r ∙ sym e) in
          get_or-set_other t x y 1 0 q ∙ ap (λ (p : ℕ). get_or t p 0) (sym f) ∙ m.seen i (lt_of_le-ne (omega arith) g)
