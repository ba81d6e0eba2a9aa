-- Numbers and lines written: digit by digit, part by part, and how long they are.
use Rattle.std.specs.Prelude.{Bool, true, false, cond, ◌≡◌, refl, List, [], ◌∷◌, ◌++◌, ℕ, zero, suc, ◌+◌, ◌*◌, ◌/◌, ◌%◌, ◌^◌, ◌≤◌, ◌<◌, ltb, eqb, length, drop, get_or, set}
use Rattle.std.proofs.Common.{sym, ap, ◌∙◌, append_assoc, append-nil, add-zero, zero-add, not-suc-le-zero, pow-suc, add-one, arith, lt-ltb, le-ltb, ltb-true, ltb-false, eq-eqb, ne_eqb, eqb-true, length-append, drop_of_length-le, drop-cons}
use Rattle.std.proofs.Math.Decide.{dec_lt}
use Rattle.std.proofs.lemmas.Bool.{eqb-false}
use Rattle.ground.specs.Paper.Runs.{over}
use Rattle.ground.specs.Helpers.Below.{Below, none, also}
use Rattle.ground.specs.Laws.Runs.{over_none, over_after, over_length, set_over}
use Rattle.writing.specs.Paper.Written.{glyph, decimal_in, decimal, hex_of, hex_row, hex_from, hex_lines, number_lines}

-- ---- a number's digits

pub glyph_low : (d : ℕ) → d < 10 → 48 + d ≡ glyph d
glyph_low d h = rw (lt-ltb d 10 h)

pub glyph_high : (d : ℕ) → 10 ≤ d → 87 + d ≡ glyph d
glyph_high d h = rw (le-ltb d 10 h)

small_in : (k n : ℕ) → n < 10 → decimal_in (suc k) n ≡ glyph n ∷ []
unfolding decimal_in
small_in k n h = rw (lt-ltb n 10 h)

large_in : (k n : ℕ) → 10 ≤ n → decimal_in (suc k) n ≡ decimal_in k (n / 10) ++ (glyph (n % 10) ∷ [])
unfolding decimal_in
large_in k n h = rw (le-ltb n 10 h)

-- the digits before the last are fewer
shorter : (k n : ℕ) → n < 10 ^ suc k → n / 10 < 10 ^ k
shorter k n h = let e : 10 ^ suc k ≡ 10 ^ k * 10 = pow-suc 10 k in omega arith

-- places that are not needed
spare : (k n : ℕ) → n < 10 ^ suc k → decimal_in (suc k) n ≡ decimal_in (suc (suc k)) n
spare zero n h = let l : n < 10 = omega arith in small_in 0 n l ∙ sym (small_in 1 n l)
spare (suc k) n h = by_test (ltb n 10) refl (spare k (n / 10) (shorter (suc k) n h))
  where
    by_test : (b : Bool) → ltb n 10 ≡ b → decimal_in (suc k) (n / 10) ≡ decimal_in (suc (suc k)) (n / 10)
        → decimal_in (suc (suc k)) n ≡ decimal_in (suc (suc (suc k))) n
    by_test true e d = let l : n < 10 = ltb-true _ _ e in small_in (suc k) n l ∙ sym (small_in (suc (suc k)) n l)
    by_test false e d =
        let l : 10 ≤ n = ltb-false _ _ e in
        large_in (suc k) n l ∙ ap (λ (ds : List ℕ). ds ++ (glyph (n % 10) ∷ [])) d ∙ sym (large_in (suc (suc k)) n l)

pub decimal_one : (n : ℕ) → n < 10 → decimal n ≡ glyph n ∷ []
unfolding decimal
decimal_one n h = small_in 19 n h

pub decimal_last : (n : ℕ) → 10 ≤ n → n < 2 ^ 64 → decimal n ≡ decimal (n / 10) ++ (glyph (n % 10) ∷ [])
unfolding decimal
decimal_last n h l =
    large_in 19 n h ∙ ap (λ (ds : List ℕ). ds ++ (glyph (n % 10) ∷ [])) (spare 18 (n / 10) (omega arith))

-- ---- a text put part by part

-- of `all`, to be laid over `old` from `at` on, the rest is to be put from `p` on
pub record Going (all old : List ℕ) (at : ℕ) (out : List ℕ) (p : ℕ) (rest : List ℕ) : Type 0 where
  pub done : List ℕ
  pub split : done ++ rest ≡ all
  pub next : p ≡ at + length done
  pub row : out ≡ over old at done p

pub going_none : (all old : List ℕ) (at : ℕ) → Going all old at old at all
going_none all old at = record { done = []; split = refl; next = omega arith; row = sym (over_none old at) }

-- the rest, said otherwise
pub going_as : {all old : List ℕ} {at : ℕ} {out : List ℕ} {p : ℕ} {rest rest' : List ℕ} → rest ≡ rest' → Going all old at out p rest
    → Going all old at out p rest'
going_as e g = record { done = g.done; split = ap (λ (l : List ℕ). g.done ++ l) (sym e) ∙ g.split; next = g.next; row = g.row }

module _ {all old : List ℕ} {at : ℕ} {out : List ℕ} {p : ℕ} (fits : at + length all ≤ length old) where
  -- how much room is left
  pub going_room : {rest : List ℕ} → Going all old at out p rest → (p + length rest ≡ at + length all) × (length out ≡ length old)
  going_room {rest} g =
      let e : length g.done + length rest ≡ length all = simp length-append at (ap length g.split) in
      let n = g.next in
      (omega arith, ap length g.row ∙ over_length old at g.done p (sym n) (omega arith))

  -- there is room for what is put next
  pub going_next : (ys rest : List ℕ) → Going all old at out p (ys ++ rest) → p + length ys ≤ length out
  going_next ys rest g = omega (arith, simp length-append at (going_room g).0, (going_room g).1)

  pub going_more : (ys : List ℕ) {rest out' : List ℕ} {q : ℕ} → Going all old at out p (ys ++ rest) → out' ≡ over out p ys (p + length ys) → q ≡ p + length ys
      → Going all old at out' q rest
  going_more ys {rest} {out'} {q} g r e =
      let n = g.next in
      let m : p + length ys ≤ length old = omega (arith, simp length-append at (going_room g).0) in
      record {
        done = g.done ++ ys;
        split = append_assoc g.done ys rest ∙ g.split;
        next = omega (arith, length-append g.done ys);
        row = r
            ∙ ap (λ (l : List ℕ). over l p ys (p + length ys)) g.row
            ∙ over_after old at p (p + length ys) g.done ys (sym n) refl m
            ∙ rw e;
      }

  -- one byte more
  pub going_byte : {y : ℕ} {rest : List ℕ} → Going all old at out p (y ∷ rest) → Going all old at (set out p y) (p + 1) rest
  going_byte {y} {rest} g =
      let z = going_room g in
      going_more (y ∷ []) g (set_over out p y (omega arith)) refl

  pub going_all : Going all old at out p [] → (p ≡ at + length all) × (out ≡ over old at all (at + length all))
  going_all g =
      let e : p ≡ at + length all = omega (arith, (going_room g).0) in
      let d : g.done ≡ all = sym (append-nil g.done) ∙ g.split in
      (e, g.row ∙ rw (d, e))

-- from the front on
pub going_whole : {all old out : List ℕ} {p : ℕ} → 0 + length all ≤ length old → Going all old 0 out p []
    → (p ≡ length all) × (out ≡ all ++ drop (length all) old)
going_whole h g = rw zero-add at (going_all h g)

-- ---- a row's entries and lines, one by one

pub drop_more : (xs : List ℕ) (i : ℕ) → i < length xs → drop i xs ≡ get_or xs i 0 ∷ drop (i + 1) xs
drop_more xs i h = rw (add-one, drop-cons xs i 0 h)

pub numbers_done : (numbers : List ℕ) (i : ℕ) → length numbers ≤ i → number_lines (drop i numbers) ≡ []
unfolding number_lines
numbers_done numbers i h = rw (drop_of_length-le numbers h)

pub numbers_more : (numbers : List ℕ) (i : ℕ) → i < length numbers
    → number_lines (drop i numbers) ≡ decimal (get_or numbers i 0) ++ (10 ∷ number_lines (drop (i + 1) numbers))
unfolding number_lines
numbers_more numbers i h = rw (drop_more numbers i h)

-- bytes in a row, and two rows

pub row_done : (bytes : List ℕ) (i : ℕ) → length bytes ≤ i → hex_row (drop i bytes) ≡ []
unfolding hex_row
row_done bytes i h = rw (drop_of_length-le bytes h)

pub row_more : (bytes : List ℕ) (i : ℕ) → i < length bytes → hex_row (drop i bytes) ≡ hex_of (get_or bytes i 0) ++ hex_row (drop (i + 1) bytes)
unfolding hex_row
row_more bytes i h = rw (drop_more bytes i h)

pub row_append : (a b : List ℕ) → hex_row (a ++ b) ≡ hex_row a ++ hex_row b
unfolding hex_row
row_append [] b = refl
row_append (x ∷ a) b = ap (λ (l : List ℕ). hex_of x ++ l) (row_append a b)

pub row_length : (bytes : List ℕ) → length (hex_row bytes) ≡ 2 * length bytes
unfolding hex_row
row_length [] = refl
row_length (b ∷ bytes) = omega (arith, row_length bytes)

hex_cons : (i b : ℕ) (bytes : List ℕ) → hex_from i (b ∷ bytes) ≡ hex_of b ++ cond (eqb i 31) (10 ∷ hex_from 0 bytes) (hex_from (suc i) bytes)
unfolding hex_from
hex_cons zero b bytes = refl
hex_cons (suc i) b bytes = refl

-- the last byte of a line, and one before it
hex_ends : (i b : ℕ) (bytes : List ℕ) → i ≡ 31 → hex_from i (b ∷ bytes) ≡ hex_of b ++ (10 ∷ hex_from 0 bytes)
hex_ends i b bytes h = hex_cons i b bytes ∙ rw (eq-eqb i 31 h)

hex_goes : (i b : ℕ) (bytes : List ℕ) → (i ≡ 31 → ⊥) → hex_from i (b ∷ bytes) ≡ hex_of b ++ hex_from (suc i) bytes
hex_goes i b bytes h = hex_cons i b bytes ∙ rw (ne_eqb i 31 h)

module _ (bytes : List ℕ) (column i : ℕ) (h : i < length bytes) where
  pub hex_two : 2 ≤ length (hex_from column (drop i bytes))
  hex_two = rw (drop-cons bytes i 0 h, hex_cons) (omega arith)

  pub hex_last : column + 1 ≡ 32 → hex_from column (drop i bytes) ≡ hex_of (get_or bytes i 0) ++ (10 ∷ hex_from 0 (drop (i + 1) bytes))
  hex_last e = rw (add-one i, drop-cons bytes i 0 h) (hex_ends column (get_or bytes i 0) (drop (suc i) bytes) (omega arith))

  pub hex_more : (column + 1 ≡ 32 → ⊥) → hex_from column (drop i bytes) ≡ hex_of (get_or bytes i 0) ++ hex_from (column + 1) (drop (i + 1) bytes)
  hex_more e = rw (add-one i, add-one column, drop-cons bytes i 0 h) (hex_goes column (get_or bytes i 0) (drop (suc i) bytes) (λ f. e (omega arith)))

-- after the last byte: a line that goes on, and none
hex_none : (column : ℕ) → column ≤ 0 → hex_from column [] ≡ []
unfolding hex_from
hex_none zero h = refl
hex_none (suc column) h = absurd (not-suc-le-zero h)

hex_line : (column : ℕ) → 0 < column → hex_from column [] ≡ 10 ∷ []
unfolding hex_from
hex_line zero h = absurd (not-suc-le-zero h)
hex_line (suc column) h = refl

module _ (bytes : List ℕ) (column i : ℕ) (h : length bytes ≤ i) where
  pub hex_open : 0 < column → hex_from column (drop i bytes) ≡ 10 ∷ []
  hex_open l = rw (drop_of_length-le bytes h) (hex_line column l)

  pub hex_done : column ≤ 0 → hex_from column (drop i bytes) ≡ []
  hex_done l = rw (drop_of_length-le bytes h) (hex_none column l)

-- bytes up to the end of a line, or up to the last
hex_upto : (i : ℕ) (line rest : List ℕ) → 0 < length line → i + length line ≤ 32 → (i + length line < 32 → rest ≡ [])
    → hex_from i (line ++ rest) ≡ hex_row line ++ (10 ∷ hex_from 0 rest)
unfolding hex_row
hex_upto i [] rest h l e = absurd (not-suc-le-zero h)
hex_upto i (b ∷ []) rest h l e =
    elim (dec_lt i 31) [
      | yes more ↦
          let none : rest ≡ [] = e (omega arith) in
          hex_goes i b rest (λ f. omega arith) ∙ rw (none, hex_line (suc i) (omega arith), hex_none 0 (omega arith))
      | no full ↦ hex_ends i b rest (omega arith)
    ]
hex_upto i (b ∷ c ∷ line) rest h l e =
    hex_goes i b ((c ∷ line) ++ rest) (λ f. omega arith)
    ∙ ap (λ (r : List ℕ). hex_of b ++ r) (hex_upto (suc i) (c ∷ line) rest (omega arith) (omega arith) (λ more. e (omega arith)))
    ∙ sym (append_assoc (hex_of b) (hex_row (c ∷ line)) (10 ∷ hex_from 0 rest))

-- a line, and those behind it: it is full, or the last
pub hex_first : (line rest : List ℕ) → 0 < length line → length line ≤ 32 → (length line < 32 → rest ≡ [])
    → hex_lines (line ++ rest) ≡ hex_row line ++ (10 ∷ hex_lines rest)
hex_first line rest h l e = hex_upto 0 line rest h (omega arith) (λ more. e (omega arith))

-- ---- lengths

few : (f n k : ℕ) → 0 < k → n < 10 ^ k → length (decimal_in f n) ≤ k
unfolding decimal_in
few zero n k h m = omega arith
few (suc f) n zero h m = omega arith
few (suc f) n (suc zero) h m = let l : n < 10 = omega arith in rw (small_in f n l) (omega arith)
few (suc f) n (suc (suc k)) h m = by_test (ltb n 10) refl (few f (n / 10) (suc k) (omega arith) (shorter (suc k) n m))
  where
    by_test : (b : Bool) → ltb n 10 ≡ b → length (decimal_in f (n / 10)) ≤ suc k → length (decimal_in (suc f) n) ≤ suc (suc k)
    by_test true e d = rw (small_in f n (ltb-true _ _ e)) (omega arith)
    by_test false e d = rw (large_in f n (ltb-false _ _ e), length-append) (omega arith)

pub decimal_few : (n k : ℕ) → 0 < k → k ≤ 20 → n < 10 ^ k → length (decimal n) ≤ k
unfolding decimal
decimal_few n k h l m = few 20 n k h m

-- and no number has more digits than there are places for
most : (places n : ℕ) → length (decimal_in places n) ≤ places
unfolding decimal_in
most zero n = omega arith
most (suc places) n =
    elim (dec_lt n 10) [
      | yes h ↦ rw (small_in places n h) (omega arith)
      | no h ↦ rw (large_in places n (omega arith), length-append) (omega (arith, most places (n / 10)))
    ]

pub decimal_most : (n : ℕ) → length (decimal n) ≤ 20
unfolding decimal
decimal_most n = most 20 n

hex_from_length : (i : ℕ) (bytes : List ℕ) → i < 32 → length (hex_from i bytes) ≤ 2 * length bytes + ((length bytes + i) / 32 + 1)
unfolding hex_from
hex_from_length zero [] h = omega arith
hex_from_length (suc i) [] h = omega arith
hex_from_length i (b ∷ bytes) h =
    by_test (eqb i 31) refl (hex_from_length 0 bytes (omega arith)) (λ l. hex_from_length (suc i) bytes l)
  where
    by_test : (t : Bool) → eqb i 31 ≡ t → length (hex_from 0 bytes) ≤ 2 * length bytes + ((length bytes + 0) / 32 + 1)
        → (suc i < 32 → length (hex_from (suc i) bytes) ≤ 2 * length bytes + ((length bytes + suc i) / 32 + 1))
        → length (hex_from i (b ∷ bytes)) ≤ 2 * length (b ∷ bytes) + ((length (b ∷ bytes) + i) / 32 + 1)
    by_test true e f g = let l : i ≡ 31 = eqb-true _ _ e in omega (arith, ap length (hex_ends i b bytes l))
    by_test false e f g =
        let ne : i ≡ 31 → ⊥ = eqb-false _ _ e in
        let l : suc i < 32 = omega arith in
        omega (arith, ap length (hex_goes i b bytes ne), g l)

pub hex_length : (bytes : List ℕ) → length (hex_lines bytes) ≤ 2 * length bytes + (length bytes / 32 + 1)
hex_length bytes = rw add-zero at (hex_from_length 0 bytes (omega arith))

pub numbers_few : {numbers : List ℕ} → Below 100000 numbers → length (number_lines numbers) ≤ 6 * length numbers
unfolding number_lines
numbers_few none = omega arith
numbers_few (also {x} {xs} a b) =
    rw length-append (omega (arith, decimal_few x 5 (omega arith) (omega arith) a, numbers_few b))
