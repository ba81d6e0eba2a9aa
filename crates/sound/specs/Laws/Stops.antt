-- The laws of codewords that are passed by their stoppers alone.
use Rattle.std.specs.Prelude.{◌≡◌, cond, ltb, length, drop, get_or, set}
use Rattle.std.proofs.Math.Path.{refl, sym, ap, fun_ext}
use Rattle.std.proofs.Common.{subst, ◌∙◌, zero-add, add-zero, suc-add, one-mul, add-mul, div-one, add-one, one-add, lt-ltb, le-ltb, drop-cons}
use mathlib.Core.List.{List, [], ◌∷◌, ◌++◌}
use Prim.Native.Nat.{ℕ, zero, suc, ◌+◌, ◌-◌, ◌*◌, ◌/◌, ◌%◌, ◌≤◌, ◌<◌, zero-le}
use Rattle.std.proofs.Math.Nat.{sub-zero, suc-sub-suc}
use Rattle.std.proofs.Math.Decide.{dec_lt}
use native.Mathlib.Omega.{arith}
use Rattle.ground.specs.Paper.Rows.{tab, zeros}
use Rattle.ground.specs.Laws.Rows.{length_tab, tab_at, tab_ext, tab_set, tab_zeros}
use Rattle.stopper.specs.Paper.Table.{stoppers}
use Rattle.stopper.specs.Laws.Table.{one_place, code_width}
use Rattle.stopper.specs.declared.code.Code.{Code}
use Rattle.symbols.specs.Paper.Symbols.{per, shift, symbol_at, symbols_of}
use Rattle.symbols.specs.Helpers.Widths.{Width}
use Rattle.symbols.specs.Laws.Rows.{symbols_length, symbols_append, symbols_drop, starts_within}
use Rattle.sound.specs.Helpers.Ends.{stops, end_of, Ending, Passing, end_from, stops_of_two, stops_by_byte}
use Rattle.sound.specs.Laws.Ends.{stops_stop, stops_more, end_stop, end_more, stops_inside}

-- with one stopper count for all places the place of the next symbol does not matter
even_place : (s i : ℕ) (ys : List ℕ) → stops (λ _. s) i ys ≡ stops (λ _. s) 0 ys
unfolding stops
even_place s i [] = refl
even_place s i (y ∷ ys) = rw (even_place s (suc i) ys, even_place s 1 ys)

module _ (c : Code) where
  abbrev st : ℕ → ℕ
  st = stoppers c

  -- a code has one
  pub stops_even : (i : ℕ) (ys : List ℕ) → stops (λ _. st 0) i ys ≡ stops st i ys
  stops_even i ys = ap (λ (f : ℕ → ℕ). stops f i ys) (sym (fun_ext (one_place c)))

  pub stops_place : (i : ℕ) (ys : List ℕ) → stops st i ys ≡ stops st 0 ys
  stops_place i ys = sym (stops_even i ys) ∙ even_place (st 0) i ys ∙ stops_even 0 ys

  pub end_place : (n i : ℕ) (ys : List ℕ) → end_of st n i ys ≡ end_of st n 0 ys
  unfolding end_of
  end_place zero i ys = refl
  end_place (suc n) i [] = refl
  end_place (suc n) i (y ∷ ys) = rw (one_place c i, end_place (suc n) (suc i) ys, end_place (suc n) 1 ys)

  -- a continuer
  module _ (y : ℕ) (ys : List ℕ) (h : st 0 ≤ y) where
    pub stops_continuer : stops st 0 (y ∷ ys) ≡ stops st 0 ys
    stops_continuer = stops_more st 0 y ys h ∙ stops_place 1 ys

    pub end_continuer : (n : ℕ) → end_of st (suc n) 0 (y ∷ ys) ≡ suc (end_of st (suc n) 0 ys)
    end_continuer n = end_more st 0 y ys n h ∙ ap suc (end_place (suc n) 1 ys)

  -- ---- symbols one after the other

  pub stops_upto : (xs : List ℕ) → stops st 0 xs ≤ length xs
  unfolding stops
  stops_upto [] = omega arith
  stops_upto (x ∷ xs) =
      elim (dec_lt x (st 0)) [
        | yes h ↦ omega (arith, stops_stop st 0 x xs h, stops_upto xs)
        | no h ↦ omega (arith, stops_continuer x xs (omega arith), stops_upto xs)
      ]

  pub stops_append : (xs ys : List ℕ) → stops st 0 (xs ++ ys) ≡ stops st 0 xs + stops st 0 ys
  unfolding stops
  stops_append [] ys = sym (zero-add (stops st 0 ys))
  stops_append (x ∷ xs) ys =
      elim (dec_lt x (st 0)) [
        | yes h ↦ omega (arith, stops_stop st 0 x (xs ++ ys) h, stops_stop st 0 x xs h, stops_append xs ys)
        | no h ↦
            let k : st 0 ≤ x = omega arith in
            omega (arith, stops_continuer x (xs ++ ys) k, stops_continuer x xs k, stops_append xs ys)
      ]

  -- symbols in which too few codewords end are passed at once
  pub end_append : (xs ys : List ℕ) (n : ℕ) → stops st 0 xs < n → end_of st n 0 (xs ++ ys) ≡ length xs + end_of st (n - stops st 0 xs) 0 ys
  unfolding stops
  end_append [] ys n h = rw sub-zero (sym (zero-add (end_of st n 0 ys)))
  end_append (x ∷ xs) ys zero h = absurd (omega arith)
  end_append (x ∷ xs) ys (suc n) h =
      elim (dec_lt x (st 0)) [
        | yes k ↦
            let e = stops_stop st 0 x xs k in
            end_stop st 0 x (xs ++ ys) n k
            ∙ rw (e, suc-sub-suc, suc-add) (ap suc (end_append xs ys n (omega arith)))
        | no k ↦
            let l : st 0 ≤ x = omega arith in
            let e = stops_continuer x xs l in
            end_continuer x (xs ++ ys) l n
            ∙ rw (e, suc-add) (ap suc (end_append xs ys (suc n) (omega arith)))
      ]

  -- every codeword has a symbol
  pub end_long : (n : ℕ) (ys : List ℕ) → n ≤ stops st 0 ys → n ≤ end_of st n 0 ys
  unfolding stops
  end_long zero ys h = zero-le
  end_long (suc n) [] h = absurd (omega arith)
  end_long (suc n) (y ∷ ys) h =
      elim (dec_lt y (st 0)) [
        | yes k ↦ omega (arith, end_stop st 0 y ys n k, end_long n ys (omega (arith, stops_stop st 0 y ys k)))
        | no k ↦
            let l : st 0 ≤ y = omega arith in
            omega (arith, end_continuer y ys l n, end_long (suc n) ys (omega (arith, stops_continuer y ys l)))
      ]

  -- ---- the symbols of a byte

  pub stops_long : length (stops_by_byte c) ≡ 256
  unfolding stops_by_byte
  stops_long = length_tab _ 0 256

  pub stops_at : (b : ℕ) → b < 256 → get_or (stops_by_byte c) b 0 ≡ stops st 0 (symbols_of c.k (b ∷ []))
  unfolding stops_by_byte
  stops_at b h = tab_at _ 256 b h

  pub stops_table : tab (λ b. stops (λ _. st 0) 0 (symbols_of c.k (b ∷ []))) 0 256 ≡ stops_by_byte c
  unfolding stops_by_byte
  stops_table = ap (λ (f : ℕ → ℕ). tab f 0 256) (fun_ext (λ b. stops_even 0 (symbols_of c.k (b ∷ []))))

pub byte_length : (k b : ℕ) → length (symbols_of k (b ∷ [])) ≡ per k
byte_length k b = symbols_length k (b ∷ []) ∙ one-mul (per k)

-- ---- the symbols of a byte that are below s, by one test of the byte for each

two_row : (b : ℕ) → symbols_of 2 (b ∷ []) ≡ b / 64 % 4 ∷ b / 16 % 4 ∷ b / 4 % 4 ∷ b % 4 ∷ []
unfolding symbols_of symbol_at tab per shift
two_row b = ap (λ (n : ℕ). b / 64 % 4 ∷ b / 16 % 4 ∷ b / 4 % 4 ∷ n % 4 ∷ []) (div-one b)

four_row : (b : ℕ) → symbols_of 4 (b ∷ []) ≡ b / 16 % 16 ∷ b % 16 ∷ []
unfolding symbols_of symbol_at tab per shift
four_row b = ap (λ (n : ℕ). b / 16 % 16 ∷ n % 16 ∷ []) (div-one b)

-- a symbol's part of the sum
one_more : (s y : ℕ) (ys : List ℕ) → stops (λ _. s) 0 (y ∷ ys) ≡ cond (ltb y s) 1 0 + stops (λ _. s) 0 ys
unfolding stops
one_more s y ys =
    elim (dec_lt y s) [
      | yes h ↦ rw (lt-ltb y s h) (rw one-add)
      | no h ↦ rw (le-ltb y s (omega arith)) (even_place s 1 ys ∙ sym (zero-add (stops (λ _. s) 0 ys)))
    ]

-- tests that agree
same_test : (a b x y : ℕ) → (a < b → x < y) → (b ≤ a → y ≤ x) → ◌≡◌ {A = ℕ} (cond (ltb a b) 1 0) (cond (ltb x y) 1 0)
same_test a b x y f g =
    elim (dec_lt a b) [
      | yes h ↦ rw (lt-ltb a b h, lt-ltb x y (f h))
      | no h ↦ rw (le-ltb a b (omega arith), le-ltb x y (g (omega arith)))
    ]

module _ (s b : ℕ) (h : b < 256) where
  pub stops_two : cond (ltb b (64 * s)) 1 0 + cond (ltb (b % 64) (16 * s)) 1 0 + cond (ltb (b % 16) (4 * s)) 1 0 + cond (ltb (b % 4) s) 1 0
      ≡ stops (λ _. s) 0 (symbols_of 2 (b ∷ []))
  unfolding stops
  stops_two =
      rw (two_row b)
      (omega (
        arith,
        same_test (b / 64 % 4) s b (64 * s) (λ l. omega arith) (λ l. omega arith),
        same_test (b / 16 % 4) s (b % 64) (16 * s) (λ l. omega arith) (λ l. omega arith),
        same_test (b / 4 % 4) s (b % 16) (4 * s) (λ l. omega arith) (λ l. omega arith),
        one_more s (b / 64 % 4) (b / 16 % 4 ∷ b / 4 % 4 ∷ b % 4 ∷ []),
        one_more s (b / 16 % 4) (b / 4 % 4 ∷ b % 4 ∷ []),
        one_more s (b / 4 % 4) (b % 4 ∷ []),
        one_more s (b % 4) [],
      ))

  pub stops_four : cond (ltb b (16 * s)) 1 0 + cond (ltb (b % 16) s) 1 0 ≡ stops (λ _. s) 0 (symbols_of 4 (b ∷ []))
  unfolding stops
  stops_four =
      rw (four_row b)
      (omega (
        arith,
        same_test (b / 16 % 16) s b (16 * s) (λ l. omega arith) (λ l. omega arith),
        one_more s (b / 16 % 16) (b % 16 ∷ []),
        one_more s (b % 16) [],
      ))

  -- what the table has of it
  pub listed_at : 0 < s → s < 4 → get_or stops_of_two (256 * (s - 1) + b) 0 ≡ stops (λ _. s) 0 (symbols_of 2 (b ∷ []))
  unfolding stops_of_two
  listed_at l m =
      let e : (256 * (s - 1) + b) / 256 + 1 ≡ s = omega arith in
      let f : (256 * (s - 1) + b) % 256 ≡ b = omega arith in
      tab_at _ 768 (256 * (s - 1) + b) (omega arith) ∙ rw (e, f)

-- ---- a row of n numbers filled from its front

abbrev pub filled : (ℕ → ℕ) → ℕ → ℕ → ℕ
filled f b j = cond (ltb j b) (f j) 0

module _ (f : ℕ → ℕ) (n : ℕ) where
  pub filled_none : zeros n ≡ tab (filled f 0) 0 n
  filled_none = tab_zeros (filled f 0) n (λ j. rw (le-ltb j 0 (omega arith)))

  pub filled_more : (b v : ℕ) → b < n → v ≡ f b → set (tab (filled f b) 0 n) b v ≡ tab (filled f (b + 1)) 0 n
  filled_more b v h e =
      tab_set (filled f b) (filled f (b + 1)) n b v h
      (rw (lt-ltb b (b + 1) (omega arith)) (sym e))
      (λ j o. elim (dec_lt j b) [
        | yes l ↦ rw (lt-ltb j b l, lt-ltb j (b + 1) (omega arith))
        | no l ↦ rw (le-ltb j b (omega arith), le-ltb j (b + 1) (omega arith))
      ])

  pub filled_all : (b : ℕ) → n ≤ b → tab (filled f b) 0 n ≡ tab f 0 n
  filled_all b h =
      tab_ext f n (tab (filled f b) 0 n) (length_tab _ 0 n)
      (λ i l. tab_at (filled f b) n i l ∙ rw (lt-ltb i b (omega arith)))

-- ---- a buffer's codewords passed, from symbol p on: so many of them are left from symbol q on

pub passing_first : {c : Code} {buf : List ℕ} {p count : ℕ} → Ending c buf p count → Passing c buf p count p count
unfolding end_from
passing_first e = record { good = e.good; enough = e.enough; ends = refl; counts = e.counts }

module _ {c : Code} {buf : List ℕ} {p count q left : ℕ} (a : Passing c buf p count q left) where
  abbrev k : ℕ
  k = c.k

  abbrev row : List ℕ
  row = symbols_of k buf

  width : Width k
  width = code_width c a.good

  -- the symbol behind the last
  pub passing_last : left ≡ 0 → q ≡ end_from c buf p count
  unfolding end_of
  passing_last e = sym (a.ends ∙ rw e (add-zero q))

  pub passing_upto : q ≤ end_from c buf p count
  passing_upto = omega (arith, a.ends)

  pub passing_few : q + left ≤ end_from c buf p count
  passing_few = omega (arith, a.ends, end_long c left (drop q row) a.enough)

  -- those that are left
  pub passing_ending : Ending c buf q left
  unfolding end_from
  passing_ending = record { good = a.good; enough = a.enough; counts = omega (arith, a.ends, a.counts) }

  pub passing_rest : end_from c buf q left ≡ end_from c buf p count
  unfolding end_from
  passing_rest = sym a.ends

  -- one that is left ends in the row
  pub passing_inside : 0 < left → q < length row
  passing_inside h = stops_inside (stoppers c) 0 row q (omega (arith, a.enough))

  -- byte j, that symbol q starts
  module _ (j : ℕ) (e : q ≡ j * per k) (h : 0 < left) where
    abbrev b : ℕ
    b = get_or buf j 0

    pub byte_inside : j < length buf
    byte_inside = starts_within width buf j (rw e at (passing_inside h))

    byte_first : drop q row ≡ symbols_of k (b ∷ []) ++ drop ((j + 1) * per k) row
    byte_first =
        rw (e, add-one)
        (symbols_drop width j buf
        ∙ ap (symbols_of k) (drop-cons buf j 0 byte_inside)
        ∙ symbols_append width (b ∷ []) (drop (suc j) buf)
        ∙ ap (λ (ys : List ℕ). symbols_of k (b ∷ []) ++ ys) (sym (symbols_drop width (suc j) buf)))

    pub passing_byte : (ended : ℕ) → ended ≡ stops (stoppers c) 0 (symbols_of k (b ∷ [])) → ended < left
        → Passing c buf p count ((j + 1) * per k) (left - ended)
    passing_byte ended f l =
        let xs = symbols_of k (b ∷ []) in
        let ys = drop ((j + 1) * per k) row in
        let g : (j + 1) * per k ≡ q + per k = omega (arith, add-mul j 1 (per k)) in
        rw f
        (record {
          good = a.good;
          enough = omega (arith, rw byte_first at a.enough, stops_append c xs ys);
          ends = omega (arith, rw byte_first at a.ends, end_append c xs ys left (omega arith), byte_length k b);
          counts = a.counts;
        })

  -- one symbol
  module _ (h : 0 < left) where
    abbrev y : ℕ
    y = get_or row q 0

    symbol_first : drop q row ≡ y ∷ drop (q + 1) row
    symbol_first = rw add-one (drop-cons row q 0 (passing_inside h))

    pub passing_stopper : y < stoppers c 0 → Passing c buf p count (q + 1) (left - 1)
    passing_stopper l =
        let ys = drop (q + 1) row in
        let e : left ≡ suc (left - 1) = omega arith in
        record {
          good = a.good;
          enough = omega (arith, rw symbol_first at a.enough, stops_stop (stoppers c) 0 y ys l);
          ends = omega (arith, rw (symbol_first, e) at a.ends, end_stop (stoppers c) 0 y ys (left - 1) l);
          counts = a.counts;
        }

    pub passing_continuer : stoppers c 0 ≤ y → Passing c buf p count (q + 1) left
    passing_continuer l =
        let ys = drop (q + 1) row in
        let e : left ≡ suc (left - 1) = omega arith in
        record {
          good = a.good;
          enough = omega (arith, rw symbol_first at a.enough, stops_continuer c y ys l);
          ends = omega (arith, rw symbol_first at a.ends, subst (λ n. end_of (stoppers c) n 0 (y ∷ ys) ≡ suc (end_of (stoppers c) n 0 ys)) (sym e) (end_continuer c y ys l (left - 1)));
          counts = a.counts;
        }

  -- the symbol before
  module _ (i : ℕ) (e : q ≡ i + 1) (h : 0 < left) where
    abbrev x : ℕ
    x = get_or row i 0

    symbol_before : drop i row ≡ x ∷ drop q row
    symbol_before = rw (e, add-one) (drop-cons row i 0 (omega (arith, passing_inside h)))

    pub back_stopper : x < stoppers c 0 → Passing c buf p count i (left + 1)
    back_stopper l =
        let ys = drop q row in
        record {
          good = a.good;
          enough = rw symbol_before (omega (arith, a.enough, stops_stop (stoppers c) 0 x ys l));
          ends = rw (symbol_before, add-one) (omega (arith, a.ends, end_stop (stoppers c) 0 x ys left l));
          counts = a.counts;
        }

    pub back_continuer : stoppers c 0 ≤ x → Passing c buf p count i left
    back_continuer l =
        let ys = drop q row in
        let f : left ≡ suc (left - 1) = omega arith in
        record {
          good = a.good;
          enough = rw symbol_before (omega (arith, a.enough, stops_continuer c x ys l));
          ends = rw symbol_before (omega (arith, a.ends, subst (λ n. end_of (stoppers c) n 0 (x ∷ ys) ≡ suc (end_of (stoppers c) n 0 ys)) (sym f) (end_continuer c x ys l (left - 1))));
          counts = a.counts;
        }
