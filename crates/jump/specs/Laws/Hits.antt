-- Hits below a symbol: one symbol more, symbols at which there is none, and all of a sound roll.
use Rattle.std.specs.Prelude.{◌≡◌, ◌⊎◌, true, false, T, take, drop, get_or}
use Rattle.std.proofs.Math.Path.{refl, sym, ap}
use Rattle.std.proofs.Common.{subst, ◌∙◌, inl, inr, ⊎_elim, le_refl, add-zero, take-append-drop, length-append, length-drop, length-take, take_all, get_or-take, get_or-drop}
use Rattle.std.proofs.Math.Bool.{Bool}
use mathlib.Core.List.{List, [], ◌∷◌, ◌++◌, append-nil}
use Prim.Native.Nat.{ℕ, zero, suc, ◌+◌, ◌-◌, ◌≤◌, ◌<◌}
use Rattle.std.proofs.Math.Nat.{le_trans, zero-add}
use Rattle.std.proofs.Math.Numerals.{add-one}
use Rattle.std.proofs.Math.Decide.{dec_lt}
use native.Mathlib.Omega.{arith}
use Rattle.std.proofs.Math.ListN.{length, get_or-append}
use Rattle.std.proofs.Math.Seq.{length-take-le}
use Rattle.ground.specs.Laws.Tests.{by_value, yes_true, true_yes}
use Rattle.stopper.specs.Paper.Table.{base, stoppers}
use Rattle.stopper.specs.Paper.Reading.{write}
use Rattle.stopper.specs.Laws.Table.{code_good, one_place}
use Rattle.stopper.specs.declared.code.Code.{Code}
use Rattle.symbols.specs.Paper.Symbols.{symbols_of}
use Rattle.symbols.specs.Laws.Rows.{room_row}
use Rattle.texts.specs.Paper.Hits.{listed}
use Rattle.texts.specs.Helpers.Passing.{grown, passing}
use Rattle.texts.specs.Laws.Hits.{stands_front}
use Rattle.texts.specs.Laws.Finding.{passing_more}
use Rattle.reading.specs.Paper.Reading.{row_upto, ranks_read}
use Rattle.sound.specs.Paper.Roll.{reading, Sound}
use Rattle.sound.specs.Helpers.Ends.{stops, end_of, end_from}
use Rattle.sound.specs.Laws.Sound.{sound_code, sound_row, sound_length}
use Rattle.sound.specs.Laws.Ends.{stops_stop, end_stop, write_count}
use Rattle.sound.specs.Laws.Stops.{stops_continuer, end_continuer}
use Rattle.find.specs.Helpers.Finding.{stands_behind, word_hits}
use Rattle.find.specs.Laws.Finding.{words_behind}
use Rattle.find.specs.Laws.Hits.{AfterStopper, starts_after}
use Rattle.sound.specs.declared.records.Roll.{Roll}
use Rattle.jump.specs.Helpers.Counting.{number_at}
use Rattle.jump.specs.Laws.Counting.{number_upto, number_stopper, number_continuer}
use Rattle.jump.specs.Helpers.Hits.{occurs, Hit, starts_below, hits_below}

pub listed_length : (found slice : List ℕ) → length (listed found slice) ≡ length slice
listed_length found slice = simp (length-append, length-take, length-drop) (omega arith)

passing_few : (f : ℕ → Bool) (n : ℕ) → length (passing f n) ≤ n
unfolding passing
passing_few f zero = omega arith
passing_few f (suc n) = go (f n) (passing_few f n)
  where
    go : (b : Bool) → length (passing f n) ≤ n → length (grown b n (passing f n)) ≤ suc n
    go true h = omega (arith, length-append (passing f n) (n ∷ []))
    go false h = omega arith

module _ (c : Code) where
  abbrev st : ℕ → ℕ
  st = stoppers c

  -- ---- symbols whose last is a stopper

  some_end : (x : ℕ) (xs : List ℕ) → get_or (x ∷ xs) (length xs) 0 < st 0 → 0 < stops st 0 (x ∷ xs)
  some_end x [] a = rw (stops_stop st 0 x [] a) (omega arith)
  some_end x (y ∷ xs) a =
      elim (dec_lt x (st 0)) [
        | yes h ↦ rw (stops_stop st 0 x (y ∷ xs) h) (omega arith)
        | no h ↦ rw (stops_continuer c x (y ∷ xs) (omega arith)) (some_end y xs a)
      ]

  none_end : (ys : List ℕ) → end_of st (stops st 0 []) 0 ys ≡ 0
  unfolding stops end_of
  none_end ys = refl

  -- the codewords that end in them end behind the last
  some_at : (x : ℕ) (xs ys : List ℕ) → get_or (x ∷ xs) (length xs) 0 < st 0 → end_of st (stops st 0 (x ∷ xs)) 0 ((x ∷ xs) ++ ys) ≡ length (x ∷ xs)
  some_at x [] ys a = rw (stops_stop st 0 x [] a) (end_stop st 0 x ys (stops st 0 []) a ∙ ap suc (none_end ys))
  some_at x (y ∷ xs) ys a =
      elim (dec_lt x (st 0)) [
        | yes h ↦ rw (stops_stop st 0 x (y ∷ xs) h) (end_stop st 0 x ((y ∷ xs) ++ ys) (stops st 0 (y ∷ xs)) h ∙ ap suc (some_at y xs ys a))
        | no h ↦
            let n = stops st 0 (y ∷ xs) in
            let e : n ≡ suc (n - 1) = omega (arith, some_end y xs a) in
            rw (stops_continuer c x (y ∷ xs) (omega arith))
            (ap (λ (i : ℕ). end_of st i 0 (x ∷ ((y ∷ xs) ++ ys))) e
            ∙ end_continuer c x ((y ∷ xs) ++ ys) (omega arith) (n - 1)
            ∙ ap (λ (i : ℕ). suc (end_of st i 0 ((y ∷ xs) ++ ys))) (sym e)
            ∙ ap suc (some_at y xs ys a))
      ]

  ends_at : (xs ys : List ℕ) → AfterStopper (st 0) xs (length xs) → end_of st (stops st 0 xs) 0 (xs ++ ys) ≡ length xs
  ends_at [] ys a = none_end ys
  ends_at (x ∷ xs) ys a = some_at x xs ys a

  module _ (buf : List ℕ) where
    abbrev row : List ℕ
    row = symbols_of c.k buf

    after_take : (a : ℕ) → a ≤ length row → AfterStopper (st 0) row a → AfterStopper (st 0) (take a row) a
    after_take zero h k = tt
    after_take (suc a) h k = rw (get_or-take (suc a) row a 0 (le_refl (suc a))) k

    take_after : (a : ℕ) → AfterStopper (st 0) (take a row) a → AfterStopper (st 0) row a
    take_after zero k = tt
    take_after (suc a) k = rw (get_or-take (suc a) row a 0 (le_refl (suc a))) at k

    -- a symbol after a stopper starts the character that has its number
    start_number : (a : ℕ) → a ≤ length row → AfterStopper (st 0) row a → end_from c buf 0 (number_at c buf a) ≡ a
    unfolding end_from
    start_number a h k =
        let e : length (take a row) ≡ a = length-take-le a row h in
        zero-add _
        ∙ ap (end_of st (number_at c buf a) 0) (sym (take-append-drop a row))
        ∙ ends_at (take a row) (drop a row) (subst (AfterStopper (st 0) (take a row)) (sym e) (after_take a h k))
        ∙ e

    after_or : (a : ℕ) → AfterStopper (st 0) row a ⊎ (AfterStopper (st 0) row a → ⊥)
    after_or zero = inl tt
    after_or (suc a) = elim (dec_lt (get_or row a 0) (st 0)) [ yes k ↦ inl k | no k ↦ inr k ]

    starts_here : (a : ℕ) → a ≤ length row → AfterStopper (st 0) row a → starts_below c buf a ≡ number_at c buf a
    unfolding starts_below stops
    starts_here zero h k = refl
    starts_here (suc a) h k = sym (ap (number_at c buf) (sym (add-one a)) ∙ number_stopper c buf a h k ∙ add-one (number_at c buf a))

    starts_inside : (a : ℕ) → a < length row → (AfterStopper (st 0) row a → ⊥) → starts_below c buf (suc a) ≡ starts_below c buf a
    unfolding starts_below
    starts_inside zero h n = absurd (n tt)
    starts_inside (suc a) h n = ap suc (ap (number_at c buf) (sym (add-one a)) ∙ number_continuer c buf a (omega arith) (omega (arith, n)))

    starts_few : (a : ℕ) → starts_below c buf a ≤ a
    unfolding starts_below
    starts_few zero = omega arith
    starts_few (suc a) = omega (arith, number_upto c buf a)

    -- ---- hits, symbol by symbol, in the first h of the row

    module _ (h : ℕ) (symbols : List ℕ) (l : h ≤ length row) where
      abbrev found : ℕ → List ℕ
      found a = hits_below c h buf symbols a

      hits_start : (a : ℕ) → a ≤ h → AfterStopper (st 0) row a → found (suc a) ≡ grown (occurs c h buf symbols a) (number_at c buf a) (found a)
      unfolding hits_below starts_below
      hits_start a u k =
          let f : ℕ → Bool = stands_behind c buf h symbols in
          let i : ℕ = number_at c buf a in
          ap (passing f) (sym (add-one i))
          ∙ passing_more f i (ap (occurs c h buf symbols) (sym (start_number a (omega arith) k)))
          ∙ ap (λ (n : ℕ). grown (occurs c h buf symbols a) i (passing f n)) (sym (starts_here a (omega arith) k))

      hits_inside : (a : ℕ) → a < h → (AfterStopper (st 0) row a → ⊥) → found (suc a) ≡ found a
      unfolding hits_below
      hits_inside a u n = ap (passing (stands_behind c buf h symbols)) (starts_inside a (omega arith) n)

      pub no_hits : found 0 ≡ []
      unfolding hits_below starts_below passing
      no_hits = refl

      -- a hit, or none
      pub hit_more : (a : ℕ) → a < h → Hit c h buf symbols a → found (a + 1) ≡ found a ++ (number_at c buf a ∷ [])
      hit_more a u t =
          rw add-one
          (hits_start a (omega arith) t.1 ∙ ap (λ (b : Bool). grown b (number_at c buf a) (found a)) (yes_true (occurs c h buf symbols a) t.0))

      pub hit_none : (a : ℕ) → a < h → (Hit c h buf symbols a → ⊥) → found (a + 1) ≡ found a
      hit_none a u n =
          rw add-one
          (⊎_elim
          (λ k.
          hits_start a (omega arith) k
          ∙ ap (λ (b : Bool). grown b (number_at c buf a) (found a)) (by_value (occurs c h buf symbols a) (λ e. absurd (n (true_yes _ e, k))) (λ e. e)))
          (λ k. hits_inside a u k)
          (after_or a))

      -- no hit starts from symbol a up to symbol e
      none_by : (a n : ℕ) → a + n ≤ h → ((q : ℕ) → a ≤ q → q < a + n → T (occurs c h buf symbols q) → ⊥) → found (a + n) ≡ found a
      none_by a zero u none = rw add-zero
      none_by a (suc n) u none =
          let e : a + suc n ≡ a + n + 1 = omega arith in
          ap found e
          ∙ hit_none (a + n) (omega arith) (λ t. none (a + n) (omega arith) (omega arith) t.0)
          ∙ none_by a n (omega arith) (λ q x y. none q x (omega arith))

      pub hits_none : (a e : ℕ) → a ≤ e → e ≤ h → ((q : ℕ) → a ≤ q → q < e → T (occurs c h buf symbols q) → ⊥) → found e ≡ found a
      hits_none a e u v none =
          let f : a + (e - a) ≡ e = omega arith in
          ap found (sym f) ∙ none_by a (e - a) (omega arith) (λ q x y. none q x (omega arith))

      pub hits_few : (a : ℕ) → length (found a) ≤ a
      unfolding hits_below
      hits_few a = le_trans (passing_few (stands_behind c buf h symbols) (starts_below c buf a)) (starts_few a)

      -- ---- symbols that stand at symbol a

      module _ (a : ℕ) (u : a < h) (t : T (occurs c h buf symbols a)) where
        ahead : drop a (take h row) ≡ symbols ++ (stands_front symbols (drop a (take h row)) t).0
        ahead = (stands_front symbols (drop a (take h row)) t).1

        pub stands_room : a + length symbols ≤ h
        stands_room =
            omega (arith, ap length ahead, length-append symbols (stands_front symbols (drop a (take h row)) t).0, length-drop a (take h row), length-take-le h row l)

        pub stands_symbol : (j : ℕ) → j < length symbols → get_or row (a + j) 0 ≡ get_or symbols j 0
        stands_symbol j v =
            sym (get_or-take h row (a + j) 0 (omega (arith, stands_room)))
            ∙ sym (get_or-drop a (take h row) j 0)
            ∙ ap (λ (x : List ℕ). get_or x j 0) ahead
            ∙ get_or-append symbols _ 0 j v

-- ---- all hits of a sound roll

module _ {r : Roll} {buf : List ℕ} (s : Sound r buf) where
  abbrev code : Code
  code = r.table.code

  abbrev upto : List ℕ
  upto = row_upto code r.h buf

  abbrev ranks : List ℕ
  ranks = ranks_read (reading r buf)

  words : upto ≡ write (base code) (stoppers code) ranks
  words = sound_row s

  -- all its codewords end among its symbols
  pub all_number : number_at code buf r.h ≡ r.n
  unfolding stops
  all_number =
      ap (stops (stoppers code) 0) (words ∙ sym (append-nil _))
      ∙ write_count (base code) (stoppers code) (code_good code (sound_code s)) [] ranks
      ∙ omega (arith, s.count)

  -- the last symbol is a stopper
  all_after : AfterStopper (stoppers code 0) (symbols_of code.k buf) r.h
  all_after =
      let ws : List ℕ = write (base code) (stoppers code) ranks in
      let stop : ℕ = stoppers code 0 in
      let e : length (write (base code) (stoppers code) (take (length ranks) ranks)) ≡ r.h
      = ap (λ (l : List ℕ). length (write (base code) (stoppers code) l)) (take_all (length ranks) ranks (le_refl (length ranks))) ∙ ap length (sym words) ∙ sound_length s in
      let a : AfterStopper stop ws (length (write (base code) (stoppers code) (take (length ranks) ranks)))
      = starts_after (base code) (stoppers code) (code_good code (sound_code s)) stop (one_place code) ranks (length ranks) (le_refl (length ranks)) in
      take_after code buf r.h (subst (λ (l : List ℕ). AfterStopper stop l r.h) (sym words) (subst (AfterStopper stop ws) e a))

  pub all_hits : (symbols : List ℕ) → hits_below code r.h buf symbols r.h ≡ word_hits r buf symbols
  unfolding hits_below
  all_hits symbols =
      ap (passing (stands_behind code buf r.h symbols)) (starts_here code buf r.h (room_row code.k buf r.h s.fits) all_after ∙ all_number)
      ∙ words_behind s symbols
