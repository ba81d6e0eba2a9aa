-- A run of symbols replaced where it lies: the row that each way of doing it leaves, and what the outcome keeps.
use Rattle.std.specs.Prelude.{◌≡◌, refl, ℕ, ◌+◌, ◌-◌, ◌*◌, ◌/◌, ◌^◌, ◌≤◌, T, take}
use Rattle.std.proofs.Common.{sym, ◌∙◌, zero-add, add-mul, div-mul-le_self, length-append, take-take, length-take-le}
use Rattle.std.proofs.Math.Path.{ap, ap₂}
use mathlib.Core.List.{List, ◌++◌, append_assoc}
use native.Mathlib.Omega.{arith}
use Rattle.std.proofs.Math.ListN.{length, drop}
use Rattle.std.proofs.lemmas.List.{take-append-le}
use Rattle.ground.specs.Paper.Rows.{zeros, all_zero}
use Rattle.ground.specs.Paper.Runs.{over, run, in_place}
use Rattle.ground.specs.Helpers.Below.{Below}
use Rattle.ground.specs.Helpers.Moved.{cleared, moved_up, moved_down, laid_from}
use Rattle.ground.specs.Laws.Rows.{below_append, below_take, below_drop, zeros_append, below_zeros}
use Rattle.ground.specs.Laws.Runs.{over_length, drop_past, over_before, run_length, run_slice, cleared_none, clean_run, none_run, cleared_behind, split_from}
use Rattle.symbols.specs.Paper.Symbols.{per, bytes_for, symbols_of, bytes_of}
use Rattle.symbols.specs.Helpers.Widths.{Width}
use Rattle.symbols.specs.Laws.Rows.{symbols_length, symbols_below, symbols_append, symbols_take, symbols_drop, ends_inside}
use Rattle.symbols.specs.Laws.Whole.{symbols_zeros}
use Rattle.symbols.specs.Laws.Sizes.{bytes_for_enough, bytes_for_mono, bytes_for_full}
use Rattle.symbols.specs.Laws.Packing.{bytes_length, bytes_below}
use Rattle.symbols.proofs.Laws.Packing.{symbols_bytes, symbols_one, packed_cleared}
use Rattle.store.specs.Paper.Stored.{packed_into}
use Rattle.store.specs.Helpers.Replacing.{replaced_row, Replaces}
use Rattle.store.specs.Helpers.Words.{row_of}
use Rattle.store.specs.Laws.Words.{row_symbols}
use Rattle.store.specs.declared.replace.Run.{Run}

module _ (row : List ℕ) (p q h : ℕ) (new : List ℕ) (pq : p ≤ q) (qh : q ≤ h) (held : h ≤ length row) where
  -- the tail moved, and the new run laid before it
  laid_up : (by : ℕ) → p + length new ≡ q + by → h + by ≤ length row → laid_from (moved_up row q h by) p new ≡ over row p (new ++ run row q h) (h + by)
  laid_up by e inside =
      rw e (over_before row p (q + by) (h + by) new (run row q h) e (omega (arith, run_length row q h qh held)) inside)

  laid_down : (by : ℕ) → p + length new + by ≡ q → laid_from (moved_down row q h by) p new ≡ over row p (new ++ run row q h) (h - by)
  laid_down by e =
      let f : p + length new ≡ q - by = omega arith in
      rw f (over_before row p (q - by) (h - by) new (run row q h) f (omega (arith, run_length row q h qh held)) (omega arith))

  laid_there : p + length new ≡ q → laid_from row p new ≡ over row p (new ++ run row q h) h
  laid_there e =
      rw e (ap (λ (r : List ℕ). take p row ++ (new ++ r)) (split_from row q h qh)
      ∙ ap (λ (r : List ℕ). take p row ++ r) (sym (append_assoc new (run row q h) (drop h row))))

  -- the row up to symbol h with the new run
  replaced_is : over (take h row) p new q ≡ take p row ++ (new ++ run row q h)
  replaced_is = ap₂ (λ (a b : List ℕ). a ++ (new ++ b)) (take-take p h row (omega arith)) (sym (run_slice row q h))

  -- and its length
  replaced_length : length (over (take h row) p new q) ≡ p + length new + (h - q)
  replaced_length =
      rw replaced_is
      (simp (length-append, length-take-le p row (omega arith)) (omega (arith, run_length row q h qh held)))

-- ---- bytes

module _ {k : ℕ} (w : Width k) where
  -- a row packed in place of another, `gone` bytes behind it cleared
  packed_symbols : (buf : List ℕ) {xs : List ℕ} → Below (2 ^ k) xs → (m gone : ℕ) → m ≡ bytes_for k (length xs)
      → symbols_of k (bytes_of k xs ++ (zeros gone ++ drop (m + gone) buf))
      ≡ xs ++ (zeros ((m + gone) * per k - length xs) ++ drop ((m + gone) * per k) (symbols_of k buf))
  packed_symbols buf {xs} x m gone e =
      let unused = bytes_for k (length xs) * per k - length xs in
      let f : unused + gone * per k ≡ (m + gone) * per k - length xs
      = omega (arith, add-mul m gone (per k), bytes_for_enough w (length xs), ap (λ (n : ℕ). n * per k) e) in
      symbols_append w (bytes_of k xs) (zeros gone ++ drop (m + gone) buf)
      ∙ ap₂ ◌++◌ (symbols_bytes w x)
      (symbols_append w (zeros gone) (drop (m + gone) buf) ∙ ap₂ ◌++◌ (symbols_zeros w gone) (sym (symbols_drop w (m + gone) buf)))
      ∙ append_assoc xs (zeros unused) (zeros (gone * per k) ++ drop ((m + gone) * per k) (symbols_of k buf))
      ∙ ap (λ (l : List ℕ). xs ++ l)
      (sym (append_assoc (zeros unused) (zeros (gone * per k)) (drop ((m + gone) * per k) (symbols_of k buf)))
      ∙ ap (λ (z : List ℕ). z ++ drop ((m + gone) * per k) (symbols_of k buf)) (zeros_append unused (gone * per k) ∙ ap zeros f))

-- ---- the outcome

module _ {k : ℕ} (w : Width k) {buf : List ℕ} (b : Below 256 buf) {h p q : ℕ} {new : List ℕ} (n : Below (2 ^ k) new) (pq : p ≤ q) (qh : q ≤ h)
    (held : h ≤ length (symbols_of k buf)) where
  -- the symbols before
  abbrev row : List ℕ
  row = symbols_of k buf

  -- the buffer afterwards
  abbrev outcome : List ℕ
  outcome = in_place (bytes_for k h) (bytes_of k (replaced_row k buf h p q new)) buf

  -- what it holds are symbols and bytes
  symbols_good : Below (2 ^ k) (replaced_row k buf h p q new)
  unfolding replaced_row
  symbols_good =
      let t = below_take (symbols_below k buf) h in
      below_append (below_take t p) (below_append n (below_drop t q))

  outcome_below : Below 256 outcome
  outcome_below =
      let m = length (bytes_of k (replaced_row k buf h p q new)) in
      let gone = bytes_for k h - m in
      below_append (bytes_below w symbols_good) (below_append (below_zeros 256 gone (omega arith)) (below_drop b (m + gone)))

  -- its symbols, cleared up to the end of the last byte that held or holds one
  outcome_symbols : (later last : ℕ) → p + length new + (h - q) ≡ later → bytes_for k later + (bytes_for k h - bytes_for k later) ≡ last
      → symbols_of k outcome ≡ over row p ((new ++ run row q h) ++ zeros (last * per k - later)) (last * per k)
  unfolding replaced_row
  outcome_symbols later last e f =
      let xs = over (take h row) p new q in
      let l : length xs ≡ later = replaced_length row p q h new pq qh held ∙ e in
      let m : length (bytes_of k xs) ≡ bytes_for k later = bytes_length w xs ∙ ap (bytes_for k) l in
      let s : length (bytes_of k xs) + (bytes_for k h - length (bytes_of k xs)) ≡ last = omega arith in
      packed_symbols w buf symbols_good (length (bytes_of k xs)) (bytes_for k h - length (bytes_of k xs)) (bytes_length w xs)
      ∙ ap₂ (λ (i j : ℕ). xs ++ (zeros (i * per k - j) ++ drop (i * per k) row)) s l
      ∙ ap (λ (l : List ℕ). l ++ (zeros (last * per k - later) ++ drop (last * per k) row)) (replaced_is row p q h new pq qh held)
      ∙ simp append_assoc

  -- the unused symbols behind symbol h are 0
  abbrev Clean : Type 0
  Clean = T (all_zero (run row h (bytes_for k h * per k)))

  -- reached by laying the run and the tail over the row, and clearing behind them up to where the row is clean
  cleared_symbols : (later mid last : ℕ) → p + length new + (h - q) ≡ later → bytes_for k later + (bytes_for k h - bytes_for k later) ≡ last
      → later ≤ mid → mid ≤ last * per k → last * per k ≤ length row → run row mid (last * per k) ≡ zeros (last * per k - mid)
      → symbols_of k outcome ≡ cleared (over row p (new ++ run row q h) later) later mid
  cleared_symbols later mid last e f l m inside z =
      outcome_symbols later last e f
      ∙ sym
      (cleared_behind row p (new ++ run row q h) later mid (last * per k)
      (omega (arith, length-append new (run row q h), run_length row q h qh held)) l m inside z)

  -- more symbols
  grown_symbols : (by : ℕ) → p + length new ≡ q + by → h + by ≤ length row
      → symbols_of k outcome ≡ cleared (laid_from (moved_up row q h by) p new) (h + by) (bytes_for k (h + by) * per k)
  grown_symbols by e inside =
      let end = bytes_for k (h + by) * per k in
      cleared_symbols (h + by) end (bytes_for k (h + by)) (omega arith) (omega (arith, bytes_for_mono w h (h + by) (omega arith)))
      (bytes_for_enough w (h + by)) (omega arith) (ends_inside w buf (h + by) inside) (none_run row end)
      ∙ sym (ap (λ (r : List ℕ). cleared r (h + by) end) (laid_up row p q h new pq qh held by e inside))

  -- fewer, or as many
  fewer_symbols : (later : ℕ) → p + length new + (h - q) ≡ later → later ≤ h → Clean
      → symbols_of k outcome ≡ cleared (over row p (new ++ run row q h) later) later h
  fewer_symbols later e l z =
      cleared_symbols later h (bytes_for k h) e (omega (arith, bytes_for_mono w later h l)) l (bytes_for_enough w h) (ends_inside w buf h held)
      (clean_run row h (bytes_for k h * per k) (bytes_for_enough w h) (ends_inside w buf h held) z)

  shrunk_symbols : (by : ℕ) → p + length new + by ≡ q → Clean → symbols_of k outcome ≡ cleared (laid_from (moved_down row q h by) p new) (h - by) h
  shrunk_symbols by e z =
      fewer_symbols (h - by) (omega arith) (omega arith) z
      ∙ sym (ap (λ (r : List ℕ). cleared r (h - by) h) (laid_down row p q h new pq qh held by e))

  even_symbols : p + length new ≡ q → Clean → symbols_of k outcome ≡ laid_from row p new
  even_symbols e z =
      fewer_symbols h (omega arith) (omega arith) z
      ∙ cleared_none (over row p (new ++ run row q h) h) h
      ∙ sym (laid_there row p q h new pq qh held e)

  -- ---- what the outcome keeps

  -- each byte before the one where the run began
  pub replaced_before : take (p / per k) outcome ≡ take (p / per k) buf
  replaced_before =
      let j = p / per k in
      let l : j * per k ≤ p = div-mul-le_self p (per k) in
      let t : length (take p row) ≡ p = length-take-le p row (omega arith) in
      let end = bytes_for k (p + length new + (h - q)) + (bytes_for k h - bytes_for k (p + length new + (h - q))) in
      let rest = ((new ++ run row q h) ++ zeros (end * per k - (p + length new + (h - q)))) ++ drop (end * per k) row in
      symbols_one w (below_take outcome_below j) (below_take b j)
      (sym (symbols_take w j outcome)
      ∙ ap (take (j * per k)) (outcome_symbols (p + length new + (h - q)) end refl refl)
      ∙ take-append-le (j * per k) (take p row) rest (omega arith)
      ∙ take-take (j * per k) p row l
      ∙ symbols_take w j buf)

  -- with as many symbols, each byte behind the run too, and the length
  pub replaced_even : p + length new ≡ q → Clean → (drop (bytes_for k q) outcome ≡ drop (bytes_for k q) buf) × (length outcome ≡ length buf)
  replaced_even e z =
      let s : symbols_of k outcome ≡ over row p new q = even_symbols e z ∙ ap (over row p new) e in
      let c : length (symbols_of k outcome) ≡ length row = ap length s ∙ over_length row p new q e (omega arith) in (
        symbols_one w (below_drop outcome_below (bytes_for k q)) (below_drop b (bytes_for k q))
            (sym (symbols_drop w (bytes_for k q) outcome)
            ∙ ap (drop (bytes_for k q * per k)) s
            ∙ drop_past row p new q e (omega arith) (bytes_for k q * per k) (bytes_for_enough w q)
            ∙ symbols_drop w (bytes_for k q) buf),
        sym (bytes_for_full w (length outcome)) ∙ ap (bytes_for k) (sym (symbols_length k outcome) ∙ c ∙ symbols_length k buf) ∙ bytes_for_full w (length buf),
      )

-- ---- a buffer that each way leaves

module _ {k : ℕ} {lengths words text : List ℕ} {taken : ℕ} {buf : List ℕ} {h : ℕ} {x : Run} (r : Replaces k lengths words text taken buf h x)
    (b : Below 256 buf) {after : List ℕ} (a : Below 256 after) where
  abbrev p : ℕ
  p = x.first

  abbrev q : ℕ
  q = x.last

  abbrev before : List ℕ
  before = symbols_of k buf

  abbrev new : List ℕ
  new = row_of lengths words text

  abbrev left : List ℕ
  left = in_place (bytes_for k h) (bytes_of k (replaced_row k buf h p q new)) buf

  new_below : Below (2 ^ k) new
  new_below = row_symbols r.laid.laid text

  is_left : symbols_of k left ≡ symbols_of k after → after ≡ left
  is_left e = symbols_one r.laid.laid.width a (outcome_below r.laid.laid.width b new_below r.ordered r.inside r.held) (sym e)

  pub grown : {one two : List ℕ} (by : ℕ) → one ≡ moved_up before q h by → two ≡ laid_from one p new
      → symbols_of k after ≡ cleared two (h + by) (bytes_for k (h + by) * per k) → p + taken ≡ q + by → after ≡ left
  grown by u t c e =
      is_left
      (grown_symbols r.laid.laid.width b new_below r.ordered r.inside r.held by (omega (arith, r.count)) (omega (arith, r.fits, r.inside))
      ∙ sym (c ∙ rw (t, u)))

  pub shrunk : {one two : List ℕ} (by : ℕ) → one ≡ moved_down before q h by → two ≡ laid_from one p new → symbols_of k after ≡ cleared two (h - by) h
      → p + taken + by ≡ q → after ≡ left
  shrunk by d t c e =
      is_left
      (shrunk_symbols r.laid.laid.width b new_below r.ordered r.inside r.held by (omega (arith, r.count)) r.clean ∙ sym (c ∙ rw (t, d)))

  pub even : symbols_of k after ≡ laid_from before p new → p + taken ≡ q → after ≡ left
  even t e =
      is_left (even_symbols r.laid.laid.width b new_below r.ordered r.inside r.held (omega (arith, r.count)) r.clean ∙ sym t)

-- a row laid over the front of a buffer, and the rest of its last byte cleared
pub packed_front : {k : ℕ} → Width k → {xs ys buf row after : List ℕ} {h : ℕ} → Below (2 ^ k) xs → Below 256 buf → Below 256 after
    → row ≡ laid_from (symbols_of k buf) 0 ys → ys ≡ xs → h ≡ length xs → symbols_of k after ≡ cleared row h (bytes_for k h * per k) → after ≡ packed_into k xs buf
packed_front w b x y m q e c = packed_cleared w b x y (c ∙ rw (m, q, e, zero-add))
