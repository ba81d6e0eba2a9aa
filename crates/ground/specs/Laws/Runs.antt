-- Runs cut out of a row and laid over it, one after the other; and a row in place of what another used.
use Rattle.std.specs.Prelude.{◌≡◌, refl, List, [], ◌∷◌, ◌++◌, ◌≢◌, true, false, ℕ, zero, suc, ◌+◌, ◌-◌, ◌≤◌, ◌<◌, length, take, drop, get_or, set, replicate, T}
use Rattle.std.proofs.Common.{sym, ap₂, ◌∙◌, append_assoc, add-one, arith, eq-eqb, ne_eqb, length-append, length-drop, take-append-drop, take_at, drop_at, take-take, drop-drop, take-add, take-suc, drop-cons, length-take-le, take_all, get_or-drop}
use Rattle.std.proofs.Math.Path.{ap}
use Rattle.std.proofs.Math.Nat.{sub_self, sub-zero, zero-sub, suc-sub-suc}
use Rattle.std.proofs.lemmas.List.{take-append-le, set_split}
use Rattle.std.proofs.Math.Seq.{take-nil, drop-append-add}
use Rattle.ground.specs.Paper.Rows.{zeros, all_zero}
use Rattle.ground.specs.Paper.Runs.{over, run, in_place}
use Rattle.ground.specs.Helpers.Moved.{cleared, moved_up, moved_down, laid}
use Rattle.ground.specs.Laws.Rows.{length_zeros, zeros_append, zero_zeros}

-- ---- one run laid over a row

module _ (row : List ℕ) (from : ℕ) (xs : List ℕ) (to : ℕ) (fits : from + length xs ≡ to) (inside : to ≤ length row) where
  pub over_length : length (over row from xs to) ≡ length row
  over_length =
      simp (length-append, length-take-le from row (omega arith), length-drop) (omega arith)

  -- before it, and from its start
  pub take_over : (n : ℕ) → n ≤ from → take n (over row from xs to) ≡ take n row
  take_over n h =
      take-append-le n (take from row) (xs ++ drop to row) (rw (length-take-le from row (omega arith)) h) ∙ take-take n from row h

  pub drop_over : drop from (over row from xs to) ≡ xs ++ drop to row
  drop_over = drop_at (take from row) (xs ++ drop to row) from (length-take-le from row (omega arith))

  -- after it, and up to its end
  pub drop_past : (n : ℕ) → to ≤ n → drop n (over row from xs to) ≡ drop n row
  drop_past n h =
      let e : to + (n - to) ≡ n = omega arith in
      ap (λ (m : ℕ). drop m (over row from xs to)) (sym e)
      ∙ sym (drop-drop (n - to) to (over row from xs to))
      ∙ ap (drop (n - to)) drop_to
      ∙ drop-drop (n - to) to row
      ∙ ap (λ (m : ℕ). drop m row) e
    where
      drop_to : drop to (over row from xs to) ≡ drop to row
      drop_to =
          ap (λ (m : ℕ). drop m (over row from xs to)) (sym fits)
          ∙ sym (drop-drop (length xs) from (over row from xs to))
          ∙ ap (drop (length xs)) drop_over
          ∙ drop_at xs (drop to row) (length xs) refl

  pub take_to : take to (over row from xs to) ≡ take from row ++ xs
  take_to =
      ap (take to) (sym (append_assoc (take from row) xs (drop to row)))
      ∙ take_at (take from row ++ xs) (drop to row) to
      (simp (length-append, length-take-le from row (omega arith)) fits)

-- ---- two runs side by side

module _ (row : List ℕ) (from mid to : ℕ) (xs ys : List ℕ) (fx : from + length xs ≡ mid) (fy : mid + length ys ≡ to) (inside : to ≤ length row) where
  -- the later one laid first
  pub over_before : over (over row mid ys to) from xs mid ≡ over row from (xs ++ ys) to
  over_before =
      ap₂ (λ (a b : List ℕ). a ++ (xs ++ b)) (take_over row mid ys to fy inside from (omega arith)) (drop_over row mid ys to fy inside)
      ∙ ap (λ (l : List ℕ). take from row ++ l) (sym (append_assoc xs ys (drop to row)))

  -- the earlier one laid first
  pub over_after : over (over row from xs mid) mid ys to ≡ over row from (xs ++ ys) to
  over_after =
      let m : mid ≤ length row = omega arith in
      ap₂ (λ (a b : List ℕ). a ++ (ys ++ b)) (take_to row from xs mid fx m) (drop_past row from xs mid fx m to (omega arith))
      ∙ simp append_assoc

-- ---- runs of a row

pub run_length : (row : List ℕ) (from to : ℕ) → from ≤ to → to ≤ length row → from + length (run row from to) ≡ to
run_length row from to h l =
    let e : length (run row from to) ≡ to - from = length-take-le (to - from) (drop from row) (rw length-drop (omega arith)) in
    omega arith

pub run_append : (row : List ℕ) (from mid to : ℕ) → from ≤ mid → mid ≤ to → run row from mid ++ run row mid to ≡ run row from to
run_append row from mid to h l =
    let e : to - from ≡ (mid - from) + (to - mid) = omega arith in
    let f : from + (mid - from) ≡ mid = omega arith in
    sym (ap (λ (n : ℕ). take n (drop from row)) e
    ∙ take-add (mid - from) (to - mid) (drop from row)
    ∙ ap (λ (l : List ℕ). run row from mid ++ take (to - mid) l) (drop-drop (mid - from) from row ∙ ap (λ (n : ℕ). drop n row) f))

pub run_slice : (row : List ℕ) (from to : ℕ) → run row from to ≡ drop from (take to row)
run_slice row zero to = rw sub-zero
run_slice row (suc from) zero = rw zero-sub
run_slice [] (suc from) (suc to) = take-nil (suc to - suc from)
run_slice (x ∷ row) (suc from) (suc to) = rw suc-sub-suc (run_slice row from to)

-- a run that ends where the other starts, or starts where it ends, is as it was
pub run_before : (row : List ℕ) (at : ℕ) (xs : List ℕ) (end from to : ℕ) → at + length xs ≡ end → end ≤ length row → to ≤ at
    → run (over row at xs end) from to ≡ run row from to
run_before row at xs end from to fits inside h =
    run_slice (over row at xs end) from to
    ∙ ap (drop from) (take_over row at xs end fits inside to h)
    ∙ sym (run_slice row from to)

pub run_after : (row : List ℕ) (at : ℕ) (xs : List ℕ) (end from to : ℕ) → at + length xs ≡ end → end ≤ length row → end ≤ from
    → run (over row at xs end) from to ≡ run row from to
run_after row at xs end from to fits inside h = ap (take (to - from)) (drop_past row at xs end fits inside from h)

-- ---- nothing, one place, and one part after the other

-- an empty run laid over
pub over_none : (row : List ℕ) (n : ℕ) → over row n [] n ≡ row
over_none row n = take-append-drop n row

-- a part written anew, and one filled with 0
pub part_over : (row : List ℕ) (from : ℕ) (xs : List ℕ) (to : ℕ) → from ≤ to
    → take from row ++ (xs ++ drop (to - from) (drop from row)) ≡ over row from xs to
part_over row from xs to h =
    let e : from + (to - from) ≡ to = omega arith in
    rw (drop-drop, e)

pub part_filled : (row xs : List ℕ) (from to : ℕ) → from ≤ to → to ≤ length row → xs ≡ replicate (length (take (to - from) (drop from row))) 0
    → take from row ++ (xs ++ drop (to - from) (drop from row)) ≡ cleared row from to
unfolding zeros
part_filled row xs from to h inside e =
    let n : length (take (to - from) (drop from row)) ≡ to - from = length-take-le (to - from) (drop from row) (rw length-drop (omega arith)) in
    part_over row from xs to h ∙ rw (e, n)

run_none : (row : List ℕ) (n : ℕ) → run row n n ≡ []
run_none row n = rw sub_self

run_one : (row : List ℕ) (i : ℕ) → i < length row → run row i (i + 1) ≡ get_or row i 0 ∷ []
run_one row i h =
    let e : i + 1 - i ≡ 1 = omega arith in
    rw e (ap (take 1) (drop-cons row i 0 h))

-- one place stored
pub set_over : (row : List ℕ) (i y : ℕ) → i < length row → set row i y ≡ over row i (y ∷ []) (i + 1)
set_over row i y h = rw add-one (set_split row i y h)

-- a run that is laid over place after place
pub over_more : (row : List ℕ) (from : ℕ) (xs : List ℕ) (to y : ℕ) → from + length xs ≡ to → to < length row
    → set (over row from xs to) to y ≡ over row from (xs ++ (y ∷ [])) (to + 1)
over_more row from xs to y fits h =
    set_over (over row from xs to) to y (rw (over_length row from xs to fits (omega arith)) h)
    ∙ over_after row from to (to + 1) xs (y ∷ []) fits refl (omega arith)

-- the front of a row, that of another laid over it place after place
module _ (row xs : List ℕ) (i : ℕ) where
  pub front_length : i ≤ length xs → i ≤ length row → length (take i xs ++ drop i row) ≡ length row
  front_length h k = over_length row 0 (take i xs) i (omega (arith, length-take-le i xs h)) k

  pub front_more : i < length xs → i < length row → set (take i xs ++ drop i row) i (get_or xs i 0) ≡ take (i + 1) xs ++ drop (i + 1) row
  front_more h k =
      over_more row 0 (take i xs) i (get_or xs i 0) (omega (arith, length-take-le i xs (omega arith))) k
      ∙ ap (λ (l : List ℕ). l ++ drop (i + 1) row) (sym (take-suc xs i 0 h) ∙ ap (λ (n : ℕ). take n xs) (sym (add-one i)))

-- clearing, from the first to the last
pub cleared_none : (row : List ℕ) (n : ℕ) → cleared row n n ≡ row
unfolding zeros
cleared_none row n = rw sub_self (over_none row n)

pub cleared_one : (row : List ℕ) (i : ℕ) → i < length row → set row i 0 ≡ cleared row i (i + 1)
unfolding zeros
cleared_one row i h = let e : i + 1 - i ≡ 1 = omega arith in rw e (set_over row i 0 h)

pub cleared_more : (row : List ℕ) {part all : List ℕ} (from mid to : ℕ) → part ≡ cleared row from mid → all ≡ cleared part mid to
    → from ≤ mid → mid ≤ to → to ≤ length row → all ≡ cleared row from to
cleared_more row from mid to p q h l inside =
    q
    ∙ ap (λ (r : List ℕ). cleared r mid to) p
    ∙ over_after row from mid to (zeros (mid - from)) (zeros (to - mid))
    (omega (arith, length_zeros (mid - from)))
    (omega (arith, length_zeros (to - mid)))
    inside
    ∙ ap (λ (xs : List ℕ). over row from xs to)
    (zeros_append (mid - from) (to - mid) ∙ ap zeros (omega arith))

pub cleared_length : (row : List ℕ) (from to : ℕ) → from ≤ to → to ≤ length row → length (cleared row from to) ≡ length row
cleared_length row from to h inside = over_length row from (zeros (to - from)) to (omega (arith, length_zeros (to - from))) inside

-- moving up, from the last to the first
pub up_none : (row : List ℕ) (n by : ℕ) → moved_up row n n by ≡ row
up_none row n by = rw run_none (over_none row (n + by))

pub up_one : (row : List ℕ) (i by : ℕ) → i + by < length row → set row (i + by) (get_or row i 0) ≡ moved_up row i (i + 1) by
up_one row i by h =
    let e : i + by + 1 ≡ i + 1 + by = omega arith in
    set_over row (i + by) (get_or row i 0) h
    ∙ ap₂ (λ (xs : List ℕ) (to : ℕ). over row (i + by) xs to) (sym (run_one row i (omega arith))) e

pub up_more : (row : List ℕ) {part all : List ℕ} (from mid to by : ℕ) → part ≡ moved_up row mid to by → all ≡ moved_up part from mid by
    → from ≤ mid → mid ≤ to → to + by ≤ length row → all ≡ moved_up row from to by
up_more row from mid to by p q h l inside =
    let f : from + length (run row from mid) ≡ mid = run_length row from mid h (omega arith) in
    let g : mid + length (run row mid to) ≡ to = run_length row mid to l (omega arith) in
    q
    ∙ ap (λ (r : List ℕ). moved_up r from mid by) p
    ∙ ap (λ (xs : List ℕ). over (moved_up row mid to by) (from + by) xs (mid + by))
    (run_before row (mid + by) (run row mid to) (to + by) from mid (omega arith) inside (omega arith))
    ∙ over_before row (from + by) (mid + by) (to + by) (run row from mid) (run row mid to) (omega arith) (omega arith) inside
    ∙ ap (λ (xs : List ℕ). over row (from + by) xs (to + by)) (run_append row from mid to h l)

-- moving down, from the first to the last
pub down_none : (row : List ℕ) (n by : ℕ) → moved_down row n n by ≡ row
down_none row n by = rw run_none (over_none row (n - by))

pub down_one : (row : List ℕ) (i by : ℕ) → by ≤ i → i < length row → set row (i - by) (get_or row i 0) ≡ moved_down row i (i + 1) by
down_one row i by b h =
    let e : i - by + 1 ≡ i + 1 - by = omega arith in
    set_over row (i - by) (get_or row i 0) (omega arith)
    ∙ ap₂ (λ (xs : List ℕ) (to : ℕ). over row (i - by) xs to) (sym (run_one row i h)) e

pub down_more : (row : List ℕ) {part all : List ℕ} (from mid to by : ℕ) → part ≡ moved_down row from mid by → all ≡ moved_down part mid to by
    → by ≤ from → from ≤ mid → mid ≤ to → to ≤ length row → all ≡ moved_down row from to by
down_more row from mid to by p q b h l inside =
    let f : from + length (run row from mid) ≡ mid = run_length row from mid h (omega arith) in
    let g : mid + length (run row mid to) ≡ to = run_length row mid to l inside in
    q
    ∙ ap (λ (r : List ℕ). moved_down r mid to by) p
    ∙ ap (λ (xs : List ℕ). over (moved_down row from mid by) (mid - by) xs (to - by))
    (run_after row (from - by) (run row from mid) (mid - by) mid to (omega arith) (omega arith) (omega arith))
    ∙ over_after row (from - by) (mid - by) (to - by) (run row from mid) (run row mid to) (omega arith) (omega arith) (omega arith)
    ∙ ap (λ (xs : List ℕ). over row (from - by) xs (to - by)) (run_append row from mid to h l)

-- ---- a run that is all 0, from its first symbol on

run_next : (row : List ℕ) (i to : ℕ) → i < to → to ≤ length row → run row i to ≡ get_or row i 0 ∷ run row (i + 1) to
run_next row i to h k =
    let l : i < length row = omega arith in
    let e : to - i ≡ suc (to - suc i) = omega arith in
    rw (drop-cons row i 0 l, e, add-one)

pub zero_none : (row : List ℕ) (to : ℕ) → all_zero (run row to to) ≡ true
unfolding all_zero
zero_none row to = rw sub_self

module _ (row : List ℕ) (i to : ℕ) (h : i < to) (k : to ≤ length row) where
  pub zero_more : get_or row i 0 ≡ 0 → all_zero (run row i to) ≡ all_zero (run row (i + 1) to)
  unfolding all_zero
  zero_more e = ap all_zero (run_next row i to h k) ∙ rw (eq-eqb (get_or row i 0) 0 e)

  pub zero_not : get_or row i 0 ≢ 0 → all_zero (run row i to) ≡ false
  unfolding all_zero
  zero_not e = ap all_zero (run_next row i to h k) ∙ rw (ne_eqb (get_or row i 0) 0 e)

-- ---- a run of a row laid over the same places of another

pub laid_none : (row wanted : List ℕ) (from : ℕ) → laid row wanted from from ≡ row
laid_none row wanted from = rw sub_self (over_none row from)

-- a run with one place more
run_more : (row : List ℕ) (from to : ℕ) → from ≤ to → to < length row → run row from (to + 1) ≡ run row from to ++ (get_or row to 0 ∷ [])
run_more row from to h l =
    let e : to + 1 - from ≡ suc (to - from) = omega arith in
    let f : from + (to - from) ≡ to = omega arith in
    rw e
    (take-suc (drop from row) (to - from) 0 (rw length-drop (omega arith))
    ∙ ap (λ (x : ℕ). run row from to ++ (x ∷ [])) (get_or-drop from row (to - from) 0 ∙ ap (λ (i : ℕ). get_or row i 0) f))

module _ (row wanted : List ℕ) (from to : ℕ) (h : from ≤ to) where
  pub laid_length : to ≤ length wanted → to ≤ length row → length (laid row wanted from to) ≡ length row
  laid_length k l = over_length row from (run wanted from to) to (run_length wanted from to h k) l

  -- the next place stored
  pub laid_more : to < length wanted → to < length row → set (laid row wanted from to) to (get_or wanted to 0) ≡ laid row wanted from (to + 1)
  laid_more k l =
      over_more row from (run wanted from to) to (get_or wanted to 0) (run_length wanted from to h (omega arith)) l
      ∙ ap (λ (xs : List ℕ). over row from xs (to + 1)) (sym (run_more wanted from to h k))

-- all of it, from the first place on
pub laid_whole : (row wanted : List ℕ) (n : ℕ) → length wanted ≡ n → laid row wanted 0 n ≡ wanted ++ drop n row
laid_whole row wanted n e = ap (λ (xs : List ℕ). xs ++ drop n row) (take_all (n - 0) wanted (omega arith))

-- a run laid over where the rest is as wanted
pub laid_rest : (row wanted rest : List ℕ) (from to : ℕ) → from ≤ to → take from row ≡ take from wanted → drop to row ≡ drop to wanted ++ rest
    → laid row wanted from to ≡ wanted ++ rest
laid_rest row wanted rest from to h e f =
    let g : from + (to - from) ≡ to = omega arith in
    let k : run wanted from to ++ drop to wanted ≡ drop from wanted
    = ap (λ (l : List ℕ). run wanted from to ++ l) (ap (λ (n : ℕ). drop n wanted) (sym g) ∙ sym (drop-drop (to - from) from wanted))
    ∙ take-append-drop (to - from) (drop from wanted) in
    ap₂ (λ (a b : List ℕ). a ++ (run wanted from to ++ b)) e f
    ∙ ap (λ (l : List ℕ). take from wanted ++ l) (sym (append_assoc (run wanted from to) (drop to wanted) rest) ∙ ap (λ (l : List ℕ). l ++ rest) k)
    ∙ sym (append_assoc (take from wanted) (drop from wanted) rest)
    ∙ ap (λ (l : List ℕ). l ++ rest) (take-append-drop from wanted)

-- ---- a row in place of what another used

module _ (used : ℕ) (new row : List ℕ) {n : ℕ} (e : length new ≡ n) where
  pub place_front : take n (in_place used new row) ≡ new
  place_front = take_at new (zeros (used - length new) ++ drop (length new + (used - length new)) row) n e

  -- what was used before and is no longer is 0
  pub place_cleared : run (in_place used new row) n used ≡ zeros (used - n)
  place_cleared =
      let gone : ℕ = used - length new in
      ap (take (used - n)) (drop_at new (zeros gone ++ drop (length new + gone) row) n e)
      ∙ take_at (zeros gone) (drop (length new + gone) row) (used - n) (length_zeros gone ∙ ap (λ (i : ℕ). used - i) e)
      ∙ ap (λ (i : ℕ). zeros (used - i)) e

  -- the rest is unchanged
  pub place_kept : drop (n + (used - n)) (in_place used new row) ≡ drop (n + (used - n)) row
  place_kept =
      let gone : ℕ = used - length new in
      let m : length new + gone ≡ n + (used - n) = ap (λ (i : ℕ). i + (used - i)) e in
      rw (← m)
      (drop-append-add new (zeros gone ++ drop (length new + gone) row) gone
      ∙ drop_at (zeros gone) (drop (length new + gone) row) gone (length_zeros gone))

  pub place_length : n ≤ length row → used ≤ length row → length (in_place used new row) ≡ length row
  place_length h k =
      let gone : ℕ = used - length new in
      omega (
        arith,
        length-append new (zeros gone ++ drop (length new + gone) row),
        length-append (zeros gone) (drop (length new + gone) row),
        length_zeros gone,
        length-drop (length new + gone) row,
      )

-- ---- cleared behind a run

-- what lies from a place on, in two parts
pub split_from : (row : List ℕ) (from to : ℕ) → from ≤ to → drop from row ≡ run row from to ++ drop to row
split_from row from to h =
    let e : from + (to - from) ≡ to = omega arith in
    sym (take-append-drop (to - from) (drop from row))
    ∙ ap (λ (l : List ℕ). run row from to ++ l) (drop-drop (to - from) from row ∙ ap (λ (n : ℕ). drop n row) e)

-- a run that is clean, and one of nothing
pub clean_run : (row : List ℕ) (from to : ℕ) → from ≤ to → to ≤ length row → T (all_zero (run row from to)) → run row from to ≡ zeros (to - from)
clean_run row from to h l t = zero_zeros _ t ∙ ap zeros (omega (arith, run_length row from to h l))

pub none_run : (row : List ℕ) (n : ℕ) → run row n n ≡ zeros (n - n)
unfolding zeros
none_run row n = rw sub_self

-- a run laid over a row and cleared behind it, up to where the row is clean
pub cleared_behind : (row : List ℕ) (from : ℕ) (xs : List ℕ) (at mid to : ℕ) → from + length xs ≡ at → at ≤ mid → mid ≤ to → to ≤ length row
    → run row mid to ≡ zeros (to - mid) → cleared (over row from xs at) at mid ≡ over row from (xs ++ zeros (to - at)) to
cleared_behind row from xs at mid to fits l m inside z =
    let e : mid - at + (to - mid) ≡ to - at = omega arith in
    over_after row from at mid xs (zeros (mid - at)) fits (omega (arith, length_zeros (mid - at))) (omega arith)
    ∙ ap (λ (r : List ℕ). take from row ++ ((xs ++ zeros (mid - at)) ++ r)) (split_from row mid to m ∙ ap (λ (r : List ℕ). r ++ drop to row) z)
    ∙ rw (
      append_assoc xs (zeros (mid - at)) (zeros (to - mid) ++ drop to row),
      ← append_assoc (zeros (mid - at)) (zeros (to - mid)) (drop to row),
      zeros_append,
      e,
      ← append_assoc xs (zeros (to - at)) (drop to row),
    )
