-- The directories of two texts that differ in a run only: what mending one leaves.
use Rattle.std.specs.Prelude.{◌≡◌, List, [], ◌∷◌, ◌++◌, ℕ, ◌+◌, ◌-◌, ◌*◌, ◌≤◌, ◌<◌, length, take, drop, get_or}
use Rattle.std.proofs.Common.{sym, ap₂, ◌∙◌, zero-add, arith, length-drop, take-append-drop, drop_of_length-le, take-add, drop-drop, get_or-take, get_or-drop, length-take-le, ext_get_or}
use Rattle.std.proofs.Math.Path.{ap}
use Rattle.std.proofs.Math.Seq.{take-take, take-append_seam, drop-append-add}
use Rattle.std.proofs.lemmas.List.{drop-append-le}
use Rattle.ground.specs.Paper.Rows.{zeros}
use Rattle.ground.specs.Paper.Runs.{over, in_place}
use Rattle.ground.specs.Helpers.Moved.{laid}
use Rattle.ground.specs.Laws.Runs.{laid_rest}
use Rattle.texts.specs.Paper.Directory.{entries, sum, start_at, directory_of}
use Rattle.texts.specs.Laws.Directory.{entries_upto, entries_before, entries_behind, directory_length, directory_at}

-- ---- the directories of two texts that differ between two characters only

sum_append : (xs ys : List ℕ) → sum (xs ++ ys) ≡ sum xs + sum ys
unfolding sum
sum_append [] ys = sym (zero-add (sum ys))
sum_append (x ∷ xs) ys = ap (λ (n : ℕ). x + n) (sum_append xs ys) ∙ omega arith

-- characters before `at`, and from there on
start_split : (ls : List ℕ) (at j : ℕ) → at ≤ j → start_at ls j ≡ sum (take at ls) + sum (take (j - at) (drop at ls))
unfolding start_at
start_split ls at j h =
    let f : at + (j - at) ≡ j = omega arith in
    ap (λ (n : ℕ). sum (take n ls)) (sym f) ∙ ap sum (take-add at (j - at) ls) ∙ sum_append (take at ls) (take (j - at) (drop at ls))

-- where a character starts before the first of the two, and from the second on
module _ (ls ls' : List ℕ) (at j : ℕ) where
  start_before : j ≤ at → take at ls ≡ take at ls' → start_at ls j ≡ start_at ls' j
  unfolding start_at
  start_before h e = ap sum (sym (take-take j at ls h) ∙ ap (take j) e ∙ take-take j at ls' h)

  start_behind : at ≤ j → sum (take at ls) ≡ sum (take at ls') → drop at ls ≡ drop at ls' → start_at ls j ≡ start_at ls' j
  start_behind h s e =
      start_split ls at j h ∙ ap₂ (λ (n : ℕ) (l : List ℕ). n + sum (take (j - at) l)) s e ∙ sym (start_split ls' at j h)

-- the entries of the characters before a place are the same, and so are those from a place on
directory_before : (ls ls' : List ℕ) (at : ℕ) → at ≤ length ls → at ≤ length ls' → take at ls ≡ take at ls'
    → take (entries at) (directory_of ls) ≡ take (entries at) (directory_of ls')
directory_before ls ls' at h h' e =
    ext_get_or 0 _ _ (long ls h ∙ sym (long ls' h'))
    (λ i p.
    let q : i < entries at = omega (arith, long ls h) in
    entry ls h i q ∙ start_before ls ls' at (i * 32) (omega (arith, entries_before at q)) e ∙ sym (entry ls' h' i q))
  where
    long : (l : List ℕ) → at ≤ length l → length (take (entries at) (directory_of l)) ≡ entries at
    long l k = length-take-le (entries at) (directory_of l) (rw (directory_length l) (entries_upto at k))

    entry : (l : List ℕ) → at ≤ length l → (i : ℕ) → i < entries at → get_or (take (entries at) (directory_of l)) i 0 ≡ start_at l (i * 32)
    entry l k i p = get_or-take (entries at) (directory_of l) i 0 p ∙ directory_at l i (omega (arith, entries_upto at k))

directory_behind : (ls ls' : List ℕ) (at : ℕ) → length ls ≡ length ls' → sum (take at ls) ≡ sum (take at ls') → drop at ls ≡ drop at ls'
    → drop (entries at) (directory_of ls) ≡ drop (entries at) (directory_of ls')
directory_behind ls ls' at n s e =
    ext_get_or 0 _ _ (long ls ∙ ap (λ (m : ℕ). entries m - entries at) n ∙ sym (long ls'))
    (λ i p.
    let q : i < entries (length ls) - entries at = omega (arith, long ls) in
    entry ls i q ∙ start_behind ls ls' at ((entries at + i) * 32) (entries_behind at i) s e ∙ sym (entry ls' i (rw (← n) q)))
  where
    long : (l : List ℕ) → length (drop (entries at) (directory_of l)) ≡ entries (length l) - entries at
    long l = length-drop (entries at) (directory_of l) ∙ ap (λ (m : ℕ). m - entries at) (directory_length l)

    entry : (l : List ℕ) (i : ℕ) → i < entries (length l) - entries at → get_or (drop (entries at) (directory_of l)) i 0 ≡ start_at l ((entries at + i) * 32)
    entry l i p = get_or-drop (entries at) (directory_of l) i 0 ∙ directory_at l (entries at + i) (omega arith)

-- ---- what an edit leaves of a right directory

module _ (ls ls' dir : List ℕ) (start : ℕ) (before : start ≤ length ls) (before' : start ≤ length ls') (same : take start ls ≡ take start ls')
    (right : take (entries (length ls)) dir ≡ directory_of ls) where
  -- the entries before the edit are as they are to be
  kept_before : take (entries start) dir ≡ take (entries start) (directory_of ls')
  kept_before =
      sym (take-take (entries start) (entries (length ls)) dir (entries_upto start before))
      ∙ ap (take (entries start)) right
      ∙ directory_before ls ls' start before before' same

  -- all entries from the edit on are written anew
  pub mended : laid dir (directory_of ls') (entries start) (entries (length ls')) ≡ directory_of ls' ++ drop (entries (length ls')) dir
  mended =
      laid_rest dir (directory_of ls') (drop (entries (length ls')) dir) (entries start) (entries (length ls')) (entries_upto start before') kept_before
      (ap (λ (l : List ℕ). l ++ drop (entries (length ls')) dir) (sym (drop_of_length-le (directory_of ls') {i = entries (length ls')} (omega (arith, directory_length ls')))))

  -- as many symbols and characters as before: only those up to the edit's end
  pub mended_even : (end : ℕ) → start ≤ end → end ≤ length ls → length ls ≡ length ls' → sum (take end ls) ≡ sum (take end ls') → drop end ls ≡ drop end ls'
      → laid dir (directory_of ls') (entries start) (entries end) ≡ directory_of ls' ++ drop (entries (length ls')) dir
  mended_even end h k n s e =
      laid_rest dir (directory_of ls') (drop (entries (length ls')) dir) (entries start) (entries end) (entries_upto start h) kept_before
      (rw (← n)
      (ap (drop (entries end)) (sym (take-append-drop (entries (length ls)) dir) ∙ ap (λ (l : List ℕ). l ++ drop (entries (length ls)) dir) right)
      ∙ drop-append-le (entries end) (directory_of ls) (drop (entries (length ls)) dir) (rw (directory_length ls) (entries_upto end k))
      ∙ ap (λ (l : List ℕ). l ++ drop (entries (length ls)) dir) (directory_behind ls ls' end n s e)))

-- and those that are no longer used are cleared
pub mended_cleared : (ls ls' dir : List ℕ) → let n = entries (length ls) in let n' = entries (length ls') in
    over (directory_of ls' ++ drop n' dir) n' (zeros (n - n')) (n' + (n - n')) ≡ in_place n (directory_of ls') dir
mended_cleared ls ls' dir =
    let n = entries (length ls) in
    rw (← directory_length ls')
    (ap₂ (λ (a b : List ℕ). a ++ (zeros (n - length (directory_of ls')) ++ b))
    (take-append_seam (directory_of ls') (drop (length (directory_of ls')) dir))
    (drop-append-add (directory_of ls') (drop (length (directory_of ls')) dir) (n - length (directory_of ls'))
    ∙ drop-drop (n - length (directory_of ls')) (length (directory_of ls')) dir))
