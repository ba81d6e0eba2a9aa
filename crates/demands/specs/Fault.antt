-- The value of 6: the first symbol of the first bad codeword.
use Rattle.std.specs.Prelude.{◌≡◌, refl, ◌⊎◌, true, List, [], ◌∷◌, ◌++◌, ℕ, ◌≤◌, ◌<◌, length, take, drop, get_or, Err}
use Rattle.std.proofs.Common.{sym, ap, ◌∙◌, inl, inr, ⊎_elim, append-nil, zero-add, arith, length-append, take_at, drop_at}
use Rattle.ground.specs.Paper.Refusals.{Row, refused, judged, ◌then◌}
use Rattle.ground.specs.Laws.Answers.{says_as}
use Rattle.ground.specs.Helpers.Below.{Below}
use Rattle.ground.specs.Laws.Refusals.{Accepted, Refuses, refused_row, refused_parts}
use Rattle.ground.specs.Laws.Rows.{below_take, below_drop}
use Rattle.ground.specs.declared.refusal.Refusal.TheVariants.{BadCodeword as bad_codeword}
use Rattle.stopper.specs.Paper.Code.{Good}
use Rattle.stopper.specs.Paper.Reading.{Reading, done, bad, Fault, unfinished, beyond, read_from, write}
use Rattle.stopper.specs.Paper.Table.{base, stoppers, word_of}
use Rattle.stopper.specs.declared.table.Table.{Table}
use Rattle.stopper.specs.Helpers.First.{first_word, broken}
use Rattle.stopper.specs.Laws.Reading.{unfinished_open}
use Rattle.stopper.proofs.Laws.Reading.{read_write, read_bad, beyond_word}
use Rattle.stopper.specs.Laws.Table.{table_code, code_good}
use Rattle.symbols.specs.Laws.Rows.{symbols_below}
use Rattle.texts.specs.Paper.Hits.{hits}
use Rattle.reading.specs.Paper.Reading.{row_upto, is_bad, first_bad}
use Rattle.sound.specs.Paper.Roll.{text_of, reading_from, reading}
use Rattle.sound.specs.Laws.Sound.{row_length}
use Rattle.sound.specs.declared.records.Roll.{Roll}
use Rattle.roll.specs.Paper.Operations.{fit_rows, fit_says, check_rows, check_says, Checking, unpack_rows, unpack_says, Unpacking, make_rows, make_says, Making, search_rows, search_says, Searching, directory_rows, directory_says, edit_rows, edit_says, Editing}
use Rattle.roll.specs.declared.edit.Edited.{Edited}
use Rattle.roll.specs.Laws.Accepting.{fits_is}

-- a row that starts with a bad codeword: one that does not end, or one of rank σ or more
pub BadCodeword : Table → List ℕ → Type 0
BadCodeword t row =
    ((j : ℕ) → j < length row → stoppers t.code j ≤ get_or row j 0)
    ⊎ ((rank : ℕ) × (rest : List ℕ) × (t.sigma ≤ rank) × (word_of t.code rank ++ rest ≡ row))

-- what stands before symbol v is good codewords, and a bad one starts there
pub record FaultAt (r : Roll) (buf : List ℕ) (v : ℕ) : Type 0 where
  pub ranks : List ℕ
  pub good : Below r.table.sigma ranks
  pub before : write (base r.table.code) (stoppers r.table.code) ranks ≡ take v (row_upto r.table.code r.h buf)
  pub within : v < r.h
  pub here : BadCodeword r.table (drop v (row_upto r.table.code r.h buf))

-- ---- refused 6

refused_6 : (r : Roll) (buf : List ℕ) {v : ℕ} → check_says r buf ≡ refused 6 v → Accepted (fit_says r buf) × (is_bad (reading r buf) ≡ true) × (first_bad r.h (reading r buf) ≡ v)
unfolding check_says fit_says
refused_6 r buf e =
    ⊎_elim
    (λ x. absurd (⊎_elim (λ p. omega (arith, p.1)) (λ p. ⊎_elim (λ q. omega (arith, q.1)) (λ q. q.1) p.1) (refused_row (fit_rows r buf) tt x)))
    (λ p.
    ⊎_elim
    (λ q. (p.0, q.0, q.2))
    (λ q. absurd (⊎_elim (λ a. omega (arith, a.1)) (λ a. ⊎_elim (λ b. omega (arith, b.1)) (λ b. b.1) a.1) q.1))
    (refused_row (check_rows r buf) tt p.1))
    (refused_parts (fit_says r buf) e)

-- a bad reading
bad_is : (h : ℕ) (o : Reading) {v : ℕ} → is_bad o ≡ true → first_bad h o ≡ v → (f : Fault) × (rs : List ℕ) × (o ≡ bad f v rs)
unfolding is_bad first_bad
bad_is h (done rs) e q = let z : ◌≡◌ {A = ℕ} 0 1 = cc in absurd (omega arith)
bad_is h (bad f p rs) e q = (f, rs, ap (λ (x : ℕ). bad f x rs) q)

why : (t : Table) (row : List ℕ) (f : Fault) → Good (base t.code) (stoppers t.code) → Below (base t.code) row
    → first_word (base t.code) (stoppers t.code) t.sigma row ≡ broken f → BadCodeword t row
unfolding BadCodeword
why t row unfinished g b e = inl (unfinished_open (base t.code) (stoppers t.code) g t.sigma row e)
why t row beyond g b e = inr (beyond_word (base t.code) (stoppers t.code) g t.sigma b e)

-- a row that is not empty
longer : (rest : List ℕ) → (rest ≡ [] → ⊥) → 0 < length rest
longer [] n = absurd (n refl)
longer (x ∷ rest) n = omega arith

pub fault_check : {r : Roll} {buf : List ℕ} {v : ℕ} → Checking r buf (Err (bad_codeword v)) → FaultAt r buf v
unfolding reading_from
fault_check {r} {buf} {v} p =
    let (fit, is, at) = refused_6 r buf (sym p.says) in
    let (g, fits) = (fits_is r buf).1 fit in
    let c = r.table.code in
    let m : ℕ = base c in
    let st : ℕ → ℕ = stoppers c in
    let σ : ℕ = r.table.sigma in
    let row : List ℕ = row_upto c r.h buf in
    let ok : Good m st = code_good c (table_code r.table g) in
    let below : Below m row = below_take (symbols_below c.k buf) r.h in
    let (f, rs, o) = bad_is r.h (reading r buf) is at in
    let (small, rest, parts, place, wrong) = read_bad m st ok σ below 0 o in
    let front : length (write m st rs) ≡ v = sym (zero-add _) ∙ place in
    let behind : drop v row ≡ rest = ap (drop v) (sym parts) ∙ drop_at (write m st rs) rest v front in
    let some : rest ≡ [] → ⊥ = λ z.
    let whole : write m st rs ≡ row = sym (append-nil _) ∙ ap (λ (l : List ℕ). write m st rs ++ l) (sym z) ∙ parts in
    let e = ap (read_from m st σ 0 0 0) whole in
    let q = sym (read_write m st ok σ 0 small) ∙ e ∙ o in
    let n : ◌≡◌ {A = ℕ} 0 1 = cc in omega arith in
    record {
      ranks = rs;
      good = small;
      before = sym (ap (take v) (sym parts) ∙ take_at (write m st rs) rest v front);
      within = omega (arith, front, longer rest some, ap length parts, length-append (write m st rs) rest, row_length r buf fits);
      here = why r.table (drop v row) f ok (below_drop below v) (rw behind wrong);
    }

-- ---- the other operations that check: their own refusals have other numbers

-- a list of rows none of which has number 6
Others : List Row → Type 0
Others rows = (v : ℕ) → Refuses rows 6 v → ⊥

from_check : {A : Type 0} {r : Roll} {buf : List ℕ} {v : ℕ} (rows : List Row) (answer : A) → Others rows → (check_says r buf then judged rows answer) ≡ refused 6 v → Checking r buf (Err (bad_codeword v))
unfolding Others
from_check {r = r} {buf = buf} {v = v} rows answer n e =
    ⊎_elim (λ x. record { says = sym x }) (λ p. absurd (n v (refused_row rows answer p.1))) (refused_parts (check_says r buf) e)

pub fault_unpack : {r : Roll} {buf out after : List ℕ} {start end v : ℕ} → Unpacking r buf start end out (Err (bad_codeword v)) after → FaultAt r buf v
unfolding unpack_says Others
fault_unpack {r} {buf} {out} {after} {start} {end} p =
    fault_check
    (from_check (unpack_rows r start end out) tt
    (λ v x. ⊎_elim (λ a. omega (arith, a.1)) (λ a. ⊎_elim (λ b. omega (arith, b.1)) (λ b. b.1) a.1) x)
    (sym p.says))

pub fault_make : {r : Roll} {buf dir after : List ℕ} {v : ℕ} → Making r buf dir (Err (bad_codeword v)) after → FaultAt r buf v
unfolding make_says Others
fault_make {r} {buf} {dir} p =
    fault_check (from_check (make_rows r dir) tt (λ v x. ⊎_elim (λ a. omega (arith, a.1)) (λ a. a.1) x) (sym p.says))

pub fault_search : {r : Roll} {buf pattern slice after : List ℕ} {v : ℕ} → Searching r buf pattern slice (Err (bad_codeword v)) after → FaultAt r buf v
unfolding search_says Others
fault_search {r} {buf} {pattern} p =
    fault_check
    (from_check (search_rows pattern) (length (hits pattern (text_of r buf))) (λ v x. ⊎_elim (λ a. omega (arith, a.1)) (λ a. a.1) x) (sym p.says))

pub fault_edit : {r : Roll} {buf dir new after dir_after : List ℕ} {start end v : ℕ} {e : Edited} → Editing r buf dir start end new e after dir_after
    → e.answer ≡ Err (bad_codeword v) → FaultAt r buf v
unfolding edit_says directory_says Others
fault_edit {r} {buf} {dir} {new} {after} {dir_after} {start} {end} {v} p y =
    ⊎_elim
    (λ x. fault_check (from_check (directory_rows r buf dir) tt (λ v x. ⊎_elim (λ a. omega (arith, a.1)) (λ a. a.1) x) x))
    (λ q.
    absurd
    (⊎_elim
    (λ a. omega (arith, a.1))
    (λ a.
    ⊎_elim
    (λ b. omega (arith, b.1))
    (λ b. ⊎_elim (λ c. omega (arith, c.1)) (λ c. ⊎_elim (λ d. omega (arith, d.1)) (λ d. d.1) c.1) b.1)
    a.1)
    (refused_row (edit_rows r buf dir start end new) tt q.1)))
    (refused_parts (directory_says r buf dir) (says_as {b = Err (bad_codeword v)} p.says y))
