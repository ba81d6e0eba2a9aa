-- The text of a roll and its right directory, by the operations alone.
use Rattle.std.specs.Prelude.{◌≡◌, refl, List, [], ◌++◌, ℕ, ◌+◌, ◌-◌, ◌≤◌, length, take, drop, Result, Ok}
use Rattle.std.proofs.Common.{sym, ap, subst, ◌∙◌, append-nil, le_refl, le_of_eq, arith, length-take, take-append-drop, take_all, take_at, drop_at, drop-drop}
use Rattle.std.proofs.Math.Nat.{sub-zero}
use Rattle.std.proofs.Math.Seq.{drop-length}
use Rattle.ground.specs.Paper.Rows.{zeros}
use Rattle.ground.specs.Laws.Rows.{length_zeros}
use Rattle.ground.specs.Paper.Runs.{run}
use Rattle.ground.specs.Laws.Answers.{says_one}
use Rattle.ground.specs.declared.refusal.Refusal.{Refusal}
use Rattle.stopper.specs.declared.table.Table.{Table}
use Rattle.texts.specs.Paper.Directory.{entries}
use Rattle.texts.specs.Paper.Edited.{edited}
use Rattle.texts.specs.Laws.Characters.{InTable, known_take, known_drop}
use Rattle.sound.specs.Paper.Roll.{text_of, Sound}
use Rattle.sound.specs.Paper.Lengths.{Right}
use Rattle.sound.specs.Laws.Sound.{text_length}
use Rattle.sound.specs.Laws.Directory.{sound_entries}
use Rattle.sound.specs.declared.records.Roll.{Roll}
use Rattle.roll.specs.Paper.Operations.{Packing, Checking, Unpacking, Making}
use Rattle.roll.specs.Laws.Accepting.{sound_accepted, unpacks_is}
use Rattle.roll.specs.Laws.Operations.{unpack_yes, make_yes}
use Rattle.demands.specs.Meaning.{unpacks_range, unpacks_text, packing_sound}
use Rattle.demands.specs.Made.{made_right}

-- unpacking the whole roll gives this text
abbrev pub TextIs : Roll → List ℕ → List ℕ → Type 0
TextIs r buf text = Unpacking r buf 0 r.n (zeros r.n) (Ok tt) text

-- making the directory again changes nothing in it
abbrev pub DirectoryIs : Roll → List ℕ → List ℕ → Type 0
DirectoryIs r buf dir = Making r buf dir (Ok tt) dir

-- a text that fills what is lent
filled : (text : List ℕ) (n : ℕ) → text ++ drop n (zeros n) ≡ text
filled text n =
    let none : drop n (zeros n) ≡ [] = ap (λ (m : ℕ). drop m (zeros n)) (sym (length_zeros n)) ∙ drop-length (zeros n) in
    ap (λ (l : List ℕ). text ++ l) none ∙ append-nil text

module _ {r : Roll} {buf : List ℕ} where
  pub text_sound : {text : List ℕ} → TextIs r buf text → Sound r buf
  text_sound p = ((unpacks_is r buf 0 r.n (zeros r.n)).1 (sym p.says)).sound

  pub text_is : {text : List ℕ} → TextIs r buf text → text ≡ text_of r buf
  text_is p = (unpacks_text (zeros r.n) (text_sound p) (le_of_eq (sym (length_zeros r.n))) p).1 ∙ filled (text_of r buf) r.n

  pub sound_text : Sound r buf → TextIs r buf (text_of r buf)
  sound_text s =
      let all : take r.n (text_of r buf) ≡ text_of r buf = take_all r.n (text_of r buf) (omega (arith, text_length s)) in
      unpack_yes
      (record { sound = s; ordered = omega arith; inside = le_refl r.n; fits = omega (arith, length_zeros r.n) })
      (sym
      (ap (λ (n : ℕ). take n (text_of r buf) ++ drop n (zeros r.n)) (sub-zero r.n)
      ∙ ap (λ (l : List ℕ). l ++ drop r.n (zeros r.n)) all
      ∙ filled (text_of r buf) r.n))

  pub right_directory : {dir : List ℕ} → Sound r buf → Right r buf dir → DirectoryIs r buf dir
  right_directory {dir} s right =
      let many : entries r.n ≤ length dir = omega (arith, length-take (entries r.n) dir, ap length right, sound_entries s) in
      make_yes s many (sym (take-append-drop (entries r.n) dir) ∙ ap (λ (l : List ℕ). l ++ drop (entries r.n) dir) right)

  pub directory_right : {dir : List ℕ} → DirectoryIs r buf dir → Right r buf dir
  directory_right p = made_right p

-- no other text is so
pub text_one : {r : Roll} {buf a b : List ℕ} → TextIs r buf a → TextIs r buf b → a ≡ b
text_one p q = text_is p ∙ sym (text_is q)

-- it passes the check, and a range of it is unpacked
pub text_checked : {r : Roll} {buf text : List ℕ} {answer : Result (Unit {0}) Refusal} → TextIs r buf text → Checking r buf answer → answer ≡ Ok tt
text_checked {answer = answer} t p = says_one answer (Ok tt) (p.says ∙ sound_accepted (text_sound t))

pub text_unpacked : {r : Roll} {buf text out now : List ℕ} {start end : ℕ} {answer : Result (Unit {0}) Refusal} → TextIs r buf text → start ≤ end → end ≤ r.n → end - start ≤ length out
    → Unpacking r buf start end out answer now → (answer ≡ Ok tt) × (now ≡ run text start end ++ drop (end - start) out)
text_unpacked {r} {buf} {text} {out} {now} {start} {end} t a b fits p =
    rw (text_is t) (unpacks_range r buf start end out p (record { sound = text_sound t; ordered = a; inside = b; fits = fits }))

-- a packed text
pub packed_text : {t : Table} {text buf after : List ℕ} {q : Roll} → Packing t text buf (Ok q) after → TextIs q after text × (q.table ≡ t) × (q.n ≡ length text)
packed_text {q = q} p =
    let (is, sound, text_is) = packing_sound p in
    (subst (TextIs q _) text_is (sound_text sound), ap (λ (x : Roll). x.table) is, ap (λ (x : Roll). x.n) is)

-- rows that agree past the greater of two places agree past both
pub drop_past_both : (a b : List ℕ) {old now m : ℕ} → old ≤ m → now ≤ m → drop (now + (old - now)) a ≡ drop (now + (old - now)) b → drop m a ≡ drop m b
drop_past_both a b {old} {now} {m} h k e =
    let i : ℕ = now + (old - now) in
    let up : i + (m - i) ≡ m = omega arith in
    ap (λ (n : ℕ). drop n a) (sym up) ∙ sym (drop-drop (m - i) i a) ∙ ap (drop (m - i)) e ∙ drop-drop (m - i) i b ∙ ap (λ (n : ℕ). drop n b) up

-- a text put in has the characters of the edited text
pub put_in_known : {l : List ℕ} (text : List ℕ) (start end : ℕ) (new : List ℕ) → InTable l (edited text start end new) → InTable l new
put_in_known text start end new h =
    let front : List ℕ = take start text in
    let rest : List ℕ = drop end text in
    rw (take_at new rest (length new) refl) at (known_take (rw (drop_at front (new ++ rest) (length front) refl) at (known_drop h (length front))) (length new))
