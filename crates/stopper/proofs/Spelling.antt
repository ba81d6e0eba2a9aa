-- Spelling into a slice, the last symbol first.
use mathlib.Core.Path.{◌≡◌, refl, sym, ap, ◌∙◌}
use mathlib.Core.List.{List, [], ◌∷◌, ◌++◌}
use Prim.Native.Nat.{ℕ, zero, suc, ◌+◌, ◌-◌, ◌/◌, ◌%◌, ◌≤◌, ◌<◌}
use native.Mathlib.Nat.{add-zero}
use native.Mathlib.Omega.{arith}
use native.Mathlib.Numerals.{add-one}
use lib.Dec.{T}
use lib.ListN.{length, drop, set}
use lib.Seq.{drop-cons, drop-set-add}
use Rattle.stopper.specs.Paper.Code.{spell, codeword}
use Rattle.stopper.specs.Paper.Table.{base, stoppers, good_code, word_of, length_of}
use Rattle.stopper.specs.Helpers.Answers.{place_of}
use Rattle.stopper.specs.Laws.Code.{spell_append}
use Rattle.stopper.specs.Laws.Table.{length_place}
use Rattle.stopper.specs.declared.code.Place.{Place}
use Rattle.stopper.specs.declared.code.Code.{Code}

-- what a store at place j leaves from there on
pub stored : (l : List ℕ) (j v : ℕ) → j < length l → drop j (set l j v) ≡ v ∷ drop (suc j) l
stored l j v h = ap (λ (n : ℕ). drop j (set l n v)) (sym (add-zero j)) ∙ drop-set-add j l 0 v ∙ ap (λ (x : List ℕ). set x 0 v) (drop-cons l j 0 h)

-- a digit stored, and the rest spelt before it
pub spelt : (k : Code) (m s x i : ℕ) (out : List ℕ) → m ≡ base k → s ≡ stoppers k (i - 1) → 0 < i → i ≤ length out
    → spell (base k) (stoppers k) (i - 1) (x / (m - s)) (drop (i - 1) (set out (i - 1) (s + x % (m - s)))) ≡ spell (base k) (stoppers k) i x (drop i out)
unfolding spell
spelt k m s x zero out e f h r = absurd (omega arith)
spelt k m s x (suc j) out e f h r =
    let q : suc j - 1 ≡ j = omega arith in
    rw (q, f, q, e, stored out j (stoppers k j + x % (base k - stoppers k j)) r)

pub none : (k : Code) (x i : ℕ) (out : List ℕ) → i ≤ 0 → out ≡ spell (base k) (stoppers k) i x (drop i out)
unfolding spell
none k x zero out h = refl
none k x (suc i) out h = absurd (omega arith)

-- the stopper stored at its place, and the continuers spelt before it
at_place : (k : Code) (r : ℕ) (v : List ℕ)
    → word_of k r ++ v ≡ spell (base k) (stoppers k) (place_of k r).at ((place_of k r).q / stoppers k (place_of k r).at) (((place_of k r).q % stoppers k (place_of k r).at) ∷ v)
unfolding codeword place_of
at_place k r v =
    let p = place_of k r in
    spell_append (base k) (stoppers k) p.at (p.q / stoppers k p.at) ((p.q % stoppers k p.at) ∷ []) v

pub written : (k : Code) → T (good_code k) → (r s : ℕ) (p : Place) (out : List ℕ) → p ≡ place_of k r → s ≡ stoppers k p.at → p.at < length out
    → spell (base k) (stoppers k) p.at (p.q / s) (drop p.at (set out p.at (p.q % s))) ≡ word_of k r ++ drop (length_of k r) out
written k g r s p out e f h =
    ap (spell (base k) (stoppers k) p.at (p.q / s)) (stored out p.at (p.q % s) h)
    ∙ ap (λ (n : ℕ). spell (base k) (stoppers k) p.at (p.q / n) ((p.q % n) ∷ drop (suc p.at) out)) f
    ∙ ap (λ (z : Place). spell (base k) (stoppers k) z.at (z.q / stoppers k z.at) ((z.q % stoppers k z.at) ∷ drop (suc z.at) out)) e
    ∙ sym (at_place k r (drop (suc (place_of k r).at) out))
    ∙ ap (λ (n : ℕ). word_of k r ++ drop n out) (sym (length_place k g r ∙ add-one (place_of k r).at))
