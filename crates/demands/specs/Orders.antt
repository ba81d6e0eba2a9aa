-- Which row refused: lists of rows, asked one after the other.
use Rattle.std.specs.Prelude.{◌≡◌, false, ℕ, eqb}
use Rattle.std.proofs.Common.{sym, subst, ◌∙◌, inl, inr, ⊎_elim, eq-eqb}
use mathlib.Core.List.{List, [], ◌∷◌, ◌++◌, map}
use Rattle.std.proofs.Math.Dec.{T}
use Rattle.ground.specs.Paper.Refusals.{Row, Outcome, refused, judged, ◌then◌}
use Rattle.ground.specs.Laws.Refusals.{Accepted, NoneApplies, accepted_none, accepted_parts, Refuses, refused_row, refused_parts}
use Rattle.ground.specs.Laws.Tests.{neither}
use Rattle.stopper.specs.Paper.Table.{has}
use Rattle.sound.specs.declared.records.Roll.{Roll}
use Rattle.roll.specs.Paper.Operations.{fit_rows, fit_says, check_rows, check_says, directory_rows, directory_says}

module _ (n v : ℕ) where
  refuses_left : (a b : List Row) → Refuses a n v → Refuses (a ++ b) n v
  refuses_left [] b z = absurd z
  refuses_left (r ∷ a) b (inl p) = inl p
  refuses_left (r ∷ a) b (inr p) = inr (p.0, refuses_left a b p.1)

  refuses_right : (a b : List Row) → NoneApplies a → Refuses b n v → Refuses (a ++ b) n v
  refuses_right [] b t p = p
  refuses_right (r ∷ a) b t p = inr (t.0, refuses_right a b t.1 p)

  -- not by a row that does not apply, nor by rows of other numbers
  pub refuses_next : (r : Row) (rows : List Row) → r.applies ≡ false → Refuses (r ∷ rows) n v → Refuses rows n v
  refuses_next r rows e (inl p) = absurd (subst T (sym p.0 ∙ e) tt)
  refuses_next r rows e (inr p) = p.1

  pub refuses_past : (a b : List Row) → has n (map (λ (r : Row). r.number) a) ≡ false → Refuses (a ++ b) n v → Refuses b n v
  unfolding has
  refuses_past [] b e p = p
  refuses_past (r ∷ a) b e (inl p) = absurd (subst T (sym (eq-eqb r.number n p.1) ∙ (neither (eqb r.number n) _ e).0) tt)
  refuses_past (r ∷ a) b e (inr p) = refuses_past a b (neither (eqb r.number n) _ e).1 p.1

none_both : (a b : List Row) → NoneApplies a → NoneApplies b → NoneApplies (a ++ b)
none_both [] b t u = u
none_both (r ∷ a) b t u = (t.0, none_both a b t.1 u)

-- an outcome that these rows decide
pub record DecidedBy (o : Outcome (Unit {0})) (rows : List Row) : Type 0 where
  pub refuses : {n v : ℕ} → o ≡ refused n v → Refuses rows n v
  pub accepts : Accepted o → NoneApplies rows

pub decided : (rows : List Row) → DecidedBy (judged rows tt) rows
decided rows = record { refuses = λ e. refused_row rows tt e; accepts = λ e. accepted_none rows tt e }

-- and then others
pub then_refuses : {A : Type 0} {o : Outcome (Unit {0})} {a : List Row} → DecidedBy o a → (b : List Row) (answer : A) {n v : ℕ} → (o then judged b answer) ≡ refused n v
    → Refuses (a ++ b) n v
then_refuses {o = o} {a = a} d b answer {n} {v} e =
    ⊎_elim (λ x. refuses_left n v a b (d.refuses x)) (λ p. refuses_right n v a b (d.accepts p.0) (refused_row b answer p.1)) (refused_parts o e)

pub decided_then : {o : Outcome (Unit {0})} {a : List Row} → DecidedBy o a → (b : List Row) → DecidedBy (o then judged b tt) (a ++ b)
decided_then {o} {a} d b =
    record {
      refuses = λ {n} {v} e. then_refuses d b tt e;
      accepts = λ e. let (x, y) = accepted_parts o e in none_both a b (d.accepts x) (accepted_none b tt y);
    }

-- one outcome after another
pub decided_both : {o p : Outcome (Unit {0})} {a b : List Row} → DecidedBy o a → DecidedBy p b → DecidedBy (o then p) (a ++ b)
decided_both {o} {p} {a} {b} d f =
    record {
      refuses = λ {n} {v} e. ⊎_elim (λ x. refuses_left n v a b (d.refuses x)) (λ q. refuses_right n v a b (d.accepts q.0) (f.refuses q.1)) (refused_parts o e);
      accepts = λ e. let (x, y) = accepted_parts o e in none_both a b (d.accepts x) (f.accepts y);
    }

-- ---- the rows that several operations begin with

abbrev pub rows_of_check : Roll → List ℕ → List Row
rows_of_check r buf = fit_rows r buf ++ check_rows r buf

abbrev pub rows_of_directory : Roll → List ℕ → List ℕ → List Row
rows_of_directory r buf dir = rows_of_check r buf ++ directory_rows r buf dir

pub fit_decided : (r : Roll) (buf : List ℕ) → DecidedBy (fit_says r buf) (fit_rows r buf)
unfolding fit_says
fit_decided r buf = decided (fit_rows r buf)

pub check_decided : (r : Roll) (buf : List ℕ) → DecidedBy (check_says r buf) (rows_of_check r buf)
unfolding check_says
check_decided r buf = decided_then (fit_decided r buf) (check_rows r buf)

pub directory_decided : (r : Roll) (buf dir : List ℕ) → DecidedBy (directory_says r buf dir) (rows_of_directory r buf dir)
unfolding directory_says
directory_decided r buf dir = decided_then (check_decided r buf) (directory_rows r buf dir)
