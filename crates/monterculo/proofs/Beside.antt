-- What stands beside a refusal, and what a refused call leaves in lent memory, through each exported function but `feed` whose answer has another part: of the contracts
-- as the source states them. A number that is not 0 is a refusal's. `a` holds the arguments, `s` what is lent, as the call ends.
use Rattle.std.specs.Prelude.{◌≡◌, refl, [], ℕ}
use mathlib.Core.Path.{◌∙◌}
use contract.Lifetimes.{Lfts}
use borrow.Fn.Kinds.{Dens, res_t, ended_of}
use denote.Triple.Clauses.{AtExit}
use Rattle.ground.specs.Paper.Refusals.{Outcome, accepted, refused, ◌then◌, kept}
use Rattle.stopper.specs.Paper.Operations.{codeword_for, codeword_says}
use Rattle.choosing.specs.Paper.Operations.{no_table, choose_says, choose_total}
use Rattle.roll.specs.Paper.Operations.{no_roll, pack_says, edit_says}
use Rattle.radio.specs.Paper.Operations.{searcher_for, start_says}
use Rattle.frames.specs.Paper.Operations.{no_record, first_says, frames_says}
use Rattle.monterculo.specs.Paper.Taken.{told}
use Rattle.monterculo.specs.declared.taken.Told.{Told}
use Rattle.monterculo.proofs.monterculo_choose.Kinds as choose-kinds
use Rattle.monterculo.proofs.monterculo_choose.Reads as choose-reads
use Rattle.monterculo.proofs.monterculo_codeword_of.Kinds as codeword-of-kinds
use Rattle.monterculo.proofs.monterculo_codeword_of.Reads as codeword-of-reads
use Rattle.monterculo.proofs.monterculo_pack.Kinds as pack-kinds
use Rattle.monterculo.proofs.monterculo_pack.Reads as pack-reads
use Rattle.monterculo.proofs.monterculo_edit.Kinds as edit-kinds
use Rattle.monterculo.proofs.monterculo_edit.Reads as edit-reads
use Rattle.monterculo.proofs.monterculo_read_frames.Kinds as read-frames-kinds
use Rattle.monterculo.proofs.monterculo_read_frames.Reads as read-frames-reads
use Rattle.monterculo.proofs.monterculo_read_first.Kinds as read-first-kinds
use Rattle.monterculo.proofs.monterculo_read_first.Reads as read-first-reads
use Rattle.monterculo.proofs.monterculo_start.Kinds as start-kinds
use Rattle.monterculo.proofs.monterculo_start.Reads as start-reads

-- a number that is not 0 tells of a refusal, which keeps what is put beside it
beside : {A : Type 0} (o : Outcome (Unit {0})) (x : ℕ) {t : Told} (before after : A) → t ≡ told (o then accepted x) → (t.number ≡ 0 → ⊥) → kept o before after ≡ before
beside (accepted u) x before after e n = absurd (n (rw e refl))
beside (refused m v) x before after e n = refl

pub choose_beside : (κs : Lfts 1) (a : Dens κs choose-kinds.ps) (r : (res_t choose-kinds.r κs).Denot) (s : AtExit (ended_of 1 choose-kinds.ps choose-kinds.r) κs)
    → choose-reads.Learnt κs a r s → (r.answer.number ≡ 0 → ⊥) → r.table ≡ no_table a.0
choose_beside κs a r s p n = p.1 ∙ beside (choose_says a.0 a.1.0.now) (choose_total a.0 a.1.0.now) _ _ p.0 n

pub codeword_of_beside : (κs : Lfts 0) (a : Dens κs codeword-of-kinds.ps) (r : (res_t codeword-of-kinds.r κs).Denot) (s : AtExit (ended_of 0 codeword-of-kinds.ps codeword-of-kinds.r) κs)
    → codeword-of-reads.Learnt κs a r s → (r.answer.number ≡ 0 → ⊥) → r.word ≡ codeword_for []
codeword_of_beside κs a r s p n = p.1 ∙ beside (codeword_says a.0 a.1.0) 0 _ _ p.0 n

-- lent: `buf`
pub pack_beside : (κs : Lfts 2) (a : Dens κs pack-kinds.ps) (r : (res_t pack-kinds.r κs).Denot) (s : AtExit (ended_of 2 pack-kinds.ps pack-kinds.r) κs)
    → pack-reads.Learnt κs a r s → (r.answer.number ≡ 0 → ⊥)
    → (r.roll ≡ no_roll a.0) × (s.1.1.0.now ≡ a.1.1.0.now)
pack_beside κs a r s p n =
    let o = pack_says a.0 a.1.0.now a.1.1.0.now in
    (p.1.0 ∙ beside o 0 _ _ p.0 n, p.1.1 ∙ beside o 0 _ _ p.0 n)

-- lent: `buf`, `dir`
pub edit_beside : (κs : Lfts 3) (a : Dens κs edit-kinds.ps) (r : (res_t edit-kinds.r κs).Denot) (s : AtExit (ended_of 3 edit-kinds.ps edit-kinds.r) κs)
    → edit-reads.Learnt κs a r s → (r.answer.number ≡ 0 → ⊥)
    → (r.roll ≡ a.0) × (s.1.0.now ≡ a.1.0.now) × (s.1.1.0.now ≡ a.1.1.0.now)
edit_beside κs a r s p n =
    let o = edit_says a.0 a.1.0.now a.1.1.0.now a.1.1.1.0 a.1.1.1.1.0 a.1.1.1.1.1.0.now in
    (p.1.0 ∙ beside o 0 _ _ p.0 n, p.1.1.0 ∙ beside o 0 _ _ p.0 n, p.1.1.1 ∙ beside o 0 _ _ p.0 n)

-- lent: `buf`
pub read_frames_beside : (κs : Lfts 2) (a : Dens κs read-frames-kinds.ps) (r : (res_t read-frames-kinds.r κs).Denot)
    (s : AtExit (ended_of 2 read-frames-kinds.ps read-frames-kinds.r) κs)
    → read-frames-reads.Learnt κs a r s → (r.answer.number ≡ 0 → ⊥)
    → (r.roll ≡ no_record) × (s.1.0.now ≡ a.1.0.now)
read_frames_beside κs a r s p n =
    let o = frames_says a.0.now a.1.0.now in
    (p.1.0 ∙ beside o 0 _ _ p.0 n, p.1.1 ∙ beside o 0 _ _ p.0 n)

pub read_first_beside : (κs : Lfts 1) (a : Dens κs read-first-kinds.ps) (r : (res_t read-first-kinds.r κs).Denot)
    (s : AtExit (ended_of 1 read-first-kinds.ps read-first-kinds.r) κs)
    → read-first-reads.Learnt κs a r s → (r.answer.number ≡ 0 → ⊥) → r.roll ≡ no_record
read_first_beside κs a r s p n = p.1 ∙ beside (first_says a.0.now) 0 _ _ p.0 n

pub start_beside : (κs : Lfts 1) (a : Dens κs start-kinds.ps) (r : (res_t start-kinds.r κs).Denot) (s : AtExit (ended_of 1 start-kinds.ps start-kinds.r) κs)
    → start-reads.Learnt κs a r s → (r.answer.number ≡ 0 → ⊥) → r.searcher ≡ searcher_for a.0 []
start_beside κs a r s p n = p.1 ∙ beside (start_says a.0 a.1.0.now) 0 _ _ p.0 n
