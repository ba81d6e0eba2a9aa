-- Two outcomes that an operation's contract allows for one input are equal, answer and every lent slice: of the contracts as the source
-- states them.
use mathlib.Core.Path.{◌≡◌, ◌∙◌, sym, ap₂}
use contract.Lifetimes.{Lfts}
use borrow.Fn.Kinds.{Dens, res_t, ended_of}
use denote.Triple.Clauses.{AtExit}
use Rattle.ground.specs.Laws.Answers.{says_one}
use Rattle.ground.specs.declared.refusal.Refusal.{Refusal}
use Rattle.std.specs.Prelude.{Result}
use Rattle.sound.specs.declared.records.Roll.{Roll}
use Rattle.roll.specs.declared.edit.Edited.{Edited}
use Rattle.roll.proofs.pack.pack.Kinds as pack-kinds
use Rattle.roll.proofs.pack.pack.Reads as pack-reads
use Rattle.roll.proofs.check.check.Kinds as check-kinds
use Rattle.roll.proofs.check.check.Reads as check-reads
use Rattle.roll.proofs.unpack.unpack.Kinds as unpack-kinds
use Rattle.roll.proofs.unpack.unpack.Reads as unpack-reads
use Rattle.roll.proofs.make_directory.make_directory.Kinds as make-directory-kinds
use Rattle.roll.proofs.make_directory.make_directory.Reads as make-directory-reads
use Rattle.roll.proofs.read_one.read_one.Kinds as read-one-kinds
use Rattle.roll.proofs.read_one.read_one.Reads as read-one-reads
use Rattle.roll.proofs.edit.edit.Kinds as edit-kinds
use Rattle.roll.proofs.edit.edit.Reads as edit-reads
use Rattle.roll.proofs.search.search.Kinds as search-kinds
use Rattle.roll.proofs.search.search.Reads as search-reads

-- the third parameter, the buffer, is lent
pub pack_tight : (κs : Lfts 2) (a : Dens κs pack-kinds.ps) (r₁ r₂ : (res_t pack-kinds.r κs).Denot) (s₁ s₂ : AtExit (ended_of 2 pack-kinds.ps pack-kinds.r) κs)
    → pack-reads.Learnt κs a r₁ s₁ → pack-reads.Learnt κs a r₂ s₂ → (r₁ ≡ r₂) × (s₁.1.1.0.now ≡ s₂.1.1.0.now)
pack_tight κs a r₁ r₂ s₁ s₂ p q = (says_one r₁ r₂ (p.says ∙ sym q.says), p.leaves ∙ sym q.leaves)

pub check_tight : (κs : Lfts 1) (a : Dens κs check-kinds.ps) (r₁ r₂ : (res_t check-kinds.r κs).Denot) (s₁ s₂ : AtExit (ended_of 1 check-kinds.ps check-kinds.r) κs)
    → check-reads.Learnt κs a r₁ s₁ → check-reads.Learnt κs a r₂ s₂ → r₁ ≡ r₂
check_tight κs a r₁ r₂ s₁ s₂ p q = says_one r₁ r₂ (p.says ∙ sym q.says)

-- the fifth parameter, `out`, is lent
pub unpack_tight : (κs : Lfts 2) (a : Dens κs unpack-kinds.ps) (r₁ r₂ : (res_t unpack-kinds.r κs).Denot) (s₁ s₂ : AtExit (ended_of 2 unpack-kinds.ps unpack-kinds.r) κs)
    → unpack-reads.Learnt κs a r₁ s₁ → unpack-reads.Learnt κs a r₂ s₂ → (r₁ ≡ r₂) × (s₁.1.1.1.1.0.now ≡ s₂.1.1.1.1.0.now)
unpack_tight κs a r₁ r₂ s₁ s₂ p q = (says_one r₁ r₂ (p.says ∙ sym q.says), p.leaves ∙ sym q.leaves)

-- the third parameter, the directory, is lent
pub make_directory_tight : (κs : Lfts 2) (a : Dens κs make-directory-kinds.ps) (r₁ r₂ : (res_t make-directory-kinds.r κs).Denot)
    (s₁ s₂ : AtExit (ended_of 2 make-directory-kinds.ps make-directory-kinds.r) κs)
    → make-directory-reads.Learnt κs a r₁ s₁ → make-directory-reads.Learnt κs a r₂ s₂ → (r₁ ≡ r₂) × (s₁.1.1.0.now ≡ s₂.1.1.0.now)
make_directory_tight κs a r₁ r₂ s₁ s₂ p q = (says_one r₁ r₂ (p.says ∙ sym q.says), p.leaves ∙ sym q.leaves)

pub read_one_tight : (κs : Lfts 2) (a : Dens κs read-one-kinds.ps) (r₁ r₂ : (res_t read-one-kinds.r κs).Denot) (s₁ s₂ : AtExit (ended_of 2 read-one-kinds.ps read-one-kinds.r) κs)
    → read-one-reads.Learnt κs a r₁ s₁ → read-one-reads.Learnt κs a r₂ s₂ → r₁ ≡ r₂
read_one_tight κs a r₁ r₂ s₁ s₂ p q = says_one r₁ r₂ (p.says ∙ sym q.says)

-- the fourth parameter, the slice, is lent
pub search_tight : (κs : Lfts 3) (a : Dens κs search-kinds.ps) (r₁ r₂ : (res_t search-kinds.r κs).Denot) (s₁ s₂ : AtExit (ended_of 3 search-kinds.ps search-kinds.r) κs)
    → search-reads.Learnt κs a r₁ s₁ → search-reads.Learnt κs a r₂ s₂ → (r₁ ≡ r₂) × (s₁.1.1.1.0.now ≡ s₂.1.1.1.0.now)
search_tight κs a r₁ r₂ s₁ s₂ p q = (says_one r₁ r₂ (p.says ∙ sym q.says), p.leaves ∙ sym q.leaves)

-- the second and third parameters, the buffer and the directory, are lent
pub edit_tight : (κs : Lfts 3) (a : Dens κs edit-kinds.ps) (r₁ r₂ : (res_t edit-kinds.r κs).Denot) (s₁ s₂ : AtExit (ended_of 3 edit-kinds.ps edit-kinds.r) κs)
    → edit-reads.Learnt κs a r₁ s₁ → edit-reads.Learnt κs a r₂ s₂ → (r₁ ≡ r₂) × (s₁.1.0.now ≡ s₂.1.0.now) × (s₁.1.1.0.now ≡ s₂.1.1.0.now)
edit_tight κs a r₁ r₂ s₁ s₂ p q = (
  ap₂ {C = Edited} (λ (x : Result (Unit {0}) Refusal) (y : Roll). record { answer = x; roll = y }) (says_one r₁.answer r₂.answer (p.says ∙ sym q.says)) (p.roll ∙ sym q.roll),
  p.leaves ∙ sym q.leaves,
  p.directory ∙ sym q.directory,
)
