-- Two outcomes that an operation's contract allows for one input are equal, answer and every lent slice: of the contracts as the source
-- states them.
use mathlib.Core.Path.{◌≡◌, ◌∙◌, sym}
use contract.Lifetimes.{Lfts}
use borrow.Fn.Kinds.{Dens, res_t, ended_of}
use denote.Triple.Clauses.{AtExit}
use Rattle.ground.specs.Laws.Answers.{says_one}
use Rattle.choosing.proofs.count.count.Kinds as count-kinds
use Rattle.choosing.proofs.count.count.Reads as count-reads
use Rattle.choosing.proofs.choose.choose.Kinds as choose-kinds
use Rattle.choosing.proofs.choose.choose.Reads as choose-reads

-- the second parameter, the counts, is lent
pub count_tight : (κs : Lfts 2) (a : Dens κs count-kinds.ps) (r₁ r₂ : (res_t count-kinds.r κs).Denot) (s₁ s₂ : AtExit (ended_of 2 count-kinds.ps count-kinds.r) κs)
    → count-reads.Learnt κs a r₁ s₁ → count-reads.Learnt κs a r₂ s₂ → (r₁ ≡ r₂) × (s₁.1.0.now ≡ s₂.1.0.now)
count_tight κs a r₁ r₂ s₁ s₂ p q = (says_one r₁ r₂ (p.says ∙ sym q.says), p.leaves ∙ sym q.leaves)

pub choose_tight : (κs : Lfts 1) (a : Dens κs choose-kinds.ps) (r₁ r₂ : (res_t choose-kinds.r κs).Denot) (s₁ s₂ : AtExit (ended_of 1 choose-kinds.ps choose-kinds.r) κs)
    → choose-reads.Learnt κs a r₁ s₁ → choose-reads.Learnt κs a r₂ s₂ → r₁ ≡ r₂
choose_tight κs a r₁ r₂ s₁ s₂ p q = says_one r₁ r₂ (p.says ∙ sym q.says)
