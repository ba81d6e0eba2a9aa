-- Two outcomes that an operation's contract allows for one input are equal, answer and every lent slice: of the contracts as the source
-- states them.
use mathlib.Core.Path.{◌≡◌, ◌∙◌, sym}
use contract.Lifetimes.{Lfts}
use borrow.Fn.Kinds.{Dens, res_t, ended_of}
use denote.Triple.Clauses.{AtExit}
use Rattle.ground.specs.Laws.Answers.{says_one}
use Rattle.stopper.proofs.codeword_of.codeword_of.Kinds as codeword-of-kinds
use Rattle.stopper.proofs.codeword_of.codeword_of.Reads as codeword-of-reads
use Rattle.stopper.proofs.character_of.character_of.Kinds as character-of-kinds
use Rattle.stopper.proofs.character_of.character_of.Reads as character-of-reads

pub codeword_of_tight : (κs : Lfts 0) (a : Dens κs codeword-of-kinds.ps) (r₁ r₂ : (res_t codeword-of-kinds.r κs).Denot)
    (s₁ s₂ : AtExit (ended_of 0 codeword-of-kinds.ps codeword-of-kinds.r) κs) → codeword-of-reads.Learnt κs a r₁ s₁ → codeword-of-reads.Learnt κs a r₂ s₂ → r₁ ≡ r₂
codeword_of_tight κs a r₁ r₂ s₁ s₂ p q = says_one r₁ r₂ (p.says ∙ sym q.says)

pub character_of_tight : (κs : Lfts 0) (a : Dens κs character-of-kinds.ps) (r₁ r₂ : (res_t character-of-kinds.r κs).Denot)
    (s₁ s₂ : AtExit (ended_of 0 character-of-kinds.ps character-of-kinds.r) κs) → character-of-reads.Learnt κs a r₁ s₁ → character-of-reads.Learnt κs a r₂ s₂ → r₁ ≡ r₂
character_of_tight κs a r₁ r₂ s₁ s₂ p q = says_one r₁ r₂ (p.says ∙ sym q.says)
