-- Two outcomes that the contract of the search by jumps allows for one input are equal, answer and slice; and so are one that it allows and one
-- that the contract of the plain search allows: of the contracts as the sources state them.
use mathlib.Core.Path.{◌≡◌, ◌∙◌, sym}
use contract.Lifetimes.{Lfts}
use borrow.Fn.Kinds.{Dens, res_t, ended_of}
use denote.Triple.Clauses.{AtExit}
use Rattle.ground.specs.Laws.Answers.{says_one}
use Rattle.roll.proofs.search.search.Kinds as search-kinds
use Rattle.roll.proofs.search.search.Reads as search-reads
use Rattle.jump.proofs.search_jumping.search_jumping.Kinds as search-jumping-kinds
use Rattle.jump.proofs.search_jumping.search_jumping.Reads as search-jumping-reads

-- the fourth parameter, the slice, is lent
pub search_jumping_tight : (κs : Lfts 3) (a : Dens κs search-jumping-kinds.ps) (r₁ r₂ : (res_t search-jumping-kinds.r κs).Denot)
    (s₁ s₂ : AtExit (ended_of 3 search-jumping-kinds.ps search-jumping-kinds.r) κs)
    → search-jumping-reads.Learnt κs a r₁ s₁ → search-jumping-reads.Learnt κs a r₂ s₂ → (r₁ ≡ r₂) × (s₁.1.1.1.0.now ≡ s₂.1.1.1.0.now)
search_jumping_tight κs a r₁ r₂ s₁ s₂ p q = (says_one r₁ r₂ (p.says ∙ sym q.says), p.leaves ∙ sym q.leaves)

-- on every input, refused ones too, a call of the plain search and one of the search by jumps answer the same and leave the same in the slice
pub jumping_agrees : (κs : Lfts 3) (a : Dens κs search-kinds.ps) (r₁ : (res_t search-kinds.r κs).Denot) (r₂ : (res_t search-jumping-kinds.r κs).Denot)
    (s₁ : AtExit (ended_of 3 search-kinds.ps search-kinds.r) κs) (s₂ : AtExit (ended_of 3 search-jumping-kinds.ps search-jumping-kinds.r) κs)
    → search-reads.Learnt κs a r₁ s₁ → search-jumping-reads.Learnt κs a r₂ s₂ → (r₁ ≡ r₂) × (s₁.1.1.1.0.now ≡ s₂.1.1.1.0.now)
jumping_agrees κs a r₁ r₂ s₁ s₂ p q = (says_one r₁ r₂ (p.says ∙ sym q.says), p.leaves ∙ sym q.leaves)
