-- Two outcomes that an operation's contract allows for one input are equal, answer, searcher and the lent slice: of the contracts as the source states them.
use Rattle.std.proofs.Common.{◌≡◌, ◌∙◌, sym, ap, ap₂, ℕ, Result}
use contract.Lifetimes.{Lfts}
use borrow.Fn.Kinds.{Dens, res_t, ended_of}
use denote.Triple.Clauses.{AtExit}
use Rattle.ground.specs.Laws.Answers.{says_one}
use Rattle.ground.specs.declared.refusal.Refusal.{Refusal}
use Rattle.radio.specs.declared.records.Searcher.{Searcher}
use Rattle.radio.specs.declared.feed.Fed.{Fed}
use Rattle.radio.proofs.start.start.Kinds as start-kinds
use Rattle.radio.proofs.start.start.Reads as start-reads
use Rattle.radio.proofs.feed.feed.Kinds as feed-kinds
use Rattle.radio.proofs.feed.feed.Reads as feed-reads
use Rattle.radio.proofs.finish.finish.Kinds as finish-kinds
use Rattle.radio.proofs.finish.finish.Reads as finish-reads

pub start_tight : (κs : Lfts 1) (a : Dens κs start-kinds.ps) (r₁ r₂ : (res_t start-kinds.r κs).Denot) (s₁ s₂ : AtExit (ended_of 1 start-kinds.ps start-kinds.r) κs)
    → start-reads.Learnt κs a r₁ s₁ → start-reads.Learnt κs a r₂ s₂ → r₁ ≡ r₂
start_tight κs a r₁ r₂ s₁ s₂ p q = says_one r₁ r₂ (p.says ∙ sym q.says)

-- the third parameter, the slice, is lent
pub feed_tight : (κs : Lfts 2) (a : Dens κs feed-kinds.ps) (r₁ r₂ : (res_t feed-kinds.r κs).Denot) (s₁ s₂ : AtExit (ended_of 2 feed-kinds.ps feed-kinds.r) κs)
    → feed-reads.Learnt κs a r₁ s₁ → feed-reads.Learnt κs a r₂ s₂ → (r₁ ≡ r₂) × (s₁.1.1.0.now ≡ s₂.1.1.0.now)
feed_tight κs a r₁ r₂ s₁ s₂ p q =
    let same : r₁.answer ≡ r₂.answer = says_one r₁.answer r₂.answer (p.says ∙ sym q.says) in
    let many : r₁.hits ≡ r₂.hits = p.hits ∙ sym q.hits in
    let left : r₁.searcher ≡ r₂.searcher = p.searcher ∙ sym q.searcher in (
      ap₂ {C = Fed} (λ (x : Result (Unit {0}) Refusal) (y : Searcher). record { answer = x; hits = r₁.hits; searcher = y }) same left
          ∙ ap {B = Fed} (λ (n : ℕ). record { answer = r₂.answer; hits = n; searcher = r₂.searcher }) many,
      p.leaves ∙ sym q.leaves,
    )

pub finish_tight : (κs : Lfts 0) (a : Dens κs finish-kinds.ps) (r₁ r₂ : (res_t finish-kinds.r κs).Denot) (s₁ s₂ : AtExit (ended_of 0 finish-kinds.ps finish-kinds.r) κs)
    → finish-reads.Learnt κs a r₁ s₁ → finish-reads.Learnt κs a r₂ s₂ → r₁ ≡ r₂
finish_tight κs a r₁ r₂ s₁ s₂ p q = says_one r₁ r₂ (p.says ∙ sym q.says)
