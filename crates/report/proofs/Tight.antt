-- Two outcomes that the report's contract allows for one input are equal, answer and lent array: of the contract as the source states it.
use mathlib.Core.Path.{◌≡◌, ◌∙◌, sym}
use contract.Lifetimes.{Lfts}
use borrow.Fn.Kinds.{Dens, res_t, ended_of}
use denote.Triple.Clauses.{AtExit}
use Rattle.report.proofs.program.report.Kinds as report-kinds
use Rattle.report.proofs.program.report.Reads as report-reads

-- the second parameter, the array, is lent
pub report_tight : (κs : Lfts 2) (a : Dens κs report-kinds.ps) (r₁ r₂ : (res_t report-kinds.r κs).Denot) (s₁ s₂ : AtExit (ended_of 2 report-kinds.ps report-kinds.r) κs)
    → report-reads.Learnt κs a r₁ s₁ → report-reads.Learnt κs a r₂ s₂ → (r₁ ≡ r₂) × (s₁.1.0.now ≡ s₂.1.0.now)
report_tight κs a r₁ r₂ s₁ s₂ p q = (p.0 ∙ sym q.0, p.1 ∙ sym q.1)
