-- `judge::judging::verdict` meets its contract.
use Rattle.std.proofs.Common.{◌≡◌, sym, ◌<◌, ◌⊎◌, inl, inr}
use borrow.Author.Tests.{eq-eqb, ne_eqb, lt-ltb, le-ltb}
use Rattle.judge.specs.Paper.Judge.{verdict_says}
use Rattle.ground.specs.Paper.Refusals.{refused}
use Rattle.judge.specs.declared.records.Judge.{Judge}
use Rattle.judge.proofs.judging.verdict.Goals as goal

unfinished : (j : Judge) → (j.progress.bad ≡ 0 → ⊥) ⊎ ((j.progress.bad ≡ 0) × (j.progress.read < j.roll.h)) → verdict_says j ≡ refused 6 j.progress.first
unfolding verdict_says
unfinished j (inl bad) = rw (ne_eqb _ _ bad)
unfinished j (inr (good, short)) = rw (eq-eqb _ _ good, lt-ltb _ _ short)

pub returns-then-p-ne0 : goal.returns-then-p-ne0
returns-then-p-ne0 c = record { says = sym (unfinished c.args.judge c.then-p-ne0.either) }

pub returns-then-p-judge-2 : goal.returns-then-p-judge-2
unfolding verdict_says
returns-then-p-judge-2 c = record { says = rw (eq-eqb _ _ c.if-p-ne0.false, le-ltb _ _ c.if-p-judge.false, ne_eqb _ _ c.if-p-judge-2.true) }

pub returns-then-p-ne0-2 : goal.returns-then-p-ne0-2
unfolding verdict_says
returns-then-p-ne0-2 c =
    record { says = rw (eq-eqb _ _ c.if-p-ne0.false, le-ltb _ _ c.if-p-judge.false, eq-eqb _ _ c.if-p-judge-2.false, ne_eqb _ _ c.if-p-ne0-2.true) }

pub returns : goal.returns
unfolding verdict_says
returns c =
    record { says = rw (eq-eqb _ _ c.if-p-ne0.false, le-ltb _ _ c.if-p-judge.false, eq-eqb _ _ c.if-p-judge-2.false, eq-eqb _ _ c.if-p-ne0-2.false) }
