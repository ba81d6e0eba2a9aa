-- `stopper::word::emit` meets its contract: a digit stored, and the rest spelt before it.
use Rattle.std.proofs.Common.{◌≡◌, ◌∙◌, ◌-◌, ◌%◌, ◌≤◌, ◌<◌, ℕ, T, arith}
use Rattle.std.proofs.Math.Nat.{mod-lt}
use Rattle.std.proofs.Math.ListN.{length-set}
use Rattle.stopper.specs.Paper.Table.{base, stoppers, good_code}
use Rattle.stopper.specs.Laws.Table.{code_base, code_good}
use Rattle.stopper.specs.declared.code.Code.{Code}
use Rattle.stopper.proofs.Spelling.{spelt, none}
use Rattle.stopper.proofs.word.+emit.Goals as goal

-- the numbers of a digit are small
small : (k : Code) (i m s x : ℕ) → T (good_code k) → s ≡ stoppers k i → m ≡ base k → (s < m) × (m ≤ 16) × (x % (m - s) < m - s)
small k i m s x g e f =
    let h : s < m = rw (e, f) ((code_good k g).high i) in
    (h, omega (arith, code_base k g), mod-lt x (omega arith))

digit : (t : ℕ) (c : goal.After-base_of t)
    → let m = c.base_of.result in let s = c.stoppers_at-s.result in (s < m) × (m ≤ 16) × (c.args.x % (m - s) < m - s)
digit t c = small c.args.good.code _ _ _ c.args.x c.args.good.good c.stoppers_at-s.ensures c.base_of.ensures

pub overflow_sub-c : goal.overflow_sub-c
overflow_sub-c t c = let z = digit t c in omega arith

pub nonzero_rem-out : goal.nonzero_rem-out
nonzero_rem-out t c = let z = digit t c in omega arith

pub overflow_add-out : goal.overflow_add-out
overflow_add-out t c = let z = digit t c in omega arith

pub overflow_cast-out : goal.overflow_cast-out
overflow_cast-out t c = let z = digit t c in omega arith

pub nonzero_div-x : goal.nonzero_div-x
nonzero_div-x t c = let z = digit t c in omega arith

pub emit-requires : goal.emit-requires
emit-requires t c = (omega arith, simp length-set (omega arith))

pub returns-then-i-gt0 : goal.returns-then-i-gt0
returns-then-i-gt0 t c =
    let a = c.args in
    c.emit.ensures ∙ spelt a.good.code _ _ a.x a.i a.out.now c.base_of.ensures c.stoppers_at-s.ensures c.if-i-gt0.true (omega arith)

pub returns-else-i-gt0 : goal.returns-else-i-gt0
returns-else-i-gt0 t c = let a = c.args in none a.good.code a.x a.i a.out.now c.if-i-gt0.false
