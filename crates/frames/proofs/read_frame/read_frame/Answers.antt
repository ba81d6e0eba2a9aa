-- `frames::read_frame::read_frame` meets its contract.
use Rattle.std.proofs.Common.{sym, ap₂, ◌∙◌, List, ◌++◌, ℕ, drop, length-take-le, arith}
use Rattle.ground.specs.Laws.Tests.{true_yes}
use Rattle.frames.specs.Laws.Operations.{later_refused, later_yes, later_15, later_13, later_accepted}
use Rattle.frames.proofs.read_frame.read_frame.Goals as goal

pub returns-then-not-is_later : goal.returns-then-not-is_later
returns-then-not-is_later c = later_refused (later_15 _ _ (sym c.is_later.ensures ∙ c.if-not-is_later.true))

pub bytes_of-many-requires : goal.bytes_of-many-requires
bytes_of-many-requires c = true_yes _ (sym c.is_later.ensures ∙ c.if-not-is_later.false)

pub returns-then-out-many : goal.returns-then-out-many
returns-then-out-many c =
    let m = c.bytes_of-many.ensures.many in
    rw m (later_refused (later_13 _ _ (sym c.is_later.ensures ∙ c.if-not-is_later.false) (omega (arith, m, c.if-out-many.true))))

pub slice_bounds-take_packed-end-2 : goal.slice_bounds-take_packed-end-2
slice_bounds-take_packed-end-2 c = sym (length-take-le _ c.args.out.now (omega (arith, c.if-out-many.false)))

pub take_packed-requires : goal.take_packed-requires
take_packed-requires c =
    (true_yes _ (sym c.is_later.ensures ∙ c.if-not-is_later.false), length-take-le _ c.args.out.now (omega (arith, c.if-out-many.false)) ∙ c.bytes_of-many.ensures.many)

pub returns : goal.returns
returns c =
    let m = c.bytes_of-many.ensures.many in
    let out = c.args.out.now in
    later_yes (later_accepted _ _ (sym c.is_later.ensures ∙ c.if-not-is_later.false) (omega (arith, m, c.if-out-many.false))) m
    (ap₂ (λ (a : List ℕ) (n : ℕ). a ++ drop n out) c.take_packed.ensures m)
