-- `moves::byte::more_before` meets its contract: a continuer, and then what m does.
use Rattle.std.proofs.Common.{◌≡◌, ℕ, ◌-◌, ◌<◌, T, arith, mul-le-mul}
use Rattle.stopper.specs.Paper.Table.{base, stoppers, good_code}
use Rattle.stopper.specs.declared.code.Code.{Code}
use Rattle.stopper.specs.Laws.Table.{code_good, code_base}
use Rattle.moves.specs.Laws.Moves.{goes_more}
use Rattle.moves.proofs.byte.more_before.Goals as goal

-- some symbols are no stoppers
high : (code : Code) → T (good_code code) → {b s : ℕ} → b ≡ base code → s ≡ stoppers code 0 → s < b
high code g e f = omega (arith, (code_good code g).high 0)

pub overflow_sub-c : goal.overflow_sub-c
overflow_sub-c c = omega (arith, high c.args.good.code c.args.good.good c.base_of.ensures c.stoppers_at-s.ensures)

pub overflow_mul-times : goal.overflow_mul-times
overflow_mul-times c =
    omega (
      arith,
      mul-le-mul {n₁ = c.base_of.result - c.stoppers_at-s.result} {m₁ = c.args.m.times} {n₂ = 16} {m₂ = 255} (omega (arith, c.base_of.ensures, code_base c.args.good.code c.args.good.good)) c.requires.0.times,
    )

pub upto-requires : goal.upto-requires
upto-requires c = (omega arith, omega (arith, high c.args.good.code c.args.good.good c.base_of.ensures c.stoppers_at-s.ensures))

pub returns : goal.returns
returns c =
    let good = c.upto.ensures.0 in (
      record { bound = omega arith; times = c.if-times-gt255.false; plus = c.if-plus-gt255.false; stops = c.requires.0.stops },
      λ sigma w h. rw (c.stoppers_at-s.ensures, c.base_of.ensures) (goes_more c.args.good.code sigma c.args.y c.upto.result h c.requires.1
          (λ x l. rw (← c.stoppers_at-s.ensures, ← c.base_of.ensures) (omega (arith, good x l)))),
    )
