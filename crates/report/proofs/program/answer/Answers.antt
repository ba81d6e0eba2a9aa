-- `report::program::answer` meets its contract.
use Rattle.report.specs.Laws.Answering.{packed_refusal, packed_lines}
use Rattle.report.proofs.program.answer.Goals as goal

pub returns-in-Ok : goal.returns-in-Ok
returns-in-Ok c =
    let f = packed_lines c.args.pattern.now c.args.text.now c.in-Ok.ensures in
    record { length = f.0; out = f.1 }

pub returns-in-Err : goal.returns-in-Err
returns-in-Err c =
    let f = packed_refusal c.args.pattern.now c.args.text.now c.in-Err.ensures in
    record { length = rw f.0 c.refused_out.ensures.length; out = rw (f.0, ← f.1) c.refused_out.ensures.out }
