use Rattle.reading.proofs.Steps.{judged_whole, judged_stuck}
use Rattle.reader.proofs.text.TextAt.check.Goals as goal
use Rattle.std.proofs.Common.{refl}

pub returns-in-Ok : goal.returns-in-Ok
returns-in-Ok c = λ x. judged_whole _ _ x c.in-Ok.ensures.0

pub returns-in-Err : goal.returns-in-Err
returns-in-Err c = λ x. judged_stuck _ _ _ _ x c.in-Err.ensures.0 refl
