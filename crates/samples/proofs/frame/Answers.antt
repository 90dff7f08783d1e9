use Rattle.queries.proofs.Answering.{placed}
use Rattle.samples.proofs.frame.Goals as goal

pub frame_in-requires : goal.frame_in-requires
frame_in-requires c = placed _ _ c.in-Ok.is c.find.ensures.1

pub returns-in-Ok : goal.returns-in-Ok
returns-in-Ok c = simp (← c.find.ensures.0.0, c.in-Ok.is, c.frame_in.ensures)

pub returns-in-Err : goal.returns-in-Err
returns-in-Err c = simp (← c.find.ensures.0.0, c.in-Err.is, c.no_frame.ensures)
