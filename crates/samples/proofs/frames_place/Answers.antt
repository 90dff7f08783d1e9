use Rattle.queries.proofs.Answering.{placed}
use Rattle.samples.proofs.frames_place.Goals as goal

pub frames_at-requires : goal.frames_at-requires
frames_at-requires c = placed _ _ c.in-Ok.is c.find.ensures.1

pub returns-in-Ok : goal.returns-in-Ok
returns-in-Ok c = simp (← c.find.ensures.0.0, c.in-Ok.is, c.frames_at.ensures)

pub returns-in-Err : goal.returns-in-Err
returns-in-Err c = simp (← c.find.ensures.0.0, c.in-Err.is, c.no_frames.ensures)
