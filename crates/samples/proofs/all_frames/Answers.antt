use Rattle.queries.proofs.Answering.{placed}
use Rattle.samples.proofs.all_frames.Goals as goal

pub all_frames_in-requires : goal.all_frames_in-requires
all_frames_in-requires c = placed _ _ c.in-Ok.is c.find.ensures.1

pub returns-in-Ok : goal.returns-in-Ok
returns-in-Ok c =
    let find = c.find in
    let all-frames-in = c.all_frames_in in (
      simp (← find.ensures.0.0, c.in-Ok.is, all-frames-in.ensures.0),
      simp (← find.ensures.0.0, c.in-Ok.is, all-frames-in.ensures.1),
    )

pub returns-in-Err : goal.returns-in-Err
returns-in-Err c =
    let find = c.find in
    (simp (← find.ensures.0.0, c.in-Err.is, c.from.ensures), simp (← find.ensures.0.0, c.in-Err.is))
