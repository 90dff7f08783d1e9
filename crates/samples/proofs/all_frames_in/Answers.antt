use borrow.Author.Rules.{rules}
use mathlib.Core.Path.{sym}
use borrow.Author.Tests.{lt-ltb, le-ltb}
use Prim.Native.Nat.{◌*◌}
use lib.Seq.{length-take-le}
use Rattle.samples.proofs.WritingFrames.{pairs-length}
use Rattle.samples.proofs.all_frames_in.Goals as goal

pub returns-then-out-needed : goal.returns-then-out-needed
returns-then-out-needed c =
    let sample-frames = c.sample_frames-frames in (
      simp (← sample-frames.ensures, lt-ltb _ _ c.if-out-needed.true, c.from.ensures, c.refuse.ensures),
      simp (← sample-frames.ensures, lt-ltb _ _ c.if-out-needed.true),
    )

pub slice_bounds-write_frames-end-2 : goal.slice_bounds-write_frames-end-2
slice_bounds-write_frames-end-2 c =
    sym (length-take-le (2 * c.sample_frames-frames.result) c.args.out.now c.if-out-needed.false)

pub write_frames-requires : goal.write_frames-requires
write_frames-requires c = (
  search rules,
  (
    c.frame_bytes.ensures.1,
    (
      search rules,
      length-take-le (2 * c.sample_frames-frames.result) c.args.out.now
          c.if-out-needed.false,
    ),
  ),
)

pub returns : goal.returns
returns c =
    let sample-frames = c.sample_frames-frames in
    let frame-bytes = c.frame_bytes in (
      simp (← sample-frames.ensures, le-ltb _ _ c.if-out-needed.false, c.from-2.ensures),
      simp (← sample-frames.ensures, le-ltb _ _ c.if-out-needed.false, c.write_frames.ensures, frame-bytes.ensures.0, pairs-length),
    )
