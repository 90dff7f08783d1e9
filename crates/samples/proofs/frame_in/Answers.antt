use mir.Syntax.{w16}
use mir.ValLaws.{to_z-of_z}
use Rattle.blocks.proofs.BlockSizes.{frames-below}
use Rattle.samples.proofs.SixteenBits.{frame-shown}
use native.Mathlib.Omega.{arith}
use borrow.Author.Tests.{le-ltb}
use Prim.Native.Nat.{◌<◌}
use mathlib.Core.Path.{◌∙◌}
use Rattle.samples.proofs.frame_in.Goals as goal

pub returns-then-sample_frames-frame : goal.returns-then-sample_frames-frame
returns-then-sample_frames-frame c =
    simp (
      ← c.sample_frames.ensures,
      le-ltb _ _ c.if-sample_frames-frame.true,
      c.no_frame.ensures,
      c.refuse.ensures,
    )

pub overflow_mul-frame : goal.overflow_mul-frame
overflow_mul-frame c =
    let few : c.args.frame < 0x100000000 = omega (arith, c.if-sample_frames-frame.false) in
    let reach = frames-below _ _ few c.frame_bytes-bytes.ensures.1 in
    record { fits = omega arith }

pub overflow_add-at-2 : goal.overflow_add-at-2
overflow_add-at-2 c =
    let few : c.args.frame < 0x100000000 = omega (arith, c.if-sample_frames-frame.false) in
    let reach = frames-below _ _ few c.frame_bytes-bytes.ensures.1 in
    record { fits = omega arith }

pub returns : goal.returns
returns c =
    let sample-frames = c.sample_frames in
    let signed = c.signed in
    frame-shown _ _ _ _ _ _ _ c.from.ensures sample-frames.ensures c.if-sample_frames-frame.false
    c.frame_bytes-bytes.ensures.0
    (to_z-of_z w16 signed.result (record { sfits = signed.type_inv }) ∙ signed.ensures ∙ c.at_16_bits.ensures)
