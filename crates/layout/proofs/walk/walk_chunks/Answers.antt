use Prim.Native.Nat.{◌+◌}
use mathlib.Core.Path.{◌∙◌, sym}
use Rattle.refusal.proofs.Outcomes.{passed-on}
use Rattle.layout.proofs.Walking.{walking-first, walking-refused, walking-turn, walking-last, walking-others}
use Rattle.layout.proofs.walk.walk_chunks.Goals as goal

pub loop-at-init : goal.loop-at-init
loop-at-init c =
    let m = c.args.m.now in
    let no-spans = c.no_spans-p in
    let skip-others = c.skip_others-at in
    walking-others m no-spans.result skip-others.ensures.0.0 8 skip-others.result skip-others.ensures.0.1
    (rw no-spans.ensures (walking-first m))

pub loop-at-preserved : goal.loop-at-preserved
loop-at-preserved c =
    let check-chunk = c.check_chunk in
    let loop = c.loop-at in
    let m = c.args.m.now in
    let size = c.number32-length in
    let put = c.put-p in
    let span = c.header_span in
    let letters = c.number32 in
    let sound = sym check-chunk.ensures ∙ c.in_ok-check_chunk.was in
    let next = walking-turn m loop.p loop.at loop.invariant c.loop-at-test.true sound put.result
    (put.ensures ∙ simp (span.ensures, size.ensures, letters.ensures)) in
    let others = c.skip_others-at-in-loop-at.ensures.0 in
    walking-others m put.result others.0 (loop.at + 8 + size.result) c.skip_others-at-in-loop-at.result others.1
    (rw size.ensures next)

pub returns : goal.returns
returns c =
    let loop = c.loop-at in
    sym (walking-last c.args.m.now loop.p loop.at loop.invariant c.loop-at-test.false)

pub returns-in_err-check_chunk : goal.returns-in_err-check_chunk
returns-in_err-check_chunk c =
    let loop = c.loop-at in
    passed-on c.from_residual.result c.from_residual.ensures.1
    ∙ sym (walking-refused c.args.m.now loop.p loop.at loop.invariant c.loop-at-test.true _ (sym c.check_chunk.ensures ∙ c.in_err-check_chunk.was))
