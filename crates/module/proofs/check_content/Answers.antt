use mathlib.Core.Path.{◌∙◌}
use Rattle.refusal.proofs.Outcomes.{passed-on}
use Rattle.refusal.proofs.InOrder.{first-stopped, second-stopped, third-stopped, last-follows}
use Rattle.blocks.specs.Filling.{block_rules}
use Rattle.fields.specs.Fields.{field_rules}
use Rattle.module.specs.Loops.{loop_rules}
use Rattle.module.specs.Streams.{stream_rules}
use Rattle.module.proofs.check_content.Goals as goal

pub returns-in_err-check : goal.returns-in_err-check
returns-in_err-check c =
    let m = c.args.m.now in
    let l = c.args.l in
    passed-on c.from_residual.result c.from_residual.ensures.1
    ∙ first-stopped (block_rules m l) (field_rules m l) (loop_rules m l) (stream_rules m l)
    c.check.ensures.0 c.in_err-check.was

pub returns-in_err-check-2 : goal.returns-in_err-check-2
returns-in_err-check-2 c =
    let check = c.check in
    let m = c.args.m.now in
    let l = c.args.l in
    passed-on c.from_residual-in_err-check-2.result c.from_residual-in_err-check-2.ensures.1
    ∙ second-stopped (block_rules m l) (field_rules m l) (loop_rules m l) (stream_rules m l) check.ensures.0
    c.in_ok-check.was c.check-2.ensures.0 c.in_err-check-2.was

pub returns-in_err-check_loops : goal.returns-in_err-check_loops
returns-in_err-check_loops c =
    let check = c.check in
    let check2 = c.check-2 in
    let m = c.args.m.now in
    let l = c.args.l in
    passed-on c.from_residual-in_err-check_loops.result c.from_residual-in_err-check_loops.ensures.1
    ∙ third-stopped (block_rules m l) (field_rules m l) (loop_rules m l) (stream_rules m l) check.ensures.0
    c.in_ok-check.was check2.ensures.0 c.in_ok-check-2.was c.check_loops.ensures
    c.in_err-check_loops.was

pub returns : goal.returns
returns c =
    let check = c.check in
    let check2 = c.check-2 in
    let m = c.args.m.now in
    let l = c.args.l in
    last-follows (block_rules m l) (field_rules m l) (loop_rules m l) (stream_rules m l) check.ensures.0 c.in_ok-check.was
    check2.ensures.0 c.in_ok-check-2.was c.check_loops.ensures
    c.in_ok-check_loops.was c.check_streams.ensures
