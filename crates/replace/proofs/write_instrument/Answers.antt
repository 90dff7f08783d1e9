use Rattle.replace.proofs.WritingInstruments.{instrument-kept, instrument-cleared, block-fits}
use Rattle.byte_copy.proofs.Copying.{copied-in}
use Rattle.replace.proofs.write_instrument.Goals as goal

pub returns-then-not-loop_cleared : goal.returns-then-not-loop_cleared
returns-then-not-loop_cleared c =
    let part = c.part in
    let loop-cleared = c.loop_cleared in
    instrument-kept c.args.m.now c.args.sample c.args.frames c.args.at c.requires.0
    c.args.out.now part.ensures.0 (copied-in _ _ _ c.copy.ensures (block-fits c.args.m.now c.args.sample c.args.frames c.args.at c.requires.0
    c.part.ensures.0 c.requires.1)) loop-cleared.ensures
    (c.if-not-loop_cleared.true)

pub returns : goal.returns
returns c =
    let part = c.part in
    let loop-cleared = c.loop_cleared in
    let put32 = c.put32 in
    let put322 = c.put32-2 in
    instrument-cleared c.args.m.now c.args.sample c.args.frames c.args.at c.requires.0
    c.args.out.now part.ensures.0 (copied-in _ _ _ c.copy.ensures (block-fits c.args.m.now c.args.sample c.args.frames c.args.at c.requires.0
    c.part.ensures.0 c.requires.1)) loop-cleared.ensures
    (c.if-not-loop_cleared.false) put32.ensures put322.ensures c.put16.ensures
