use mathlib.Core.Path.{sym, ap}
use Rattle.repack.proofs.Rewritten.{length_answered, stream-done}
use Rattle.repack.proofs.repack_stream.Goals as goal

pub returns-in-Ok : goal.returns-in-Ok
returns-in-Ok c =
    let pattern-rows = c.pattern_rows-rows in
    let packed-bytes = c.packed_bytes in
    let repack = c.repack in
    stream-done c.args.m.now c.args.tracks c.args.at c.requires _ _ c.args.out.now _ _ _
    packed-bytes.ensures pattern-rows.ensures repack.ensures.0.0 repack.ensures.1
    (sym (ap length_answered c.in-Ok.is))

pub returns-in-Err : goal.returns-in-Err
returns-in-Err c =
    let pattern-rows = c.pattern_rows-rows in
    let packed-bytes = c.packed_bytes in
    let repack = c.repack in
    stream-done c.args.m.now c.args.tracks c.args.at c.requires _ _ c.args.out.now _ _ _
    packed-bytes.ensures pattern-rows.ensures repack.ensures.0.0 repack.ensures.1
    (sym (ap length_answered c.in-Err.is))
