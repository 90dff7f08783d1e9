use Rattle.numbers.proofs.AllBytes.{slice-bytes}
use Rattle.compare.proofs.SameEnvelopes.{point-same}
use Rattle.compare.proofs.same_point.Goals as goal

pub returns : goal.returns
returns c =
    let m = c.args.m.now in
    let k = c.args.k.now in
    let position = c.position-p in
    let position2 = c.position-q in
    let value = c.value-v in
    point-same m k (slice-bytes m c.type_inv.m) (slice-bytes k c.type_inv.k)
    c.args.kind c.args.version c.args.other c.args.at c.args.to c.requires.2
    c.requires.3 c.args.sections c.args.point c.requires.0 c.requires.1 position.result
    position2.result value.result c.value-w.result position.ensures position2.ensures value.ensures
    c.value-w.ensures
