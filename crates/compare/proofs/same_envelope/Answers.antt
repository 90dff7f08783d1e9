use Rattle.numbers.proofs.AllBytes.{slice-bytes}
use Rattle.compare.proofs.SameEnvelopes.{head-differs, head-same, sections-same}
use Rattle.compare.proofs.same_envelope.Goals as goal

pub returns-then-not-equal : goal.returns-then-not-equal
returns-then-not-equal c =
    let m = c.args.m.now in
    let k = c.args.k.now in
    let equal = c.equal in
    head-differs m k (slice-bytes m c.type_inv.m) (slice-bytes k c.type_inv.k)
    c.args.kind c.args.version c.args.other c.args.at c.args.to c.requires.0
    c.requires.1 _ _ c.part.ensures.0 c.part-2.ensures.0 equal.result
    equal.ensures (c.if-not-equal.true)

pub same_points-requires : goal.same_points-requires
same_points-requires c =
    let m = c.args.m.now in
    let k = c.args.k.now in
    let equal = c.equal in (
      sections-same m k (slice-bytes m c.type_inv.m) (slice-bytes k c.type_inv.k)
          c.args.kind c.args.version c.args.other c.args.at c.args.to c.requires.0
          c.requires.1 _ _ c.part.ensures.0 c.part-2.ensures.0 equal.result
          equal.ensures (c.if-not-equal.false),
      c.requires.2,
      c.requires.3,
    )

pub returns : goal.returns
returns c =
    let m = c.args.m.now in
    let k = c.args.k.now in
    let part = c.part in
    let equal = c.equal in
    head-same m k (slice-bytes m c.type_inv.m) (slice-bytes k c.type_inv.k)
    c.args.kind c.args.version c.args.other c.args.at c.args.to c.requires.0
    c.requires.1 _ _ part.ensures.0 c.part-2.ensures.0 equal.result equal.ensures
    (c.if-not-equal.false) c.same_points.result c.same_points.ensures
