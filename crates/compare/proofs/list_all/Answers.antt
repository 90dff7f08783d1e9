use native.Mathlib.Omega.{arith}
use Rattle.numbers.proofs.AllBytes.{slice-bytes}
use Rattle.compare.proofs.ListingAll.{lists-at, kinds-first, kinds-turn, kinds-small, kinds-last}
use Rattle.compare.proofs.list_all.Goals as goal

pub loop-kind-init : goal.loop-kind-init
loop-kind-init c =
    let name = c.list_name-name in
    let info = c.list_info in
    kinds-first c.args.m.now c.args.l c.args.k.now c.args.j (name.ensures.0, name.ensures.2) (info.ensures.0, info.ensures.2)

pub list_kind-n-requires : goal.list_kind-n-requires
list_kind-n-requires c =
    let m = c.args.m.now in
    let k = c.args.k.now in
    let small =
    kinds-small m c.args.l k c.args.j c.loop-kind.invariant (slice-bytes m c.type_inv.m) (slice-bytes k c.type_inv.k) c.requires c.loop-kind-test.true in
    (c.requires, omega (arith, small))

pub overflow_add-n-in-loop-kind : goal.overflow_add-n-in-loop-kind
overflow_add-n-in-loop-kind c =
    let m = c.args.m.now in
    let k = c.args.k.now in
    omega (
      arith,
      kinds-small m c.args.l k c.args.j c.loop-kind.invariant (slice-bytes m c.type_inv.m) (slice-bytes k c.type_inv.k) c.requires c.loop-kind-test.true,
      c.list_kind-n.ensures.0,
    )

pub loop-kind-preserved : goal.loop-kind-preserved
loop-kind-preserved c =
    kinds-turn c.args.m.now c.args.l c.args.k.now c.args.j c.loop-kind.invariant c.loop-kind-test.true
    (lists-at _ _ (omega arith) c.list_kind-n.ensures)

pub returns : goal.returns
returns c =
    let m = c.args.m.now in
    let k = c.args.k.now in
    kinds-last m c.args.l k c.args.j c.loop-kind.invariant (slice-bytes m c.type_inv.m) (slice-bytes k c.type_inv.k) c.requires c.loop-kind-test.false
