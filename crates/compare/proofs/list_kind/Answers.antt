use native.Mathlib.Omega.{arith}
use Rattle.compare.proofs.WalkingRecords.{first-low}
use Rattle.compare.proofs.ListingAll.{kind-small, kind-listed}
use Rattle.compare.proofs.list_kind.Goals as goal

pub list_common-count-requires : goal.list_common-count-requires
list_common-count-requires c =
    let first_of = c.first_of-first in
    let count_of = c.count_of-a in
    let count-of2 = c.count_of-b in
    let smaller = c.min-common in (
      c.requires.0,
      omega (arith, smaller.ensures, count_of.ensures),
      omega (arith, smaller.ensures, count-of2.ensures),
      kind-small c.args.m.now c.args.l c.args.k.now c.args.j c.args.kind
          c.args.n c.args.out.now first_of.ensures count_of.ensures count-of2.ensures
          smaller.ensures c.requires.1,
    )

pub overflow_add-first : goal.overflow_add-first
overflow_add-first c =
    let first_of = c.first_of-first in
    let count_of = c.count_of-a in
    let count-of2 = c.count_of-b in
    let smaller = c.min-common in
    omega (arith, first-low c.args.kind, first_of.ensures, smaller.ensures, count_of.type_inv, count-of2.type_inv)

pub overflow_add-first-2 : goal.overflow_add-first-2
overflow_add-first-2 c =
    let first_of = c.first_of-first in
    let count_of = c.count_of-a in
    let count-of2 = c.count_of-b in
    omega (arith, first-low c.args.kind, first_of.ensures, c.max.ensures, count_of.type_inv, count-of2.type_inv)

pub overflow_add-n : goal.overflow_add-n
overflow_add-n c =
    let first_of = c.first_of-first in
    let count_of = c.count_of-a in
    let count-of2 = c.count_of-b in
    let smaller = c.min-common in
    omega (
      arith,
      c.list_common-count.ensures.0,
      kind-small c.args.m.now c.args.l c.args.k.now c.args.j c.args.kind
          c.args.n c.args.out.now first_of.ensures count_of.ensures count-of2.ensures
          smaller.ensures c.requires.1,
    )

pub list_single-requires : goal.list_single-requires
list_single-requires c =
    let kind = c.args.kind in
    let first_of = c.first_of-first in
    let count_of = c.count_of-a in
    let count-of2 = c.count_of-b in
    let smaller = c.min-common in
    let list-common = c.list_common-count in
    let more = c.max in (
      omega (arith, smaller.ensures, more.ensures),
      omega (arith, first-low kind, first_of.ensures, more.ensures, count_of.type_inv, count-of2.type_inv),
      omega (
        arith,
        list-common.ensures.0,
        kind-small c.args.m.now c.args.l c.args.k.now c.args.j kind c.args.n
            c.args.out.now first_of.ensures count_of.ensures count-of2.ensures smaller.ensures
            c.requires.1,
      ),
    )

pub overflow_add-result : goal.overflow_add-result
overflow_add-result c =
    let first_of = c.first_of-first in
    let count_of = c.count_of-a in
    let count-of2 = c.count_of-b in
    let smaller = c.min-common in
    let list-common = c.list_common-count in
    omega (
      arith,
      list-common.ensures.0,
      c.list_single.ensures.1,
      kind-small c.args.m.now c.args.l c.args.k.now c.args.j c.args.kind
          c.args.n c.args.out.now first_of.ensures count_of.ensures count-of2.ensures
          smaller.ensures c.requires.1,
    )

pub returns : goal.returns
returns c =
    let first_of = c.first_of-first in
    let count_of = c.count_of-a in
    let count-of2 = c.count_of-b in
    let smaller = c.min-common in
    let list-common = c.list_common-count in
    let more = c.max in
    let list-single = c.list_single in
    kind-listed c.args.m.now c.args.l c.args.k.now c.args.j c.args.kind
    c.args.n c.args.out.now first_of.ensures count_of.ensures count-of2.ensures smaller.ensures
    more.ensures list-common.ensures (list-single.ensures.0, list-single.ensures.2)
