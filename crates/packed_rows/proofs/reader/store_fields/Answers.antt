use mathlib.Core.Path.{◌∙◌}
use native.Mathlib.Omega.{arith}
use Rattle.packed_rows.proofs.Fields.{first-inside, last-inside, cell-stored, cell-short}
use Rattle.packed_rows.proofs.reader.store_fields.Goals as goal

pub store_some-next-requires : goal.store_some-next-requires
store_some-next-requires c =
    (first-inside c.args.mask c.args.from _ c.requires.0, omega (arith, c.requires.1))

pub store_some-requires : goal.store_some-requires
store_some-requires c =
    let store-some = c.store_some-next in (
      last-inside c.args.mask c.args.from _ c.requires.0 _ store-some.ensures.0,
      omega (arith, c.requires.1),
    )

pub returns-then-high-ne0 : goal.returns-then-high-ne0
returns-then-high-ne0 c =
    let store-some = c.store_some-next in
    c.store_some.ensures.1
    ∙ cell-stored c.args.s.now c.args.from c.args.mask _ _ c.requires.1 _ _ store-some.ensures.0 store-some.ensures.1

pub returns-else-high-ne0 : goal.returns-else-high-ne0
returns-else-high-ne0 c =
    let store-some = c.store_some-next in
    cell-short c.args.s.now c.args.from c.args.mask _ _ c.requires.1 _ _ store-some.ensures.0
    store-some.ensures.1 (omega arith) c.if-high-ne0.false
