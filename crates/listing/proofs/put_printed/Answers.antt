use native.Mathlib.Omega.{arith}
use borrow.Author.Tests.{lt-ltb, le-ltb}
use Rattle.listing.proofs.Copying.{counts, listing-written, listing-never-refused}
use Rattle.listing.proofs.put_printed.Goals as goal

pub returns-then-input-gt65536 : goal.returns-then-input-gt65536
returns-then-input-gt65536 c = (
  simp (lt-ltb _ _ c.if-input-gt65536.true) c.put.ensures.1,
  counts c.put.result c.put.new.text (omega (arith, c.put.ensures.0, c.put.auto.text)),
)

pub unwrap-requires : goal.unwrap-requires
unwrap-requires c =
    listing-never-refused c.args.input.now c.args.text.now c.lines.new.out c.lines.result
    c.lines.ensures.0.0 c.lines.ensures.1 c.lines.ensures.2 c.requires

pub returns : goal.returns
returns c =
    let w = listing-written c.args.input.now c.args.text.now c.lines.new.out c.lines.result
    c.lines.ensures.0.0 c.lines.ensures.1 c.lines.ensures.2 c.requires c.unwrap.result c.unwrap.ensures in
    (simp (le-ltb _ _ c.if-input-gt65536.false) w.0, w.1)
