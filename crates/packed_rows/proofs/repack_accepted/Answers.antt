use mathlib.Core.Path.{◌∙◌, ap, sym, refl}
use mathlib.Core.List.{◌++◌}
use lib.ListN.{drop}
use lib.Seq.{length-take-le}
use borrow.Author.Tests.{lt-ltb, le-ltb}
use Rattle.packed_rows.proofs.repack_accepted.Goals as goal

pub returns-then-out-needed : goal.returns-then-out-needed
returns-then-out-needed c =
    let repacked-length = c.repacked_length-needed in
    (simp (← repacked-length.ensures, lt-ltb _ _ c.if-out-needed.true, c.refuse.ensures), refl)

pub slice_bounds-repack_rows-end-2 : goal.slice_bounds-repack_rows-end-2
slice_bounds-repack_rows-end-2 c =
    let repacked-length = c.repacked_length-needed in
    sym (length-take-le repacked-length.result c.args.out.now c.if-out-needed.false)

pub repack_rows-requires : goal.repack_rows-requires
repack_rows-requires c = (
  c.requires.0,
  c.repacked_length-needed.auto.line ∙ c.requires.1,
  c.requires.3,
  length-take-le c.repacked_length-needed.result c.args.out.now c.if-out-needed.false
      ∙ c.repacked_length-needed.ensures,
)

pub returns : goal.returns
returns c =
    let repacked-length = c.repacked_length-needed in
    let repack-rows = c.repack_rows in (
      simp (← repacked-length.ensures, le-ltb _ _ c.if-out-needed.false),
      ap (◌++ drop repacked-length.result c.args.out.now) repack-rows.ensures,
    )
