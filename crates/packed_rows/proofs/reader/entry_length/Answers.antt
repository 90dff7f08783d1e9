use Prim.Native.Nat.{ℕ}
use mathlib.Core.Path.{◌∙◌, ap}
use lib.ListN.{get_or}
use native.Mathlib.Omega.{arith}
use Rattle.packed_rows.proofs.Lengths.{length-read, entry-length-most}
use Rattle.packed_rows.proofs.reader.entry_length.Goals as goal

pub returns : goal.returns
returns c =
    let lengths = c.args.lengths.now in
    let mask = c.args.mask in
    let same =
    c.from-2.ensures
    ∙ ap (λ (m : ℕ). get_or lengths m 0) c.from.ensures
    ∙ length-read lengths mask c.requires in
    (same, omega (arith, same, entry-length-most mask))
