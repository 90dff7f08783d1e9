use Rattle.packed_rows.proofs.Fields.{StoringTo}
use Rattle.packed_rows.proofs.reader.store_some.Given as goal

abbrev pub invariant-loop-field : goal.invariant-loop-field
invariant-loop-field l = StoringTo l.s l.from l.mask l.n l.initial.out l.to l.out l.next l.rest l.field
