use lib.ListN.{drop}
use Rattle.packed_rows.specs.Steps.{entries_at}
use Rattle.packed_rows.proofs.Writing.{Writing}
use Rattle.packed_rows.proofs.packer.write_entries.Given as goal

abbrev pub invariant-loop-track : goal.invariant-loop-track
invariant-loop-track l = Writing l.initial.out l.to (entries_at l.row l.listed) l.out l.at (entries_at l.row (drop l.track-index l.listed))
