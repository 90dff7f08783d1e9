use Prim.Native.Nat.{◌+◌}
use Rattle.blocks.specs.StoredFields.{song_length}
use Rattle.blocks.proofs.Passing.{PassingSteps}
use Rattle.fields.specs.Fields.{entry_rules}
use Rattle.fields.proofs.check_song.Given as goal

abbrev pub invariant-loop-entry : goal.invariant-loop-entry
invariant-loop-entry l = PassingSteps (entry_rules l.m l.patterns) 2 (song_length l.m l.at) (l.at + 46) l.entry
