use Rattle.blocks.specs.Sizes.{blocks_of}
use Rattle.blocks.specs.declared.BlockKind.TheVariants.{Song}
use Rattle.blocks.proofs.Passing.{Passing}
use Rattle.fields.specs.Fields.{song_rules}
use Rattle.fields.proofs.check_songs.Given as goal

abbrev pub invariant-loop-at : goal.invariant-loop-at
invariant-loop-at l = Passing (song_rules l.m l.patterns) (blocks_of l.m Song l.fn.chunk l.fn.songs) l.at-iterator
