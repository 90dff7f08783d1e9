-- FORMAT.md, X6: a pattern that is stored as the packer writes it.
use Rattle.std.specs.Prelude.{ℕ, ◌+◌, ◌%◌, ◌≡◌, List, replicate}
use Rattle.numbers.specs.Numbers.{part_of}
use Rattle.blocks.specs.StoredFields.{pattern_packed_length, packed_bytes}
use Rattle.repack.specs.Repacked.{repacked_stream}

-- The filler of the pattern at a place: the byte after its packed bytes if their number is odd, else nothing.
abbrev pub filler_of : List ℕ → ℕ → List ℕ
filler_of m at = part_of m (at + 6 + pattern_packed_length m at) (pattern_packed_length m at % 2)

-- The stream of the pattern at a place is the packer's, and its filler, if there is one, is 0.
pub record PackedAt (m : List ℕ) (tracks at : ℕ) : Type 0 where
  pub stream : packed_bytes m at ≡ repacked_stream m tracks at
  pub filler : filler_of m at ≡ replicate (pattern_packed_length m at % 2) 0
