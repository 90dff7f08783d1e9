-- The numbers at the head of a case: those of 4 bytes are read as in a module.
use Rattle.std.specs.Prelude.{ℕ, ◌+◌, ◌*◌, List}
use Rattle.numbers.specs.Numbers.{number32}

-- The number of the eight bytes at a place.
unfoldable pub number64 : List ℕ → ℕ → ℕ
number64 s at = number32 s at * 4294967296 + number32 s (at + 4)
