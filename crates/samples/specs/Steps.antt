-- A definition for the contracts of private functions: n frames at 16 bits from a place on, 2 bytes each.
use Rattle.std.specs.Prelude.{ℕ, ◌+◌, ◌*◌, List}
use Rattle.vocabulary.specs.Lists.{joined}
use Rattle.numbers.specs.Numbers.{each_from, bytes16, unsigned16}
use Rattle.samples.specs.Shown.{frame16}

abbrev pub frames_from : List ℕ → ℕ → ℕ → ℕ → List ℕ
frames_from m bytes start n = joined (each_from (λ frame. bytes16 (unsigned16 (frame16 m bytes (start + frame * bytes)))) 0 n)
