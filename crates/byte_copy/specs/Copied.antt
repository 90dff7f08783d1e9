-- Bytes copied to the front of an output.
use Rattle.std.specs.Prelude.{ℕ, List, ◌++◌, length, take, drop}

-- As many of the bytes as there is room for, and then what the output held after them.
unfoldable pub copied : List ℕ → List ℕ → List ℕ
copied bytes out = take (length out) bytes ++ drop (length bytes) out
