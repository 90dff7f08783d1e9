-- FORMAT.md, F8, Q16 and X4: the answer of a call that writes bytes of an accepted module to a lent output, and what the output then holds,
-- by the opened module: the module's own refusal, then 17.
use Rattle.std.specs.Prelude.{ℕ, List, length, Result, Ok, Err}
use Rattle.refusal.specs.declared.Refusal.{Refusal}
use Rattle.refusal.specs.Lengths.{refused_length, length_if, output_of}
use Rattle.refusal.specs.declared.LengthAnswer.{LengthAnswer}
use Rattle.layout.specs.declared.Layout.{Layout}

abbrev pub answer_opened : (Layout → List ℕ) → ℕ → Result Layout Refusal → LengthAnswer
answer_opened bytes room (Ok l) = length_if (length (bytes l)) room
answer_opened bytes room (Err r) = refused_length r

abbrev pub output_opened : (Layout → List ℕ) → List ℕ → Result Layout Refusal → List ℕ
output_opened bytes out (Ok l) = output_of (length (bytes l)) (bytes l) out
output_opened bytes out (Err r) = out
