-- The register samples P1 to P12 (document 01, "Register samples"; P8 as document 02, K3, changes it), as the rows of one table under one
-- statement: what the definitions give, as numbers, is what the register says. P1 to P9 are streams, P10 to P12 small modules, written out
-- byte by byte. Rows with the number 0 are not in the register: notes at the ends of the octaves and semitones, a cell of six different
-- fields, a row whose packed bytes show the order of tracks, and masks with bits 6 and 7.
use Prim.Native.Nat.{ℕ, suc}
use mathlib.Core.Path.{◌≡◌, refl}
use mathlib.Core.List.{List, [], ◌∷◌, ◌++◌, map}
use lib.ListN.{take, replicate}
use lib.IntN.{ℤ, pos, negsuc}
use Rattle.vocabulary.specs.Lists.{joined}
use Rattle.vocabulary.specs.Letters.{penv_letters}
use Rattle.refusal.specs.Numbers.{outcome_numbers}
use Rattle.cells.specs.Cells.{rows_of}
use Rattle.cells.specs.Shown.{shown_note, note_numbers}
use Rattle.numbers.specs.Numbers.{byte_at, number16, number32}
use Rattle.packed_rows.specs.Stream.{read_from, reading, cells_read}
use Rattle.packed_rows.specs.Packer.{packed_stream}
use Rattle.packed_rows.specs.Answers.{cell_of, cell_numbers}
use Rattle.layout.specs.Chunks.{chunks_from, chunks}
use Rattle.blocks.specs.Sizes.{size_of}
use Rattle.samples.specs.Shown.{frame_answer}
use Rattle.samples.specs.declared.FrameAnswer.{FrameAnswer}
use Rattle.envelopes.specs.Shown.{envelope_answer}
use Rattle.envelopes.specs.declared.EnvelopeAnswer.{EnvelopeAnswer}
use Rattle.envelopes.specs.declared.EnvelopeKind.TheVariants.{Panning}
use Rattle.query_theorems.proofs.SmallModules.{checked, module_checked, chunk, small_module, instrument}

-- A row of the table: the sample's number (0 if it is not in the register), what the definitions give, and what the register says.
pub record Sample : Type 0 where
  pub number : ℕ
  pub found : List ℕ
  pub registered : List ℕ

-- The packed stream of the cells of a stream.
repacked : ℕ → ℕ → List ℕ → List ℕ
repacked rows tracks stream = packed_stream (rows_of rows tracks (cells_read rows tracks stream))

p1 : List ℕ
p1 = 0x02 ∷ 0x03 ∷ 0x47 ∷ 0x01 ∷ 0x00 ∷ 0x00 ∷ []

p2 : List ℕ
p2 = 0x02 ∷ 0x01 ∷ 0x47 ∷ 0x02 ∷ 0x02 ∷ 0x01 ∷ 0x00 ∷ 0x00 ∷ []

p3 : List ℕ
p3 = 0x02 ∷ 0x07 ∷ 0x47 ∷ 0x01 ∷ 0x00 ∷ 0x00 ∷ 0x00 ∷ []

p4 : List ℕ
p4 = 0x01 ∷ 0x01 ∷ 0x47 ∷ 0x01 ∷ 0x01 ∷ 0x00 ∷ 0x00 ∷ []

p5 : List ℕ
p5 = 0x01 ∷ 0x00 ∷ 0x00 ∷ []

p7 : List ℕ
p7 = 0x05 ∷ 0x01 ∷ 0x47 ∷ 0x00 ∷ []

p8 : List ℕ
p8 = 0x01 ∷ 0x41 ∷ 0x47 ∷ 0x00 ∷ []

p9 : List ℕ
p9 = 0x00 ∷ []

accepted : List ℕ
accepted = 0 ∷ 0 ∷ []

-- The pattern of P1, P2 and P3: 2 rows of 4 cells; row 0 track 2 is G-4, instrument 1.
g4_cells : List ℕ
g4_cells =
    0 ∷ 0 ∷ 0 ∷ 0 ∷ 0 ∷ 0
    ∷ 0x47 ∷ 1 ∷ 0 ∷ 0 ∷ 0 ∷ 0
    ∷ 0 ∷ 0 ∷ 0 ∷ 0 ∷ 0 ∷ 0
    ∷ 0 ∷ 0 ∷ 0 ∷ 0 ∷ 0 ∷ 0
    ∷ 0 ∷ 0 ∷ 0 ∷ 0 ∷ 0 ∷ 0
    ∷ 0 ∷ 0 ∷ 0 ∷ 0 ∷ 0 ∷ 0
    ∷ 0 ∷ 0 ∷ 0 ∷ 0 ∷ 0 ∷ 0
    ∷ 0 ∷ 0 ∷ 0 ∷ 0 ∷ 0 ∷ 0
    ∷ []

-- An empty row of 4 cells.
empty_cells : List ℕ
empty_cells = replicate 24 0

-- One row with a cell of six different fields in track 1.
six_fields : List ℕ
six_fields = 0x01 ∷ 0x3F ∷ 0x47 ∷ 0x02 ∷ 0x03 ∷ 0x04 ∷ 0x05 ∷ 0x06 ∷ 0x00 ∷ []

-- The same with bits 6 and 7 of the mask set; and an entry whose mask has only these two bits.
six_fields_upper : List ℕ
six_fields_upper = 0x01 ∷ 0xFF ∷ 0x47 ∷ 0x02 ∷ 0x03 ∷ 0x04 ∷ 0x05 ∷ 0x06 ∷ 0x00 ∷ []

upper_alone : List ℕ
upper_alone = 0x01 ∷ 0xC0 ∷ 0x00 ∷ []

-- One row of 4 cells, all non-empty except the second, and its packed stream: tracks 1, 3 and 4, with masks $01, $22 and $3F.
three_cells : List ℕ
three_cells =
    0x47 ∷ 0 ∷ 0 ∷ 0 ∷ 0 ∷ 0
    ∷ 0 ∷ 0 ∷ 0 ∷ 0 ∷ 0 ∷ 0
    ∷ 0 ∷ 2 ∷ 0 ∷ 0 ∷ 0 ∷ 9
    ∷ 0x11 ∷ 0x22 ∷ 0x33 ∷ 0x44 ∷ 0x55 ∷ 0x66
    ∷ []

three_packed : List ℕ
three_packed =
    0x01 ∷ 0x01 ∷ 0x47
    ∷ 0x03 ∷ 0x22 ∷ 2 ∷ 9
    ∷ 0x04 ∷ 0x3F ∷ 0x11 ∷ 0x22 ∷ 0x33 ∷ 0x44 ∷ 0x55 ∷ 0x66
    ∷ 0x00
    ∷ []

-- A shown note in numbers: kind, octave, semitone, the byte of an unknown one.
note_shown : ℕ → List ℕ
note_shown note =
    let n = note_numbers (shown_note note) in
    n.kind ∷ n.octave ∷ n.semitone ∷ n.unknown ∷ []

-- A signed number as two: 1 and its magnitude if it is negative, else 0 and itself.
sign_numbers : ℤ → List ℕ
sign_numbers (pos n) = 0 ∷ n ∷ []
sign_numbers (negsuc n) = 1 ∷ suc n ∷ []

-- The first n shown values of an envelope, after the number and place of its refusal; and a frame in the same form.
value_numbers : ℕ → EnvelopeAnswer → List ℕ
unfolding sign_numbers
value_numbers n a = outcome_numbers a.outcome ++ joined (map sign_numbers (take n a.values))

frame_shown : FrameAnswer → List ℕ
unfolding sign_numbers
frame_shown a = outcome_numbers a.outcome ++ sign_numbers a.frame

-- P10: a sample of 100 frames of 8 bits, and an instrument with it and a forward loop. The instrument's block is at 42.
p10 : List ℕ → List ℕ → List ℕ
unfolding small_module instrument
p10 start size = small_module 3 1 1 (instrument 1 start size 1) (0 ∷ 0 ∷ 0 ∷ 1 ∷ 0 ∷ 0 ∷ 0 ∷ 100 ∷ replicate 100 0) []

-- P11: version 2, and one panning envelope of three points, at 118. The value of the last point is at 136.
p11 : ℕ → ℕ → ℕ → List ℕ
unfolding small_module instrument chunk
p11 first second third =
    small_module 2 1 0 (instrument 0 (replicate 4 0) (replicate 4 0) 0) []
    (chunk penv_letters (0 ∷ 1 ∷ 0 ∷ 1 ∷ 1 ∷ 2 ∷ 0 ∷ 0 ∷ 0 ∷ 0 ∷ 0 ∷ 0 ∷ 0 ∷ first ∷ 0 ∷ 0 ∷ 0 ∷ second ∷ 0 ∷ 0 ∷ 0 ∷ third ∷ replicate 116 0))

-- P12: a sample of one frame, by its flags and its bytes.
p12 : ℕ → List ℕ → List ℕ
unfolding small_module
p12 flags frame = small_module 3 0 1 [] (0 ∷ 0 ∷ 0 ∷ flags ∷ 0 ∷ 0 ∷ 0 ∷ 1 ∷ frame) []

pub samples : List Sample
unfolding checked repacked p1 p2 p3 p4 p5 p7 p8 p9 g4_cells empty_cells six_fields six_fields_upper upper_alone three_cells three_packed
    note_shown accepted module_checked value_numbers frame_shown p10 p11 p12
samples =
    record { number = 1; found = checked 2 4 p1; registered = accepted }
    ∷ record { number = 1; found = cell_numbers (cell_of p1 2 4 0 2); registered = 0 ∷ 0 ∷ 2 ∷ 4 ∷ 7 ∷ 0 ∷ 1 ∷ 0 ∷ 0 ∷ 0 ∷ 0 ∷ [] }
    ∷ record { number = 1; found = cells_read 2 4 p1; registered = g4_cells }
    ∷ record { number = 1; found = repacked 2 4 p1; registered = p1 }
    ∷ record { number = 2; found = checked 2 4 p2; registered = accepted }
    ∷ record { number = 2; found = cells_read 2 4 p2; registered = g4_cells }
    ∷ record { number = 2; found = repacked 2 4 p2; registered = p1 }
    ∷ record { number = 3; found = checked 2 4 p3; registered = accepted }
    ∷ record { number = 3; found = cells_read 2 4 p3; registered = g4_cells }
    ∷ record { number = 3; found = repacked 2 4 p3; registered = p1 }
    ∷ record { number = 4; found = checked 1 4 p4; registered = accepted }
    ∷ record { number = 4; found = cells_read 1 4 p4; registered = empty_cells }
    ∷ record { number = 4; found = repacked 1 4 p4; registered = 0 ∷ [] }
    ∷ record { number = 5; found = checked 1 4 p5; registered = accepted }
    ∷ record { number = 5; found = cells_read 1 4 p5; registered = empty_cells }
    ∷ record { number = 5; found = repacked 1 4 p5; registered = 0 ∷ [] }
    ∷ record { number = 6; found = checked 0 4 []; registered = accepted }
    ∷ record { number = 6; found = checked 0 4 (0 ∷ []); registered = 15 ∷ 0 ∷ [] }
    ∷ record { number = 7; found = checked 1 4 p7; registered = 15 ∷ 0 ∷ [] }
    ∷ record { number = 7; found = checked 1 6 p7; registered = accepted }
    ∷ record { number = 8; found = checked 1 4 p8; registered = accepted }
    ∷ record { number = 8; found = cell_numbers (cell_of p8 1 4 0 1); registered = 0 ∷ 0 ∷ 2 ∷ 4 ∷ 7 ∷ 0 ∷ 0 ∷ 0 ∷ 0 ∷ 0 ∷ 0 ∷ [] }
    ∷ record { number = 8; found = cells_read 1 4 p8; registered = 0x47 ∷ replicate 23 0 }
    ∷ record { number = 8; found = repacked 1 4 p8; registered = 0x01 ∷ 0x01 ∷ 0x47 ∷ 0x00 ∷ [] }
    ∷ record { number = 9; found = checked 2 4 p9; registered = 15 ∷ 1 ∷ [] }
    ∷ record { number = 10; found = module_checked (p10 (0 ∷ 0 ∷ 0 ∷ 90 ∷ []) (0 ∷ 0 ∷ 0 ∷ 10 ∷ [])); registered = accepted }
    ∷ record { number = 10; found = module_checked (p10 (0 ∷ 0 ∷ 0 ∷ 90 ∷ []) (0 ∷ 0 ∷ 0 ∷ 11 ∷ [])); registered = 14 ∷ 42 ∷ [] }
    ∷ record { number = 10; found = module_checked (p10 (0xFF ∷ 0xFF ∷ 0xFF ∷ 0xFF ∷ []) (0 ∷ 0 ∷ 0 ∷ 2 ∷ [])); registered = 14 ∷ 42 ∷ [] }
    ∷ record { number = 11; found = value_numbers 3 (envelope_answer (p11 0 32 64) Panning 0); registered = 0 ∷ 0 ∷ 1 ∷ 128 ∷ 0 ∷ 0 ∷ 0 ∷ 128 ∷ [] }
    ∷ record { number = 11; found = module_checked (p11 0 32 65); registered = 13 ∷ 136 ∷ [] }
    ∷ record { number = 12; found = frame_shown (frame_answer (p12 4 (0xFF ∷ 0xFF ∷ 0xFF ∷ 0xFF ∷ [])) 1 0); registered = 0 ∷ 0 ∷ 1 ∷ 1 ∷ [] }
    ∷ record { number = 12; found = frame_shown (frame_answer (p12 1 (0x80 ∷ [])) 1 0); registered = 0 ∷ 0 ∷ 1 ∷ 32768 ∷ [] }
    ∷ record { number = 0; found = note_shown 0; registered = 0 ∷ 0 ∷ 0 ∷ 0 ∷ [] }
    ∷ record { number = 0; found = note_shown 0x0B; registered = 3 ∷ 0 ∷ 0 ∷ 0x0B ∷ [] }
    ∷ record { number = 0; found = note_shown 0x10; registered = 2 ∷ 1 ∷ 0 ∷ 0 ∷ [] }
    ∷ record { number = 0; found = note_shown 0x1B; registered = 2 ∷ 1 ∷ 11 ∷ 0 ∷ [] }
    ∷ record { number = 0; found = note_shown 0x1C; registered = 3 ∷ 0 ∷ 0 ∷ 0x1C ∷ [] }
    ∷ record { number = 0; found = note_shown 0x1F; registered = 1 ∷ 0 ∷ 0 ∷ 0 ∷ [] }
    ∷ record { number = 0; found = note_shown 0x8B; registered = 2 ∷ 8 ∷ 11 ∷ 0 ∷ [] }
    ∷ record { number = 0; found = note_shown 0x8C; registered = 3 ∷ 0 ∷ 0 ∷ 0x8C ∷ [] }
    ∷ record { number = 0; found = note_shown 0x90; registered = 3 ∷ 0 ∷ 0 ∷ 0x90 ∷ [] }
    ∷ record { number = 0; found = cell_numbers (cell_of six_fields 1 4 0 1); registered = 0 ∷ 0 ∷ 2 ∷ 4 ∷ 7 ∷ 0 ∷ 2 ∷ 3 ∷ 4 ∷ 5 ∷ 6 ∷ [] }
    ∷ record { number = 0; found = checked 1 4 six_fields_upper; registered = accepted }
    ∷ record { number = 0; found = repacked 1 4 six_fields_upper; registered = six_fields }
    ∷ record { number = 0; found = checked 1 4 upper_alone; registered = accepted }
    ∷ record { number = 0; found = repacked 1 4 upper_alone; registered = 0 ∷ [] }
    ∷ record { number = 0; found = packed_stream (rows_of 1 4 three_cells); registered = three_packed }
    ∷ record { number = 0; found = cells_read 1 4 three_packed; registered = three_cells }
    ∷ []

-- The statement: both columns are equal.
pub samples-agree : map (λ (s : Sample). s.found) samples ≡ map (λ (s : Sample). s.registered) samples
unfolding samples read_from reading byte_at number16 number32 chunks_from chunks size_of
samples-agree = refl
