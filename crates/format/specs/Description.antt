-- The rules of a module, third of three statements: over data. Start here. This file has the data of a module (FORMAT.md, D1 and D2),
-- Encoding.antt its bytes, and WellFormed.antt the rules. By theorem 9 the accepted modules are exactly the encodings of well-formed
-- descriptions. Numbers are as stored, unsigned: panning, values and frames become signed when they are shown (Shown.antt). Names, fillers
-- and the data of other chunks are lists of bytes.
use Rattle.std.specs.Prelude.{ℕ, List}
use Rattle.packed_rows.specs.Entries.{Entry}

-- M9: the numbers of instruments, samples, songs and patterns, and the number of tracks of a pattern.
pub record Info : Type 0 where
  pub instruments : ℕ
  pub samples : ℕ
  pub songs : ℕ
  pub patterns : ℕ
  pub tracks : ℕ

-- B2: a song: its name, and its playlist of pattern numbers, counted from 0.
pub record Song : Type 0 where
  pub name : List ℕ
  pub playlist : List ℕ

-- B3: an instrument. Its sample is counted from 1, and 0 is none. Its panning is as stored, and signed when it is shown.
pub record Instrument : Type 0 where
  pub name : List ℕ
  pub sample : ℕ
  pub volume : ℕ
  pub rate : ℕ
  pub loop_start : ℕ
  pub loop_length : ℕ
  pub panning : ℕ
  pub flags : ℕ

-- B4: a pattern: rows of entries (R4), and the filler byte after a stream of odd length.
pub record Pattern : Type 0 where
  pub rows : List (List Entry)
  pub filler : List ℕ

-- B5: a sample: frames of 8, 16 or 32 bits, as stored, and signed when they are shown.
pub data Width : Type 0 where
  eight : Width
  sixteen : Width
  thirty_two : Width

pub record Sample : Type 0 where
  pub width : Width
  pub frames : List ℕ

-- B6: an envelope, and its points. The values of points are as stored.
pub record Point : Type 0 where
  pub position : ℕ
  pub value : ℕ

pub record Envelope : Type 0 where
  pub instrument : ℕ
  pub flags : ℕ
  pub sections : ℕ
  pub first_sustain : ℕ
  pub loop_first : ℕ
  pub loop_last : ℕ
  pub second_sustain : ℕ
  pub points : List Point

-- M5, M6: a chunk: a covered one by its content, or another by its identifier and its data.
pub data Chunk : Type 0 where
  NAME : List ℕ → Chunk
  INFO : Info → Chunk
  SONG : List Song → Chunk
  INST : List Instrument → Chunk
  PATT : List Pattern → Chunk
  SMPL : List Sample → Chunk
  VENV : List Envelope → Chunk
  PENV : List Envelope → Chunk
  Other : List ℕ → List ℕ → Chunk

-- M3, M5: a module: version, revision, a word that is not examined, and the chunks in their order.
pub record Description : Type 0 where
  pub version : ℕ
  pub revision : ℕ
  pub reserved : ℕ
  pub chunks : List Chunk
