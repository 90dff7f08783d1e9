-- FORMAT.md, B2 to B6 (document 01, "Layout"): the fields of the block at a place, as they are stored, in order. Each follows those before
-- it. A number past the module's end is 0.
use Rattle.std.specs.Prelude.{ℕ, ◌+◌, ◌*◌, List}
use Rattle.numbers.specs.Numbers.{byte_at, number16, number32, part_of, bytes_from}

-- B2: a song: name 44, length 2, and as many "playlist entries" of 2 bytes, counted from 0.
abbrev pub song_name : List ℕ → ℕ → List ℕ
song_name m at = bytes_from m at 44

abbrev pub song_length : List ℕ → ℕ → ℕ
song_length m at = number16 m (at + 44)

abbrev pub song_entry : List ℕ → ℕ → ℕ → ℕ
song_entry m at entry = number16 m (at + 46 + 2 * entry)

-- B3: an instrument: name 30, sample 2, volume 2, rate 4, loop start 4, loop length 4, panning 2, flags 2.
abbrev pub instrument_name : List ℕ → ℕ → List ℕ
instrument_name m at = bytes_from m at 30

abbrev pub instrument_sample : List ℕ → ℕ → ℕ
instrument_sample m at = number16 m (at + 30)

abbrev pub instrument_volume : List ℕ → ℕ → ℕ
instrument_volume m at = number16 m (at + 32)

abbrev pub instrument_rate : List ℕ → ℕ → ℕ
instrument_rate m at = number32 m (at + 34)

abbrev pub instrument_loop_start : List ℕ → ℕ → ℕ
instrument_loop_start m at = number32 m (at + 38)

abbrev pub instrument_loop_length : List ℕ → ℕ → ℕ
instrument_loop_length m at = number32 m (at + 42)

abbrev pub instrument_panning : List ℕ → ℕ → ℕ
instrument_panning m at = number16 m (at + 46)

abbrev pub instrument_flags : List ℕ → ℕ → ℕ
instrument_flags m at = number16 m (at + 48)

-- B4: a pattern: rows 2, packed length 4, and as many packed bytes.
abbrev pub pattern_rows : List ℕ → ℕ → ℕ
pattern_rows m at = number16 m at

abbrev pub pattern_packed_length : List ℕ → ℕ → ℕ
pattern_packed_length m at = number32 m (at + 2)

-- The packed bytes of a pattern, without the filler.
abbrev pub packed_bytes : List ℕ → ℕ → List ℕ
packed_bytes m at = part_of m (at + 6) (pattern_packed_length m at)

-- B5: a sample: flags 4, frames 4, and as many frames.
abbrev pub sample_flags : List ℕ → ℕ → ℕ
sample_flags m at = number32 m at

abbrev pub sample_frames : List ℕ → ℕ → ℕ
sample_frames m at = number32 m (at + 4)

-- B6: an envelope: instrument 2, flags 1, "sections" 1, S1, L1, L2, S2, one byte each, and 32 "points" of position 2 and value 2, counted
-- from 0.
abbrev pub envelope_instrument : List ℕ → ℕ → ℕ
envelope_instrument m at = number16 m at

abbrev pub envelope_flags : List ℕ → ℕ → ℕ
envelope_flags m at = byte_at m (at + 2)

abbrev pub envelope_sections : List ℕ → ℕ → ℕ
envelope_sections m at = byte_at m (at + 3)

abbrev pub envelope_first_sustain : List ℕ → ℕ → ℕ
envelope_first_sustain m at = byte_at m (at + 4)

abbrev pub envelope_loop_first : List ℕ → ℕ → ℕ
envelope_loop_first m at = byte_at m (at + 5)

abbrev pub envelope_loop_last : List ℕ → ℕ → ℕ
envelope_loop_last m at = byte_at m (at + 6)

abbrev pub envelope_second_sustain : List ℕ → ℕ → ℕ
envelope_second_sustain m at = byte_at m (at + 7)

abbrev pub envelope_position : List ℕ → ℕ → ℕ → ℕ
envelope_position m at point = number16 m (at + 8 + 4 * point)

abbrev pub envelope_value : List ℕ → ℕ → ℕ → ℕ
envelope_value m at point = number16 m (at + 10 + 4 * point)
