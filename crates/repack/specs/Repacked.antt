-- FORMAT.md, X1 to X4 (document 01, "Repacking a module keeps .."): the repacked module. Its header and its chunks are in the same order
-- and the same byte for byte, except that PATT has the packer's streams and the lengths that follow from them.
use Rattle.std.specs.Prelude.{ℕ, ◌+◌, ◌%◌, List, [], ◌++◌, map, cond, length, replicate, eqb, Result, Ok, Err}
use Rattle.refusal.specs.declared.Refusal.{Refusal}
use Rattle.vocabulary.specs.Lists.{joined}
use Rattle.refusal.specs.declared.LengthAnswer.{LengthAnswer}
use Rattle.numbers.specs.Numbers.{part_of, bytes32}
use Rattle.packed_rows.specs.Entries.{rows_from}
use Rattle.packed_rows.specs.Stream.{read_stream, entries_read}
use Rattle.packed_rows.specs.Packer.{packed_stream}
use Rattle.layout.specs.Chunks.{patt_identifier, ChunkHeader, chunks, chunks_read, with_content}
use Rattle.layout.specs.declared.Layout.{Layout}
use Rattle.blocks.specs.StoredFields.{pattern_rows, packed_bytes}
use Rattle.blocks.specs.Sizes.{pattern_blocks}
use Rattle.module.specs.Verdicts.{opened}
use Rattle.module.specs.Outputs.{answer_opened, output_opened}

-- X3: the packer's stream (W1 to W3) of the cells of the pattern at a place, with its rows and the module's tracks.
abbrev pub repacked_stream : List ℕ → ℕ → ℕ → List ℕ
repacked_stream m tracks at = packed_stream (rows_from tracks (entries_read (read_stream (pattern_rows m at) tracks (packed_bytes m at))))

-- X3: a stream as stored in a block: its length in 4 bytes, the stream, and a filler 0 if its length is odd.
abbrev pub packed : List ℕ → List ℕ
packed stream = bytes32 (length stream) ++ (stream ++ replicate (length stream % 2) 0)

-- X3: the rewritten block of the pattern at a place: its rows as stored, and the packer's stream.
abbrev pub repacked_block : List ℕ → ℕ → ℕ → List ℕ
repacked_block m tracks at = part_of m at 2 ++ packed (repacked_stream m tracks at)

-- X2: the rewritten data of PATT: the rewritten blocks of the patterns, in order.
abbrev pub repacked_patterns : List ℕ → Layout → List ℕ
repacked_patterns m l = joined (map (repacked_block m l.tracks) (pattern_blocks m l))

-- X2: the rewritten PATT: its identifier, the length of its data, and the data.
abbrev pub repacked_patt : List ℕ → Layout → ChunkHeader → List ℕ
repacked_patt m l c = with_content m c (repacked_patterns m l)

-- X1: every other chunk, byte for byte: its header of 8 bytes, and its data.
abbrev pub repacked_chunk_bytes : List ℕ → Layout → ChunkHeader → List ℕ
repacked_chunk_bytes m l c = cond (eqb c.identifier patt_identifier) (repacked_patt m l c) (part_of m c.at (8 + c.length))

-- X1: the header, and the chunks in order.
abbrev pub repacked_module : List ℕ → Layout → List ℕ
repacked_module m l = part_of m 0 8 ++ joined (map (repacked_chunk_bytes m l) (chunks_read (chunks m)))

-- The repacked module; nothing for a module that is refused.
abbrev pub repacked_if : List ℕ → Result Layout Refusal → List ℕ
repacked_if m (Ok l) = repacked_module m l
repacked_if m (Err r) = []

abbrev pub repacked : List ℕ → List ℕ
repacked m = repacked_if m (opened m)

-- X4: the module's own refusal, then 17, else the length of the repacked module; and the output afterwards (F8).
abbrev pub repack_answer : List ℕ → ℕ → LengthAnswer
repack_answer m room = answer_opened (repacked_module m) room (opened m)

abbrev pub repack_output : List ℕ → List ℕ → List ℕ
repack_output m out = output_opened (repacked_module m) out (opened m)
