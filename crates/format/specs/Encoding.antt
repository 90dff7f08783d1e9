-- FORMAT.md, D3: the bytes of a description, built by appending lists and big-endian numbers. Nothing is read here.
use Rattle.std.specs.Prelude.{ℕ, List, [], ◌∷◌, ◌++◌, map, length}
use Rattle.vocabulary.specs.Lists.{joined}
use Rattle.vocabulary.specs.Letters.{name_letters, info_letters, song_letters, inst_letters, patt_letters, smpl_letters, venv_letters, penv_letters}
use Rattle.numbers.specs.Numbers.{bytes16, bytes32}
use Rattle.packed_rows.specs.Entries.{stream_of}
use Rattle.format.specs.Description.{Info, Song, Instrument, Pattern, Width, eight, sixteen, thirty_two, Sample, Point}
use Rattle.format.specs.Description.{Envelope, Chunk, NAME, INFO, SONG, INST, PATT, SMPL, VENV, PENV, Other}
use Rattle.format.specs.Description.{Description}

-- M9: five numbers of 2 bytes.
abbrev pub info_bytes : Info → List ℕ
info_bytes i = bytes16 i.instruments ++ (bytes16 i.samples ++ (bytes16 i.songs ++ (bytes16 i.patterns ++ bytes16 i.tracks)))

-- B2: name, length, and the playlist.
abbrev pub song_bytes : Song → List ℕ
song_bytes s = s.name ++ (bytes16 (length s.playlist) ++ joined (map bytes16 s.playlist))

-- B3: name, sample 2, volume 2, rate 4, loop start 4, loop length 4, panning 2, flags 2.
abbrev pub instrument_bytes : Instrument → List ℕ
instrument_bytes i =
    i.name
    ++ (bytes16 i.sample
    ++ (bytes16 i.volume
    ++ (bytes32 i.rate
    ++ (bytes32 i.loop_start
    ++ (bytes32 i.loop_length
    ++ (bytes16 i.panning
    ++ bytes16 i.flags))))))

-- B4: rows 2, packed length 4, the packed stream (R1, R4: the entries of each row and its row end), and the filler.
abbrev pub pattern_bytes : Pattern → List ℕ
pattern_bytes p = bytes16 (length p.rows) ++ (bytes32 (length (stream_of p.rows)) ++ (stream_of p.rows ++ p.filler))

-- B5: flags 4, which are 1, 2 or 4 depending on the width; the number of frames 4; and the frames.
abbrev pub flags_of : Width → ℕ
flags_of eight = 1
flags_of sixteen = 2
flags_of thirty_two = 4

abbrev pub frame_bytes : Width → ℕ → List ℕ
frame_bytes eight f = f ∷ []
frame_bytes sixteen f = bytes16 f
frame_bytes thirty_two f = bytes32 f

abbrev pub sample_bytes : Sample → List ℕ
sample_bytes s = bytes32 (flags_of s.width) ++ (bytes32 (length s.frames) ++ joined (map (frame_bytes s.width) s.frames))

-- B6: instrument 2, flags, sections, S1, L1, L2, S2, and the points of position 2 and value 2.
abbrev pub point_bytes : Point → List ℕ
point_bytes p = bytes16 p.position ++ bytes16 p.value

abbrev pub envelope_bytes : Envelope → List ℕ
envelope_bytes e =
    bytes16 e.instrument
    ++ (e.flags ∷ e.sections ∷ e.first_sustain ∷ e.loop_first ∷ e.loop_last ∷ e.second_sustain ∷ joined (map point_bytes e.points))

-- B6: the envelopes of a chunk: their count, and the envelopes.
abbrev pub envelopes_bytes : List Envelope → List ℕ
envelopes_bytes es = bytes16 (length es) ++ joined (map envelope_bytes es)

-- M5: the letters of a chunk, which are its identifier, and its data.
abbrev pub chunk_letters : Chunk → List ℕ
chunk_letters (NAME name) = name_letters
chunk_letters (INFO info) = info_letters
chunk_letters (SONG songs) = song_letters
chunk_letters (INST instruments) = inst_letters
chunk_letters (PATT patterns) = patt_letters
chunk_letters (SMPL samples) = smpl_letters
chunk_letters (VENV envelopes) = venv_letters
chunk_letters (PENV envelopes) = penv_letters
chunk_letters (Other letters bytes) = letters

abbrev pub chunk_data : Chunk → List ℕ
chunk_data (NAME name) = name
chunk_data (INFO info) = info_bytes info
chunk_data (SONG songs) = joined (map song_bytes songs)
chunk_data (INST instruments) = joined (map instrument_bytes instruments)
chunk_data (PATT patterns) = joined (map pattern_bytes patterns)
chunk_data (SMPL samples) = joined (map sample_bytes samples)
chunk_data (VENV envelopes) = envelopes_bytes envelopes
chunk_data (PENV envelopes) = envelopes_bytes envelopes
chunk_data (Other letters bytes) = bytes

-- M5: identifier 4, length 4, and the data.
abbrev pub chunk_bytes : Chunk → List ℕ
chunk_bytes c = chunk_letters c ++ (bytes32 (length (chunk_data c)) ++ chunk_data c)

-- M3: D B M 0, version, revision, the word that is not examined.
abbrev pub header_bytes : Description → List ℕ
header_bytes d = 68 ∷ 66 ∷ 77 ∷ 48 ∷ d.version ∷ d.revision ∷ bytes16 d.reserved

-- The module: the header, followed by the chunks.
abbrev pub encoded : Description → List ℕ
encoded d = header_bytes d ++ joined (map chunk_bytes d.chunks)
