-- The terms that the theorems of proofs/Theorems.antt use besides those of the reader and the packer. None of them reads a stream, except
-- the last two records, which are about the answers of calls.
use Rattle.std.specs.Prelude.{ℕ, ◌%◌, ◌≤◌, ◌<◌, ◌≡◌, Bool, true, false, ◌&&◌, length, get_or, take, drop, eqb, Ok}
use mathlib.Core.List.{List, [], ◌∷◌, ◌++◌, map, Permᴰ}
use Rattle.vocabulary.specs.Lists.{joined}
use Rattle.cells.specs.Cells.{Row, cell_bytes, rows_of}
use Rattle.packed_rows.specs.Entries.{Entry, named, count, entry_bytes, sound_entry, row_stream, stream_of}
use Rattle.packed_rows.specs.Packer.{packed_entries, packed_stream, packed_length}
use Rattle.packed_rows.specs.Answers.{check_answer, pack_answer, pack_output, unpack_answer, unpack_output}
use Rattle.packed_rows.specs.Answers.{repack_stream_answer, repack_stream_output, cell_of}
use Rattle.packed_rows.specs.Comparing.{stream_differences}

-- The test holds for every element.
abbrev pub every : {A : Type 0} → (A → Bool) → List A → Bool
every test [] = true
every test (x ∷ xs) = test x && every test xs

-- Every entry of every row is sound (R2 to R4).
abbrev pub all_sound : ℕ → List (List Entry) → Bool
all_sound tracks rows = every (every (sound_entry tracks)) rows

-- R1 to R7, document 01's "stream rules", without a reader: the stream is exactly the given number of rows, each of sound entries and a
-- row end.
pub record SoundStream (rows tracks : ℕ) (stream : List ℕ) (entries : List (List Entry)) : Type 0 where
  pub count : length entries ≡ rows
  pub sound : all_sound tracks entries ≡ true
  pub bytes : stream ≡ stream_of entries

-- R3: the entry with only bits 0 to 5 of its mask.
abbrev pub without_upper_bits : Entry → Entry
without_upper_bits e = record { track = e.track; mask = e.mask % 64; fields = e.fields }

-- W6: the stream is, row by row, the packer's entries for that row, each once and unchanged but for bits 6 and 7 of the mask, in some
-- order, and then the row end.
pub data Reordered : List Row → List ℕ → Type 0 where
  end : Reordered [] []
  next : {row : Row} {rows : List Row} {stream : List ℕ} (entries : List Entry)
      → Permᴰ (map without_upper_bits entries) (packed_entries row) → Reordered rows stream
      → Reordered (row ∷ rows) (row_stream entries ++ stream)

-- R3: two streams are the same but for bits 6 and 7 of masks. Up to the last mask that differs they are row ends and sound entries; the
-- entry of that mask may be faulty.
pub data SameButUpperBits (tracks : ℕ) : List ℕ → List ℕ → Type 0 where
  unchanged : (s : List ℕ) → SameButUpperBits tracks s s
  with_row_end : {s s' : List ℕ} → SameButUpperBits tracks s s' → SameButUpperBits tracks (0 ∷ s) (0 ∷ s')
  with_entry : {s s' : List ℕ} (e e' : Entry) → sound_entry tracks e ≡ true → without_upper_bits e ≡ without_upper_bits e'
      → SameButUpperBits tracks s s' → SameButUpperBits tracks (entry_bytes e ++ s) (entry_bytes e' ++ s')
  with_mask : (track mask mask' : ℕ) (s : List ℕ) → 1 ≤ track → mask % 64 ≡ mask' % 64
      → SameButUpperBits tracks (track ∷ mask ∷ s) (track ∷ mask' ∷ s)

-- R3: the entry has this track and names this field (0 to 5).
abbrev pub names : ℕ → ℕ → Entry → Bool
names track field e = eqb e.track track && get_or (named e.mask) field false

-- No entry of the list has this track and names this field.
abbrev pub none_names : ℕ → ℕ → List Entry → Type 0
none_names track field entries = (before after : List Entry) (e : Entry) → entries ≡ before ++ (e ∷ after) → names track field e ≡ false

-- R4: the value that an entry stores in a field that it names. The fields named by lower bits of the mask come before it.
abbrev pub stored_in : Entry → ℕ → ℕ
stored_in e field = get_or e.fields (count (take field (named e.mask))) 0

-- R5, R6: the value that the last entry of the track that names the field stores, else 0.
pub data LastStored (track field : ℕ) (entries : List Entry) : ℕ → Type 0 where
  never : none_names track field entries → LastStored track field entries 0
  by : (before after : List Entry) (e : Entry) → entries ≡ before ++ (e ∷ after)
      → names track field e ≡ true → none_names track field after → LastStored track field entries (stored_in e field)

-- F2 without a reader: the fault of a stream after some full rows and the entries of an unfinished row, with the bytes that follow. There
-- is one case for each of document 01's three places of 15: the "first byte of the faulty entry", the "first byte left over after the last
-- row end", and the stream's length if row ends are missing.
pub data StreamFault (rows tracks : ℕ) (full : List (List Entry)) (unfinished : List Entry) (after : List ℕ) : Type 0 where
  -- Rows are left, and the bytes that follow begin with neither a row end nor a sound entry.
  faulty_entry : length full < rows → (after ≡ [] → ⊥) → ((s : List ℕ) → after ≡ 0 ∷ s → ⊥)
      → ((e : Entry) (s : List ℕ) → sound_entry tracks e ≡ true → after ≡ entry_bytes e ++ s → ⊥) → StreamFault rows tracks full unfinished after
  -- The rows are full, no row is unfinished, and bytes follow.
  left_over : length full ≡ rows → unfinished ≡ [] → (after ≡ [] → ⊥) → StreamFault rows tracks full unfinished after
  -- Rows are left and nothing follows: the place is the stream's length.
  row_ends_lack : length full < rows → after ≡ [] → StreamFault rows tracks full unfinished after

-- F2 without a reader: up to the place the stream is some full rows and the entries of an unfinished row, all sound; there it is broken.
pub record StreamBroken (rows tracks : ℕ) (stream : List ℕ) (place : ℕ) : Type 0 where
  pub full : List (List Entry)
  pub unfinished : List Entry
  pub after : List ℕ
  pub full_sound : all_sound tracks full ≡ true
  pub unfinished_sound : every (sound_entry tracks) unfinished ≡ true
  pub splits : stream ≡ (stream_of full ++ joined (map entry_bytes unfinished)) ++ after
  pub there : length (stream_of full ++ joined (map entry_bytes unfinished)) ≡ place
  pub why : StreamFault rows tracks full unfinished after

-- What packing writes to an output: its first bytes, as many as the packed length.
abbrev pub written_to : List ℕ → ℕ → ℕ → List ℕ → List ℕ
written_to cells rows tracks out = take (packed_length (rows_of rows tracks cells)) (pack_output cells rows tracks out)

-- Cells are packed into one output, and what was written is unpacked into another. Packing answers the packed length, and writes the
-- packer's stream; the rest of the output is unchanged. Unpacking answers the length of the cells, and writes the cells; the rest of the
-- other output is unchanged.
pub record PackedAndUnpacked (rows tracks : ℕ) (cells out back : List ℕ) : Type 0 where
  pub packs : pack_answer cells rows tracks (length out) ≡ Ok (packed_length (rows_of rows tracks cells))
  pub packed : pack_output cells rows tracks out ≡ packed_stream (rows_of rows tracks cells) ++ drop (packed_length (rows_of rows tracks cells)) out
  pub written : written_to cells rows tracks out ≡ packed_stream (rows_of rows tracks cells)
  pub unpacks : unpack_answer (written_to cells rows tracks out) rows tracks (length back) ≡ Ok (cell_bytes rows tracks)
  pub unpacked : unpack_output (written_to cells rows tracks out) rows tracks back ≡ cells ++ drop (cell_bytes rows tracks) back

-- The calls on one stream answer the same for two streams and leave the same in an output, and the patterns that these hold have no
-- differences (G5).
pub record SameAnswers (rows tracks : ℕ) (s s' : List ℕ) : Type 0 where
  pub checks : check_answer s rows tracks ≡ check_answer s' rows tracks
  pub unpacks : (room : ℕ) → unpack_answer s rows tracks room ≡ unpack_answer s' rows tracks room
  pub unpacked : (out : List ℕ) → unpack_output s rows tracks out ≡ unpack_output s' rows tracks out
  pub repacks : (room : ℕ) → repack_stream_answer s rows tracks room ≡ repack_stream_answer s' rows tracks room
  pub repacked : (out : List ℕ) → repack_stream_output s rows tracks out ≡ repack_stream_output s' rows tracks out
  pub cells : (row track : ℕ) → cell_of s rows tracks row track ≡ cell_of s' rows tracks row track
  pub differences : (pattern : ℕ) → stream_differences s s' rows tracks pattern ≡ []
