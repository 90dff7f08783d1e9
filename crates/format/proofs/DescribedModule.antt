-- Every module for which the rules hold is the encoding of a well-formed description: its chunks are those of the module, each decoded
-- according to its letters.
use Prim.Native.Nat.{ℕ, ◌≤◌}
use Rattle.std.specs.Prelude.{Ok}
use mathlib.Core.Path.{◌≡◌, refl, sym, ap, subst, ◌∙◌}
use mathlib.Core.List.{List, [], ◌∷◌, ◌++◌, map, append_assoc}
use mathlib.Core.Bool.{Bool, true, false, cond}
use native.Mathlib.Omega.{arith}
use lib.ListN.{length, take, drop, length-drop, length-map, take-append-drop, drop_of_length-le}
use lib.Seq.{length-take-le}
use lib.Dec.{eqb}
use Rattle.vocabulary.specs.Lists.{joined, Every}
use Rattle.vocabulary.specs.Letters.{info_letters}
use Rattle.vocabulary.proofs.EveryOne.{every_append, every_of, every-both}
use Rattle.vocabulary.proofs.MappedLists.{map-append, every_map}
use Rattle.vocabulary.proofs.Splits.{Within, within-every, every-within, within-mapped, only_one, no-two-mapped}
use Rattle.numbers.specs.Numbers.{byte_at, Bytes, number16, number32, bytes16}
use Rattle.numbers.proofs.Parts.{bytes-part}
use Rattle.numbers.proofs.AllBytes.{bytes_drop, bytes-front, bytes_after, bytes-joined}
use Rattle.layout.specs.Chunks.{covered}
use Rattle.module.specs.Verdicts.{module_verdict}
use Rattle.acceptance.specs.Rules.{IsChunk, Among, Covered, Filled, ChunkRules, Content, InstrumentRules, VolumeFits, PanningValueFits, Rules}
use Rattle.acceptance.proofs.Holding.{false-never}
use Rattle.acceptance.proofs.Identifiers.{identifier_of, chunk-named, covered-holds, covered-letters}
use Rattle.acceptance.proofs.Acceptance.{accepted-exactly}
use Rattle.acceptance.proofs.Recorded.{among-within}
use Rattle.format.specs.Description.{Info, Song, Instrument, Pattern, eight, sixteen, Sample, Chunk, NAME, INFO, SONG}
use Rattle.format.specs.Description.{INST, PATT, SMPL, VENV, PENV, Other, Description}
use Rattle.format.specs.Encoding.{song_bytes, instrument_bytes, pattern_bytes, sample_bytes, chunk_letters, chunk_data, chunk_bytes, header_bytes, encoded}
use Rattle.format.specs.WellFormed.{ManyBytes, EnvelopesFit, OtherFits, In, Once, InfoFirst, WellFormed}
use Rattle.format.proofs.DescribedBlocks.{every-each, number-then, number_fits, info_in, info-again, info-fits, song_in}
use Rattle.format.proofs.DescribedBlocks.{song-again, song-fits, instrument_in, instrument-again, instrument-fits}
use Rattle.format.proofs.DescribedBlocks.{patterns_in, patterns-again, patterns-fit, sample_in, sample-again}
use Rattle.format.proofs.DescribedBlocks.{sample-fits}
use Rattle.format.proofs.ChunksIn.{in_within, within_in, letters-once}
use Rattle.format.proofs.DescribedChunks.{map-again, after_front, blocks-bytes, all-again, all_fit, envelopes_in}
use Rattle.format.proofs.DescribedChunks.{envelopes-again, envelopes-fit, data-fits, chunk-again}

module _ (m : List ℕ) (bytes : Bytes m) (r : Rules m) where
  abbrev rules : ChunkRules m r.header r.chunks
  rules = r.chunk_rules

  abbrev content : Content r.header r.chunks r.info r.song r.inst r.patt r.smpl
  content = r.content

  -- Header and chunks consist of bytes.
  header-bytes : Bytes r.header
  header-bytes = bytes-front r.header (joined r.chunks) (subst Bytes rules.bytes bytes)

  chunks-bytes : Every Bytes r.chunks
  chunks-bytes = (bytes-joined r.chunks).1 (bytes_after r.header (joined r.chunks) (subst Bytes rules.bytes bytes))

  module _ {letters chunk : List ℕ} (a : Among r.chunks letters chunk) where
    among-bytes : Bytes chunk
    among-bytes = within-every chunks-bytes (among-within a)

    among-whole : IsChunk chunk
    among-whole = within-every rules.whole (among-within a)

  -- M6: a covered chunk is the only one with its letters.
  only-chunk : {letters : List ℕ} → Covered letters → {one two : List ℕ} → Among r.chunks letters one → Among r.chunks letters two → one ≡ two
  only-chunk {letters} covers a b =
      only_one (λ chunk. take 4 chunk ≡ letters) (rules.once letters covers) (among-within a) (among-within b) a.named
      b.named

  -- The content of the mandatory chunks.
  abbrev info : Info
  info = info_in r.info

  abbrev songs : List Song
  songs = map song_in content.songs

  abbrev instruments : List Instrument
  instruments = map instrument_in content.instruments

  abbrev patterns : List Pattern
  patterns = patterns_in (number16 r.info 16) content.pattern_rules

  abbrev samples : List Sample
  samples = map sample_in content.samples

  songs-bytes : Every Bytes content.songs
  songs-bytes = blocks-bytes content.songs_fill (among-bytes r.song_there)

  instruments-bytes : Every Bytes content.instruments
  instruments-bytes = blocks-bytes content.instruments_fill (among-bytes r.inst_there)

  patterns-bytes : Every Bytes content.patterns
  patterns-bytes = blocks-bytes content.patterns_fill (among-bytes r.patt_there)

  samples-bytes : Every Bytes content.samples
  samples-bytes = blocks-bytes content.samples_fill (among-bytes r.smpl_there)

  songs-again : map song_bytes songs ≡ content.songs
  songs-again = all-again song_in songs-bytes content.song_rules song_bytes (song-again (length content.patterns))

  patterns-are : map pattern_bytes patterns ≡ content.patterns
  patterns-are = patterns-again (number16 r.info 16) content.pattern_rules patterns-bytes

  samples-again : map sample_bytes samples ≡ content.samples
  samples-again = all-again sample_in samples-bytes content.sample_rules sample_bytes sample-again

  instrument-rules : Every (InstrumentRules (map sample_bytes samples)) content.instruments
  instrument-rules = subst (λ (blocks : List (List ℕ)). Every (InstrumentRules blocks) content.instruments) (sym samples-again) content.instrument_rules

  instruments-again : map instrument_bytes instruments ≡ content.instruments
  instruments-again = all-again instrument_in instruments-bytes instrument-rules instrument_bytes (instrument-again samples)

  -- A covered chunk decoded by its letters, and any chunk by the number of its letters.
  abbrev covered_as : {letters : List ℕ} → Covered letters → List ℕ → Chunk
  covered_as Covered.name chunk = NAME (drop 8 chunk)
  covered_as Covered.info chunk = INFO info
  covered_as Covered.song chunk = SONG songs
  covered_as Covered.inst chunk = INST instruments
  covered_as Covered.patt chunk = PATT patterns
  covered_as Covered.smpl chunk = SMPL samples
  covered_as Covered.venv chunk = VENV (envelopes_in chunk)
  covered_as Covered.penv chunk = PENV (envelopes_in chunk)

  abbrev covered_by : ℕ → List ℕ → Chunk
  covered_by n chunk =
      cond (eqb n (identifier_of Covered.name)) (covered_as Covered.name chunk)
      (cond (eqb n (identifier_of Covered.info)) (covered_as Covered.info chunk)
      (cond (eqb n (identifier_of Covered.song)) (covered_as Covered.song chunk)
      (cond (eqb n (identifier_of Covered.inst)) (covered_as Covered.inst chunk)
      (cond (eqb n (identifier_of Covered.patt)) (covered_as Covered.patt chunk)
      (cond (eqb n (identifier_of Covered.smpl)) (covered_as Covered.smpl chunk)
      (cond (eqb n (identifier_of Covered.venv)) (covered_as Covered.venv chunk)
      (covered_as Covered.penv chunk)))))))

  abbrev described_by : ℕ → List ℕ → Chunk
  described_by n chunk = cond (covered n) (covered_by n chunk) (Other (take 4 chunk) (drop 8 chunk))

  abbrev describe : List ℕ → Chunk
  describe chunk = described_by (number32 chunk 0) chunk

  by-identifier : {letters : List ℕ} (covers : Covered letters) (chunk : List ℕ) → described_by (identifier_of covers) chunk ≡ covered_as covers chunk
  by-identifier Covered.name chunk = refl
  by-identifier Covered.info chunk = refl
  by-identifier Covered.song chunk = refl
  by-identifier Covered.inst chunk = refl
  by-identifier Covered.patt chunk = refl
  by-identifier Covered.smpl chunk = refl
  by-identifier Covered.venv chunk = refl
  by-identifier Covered.penv chunk = refl

  by-letters : {letters : List ℕ} (covers : Covered letters) {chunk : List ℕ} → Among r.chunks letters chunk → describe chunk ≡ covered_as covers chunk
  by-letters covers {chunk} a = ap (λ (n : ℕ). described_by n chunk) ((chunk-named (among-whole a) covers).1 a.named) ∙ by-identifier covers chunk

  -- The condition on a chunk of the description, except for the mandatory ones.
  abbrev Held : Chunk → Type 0
  Held (NAME name) = ManyBytes 44 name
  Held (INFO numbers) = Unit {0}
  Held (SONG all) = Unit {0}
  Held (INST all) = Unit {0}
  Held (PATT all) = Unit {0}
  Held (SMPL all) = Unit {0}
  Held (VENV es) = EnvelopesFit (length content.instruments) VolumeFits es
  Held (PENV es) = EnvelopesFit (length content.instruments) (PanningValueFits (byte_at r.header 4)) es
  Held (Other letters held) = OtherFits letters held

  record Described (chunk : List ℕ) (c : Chunk) : Type 0 where
    letters : chunk_letters c ≡ take 4 chunk
    holds : chunk_data c ≡ drop 8 chunk
    held : Held c

  blocks-hold : {letters : List ℕ} (covers : Covered letters) {one chunk : List ℕ} → Among r.chunks letters one
      → Among r.chunks letters chunk → {count : ℕ} {blocks again : List (List ℕ)} → Filled 8 one count blocks
      → again ≡ blocks
      → joined again ≡ drop 8 chunk
  blocks-hold covers there a filled e = ap joined e ∙ after_front filled ∙ ap (drop 8) (only-chunk covers there a)

  covered-described : {letters : List ℕ} (covers : Covered letters) {chunk : List ℕ} → Among r.chunks letters chunk
      → Described chunk (covered_as covers chunk)
  covered-described Covered.name {chunk} a = record {
    letters = sym a.named;
    holds = refl;
    held = (length-drop 8 chunk ∙ omega (arith, rules.name chunk a), bytes_drop 8 chunk (among-bytes a));
  }
  covered-described Covered.info a = record {
    letters = sym a.named;
    holds = info-again r.info (among-bytes r.info_there) (rules.info r.info r.info_there) ∙ ap (drop 8) (only-chunk Covered.info r.info_there a);
    held = tt;
  }
  covered-described Covered.song a = record {
    letters = sym a.named;
    holds = blocks-hold Covered.song r.song_there a content.songs_fill songs-again;
    held = tt;
  }
  covered-described Covered.inst a = record {
    letters = sym a.named;
    holds = blocks-hold Covered.inst r.inst_there a content.instruments_fill instruments-again;
    held = tt;
  }
  covered-described Covered.patt a = record {
    letters = sym a.named;
    holds = blocks-hold Covered.patt r.patt_there a content.patterns_fill patterns-are;
    held = tt;
  }
  covered-described Covered.smpl a = record {
    letters = sym a.named;
    holds = blocks-hold Covered.smpl r.smpl_there a content.samples_fill samples-again;
    held = tt;
  }
  covered-described Covered.venv {chunk} a =
      let envelopes = content.volume_envelopes chunk a in
      record { letters = sym a.named; holds = envelopes-again _ _ chunk (among-bytes a) envelopes; held = envelopes-fit _ _ chunk (among-bytes a) envelopes }
  covered-described Covered.penv {chunk} a =
      let envelopes = content.panning_envelopes chunk a in
      record { letters = sym a.named; holds = envelopes-again _ _ chunk (among-bytes a) envelopes; held = envelopes-fit _ _ chunk (among-bytes a) envelopes }

  other_fits : (chunk : List ℕ) → Bytes chunk → IsChunk chunk → covered (number32 chunk 0) ≡ false → OtherFits (take 4 chunk) (drop 8 chunk)
  other_fits chunk below c e = record {
    four = length-take-le 4 chunk (omega (arith, c.size));
    capitals = subst (Every (λ letter. (65 ≤ letter) × (letter ≤ 90))) (bytes-part chunk 4 0 (omega (arith, c.size)))
        (every-each (byte_at chunk) 4 c.letters);
    not_covered = λ covers. false-never (sym e ∙ ap covered ((chunk-named c covers).1 refl) ∙ covered-holds covers);
    bytes = bytes_drop 8 chunk below;
  }

  all-described : Every (λ chunk. Described chunk (describe chunk)) r.chunks
  all-described = every-within r.chunks (λ chunk w. go chunk w (covered (number32 chunk 0)) refl)
    where
      go : (chunk : List ℕ) → Within r.chunks chunk → (b : Bool) → covered (number32 chunk 0) ≡ b → Described chunk (describe chunk)
      go chunk w true e =
          let found = covered-letters (number32 chunk 0) e in
          let named : take 4 chunk ≡ found.0 = (chunk-named (within-every rules.whole w) found.1).0 found.2 in
          let a : Among r.chunks found.0 chunk = record { before = w.before; after = w.after; splits = w.splits; named = named } in
          subst (Described chunk) (sym (by-letters found.1 a)) (covered-described found.1 a)
      go chunk w false e =
          let other : Chunk = Other (take 4 chunk) (drop 8 chunk) in
          let is : describe chunk ≡ other = ap (λ (b : Bool). cond b (covered_by (number32 chunk 0) chunk) other) e in
          subst (Described chunk) (sym is)
          (record { letters = refl; holds = refl; held = other_fits chunk (within-every chunks-bytes w) (within-every rules.whole w) e })

  -- The encoding of each chunk of the description is the chunk.
  chunks-again : Every (λ chunk. chunk_bytes (describe chunk) ≡ chunk) r.chunks
  chunks-again =
      every_of (λ chunk h. chunk-again chunk h.0.0 h.0.1 h.1.letters h.1.holds)
      (every-both (every-both chunks-bytes rules.whole) all-described)

  -- The description.
  abbrev pub description : Description
  description = record { version = byte_at r.header 4; revision = byte_at r.header 5; reserved = number16 r.header 6; chunks = map describe r.chunks }

  header-again : header_bytes description ≡ r.header
  header-again =
      let long : length r.header ≡ 8 = rules.header_size in
      ap (λ (front : List ℕ). front ++ (byte_at r.header 4 ∷ byte_at r.header 5 ∷ bytes16 (number16 r.header 6))) (sym rules.begins)
      ∙ ap (λ (rest : List ℕ). take 4 r.header ++ rest)
      (number-then r.header header-bytes eight 4 (omega arith)
      (number-then r.header header-bytes eight 5 (omega arith)
      (number-then r.header header-bytes sixteen 6 {rest = []} (omega arith) (sym (drop_of_length-le r.header {i = 8} (omega arith))))))
      ∙ take-append-drop 4 r.header

  encodings : map chunk_bytes (map describe r.chunks) ≡ r.chunks
  encodings = map-again describe chunk_bytes chunks-again

  module-again : encoded description ≡ m
  module-again =
      ap (λ (header : List ℕ). header ++ joined (map chunk_bytes (map describe r.chunks))) header-again
      ∙ ap (λ (chunks : List (List ℕ)). r.header ++ joined chunks) encodings
      ∙ sym rules.bytes

  -- What holds for every chunk of the description: its condition, its letters, and that it describes its own bytes.
  all_held : Every Held description.chunks
  all_held = (every_map describe r.chunks).1 (every_of (λ chunk d. d.held) all-described)

  all_named : Every (λ c. take 4 (chunk_bytes c) ≡ chunk_letters c) description.chunks
  all_named = (every_map describe r.chunks).1 (every_of (λ chunk h. ap (take 4) h.0 ∙ sym h.1.letters) (every-both chunks-again all-described))

  all_back : Every (λ c. describe (chunk_bytes c) ≡ c) description.chunks
  all_back = (every_map describe r.chunks).1 (every_of (λ chunk again. ap describe again) chunks-again)

  -- A chunk among the chunks of the module is in the description.
  there : {letters : List ℕ} (covers : Covered letters) {chunk : List ℕ} → Among r.chunks letters chunk → In description.chunks (covered_as covers chunk)
  there covers a = subst (In description.chunks) (by-letters covers a) (within_in (within-mapped describe (among-within a)))

  chunks-split : (before after : List Chunk) (c : Chunk) → description.chunks ≡ before ++ (c ∷ after)
      → r.chunks ≡ map chunk_bytes before ++ (chunk_bytes c ∷ map chunk_bytes after)
  chunks-split before after c e = sym encodings ∙ ap (map chunk_bytes) e ∙ map-append chunk_bytes before (c ∷ after)

  -- M6 holds for the description.
  chunks-once : Once description.chunks
  chunks-once =
      letters-once (λ letters covers. no-two-mapped describe (λ (c : Chunk). chunk_letters c ≡ letters)
      (λ chunk within named. sym (within-every all-described within).letters ∙ named) (rules.once letters covers))

  -- M7 holds for the description.
  info-first : InfoFirst description.chunks
  info-first before after c e needs = (info, in-before)
    where
      named : take 4 (chunk_bytes c) ≡ chunk_letters c
      named = within-every all_named (record { before = before; after = after; splits = e })

      found : (first : List ℕ) × Among (map chunk_bytes before) info_letters first
      found = rules.after_info (chunk_letters c) needs (map chunk_bytes before) (map chunk_bytes after) (chunk_bytes c) (chunks-split before after c e) named

      back : map describe (map chunk_bytes before) ≡ before
      back = map-again chunk_bytes describe ((every_append before (c ∷ after)).0 (rw e at all_back)).0

      among : Among r.chunks info_letters found.0
      among = record {
        before = found.1.before;
        after = found.1.after ++ (chunk_bytes c ∷ map chunk_bytes after);
        splits =
            chunks-split before after c e
            ∙ ap (λ (l : List (List ℕ)). l ++ (chunk_bytes c ∷ map chunk_bytes after)) found.1.splits
            ∙ append_assoc found.1.before (found.0 ∷ found.1.after) (chunk_bytes c ∷ map chunk_bytes after);
        named = found.1.named;
      }

      in-before : In before (INFO info)
      in-before =
          subst (λ (l : List Chunk). In l (INFO info)) back
          (subst (In (map describe (map chunk_bytes before))) (by-letters Covered.info among)
          (within_in (within-mapped describe (among-within found.1))))

  -- The numbers of patterns and instruments are those of their blocks.
  pattern-count : length patterns ≡ length content.patterns
  pattern-count = sym (length-map patterns pattern_bytes) ∙ ap length patterns-are

  instrument-count : length instruments ≡ length content.instruments
  instrument-count = length-map content.instruments instrument_in

  well-formed : WellFormed description
  well-formed = record {
    limit = subst (λ (bytes : List ℕ). length bytes ≤ 16777216) (sym module-again) rules.limit;
    version = rules.version;
    revision = rules.revision;
    reserved = number_fits r.header header-bytes sixteen 6;
    lengths = (every_map describe r.chunks).1
        (every_of (λ chunk h. data-fits chunk h.0.0 h.0.1 h.1.holds) (every-both (every-both chunks-bytes rules.whole) all-described));
    once = chunks-once;
    info_first = info-first;
    others = λ letters held i. within-every all_held (in_within i);
    name = λ name i. within-every all_held (in_within i);
    info = info;
    songs = songs;
    instruments = instruments;
    patterns = patterns;
    samples = samples;
    info_there = there Covered.info r.info_there;
    songs_there = there Covered.song r.song_there;
    instruments_there = there Covered.inst r.inst_there;
    patterns_there = there Covered.patt r.patt_there;
    samples_there = there Covered.smpl r.smpl_there;
    lists = record {
      info_fits = info-fits r.info (among-bytes r.info_there) (rules.info r.info r.info_there);
      song_count = omega (arith, length-map content.songs song_in, content.songs_fill.number);
      instrument_count = instrument-count ∙ content.instruments_fill.number;
      pattern_count = pattern-count ∙ content.patterns_fill.number;
      sample_count = length-map content.samples sample_in ∙ content.samples_fill.number;
      songs_fit = rw pattern-count (all_fit song_in songs-bytes content.song_rules (song-fits (length content.patterns)));
      instruments_fit = all_fit instrument_in instruments-bytes instrument-rules (instrument-fits samples);
      patterns_fit = patterns-fit (number16 r.info 16) content.pattern_rules patterns-bytes;
      samples_fit = all_fit sample_in samples-bytes content.sample_rules sample-fits;
    };
    volume_envelopes = λ es i. rw instrument-count (within-every all_held (in_within i));
    panning_envelopes = λ es i. rw instrument-count (within-every all_held (in_within i));
  }

-- A module for which the rules hold, and so every accepted one, is the encoding of a well-formed description.
pub described : (m : List ℕ) → Bytes m → Rules m → (d : Description) × WellFormed d × (encoded d ≡ m)
described m bytes r = (description m bytes r, well-formed m bytes r, module-again m bytes r)

pub accepted-described : (m : List ℕ) → Bytes m → module_verdict m ≡ Ok tt → (d : Description) × WellFormed d × (encoded d ≡ m)
accepted-described m bytes accepted = described m bytes ((accepted-exactly m bytes).0 accepted)
