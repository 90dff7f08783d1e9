-- The encoding of a well-formed description is accepted: the rules of a module hold for it, with its header and the encodings of its
-- chunks.
use Prim.Native.Nat.{ℕ, ◌+◌, ◌≤◌, ◌<◌}
use Rattle.std.specs.Prelude.{Ok}
use mathlib.Core.Path.{◌≡◌, refl, sym, ap, subst, ◌∙◌}
use mathlib.Core.Logic.{◌⊎◌, inl, inr}
use mathlib.Core.List.{List, [], ◌∷◌, ◌++◌, map, append_assoc}
use mathlib.Core.Bool.{Bool, true, ◌&&◌}
use native.Mathlib.Omega.{arith}
use lib.ListN.{length, take, length-append, length-map}
use lib.Seq.{take_at}
use lib.Dec.{leb}
use Rattle.vocabulary.specs.Lists.{joined, Every, none, also}
use Rattle.vocabulary.specs.Letters.{name_letters, info_letters, song_letters, inst_letters, patt_letters, smpl_letters, venv_letters, penv_letters}
use Rattle.vocabulary.proofs.EveryOne.{every-at, every_of}
use Rattle.vocabulary.proofs.MappedLists.{every_map, map-split}
use Rattle.vocabulary.proofs.Splits.{within-mapped, mapped-within, no-two-mapped}
use Rattle.numbers.proofs.AllBytes.{bytes-nil, bytes-cons, bytes-append, bytes-every, bytes-joined, bytes16-bytes, bytes32-bytes}
use Rattle.numbers.specs.Numbers.{byte_at, Bytes, number32, bytes32}
use Rattle.packed_rows.specs.Theorems.{every}
use Rattle.packed_rows.proofs.Reading.{and-true}
use Rattle.layout.specs.declared.ChunkSpan.{ChunkSpan}
use Rattle.module.specs.Verdicts.{module_verdict}
use Rattle.acceptance.specs.Rules.{IsChunk, Covered, NeedsInfo, Among, AtMostOnce, AfterInfo, InfoRules, Filled}
use Rattle.acceptance.specs.Rules.{EnvelopesRules, VolumeFits, PanningValueFits, Content, ChunkRules, Rules}
use Rattle.acceptance.proofs.Spans.{Found}
use Rattle.acceptance.proofs.Locating.{PartAt, byte_at-front, bytes32-number}
use Rattle.acceptance.proofs.Cutting.{part-rest}
use Rattle.acceptance.proofs.ChunkHalf.{span-part}
use Rattle.acceptance.proofs.Holding.{leb-says, and-says}
use Rattle.acceptance.proofs.Identifiers.{identifier_of}
use Rattle.acceptance.proofs.Acceptance.{accepted-exactly}
use Rattle.acceptance.proofs.Recorded.{among-within, within-among}
use Rattle.format.specs.Description.{Chunk, NAME, INFO, SONG, INST, PATT, SMPL, VENV, PENV, Other, Description}
use Rattle.format.specs.Encoding.{song_bytes, instrument_bytes, pattern_bytes, sample_bytes, envelopes_bytes, chunk_letters}
use Rattle.format.specs.Encoding.{chunk_data, chunk_bytes, header_bytes, encoded}
use Rattle.format.specs.WellFormed.{In, Fits32, WellFormed}
use Rattle.format.proofs.ReadingBlocks.{info-read}
use Rattle.format.proofs.ChunksIn.{in_within, within_in, every_in, in-every, once-letters, in-once}
use Rattle.format.proofs.ChunkKinds.{holder, held-as, chunk_kind_by, kind-covered}
use Rattle.format.proofs.EncodedBlocks.{all-bytes, filled-by, info-at, info-bytes, info-rules, song-bytes, song-rules}
use Rattle.format.proofs.EncodedBlocks.{instrument-bytes, instrument-rules, pattern-bytes, pattern-rules, sample-bytes}
use Rattle.format.proofs.EncodedBlocks.{sample-rules, envelopes-bytes, envelopes-rules}

-- M5: an identifier is four letters A to Z.
pub record Capitals (letters : List ℕ) : Type 0 where
  pub four : length letters ≡ 4
  pub each : Every (λ letter. (65 ≤ letter) × (letter ≤ 90)) letters

-- A test for this, which can be computed.
abbrev capital : ℕ → Bool
capital letter = leb 65 letter && leb letter 90

capitals : (letters : List ℕ) → length letters ≡ 4 → every capital letters ≡ true → Capitals letters
capitals letters four h = record { four = four; each = go letters h }
  where
    go : (ls : List ℕ) → every capital ls ≡ true → Every (λ letter. (65 ≤ letter) × (letter ≤ 90)) ls
    go [] e = none
    go (l ∷ ls) e =
        let parts = and-true (capital l) (every capital ls) e in
        let one = (and-says (leb 65 l) (leb l 90)).0 parts.0 in
        also ((leb-says 65 l).0 one.0, (leb-says l 90).0 one.1) (go ls parts.1)

-- M5: a chunk consists of bytes and has its own length.
module _ (c : Chunk) (letters : Capitals (chunk_letters c)) where
  pub chunk-named : take 4 (chunk_bytes c) ≡ chunk_letters c
  chunk-named = take_at (chunk_letters c) _ 4 letters.four

  chunk-length : number32 (chunk_bytes c) 4 ≡ length (chunk_data c)
  chunk-length = ap (number32 (chunk_bytes c)) (sym letters.four) ∙ bytes32-number (length (chunk_data c)) (chunk_letters c) (chunk_data c)

  chunk_whole : IsChunk (chunk_bytes c)
  unfolding byte_at
  chunk_whole = record {
    size = omega (arith, chunk-length, letters.four, length-append (chunk_letters c) (bytes32 (length (chunk_data c)) ++ chunk_data c));
    letters = λ i h.
        rw (byte_at-front (chunk_letters c) (bytes32 (length (chunk_data c)) ++ chunk_data c) i (omega (arith, letters.four)))
        (every-at i 0 (omega (arith, letters.four)) letters.each);
  }

  chunk-bytes : Fits32 (length (chunk_data c)) → Bytes (chunk_data c) → Bytes (chunk_bytes c)
  chunk-bytes long held =
      bytes-append (chunk_letters c) _ ((bytes-every (chunk_letters c)).1 (every_of (λ letter h. omega (arith, h.1)) letters.each))
      (bytes-append (bytes32 (length (chunk_data c))) (chunk_data c) (bytes32-bytes _ long) held)

-- A chunk of the description is among the encodings. Its identifier has four letters; for a covered chunk this is computed.
pub in-among : (chunks : List Chunk) (c : Chunk) → In chunks c → length (chunk_letters c) ≡ 4 → Among (map chunk_bytes chunks) (chunk_letters c) (chunk_bytes c)
in-among chunks c i four = within-among (within-mapped chunk_bytes (in_within i)) (take_at (chunk_letters c) _ 4 four)

-- Its data are 8 bytes after its place.
pub content-there : {m : List ℕ} {span : ChunkSpan} (chunks : List Chunk) (c : Chunk) → In chunks c → length (chunk_letters c) ≡ 4
    → Found m (map chunk_bytes chunks) (chunk_letters c) span
    → PartAt m (span.at + 8) (chunk_data c)
content-there {m} {span} chunks c i four found =
    let number : List ℕ = bytes32 (length (chunk_data c)) in
    let eight : length (chunk_letters c ++ number) ≡ 8 = omega (arith, length-append (chunk_letters c) number, four) in
    let whole : PartAt m span.at (chunk_bytes c) = span-part (found.holds (chunk_bytes c) (in-among chunks c i four)) in
    let parts : PartAt m span.at ((chunk_letters c ++ number) ++ chunk_data c) =
    subst (PartAt m span.at) (sym (append_assoc (chunk_letters c) number (chunk_data c))) whole in
    rw eight at (part-rest (chunk_letters c ++ number) (chunk_data c) parts)

module _ (d : Description) (w : WellFormed d) where
  -- M5: the identifier of each chunk is four letters.
  chunk-letters : (c : Chunk) → In d.chunks c → Capitals (chunk_letters c)
  chunk-letters (NAME held) i = capitals name_letters refl refl
  chunk-letters (INFO held) i = capitals info_letters refl refl
  chunk-letters (SONG held) i = capitals song_letters refl refl
  chunk-letters (INST held) i = capitals inst_letters refl refl
  chunk-letters (PATT held) i = capitals patt_letters refl refl
  chunk-letters (SMPL held) i = capitals smpl_letters refl refl
  chunk-letters (VENV held) i = capitals venv_letters refl refl
  chunk-letters (PENV held) i = capitals penv_letters refl refl
  chunk-letters (Other letters held) i = record { four = (w.others letters held i).four; each = (w.others letters held i).capitals }

  -- M9, B1: there are so few records that their numbers fit 2 bytes.
  few-patterns : length w.patterns ≤ 65536
  few-patterns = omega (arith, w.lists.pattern_count, w.lists.info_fits.patterns)

  few-samples : length w.samples < 65536
  few-samples = omega (arith, w.lists.sample_count, w.lists.info_fits.samples)

  few-instruments : length w.instruments < 65536
  few-instruments = omega (arith, w.lists.instrument_count, w.lists.info_fits.instruments)

  -- The content of a chunk consists of bytes. A mandatory chunk occurs once, so its content is that of the description.
  same_bytes : {c e : Chunk} → In d.chunks c → In d.chunks e → Covered (chunk_letters c) → chunk_letters c ≡ chunk_letters e
      → Bytes (chunk_data e)
      → Bytes (chunk_data c)
  same_bytes i j covers letters = subst (λ (c : Chunk). Bytes (chunk_data c)) (sym (in-once w.once i j covers letters))

  held_bytes : (c : Chunk) → In d.chunks c → Bytes (chunk_data c)
  held_bytes (NAME held) i = (w.name held i).1
  held_bytes (INFO held) i = same_bytes i w.info_there Covered.info refl (info-bytes w.info w.lists.info_fits)
  held_bytes (SONG held) i =
      same_bytes i w.songs_there Covered.song refl
      (all-bytes song_bytes (λ s h. song-bytes (length w.patterns) s h few-patterns) w.songs w.lists.songs_fit)
  held_bytes (INST held) i =
      same_bytes i w.instruments_there Covered.inst refl
      (all-bytes instrument_bytes (λ n h. instrument-bytes w.samples n h few-samples) w.instruments w.lists.instruments_fit)
  held_bytes (PATT held) i =
      same_bytes i w.patterns_there Covered.patt refl
      (all-bytes pattern_bytes (λ p h. pattern-bytes w.info.tracks p h) w.patterns w.lists.patterns_fit)
  held_bytes (SMPL held) i = same_bytes i w.samples_there Covered.smpl refl (all-bytes sample_bytes sample-bytes w.samples w.lists.samples_fit)
  held_bytes (VENV held) i = envelopes-bytes (length w.instruments) _ held (w.volume_envelopes held i) few-instruments
  held_bytes (PENV held) i = envelopes-bytes (length w.instruments) _ held (w.panning_envelopes held i) few-instruments
  held_bytes (Other letters held) i = (w.others letters held i).bytes

  version-small : d.version < 256
  version-small = go w.version
    where
      go : (d.version ≡ 2) ⊎ (d.version ≡ 3) → d.version < 256
      go (inl e) = omega arith
      go (inr e) = omega arith

  header-bytes : Bytes (header_bytes d)
  header-bytes =
      bytes-append (68 ∷ 66 ∷ 77 ∷ 48 ∷ []) _
      (bytes-cons 68 _ (omega arith) (bytes-cons 66 _ (omega arith) (bytes-cons 77 _ (omega arith) (bytes-cons 48 _ (omega arith) bytes-nil))))
      (bytes-cons d.version _ version-small (bytes-cons d.revision _ (omega (arith, w.revision.0)) (bytes16-bytes d.reserved w.reserved)))

  pub encoded-bytes : Bytes (encoded d)
  encoded-bytes =
      bytes-append (header_bytes d) (joined (map chunk_bytes d.chunks)) header-bytes
      ((bytes-joined (map chunk_bytes d.chunks)).0
      ((every_map chunk_bytes d.chunks).1 (every_in d.chunks (λ c i. chunk-bytes c (chunk-letters c i) (in-every w.lengths i) (held_bytes c i)))))

  -- A chunk of the encoding is the encoding of a chunk of the description with the same letters.
  letters-of : (c : Chunk) → In d.chunks c → {chunk letters : List ℕ} → chunk ≡ chunk_bytes c → take 4 chunk ≡ letters → chunk_letters c ≡ letters
  letters-of c i same named = sym (chunk-named c (chunk-letters c i)) ∙ ap (take 4) (sym same) ∙ named

  pub among_in : (letters chunk : List ℕ) → Among (map chunk_bytes d.chunks) letters chunk
      → (c : Chunk) × In d.chunks c × (chunk_letters c ≡ letters) × (chunk ≡ chunk_bytes c)
  among_in letters chunk a =
      let (c, within, same) = mapped-within chunk_bytes (among-within a) in
      (c, within_in within, letters-of c (within_in within) same a.named, same)

  -- The bytes of a chunk are the encoding of a chunk of the description, made by `make` from its content.
  abbrev pub Encodes : {A : Type 0} → (A → Chunk) → List ℕ → Type 0
  Encodes {A} make chunk = (held : A) × In d.chunks (make held) × (chunk ≡ chunk_bytes (make held))

  -- So a chunk with covered letters is the encoding of a chunk of their kind.
  pub among-held : {letters : List ℕ} (covers : Covered letters) (chunk : List ℕ)
      → Among (map chunk_bytes d.chunks) letters chunk
      → Encodes (holder (chunk_kind_by (identifier_of covers))) chunk
  among-held {letters} covers chunk a =
      let (c, i, letters-are, same) = among_in letters chunk a in
      let whole = chunk_whole c (chunk-letters c i) in
      let kind = kind-covered c (λ other bytes is. w.others other bytes (subst (In d.chunks) is i)) whole covers (ap (take 4) (sym same) ∙ a.named) in
      let (held, is) = held-as c (chunk_kind_by (identifier_of covers)) kind in
      (held, subst (In d.chunks) is i, same ∙ ap chunk_bytes is)

  encoded-once : (letters : List ℕ) → Covered letters → AtMostOnce (map chunk_bytes d.chunks) letters
  encoded-once letters covers =
      no-two-mapped chunk_bytes (λ (chunk : List ℕ). take 4 chunk ≡ letters)
      (λ c within named. letters-of c (within_in within) refl named) (once-letters w.once letters covers)

  encoded-after : (letters : List ℕ) → NeedsInfo letters → AfterInfo (map chunk_bytes d.chunks) letters
  encoded-after letters needs before after chunk e named =
      let s = map-split chunk_bytes d.chunks before after chunk e in
      let i : In d.chunks s.one = record { before = s.front; after = s.back; splits = s.splits } in
      let found = w.info_first s.front s.back s.one s.splits (subst NeedsInfo (sym (letters-of s.one i s.one_is named)) needs) in
      let info = chunk_bytes (INFO found.0) in
      (info, subst (λ (l : List (List ℕ)). Among l info_letters info) (sym s.front_is) (in-among s.front (INFO found.0) found.1 refl))

  pub encoded-chunks : ChunkRules (encoded d) (header_bytes d) (map chunk_bytes d.chunks)
  unfolding byte_at
  encoded-chunks = record {
    bytes = refl;
    limit = w.limit;
    header_size = refl;
    begins = refl;
    version = w.version;
    revision = w.revision;
    whole = (every_map chunk_bytes d.chunks).1 (every_in d.chunks (λ c i. chunk_whole c (chunk-letters c i)));
    once = encoded-once;
    after_info = encoded-after;
    name = λ chunk a. (
        let (held, i, same) = among-held Covered.name chunk a in
        ap length same ∙ omega (arith, (w.name held i).0)
        );
    info = λ chunk a. (
        let (held, i, same) = among-held Covered.info chunk a in
        subst InfoRules (sym (same ∙ ap chunk_bytes (in-once w.once i w.info_there Covered.info refl))) (info-rules w.info w.lists.info_fits)
        );
  }

  -- B1 to B6, V1 to V7: the blocks of each chunk, as many as INFO says.
  fills : {A : Type 0} (letters : List ℕ) → length letters ≡ 4 → (f : A → List ℕ) (xs : List A) {count : ℕ}
      → length xs ≡ count
      → Filled 8 (letters ++ (bytes32 (length (joined (map f xs))) ++ joined (map f xs))) count (map f xs)
  fills letters four f xs many =
      rw append_assoc
      at (filled-by (letters ++ bytes32 (length (joined (map f xs)))) 8 (length-append letters _ ∙ omega (arith, four)) (map f xs) _ (length-map xs f ∙ many))

  encoded-content : Content (header_bytes d) (map chunk_bytes d.chunks) (chunk_bytes (INFO w.info))
      (chunk_bytes (SONG w.songs)) (chunk_bytes (INST w.instruments)) (chunk_bytes (PATT w.patterns))
      (chunk_bytes (SMPL w.samples))
  unfolding byte_at
  encoded-content = record {
    songs = map song_bytes w.songs;
    instruments = map instrument_bytes w.instruments;
    patterns = map pattern_bytes w.patterns;
    samples = map sample_bytes w.samples;
    songs_fill = fills song_letters refl song_bytes w.songs (w.lists.song_count ∙ sym (info-at w.info 4 ∙ (info-read w.info).songs));
    instruments_fill = fills inst_letters refl instrument_bytes w.instruments
        (w.lists.instrument_count ∙ sym (info-at w.info 0 ∙ (info-read w.info).instruments));
    patterns_fill = fills patt_letters refl pattern_bytes w.patterns (w.lists.pattern_count ∙ sym (info-at w.info 6 ∙ (info-read w.info).patterns));
    samples_fill = fills smpl_letters refl sample_bytes w.samples (w.lists.sample_count ∙ sym (info-at w.info 2 ∙ (info-read w.info).samples));
    song_rules = rw (length-map w.patterns pattern_bytes)
        ((every_map song_bytes w.songs).1 (every_of (song-rules (length w.patterns)) w.lists.songs_fit));
    instrument_rules = (every_map instrument_bytes w.instruments).1 (every_of (instrument-rules w.samples) w.lists.instruments_fit);
    pattern_rules = rw (info-at w.info 8 ∙ (info-read w.info).tracks)
        ((every_map pattern_bytes w.patterns).1 (every_of (pattern-rules w.info.tracks) w.lists.patterns_fit));
    sample_rules = (every_map sample_bytes w.samples).1 (every_of sample-rules w.lists.samples_fit);
    volume_envelopes = λ chunk a. (
        let (held, i, same) = among-held Covered.venv chunk a in
        let fits = rw (← length-map w.instruments instrument_bytes) at (w.volume_envelopes held i) in
        subst (EnvelopesRules _ VolumeFits) (sym same) (envelopes-rules _ VolumeFits held fits (venv_letters ++ bytes32 (length (envelopes_bytes held))) refl)
        );
    panning_envelopes = λ chunk a. (
        let (held, i, same) = among-held Covered.penv chunk a in
        let fits = rw (← length-map w.instruments instrument_bytes) at (w.panning_envelopes held i) in
        subst (EnvelopesRules _ (PanningValueFits d.version)) (sym same)
        (envelopes-rules _ (PanningValueFits d.version) held fits (penv_letters ++ bytes32 (length (envelopes_bytes held))) refl)
        );
  }

  pub encoded-rules : Rules (encoded d)
  encoded-rules = record {
    header = header_bytes d;
    chunks = map chunk_bytes d.chunks;
    chunk_rules = encoded-chunks;
    info = chunk_bytes (INFO w.info);
    song = chunk_bytes (SONG w.songs);
    inst = chunk_bytes (INST w.instruments);
    patt = chunk_bytes (PATT w.patterns);
    smpl = chunk_bytes (SMPL w.samples);
    info_there = in-among d.chunks (INFO w.info) w.info_there refl;
    song_there = in-among d.chunks (SONG w.songs) w.songs_there refl;
    inst_there = in-among d.chunks (INST w.instruments) w.instruments_there refl;
    patt_there = in-among d.chunks (PATT w.patterns) w.patterns_there refl;
    smpl_there = in-among d.chunks (SMPL w.samples) w.samples_there refl;
    content = encoded-content;
  }

  pub encoded-accepted : module_verdict (encoded d) ≡ Ok tt
  encoded-accepted = (accepted-exactly (encoded d) encoded-bytes).1 encoded-rules
