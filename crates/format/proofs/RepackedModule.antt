-- A repacked description: its encoding is the repacked module of the description's encoding, and it is well formed.
use Prim.Native.Nat.{ℕ, ◌+◌, ◌≤◌}
use mathlib.Core.Path.{◌≡◌, refl, sym, ap, ◌∙◌}
use mathlib.Core.List.{List, ◌++◌, map, map-map}
use mathlib.Core.Bool.{Bool, cond}
use native.Mathlib.Omega.{arith}
use lib.ListN.{length, length-map}
use Rattle.vocabulary.specs.Lists.{joined, Every}
use Rattle.vocabulary.specs.Letters.{patt_letters}
use Rattle.vocabulary.proofs.EveryOne.{every_of}
use Rattle.vocabulary.proofs.MappedLists.{every_map, map_same}
use Rattle.numbers.specs.Numbers.{byte_at, number16, number32, bytes32}
use Rattle.layout.specs.declared.Layout.{Layout}
use Rattle.blocks.specs.Sizes.{size_of, places_from}
use Rattle.blocks.specs.declared.BlockKind.TheVariants.{Pattern as PatternBlock}
use Rattle.acceptance.specs.Rules.{IsChunk, Covered}
use Rattle.acceptance.proofs.Spans.{LayoutOf}
use Rattle.acceptance.proofs.Locating.{PartAt}
use Rattle.acceptance.proofs.Cutting.{Sized}
use Rattle.acceptance.proofs.ChangedData.{with_data}
use Rattle.acceptance.proofs.BlockStreams.{pattern-sized}
use Rattle.repack.specs.Repacked.{repacked_block, repacked_patterns, repacked}
use Rattle.repack.proofs.RewrittenChunks.{rewritten_chunk, module-rewritten}
use Rattle.repack_theorems.proofs.RewrittenBlock.{rewritten_block, blocks-rewritten}
use Rattle.repack_theorems.proofs.Opening.{repacked-opened}
use Rattle.repack_theorems.proofs.Theorems.{repacked-no-longer}
use Rattle.format.specs.Description.{Pattern, Chunk, NAME, INFO, SONG, INST, PATT, SMPL, VENV, PENV, Other, Description}
use Rattle.format.specs.Encoding.{pattern_bytes, chunk_bytes, header_bytes, encoded}
use Rattle.format.specs.WellFormed.{In, WellFormed}
use Rattle.format.specs.Repacked.{repacked_pattern, repacked_chunk, repacked_description}
use Rattle.format.proofs.EncodedBlocks.{pattern-rules}
use Rattle.format.proofs.EncodedModule.{content-there, encoded-bytes, encoded-chunks, encoded-accepted}
use Rattle.format.proofs.Placed.{encoded-opens, info-numbers}
use Rattle.format.proofs.ChunksIn.{in-every, in-once}
use Rattle.format.proofs.ChunkKinds.{ChunkKind, patterns, not-covered}
use Rattle.format.proofs.ChangedDescriptions.{is_kind, stays, holds, Change, encoded-changed, changed-well-formed}
use Rattle.format.proofs.RepackedPatterns.{pattern-rewritten, pattern-fits}

-- X1, X2: chunk by chunk.
module _ (d : Description) (w : WellFormed d) where
  abbrev tracks : ℕ
  tracks = w.info.tracks

  abbrev rewritten : Description
  rewritten = repacked_description tracks d

  abbrev content : List ℕ
  content = joined (map pattern_bytes (map (repacked_pattern tracks) w.patterns))

  -- PATT gets the rewritten data, and every other chunk is unchanged.
  chunk-rewritten : (c : Chunk) → In d.chunks c → IsChunk (chunk_bytes c) → rewritten_chunk content (chunk_bytes c) ≡ chunk_bytes (repacked_chunk tracks c)
  unfolding number32 number16 byte_at
  chunk-rewritten (NAME name) i c = refl
  chunk-rewritten (INFO info) i c = refl
  chunk-rewritten (SONG list) i c = refl
  chunk-rewritten (INST list) i c = refl
  chunk-rewritten (PATT list) i c =
      let same : w.patterns ≡ list = cc (in-once w.once w.patterns_there i Covered.patt refl) in
      ap (λ (ps : List Pattern).
      patt_letters
      ++ (bytes32 (length (joined (map pattern_bytes (map (repacked_pattern tracks) ps)))) ++ joined (map pattern_bytes (map (repacked_pattern tracks) ps))))
      same
  chunk-rewritten (SMPL list) i c = refl
  chunk-rewritten (VENV list) i c = refl
  chunk-rewritten (PENV list) i c = refl
  chunk-rewritten (Other letters bytes) i c =
      ap (λ (b : Bool). cond b (with_data content (chunk_bytes (Other letters bytes))) (chunk_bytes (Other letters bytes)))
      (not-covered letters bytes (w.others letters bytes i) c Covered.patt)

  -- X3: PATT's rewritten data are the repacked patterns.
  module _ (l : Layout) (layout : LayoutOf (encoded d) (header_bytes d) (map chunk_bytes d.chunks) l) where
    patterns-there : PartAt (encoded d) (l.spans.patt.at + 8) (joined (map pattern_bytes w.patterns))
    patterns-there = content-there d.chunks (PATT w.patterns) w.patterns_there refl layout.patt

    blocks-sized : Every (Sized PatternBlock) (map pattern_bytes w.patterns)
    blocks-sized =
        (every_map pattern_bytes w.patterns).1
        (every_of (λ p f. pattern-sized tracks (pattern_bytes p) (pattern-rules tracks p f)) w.lists.patterns_fit)

    content-is : repacked_patterns (encoded d) l ≡ content
    content-is =
        let numbers = info-numbers d w layout w.info w.info_there in
        let many : length (map pattern_bytes w.patterns) ≡ l.patterns = length-map w.patterns pattern_bytes ∙ w.lists.pattern_count ∙ sym numbers.3 in
        let at : ℕ = l.spans.patt.at + 8 in
        let blocks : map (repacked_block (encoded d) tracks) (places_from (size_of PatternBlock (encoded d)) (length (map pattern_bytes w.patterns)) at)
        ≡ map (rewritten_block tracks) (map pattern_bytes w.patterns) =
        blocks-rewritten tracks at (map pattern_bytes w.patterns) patterns-there blocks-sized in
        let same : map (rewritten_block tracks) (map pattern_bytes w.patterns)
        ≡ map pattern_bytes (map (repacked_pattern tracks) w.patterns) =
        map-map (rewritten_block tracks) pattern_bytes w.patterns
        ∙ map_same (λ p. rewritten_block tracks (pattern_bytes p)) (λ p. pattern_bytes (repacked_pattern tracks p))
        (every_of (pattern-rewritten tracks) w.lists.patterns_fit)
        ∙ sym (map-map pattern_bytes (repacked_pattern tracks) w.patterns) in
        ap (λ (n : ℕ). joined (map (repacked_block (encoded d) n) (places_from (size_of PatternBlock (encoded d)) l.patterns at))) numbers.4
        ∙ ap (λ (n : ℕ). joined (map (repacked_block (encoded d) tracks) (places_from (size_of PatternBlock (encoded d)) n at))) (sym many)
        ∙ ap joined (blocks ∙ same)

  pub repacked-encoded : repacked (encoded d) ≡ encoded (repacked_description w.info.tracks d)
  repacked-encoded =
      let (l, opens, layout) = encoded-opens d w in
      let whole = (every_map chunk_bytes d.chunks).0 (encoded-chunks d w).whole in
      repacked-opened (encoded d) l opens
      ∙ module-rewritten (encoded-chunks d w) l
      ∙ ap (λ (patt : List ℕ). header_bytes d ++ joined (map (rewritten_chunk patt) (map chunk_bytes d.chunks))) (content-is l layout)
      ∙ encoded-changed d (repacked_chunk tracks) (rewritten_chunk content) (λ c i. chunk-rewritten c i (in-every whole i))

-- Only chunks of patterns change.
abbrev patterns_only : ChunkKind → Bool
patterns_only k = is_kind k patterns

patterns-change : (tracks : ℕ) → Change patterns_only (repacked_chunk tracks)
patterns-change tracks (NAME name) = stays (NAME name)
patterns-change tracks (INFO info) = stays (INFO info)
patterns-change tracks (SONG list) = stays (SONG list)
patterns-change tracks (INST list) = stays (INST list)
patterns-change tracks (PATT list) = holds patterns refl list (map (repacked_pattern tracks) list) refl
patterns-change tracks (SMPL list) = stays (SMPL list)
patterns-change tracks (VENV list) = stays (VENV list)
patterns-change tracks (PENV list) = stays (PENV list)
patterns-change tracks (Other letters bytes) = stays (Other letters bytes)

module _ (d : Description) (w : WellFormed d) where
  shorter : length (encoded (rewritten d w)) ≤ 16777216
  shorter = omega (arith, ap length (repacked-encoded d w), repacked-no-longer (encoded d) (encoded-bytes d w) (encoded-accepted d w), w.limit)

  many : length (map (repacked_pattern (tracks d w)) w.patterns) ≡ length w.patterns
  many = length-map w.patterns (repacked_pattern (tracks d w))

  pub repacked-well-formed : WellFormed (repacked_description w.info.tracks d)
  repacked-well-formed =
      changed-well-formed w (patterns-change (tracks d w))
      (record { name = refl; volume = refl; panning = refl; other = refl }) shorter
      (record {
        info = w.info;
        songs = w.songs;
        instruments = w.instruments;
        patterns = map (repacked_pattern (tracks d w)) w.patterns;
        samples = w.samples;
        info_is = refl;
        songs_are = refl;
        instruments_are = refl;
        patterns_are = refl;
        samples_are = refl;
        lists = record {
          info_fits = w.lists.info_fits;
          song_count = w.lists.song_count;
          instrument_count = w.lists.instrument_count;
          pattern_count = many ∙ w.lists.pattern_count;
          sample_count = w.lists.sample_count;
          songs_fit = rw many w.lists.songs_fit;
          instruments_fit = w.lists.instruments_fit;
          patterns_fit = (every_map (repacked_pattern (tracks d w)) w.patterns).1
              (every_of (λ p f. pattern-fits (tracks d w) p f w.lists.info_fits.tracks.1) w.lists.patterns_fit);
          samples_fit = w.lists.samples_fit;
        };
        as_many = refl;
      })
