-- The places of a description's records in its encoding. The module opens with the layout of the description's chunks. A record that is
-- requested by a number of its list is found at a place where its encoding is, and every other number is refused.
use Prim.Native.Nat.{ℕ, ◌+◌, ◌-◌, ◌<◌}
use Rattle.std.specs.Prelude.{Result, Ok, Err}
use Rattle.refusal.specs.declared.Refusal.{Refusal}
use Rattle.queries.specs.declared.Block.{Block}
use mathlib.Core.Path.{◌≡◌, refl, sym, ap, ◌∙◌}
use mathlib.Core.List.{List, [], ◌++◌, map}
use mathlib.Core.Bool.{Bool, true, false, cond, ◌&&◌}
use lib.ListN.{length, get_or, length-map}
use lib.Dec.{leb, ltb}
use Rattle.vocabulary.specs.Lists.{joined, Every}
use Rattle.vocabulary.specs.Letters.{info_letters}
use Rattle.vocabulary.proofs.EveryOne.{every-at, every_of}
use Rattle.vocabulary.proofs.MappedLists.{every_map}
use Rattle.numbers.specs.Numbers.{number16, bytes32}
use Rattle.packed_rows.proofs.Shapes.{get_or-mapped}
use Rattle.layout.specs.declared.Layout.{Layout}
use Rattle.blocks.specs.Sizes.{first_block, block_at}
use Rattle.blocks.specs.RecordKinds.{block_kind_of, chunk_of, count_of}
use Rattle.blocks.specs.declared.RecordKind.{RecordKind}
use Rattle.module.specs.Verdicts.{opened}
use Rattle.queries.specs.Finding.{first_of, block_of, found_if, found}
use Rattle.acceptance.proofs.Spans.{SpanHolds, LayoutOf}
use Rattle.acceptance.proofs.Locating.{PartAt}
use Rattle.acceptance.proofs.Holding.{and-says, ltb-says}
use Rattle.acceptance.proofs.Cutting.{Sized, part-rest, block-there}
use Rattle.acceptance.proofs.ChunkHalf.{Mandatory, span-part, chunks-outline}
use Rattle.acceptance.proofs.OpenModules.{accepted-opens, module-opens}
use Rattle.format.specs.Description.{Info, INFO, SONG, INST, PATT, SMPL, Description}
use Rattle.format.specs.Encoding.{info_bytes, chunk_bytes, header_bytes, encoded}
use Rattle.format.specs.WellFormed.{In, WellFormed}
use Rattle.format.specs.Shown.{not_there, listed}
use Rattle.format.proofs.Stored.{number16-past}
use Rattle.format.proofs.ReadingBlocks.{info-read}
use Rattle.format.proofs.EncodedModule.{in-among, encoded-chunks, encoded-accepted}

-- The records of a list are those of a record kind in the module: all fit, the count is theirs, and each is at its place.
pub record Listed (m : List ℕ) (l : Layout) (kind : RecordKind) {A : Type 0} (bytes : A → List ℕ) (Fits : A → Type 0) (xs : List A) : Type 0 where
  pub fits : Every Fits xs
  pub count : count_of m l kind ≡ length xs
  pub block : (i : ℕ) (other : A) → i < length xs → PartAt m (block_at m (block_kind_of kind) (chunk_of l kind) i) (bytes (get_or xs i other))

-- This holds for the records of a chunk of the module: they are after its front, one after the other.
module _ {m : List ℕ} {l : Layout} (kind : RecordKind) {A : Type 0} (bytes : A → List ℕ) {Fits : A → Type 0}
    (sized : (x : A) → Fits x → Sized (block_kind_of kind) (bytes x)) where
  pub chunk-listed : (front : List ℕ) (xs : List A) → SpanHolds m (chunk_of l kind) (front ++ joined (map bytes xs))
      → first_block (block_kind_of kind) (chunk_of l kind) ≡ (chunk_of l kind).at + length front → count_of m l kind ≡ length xs
      → Every Fits xs
      → Listed m l kind bytes Fits xs
  chunk-listed front xs s first count fits = record {
    fits = fits;
    count = count;
    block = λ i other h. (
        let rest : PartAt m (first_block (block_kind_of kind) (chunk_of l kind)) (joined (map bytes xs)) =
        rw first (part-rest front (joined (map bytes xs)) (span-part s)) in
        rw (sym (get_or-mapped bytes xs i [] other h))
        (block-there (block_kind_of kind) (map bytes xs) i (rw length-map h) rest ((every_map bytes xs).1 (every_of sized fits)))
        );
  }

-- The answer of a query for a number: what is shown of the record with that number, or the refusal.
module _ {m : List ℕ} {l : Layout} (opens : opened m ≡ Ok l) {kind : RecordKind} {A : Type 0} {bytes : A → List ℕ}
    {Fits : A → Type 0} {xs : List A} (s : Listed m l kind bytes Fits xs) {R : Type 0} (answer : Result Block Refusal → R) (show : A → R)
    (other : A) where
  pub by_number : ((x : A) → Fits x → (at : ℕ) → PartAt m at (bytes x) → answer (Ok (record { at = at; version = l.version; tracks = l.tracks })) ≡ show x)
      → (number : ℕ)
      → answer (found m kind number) ≡ listed show (answer (Err not_there)) other (first_of kind) xs number
  by_number shown number =
      ap (λ o. answer (found_if m kind number o)) opens ∙ rw s.count (go (leb (first_of kind) number && ltb (number - first_of kind) (length xs)) refl)
    where
      i : ℕ
      i = number - first_of kind

      go : (t : Bool) → leb (first_of kind) number && ltb (number - first_of kind) (length xs) ≡ t
          → answer (cond t (Ok (block_of m l kind number)) (Err not_there))
          ≡ cond t (show (get_or xs (number - first_of kind) other)) (answer (Err not_there))
      go true e =
          let h : i < length xs = (ltb-says i (length xs)).0 ((and-says (leb (first_of kind) number) (ltb i (length xs))).0 e).1 in
          shown (get_or xs i other) (every-at i other h s.fits) (block_at m (block_kind_of kind) (chunk_of l kind) i) (s.block i other h)
      go false e = refl

module _ (d : Description) (w : WellFormed d) where
  mandatory : Mandatory (map chunk_bytes d.chunks)
  mandatory = record {
    info = (chunk_bytes (INFO w.info), in-among d.chunks (INFO w.info) w.info_there refl);
    song = (chunk_bytes (SONG w.songs), in-among d.chunks (SONG w.songs) w.songs_there refl);
    inst = (chunk_bytes (INST w.instruments), in-among d.chunks (INST w.instruments) w.instruments_there refl);
    patt = (chunk_bytes (PATT w.patterns), in-among d.chunks (PATT w.patterns) w.patterns_there refl);
    smpl = (chunk_bytes (SMPL w.samples), in-among d.chunks (SMPL w.samples) w.samples_there refl);
  }

  -- The encoding opens, with the layout of the description's chunks.
  pub encoded-opens : (l : Layout) × (opened (encoded d) ≡ Ok l) × LayoutOf (encoded d) (header_bytes d) (map chunk_bytes d.chunks) l
  encoded-opens =
      let (l, opens) = accepted-opens (encoded d) (encoded-accepted d w) in
      let (k, outlined, layout) = chunks-outline (encoded d) (header_bytes d) (map chunk_bytes d.chunks) (encoded-chunks d w) mandatory in
      let other = (module-opens (encoded d) l opens).outlined in
      let same : k ≡ l = cc in
      (l, opens, rw same at layout)

  module _ {l : Layout} (layout : LayoutOf (encoded d) (header_bytes d) (map chunk_bytes d.chunks) l) where
    -- M9: the layout has INFO's numbers.
    pub info-numbers : (info : Info) → In d.chunks (INFO info)
        → (l.instruments ≡ info.instruments)
        × (l.samples ≡ info.samples)
        × (l.songs ≡ info.songs)
        × (l.patterns ≡ info.patterns)
        × (l.tracks ≡ info.tracks)
    info-numbers info i =
        let counts = layout.counts (chunk_bytes (INFO info)) (in-among d.chunks (INFO info) i refl) in (
          counts.0 ∙ held 0 ∙ (info-read info).instruments,
          counts.1 ∙ held 2 ∙ (info-read info).samples,
          counts.2 ∙ held 4 ∙ (info-read info).songs,
          counts.3 ∙ held 6 ∙ (info-read info).patterns,
          counts.4 ∙ held 8 ∙ (info-read info).tracks,
        )
      where
        held : (k : ℕ) → number16 (chunk_bytes (INFO info)) (8 + k) ≡ number16 (info_bytes info) k
        held = number16-past (info_letters ++ bytes32 (length (info_bytes info))) (info_bytes info) 8 refl
