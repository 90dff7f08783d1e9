-- Chunks that are changed one by one. A change keeps the letters of a chunk, leaves it whole, and affects only chunks with certain
-- identifiers. So a chunk that does not change is among the changed ones exactly if it is among the chunks, the rules that depend on
-- letters still hold, and M2 to M9 hold for the changed module. If one chunk changes, the bytes and the length of the module follow from
-- that chunk.
use Prim.Native.Nat.{ℕ, ◌+◌, ◌≤◌}
use mathlib.Core.Path.{◌≡◌, refl, sym, ap, subst, ◌∙◌}
use mathlib.Core.List.{List, [], ◌∷◌, ◌++◌, map, append_assoc, append-nil}
use mathlib.Core.Bool.{Bool, false}
use native.Mathlib.Omega.{arith}
use lib.ListN.{length, take, drop, length-append}
use lib.Seq.{take_at, drop_at}
use lib.Dec.{eqb}
use borrow.Author.Tests.{ne_eqb}
use Rattle.vocabulary.specs.Lists.{joined, Every, none, also}
use Rattle.vocabulary.specs.Letters.{info_letters}
use Rattle.vocabulary.proofs.EveryOne.{every_append, every_rest, every_of}
use Rattle.vocabulary.proofs.MappedLists.{map-append, map-itself, map-split, every_map}
use Rattle.vocabulary.proofs.Splits.{Within, within-every, within-mapped, mapped-within, no-two-mapped}
use Rattle.vocabulary.proofs.JoinedLists.{joined-append}
use Rattle.numbers.specs.Numbers.{Bytes, number32, part_of}
use Rattle.numbers.proofs.AllBytes.{bytes-append, bytes-front, bytes_after, bytes-joined}
use Rattle.layout.specs.Chunks.{name_identifier, info_identifier, ChunkHeader, chunks, complete as all_whole}
use Rattle.layout.specs.declared.ChunkSpan.{ChunkSpan}
use Rattle.blocks.specs.Filling.{data_end}
use Rattle.acceptance.specs.Rules.{IsChunk, Among, AtMostOnce, Covered, AfterInfo, InfoRules, ChunkRules}
use Rattle.acceptance.proofs.Spans.{Found}
use Rattle.acceptance.proofs.Locating.{PartAt}
use Rattle.acceptance.proofs.Cutting.{part-first, part-rest}
use Rattle.acceptance.proofs.Identifiers.{identifier_of, chunk-named}
use Rattle.acceptance.proofs.Recorded.{recorded, records_from, among-after, among-front, every-among, among-within, within-among, There}
use Rattle.acceptance.proofs.Chunking.{read_whole}
use Rattle.acceptance.proofs.Turns.{fits-turn}
use Rattle.acceptance.proofs.ChunkHalf.{bytes-split, chunks-part, not-before}

-- A change of chunks: it keeps the letters of a whole chunk, returns a whole chunk (M5), and changes only chunks with certain identifiers.
pub record Change (changes : ℕ → Bool) (f : List ℕ → List ℕ) : Type 0 where
  pub letters : (chunk : List ℕ) → IsChunk chunk → take 4 (f chunk) ≡ take 4 chunk
  pub whole : (chunk : List ℕ) → IsChunk chunk → IsChunk (f chunk)
  pub stays : (chunk : List ℕ) → IsChunk chunk → changes (number32 chunk 0) ≡ false → f chunk ≡ chunk

module _ {changes : ℕ → Bool} {f : List ℕ → List ℕ} (change : Change changes f) {all : List (List ℕ)} (whole : Every IsChunk all) where
  pub whole-changed : Every IsChunk (map f all)
  whole-changed = (every_map f all).1 (every_of change.whole whole)

  -- A changed chunk has the letters of the chunk before the change.
  letters-were : {letters : List ℕ} (one : List ℕ) → Within all one → take 4 (f one) ≡ letters → take 4 one ≡ letters
  letters-were one w named = sym (change.letters one (within-every whole w)) ∙ named

  -- The changed chunk with these letters is the change of the chunk with these letters.
  pub among-changed : {letters chunk : List ℕ} → Among all letters chunk → Among (map f all) letters (f chunk)
  among-changed {chunk = chunk} a = within-among (within-mapped f (among-within a)) (change.letters chunk (every-among whole a) ∙ a.named)

  pub changed-among : {letters chunk : List ℕ} → Among (map f all) letters chunk → (one : List ℕ) × Among all letters one × (chunk ≡ f one)
  changed-among a =
      let (one, within, same) = mapped-within f (among-within a) in
      (one, within-among within (letters-were one within (ap (take 4) (sym same) ∙ a.named)), same)

  -- A chunk that does not change is among the changed ones exactly if it is among the chunks.
  module _ {letters : List ℕ} (covers : Covered letters) (left : changes (identifier_of covers) ≡ false) where
    pub stays-as : {chunk : List ℕ} → Among all letters chunk → f chunk ≡ chunk
    stays-as {chunk} a = let c = every-among whole a in change.stays chunk c (ap changes ((chunk-named c covers).1 a.named) ∙ left)

    pub among-left : {chunk : List ℕ} → Among all letters chunk → Among (map f all) letters chunk
    among-left a = subst (λ (c : List ℕ). Among (map f all) letters c) (stays-as a) (among-changed a)

    pub left-among : {chunk : List ℕ} → Among (map f all) letters chunk → Among all letters chunk
    left-among a =
        let (one, there, same) = changed-among a in
        subst (λ (c : List ℕ). Among all letters c) (sym (same ∙ stays-as there)) there

  -- M6 still holds.
  once-changed : {letters : List ℕ} → AtMostOnce all letters → AtMostOnce (map f all) letters
  once-changed {letters} once = no-two-mapped f (λ (chunk : List ℕ). take 4 chunk ≡ letters) letters-were once

-- M7 still holds.
module _ {changes : ℕ → Bool} {f : List ℕ → List ℕ} (change : Change changes f) {all : List (List ℕ)} (whole : Every IsChunk all) where
  after-changed : {letters : List ℕ} → AfterInfo all letters → AfterInfo (map f all) letters
  after-changed following before after chunk e named =
      let s = map-split f all before after chunk e in
      let one : Within all s.one = record { before = s.front; after = s.back; splits = s.splits } in
      let first = ((every_append s.front (s.one ∷ s.back)).0 (rw s.splits at whole)).0 in
      let letters = letters-were change whole s.one one (ap (take 4) (sym s.one_is) ∙ named) in
      let (info, there) = following s.front s.back s.one s.splits letters in
      (f info, subst (λ (l : List (List ℕ)). Among l info_letters (f info)) (sym s.front_is) (among-changed change first there))

module _ {m header : List ℕ} {all : List (List ℕ)} (rules : ChunkRules m header all) {changes : ℕ → Bool} {f : List ℕ → List ℕ}
    (change : Change changes f) where
  -- M9 still holds if INFO does not change.
  pub info-left : changes info_identifier ≡ false → (info : List ℕ) → Among all info_letters info → InfoRules (f info)
  info-left left info a = subst InfoRules (sym (stays-as change rules.whole Covered.info left a)) (rules.info info a)

  -- M2 to M9 hold for the changed module, if it is short enough, NAME does not change and the changed INFO satisfies M9.
  module _ {n : List ℕ} (bytes : n ≡ header ++ joined (map f all)) (limit : length n ≤ 16777216) where
    pub rules-changed : changes name_identifier ≡ false → ((info : List ℕ) → Among all info_letters info → InfoRules (f info)) → ChunkRules n header (map f all)
    rules-changed name info = record {
      bytes = bytes;
      limit = limit;
      header_size = rules.header_size;
      begins = rules.begins;
      version = rules.version;
      revision = rules.revision;
      whole = whole-changed change rules.whole;
      once = λ letters covers. once-changed change rules.whole (rules.once letters covers);
      after_info = λ letters needs. after-changed change rules.whole (rules.after_info letters needs);
      name = λ chunk a. rules.name chunk (left-among change rules.whole Covered.name name a);
      info = λ chunk a. let (one, there, same) = changed-among change rules.whole a in subst InfoRules (sym same) (info one there);
    }

-- The changed module consists of bytes if each changed chunk does.
module _ (f : List ℕ → List ℕ) (each : (chunk : List ℕ) → Bytes chunk → Bytes (f chunk)) (header : List ℕ) (all : List (List ℕ)) where
  pub bytes-changed : Bytes (header ++ joined all) → Bytes (header ++ joined (map f all))
  bytes-changed below =
      let old : Every Bytes all = (bytes-joined all).1 (bytes_after header (joined all) below) in
      bytes-append header (joined (map f all)) (bytes-front header (joined all) below) ((bytes-joined (map f all)).0 ((every_map f all).1 (every_of each old)))

-- Two changes that agree on all chunks except those with one identifier.
abbrev pub SameBut : ℕ → (List ℕ → List ℕ) → (List ℕ → List ℕ) → Type 0
SameBut identifier f g = (chunk : List ℕ) → IsChunk chunk → eqb (number32 chunk 0) identifier ≡ false → f chunk ≡ g chunk

module _ (first last : List (List ℕ)) (part : List ℕ) {list : List (List ℕ)} (e : list ≡ first ++ (part ∷ last)) where
  pub joined_length : length (joined list) ≡ length (joined first) + (length part + length (joined last))
  joined_length =
      let rest = length-append part (joined last) in
      rw (e, joined-append first (part ∷ last)) (omega (arith, length-append (joined first) (part ++ joined last), rest))

module _ {letters : List ℕ} (covers : Covered letters) {f g : List ℕ → List ℕ} (agree : SameBut (identifier_of covers) f g) where
  pub others_same : {chunks : List (List ℕ)} → Every IsChunk chunks → (There chunks letters → ⊥) → map f chunks ≡ map g chunks
  others_same none absent = refl
  others_same (also {x = chunk} {xs = chunks} c e) absent =
      let first = agree chunk c (ne_eqb _ _ (λ same. absent (chunk, among-front chunk chunks ((chunk-named c covers).0 same)))) in
      let rest = others_same e (λ there. absent (there.0, among-after chunk there.1)) in
      λ i. first i ∷ rest i

  module _ {m header : List ℕ} {all : List (List ℕ)} (rules : ChunkRules m header all) {chunk : List ℕ} (a : Among all letters chunk) where
    not_after : There a.after letters → ⊥
    not_after (other, b) =
        rules.once letters covers a.before b.before b.after chunk other (a.splits ∙ rw b.splits refl) a.named b.named

    pub split-changed : map f all ≡ map g a.before ++ (f chunk ∷ map g a.after)
    split-changed =
        let parts = (every_append a.before (chunk ∷ a.after)).0 (rw a.splits at rules.whole) in
        ap (map f) a.splits
        ∙ map-append f a.before (chunk ∷ a.after)
        ∙ rw (others_same parts.0 (not-before rules a covers), others_same (every_rest parts.1) not_after)

    pub changed-length : length (joined (map f all)) + length (g chunk) ≡ length (joined (map g all)) + length (f chunk)
    changed-length =
        let first : List (List ℕ) = map g a.before in
        let last : List (List ℕ) = map g a.after in
        let here = joined_length first last (f chunk) split-changed in
        let there = joined_length first last (g chunk) (ap (map g) a.splits ∙ map-append g a.before (chunk ∷ a.after)) in
        omega (arith, here, there)

-- Only one chunk changes.
module _ {letters : List ℕ} (covers : Covered letters) {f : List ℕ → List ℕ} (alone : SameBut (identifier_of covers) f (λ chunk. chunk)) where
  module _ {m header : List ℕ} {all : List (List ℕ)} (rules : ChunkRules m header all) {chunk : List ℕ} (a : Among all letters chunk) where
    pub split-alone : map f all ≡ a.before ++ (f chunk ∷ a.after)
    split-alone = split-changed covers alone rules a ∙ rw (map-itself a.before, map-itself a.after) refl

    pub alone-length : length (header ++ joined (map f all)) + length chunk ≡ length m + length (f chunk)
    alone-length =
        let grown = changed-length covers alone rules a in
        let same = ap (λ (l : List (List ℕ)). length (joined l)) (map-itself all) in
        omega (arith, grown, same, ap length rules.bytes, length-append header (joined all), length-append header (joined (map f all)))

    -- The changed module, by the span of the chunk.
    pub alone_at : (span : ChunkSpan) → Found m all letters span → header ++ joined (map f all) ≡ take span.at m ++ (f chunk ++ drop (data_end span) m)
    alone_at span found =
        let before : List ℕ = header ++ joined a.before in
        let after : List ℕ = joined a.after in
        let long : length before ≡ span.at = omega (arith, length-append header (joined a.before), rules.header_size, found.begins chunk a) in
        let end : length (before ++ chunk) ≡ data_end span = omega (arith, long, length-append before chunk, (found.holds chunk a).size) in
        let split : m ≡ before ++ (chunk ++ after) = bytes-split rules a in
        let front : take span.at m ≡ before = ap (take span.at) split ∙ take_at before (chunk ++ after) span.at long in
        let parts : m ≡ (before ++ chunk) ++ after = split ∙ sym (append_assoc before chunk after) in
        let rest : drop (data_end span) m ≡ after = ap (drop (data_end span)) parts ∙ drop_at (before ++ chunk) after (data_end span) end in
        rw (split-alone, joined-append a.before (f chunk ∷ a.after), front, rest) (simp append_assoc)

-- Chunks as the check reads them: what is made from each recorded header is the change of the chunk that begins at its place.
abbrev pub Reads : List ℕ → (ChunkHeader → List ℕ) → (List ℕ → List ℕ) → Type 0
Reads m made f = (at : ℕ) (chunk : List ℕ) → PartAt m at chunk → IsChunk chunk → made (recorded at chunk) ≡ f chunk

module _ {m : List ℕ} (made : ChunkHeader → List ℕ) (f : List ℕ → List ℕ) (reads : Reads m made f) where
  records-changed : (at : ℕ) (all : List (List ℕ)) → PartAt m at (joined all) → Every IsChunk all → map made (records_from at all) ≡ map f all
  records-changed at [] p none = refl
  records-changed at (chunk ∷ all) p (also c e) =
      let first = reads at chunk (part-first chunk (joined all) p) c in
      let rest = records-changed (at + length chunk) all (part-rest chunk (joined all) p) e in
      λ i. first i ∷ rest i

module _ {m header : List ℕ} {all : List (List ℕ)} (rules : ChunkRules m header all) where
  pub chunks-read : chunks m ≡ all_whole (records_from 8 all)
  chunks-read = read_whole m header all rules.header_size rules.bytes (fits-turn (chunks-part rules))

  module _ (made : ChunkHeader → List ℕ) (f : List ℕ → List ℕ) (reads : Reads m made f) where
    pub module-changed : part_of m 0 8 ++ joined (map made (records_from 8 all)) ≡ header ++ joined (map f all)
    module-changed =
        let front : part_of m 0 8 ≡ header = ap (take 8) rules.bytes ∙ take_at header (joined all) 8 rules.header_size in
        let following : PartAt m 8 (joined all) = record { before = header; after = []; bytes = rules.bytes ∙ simp append-nil; starts = rules.header_size } in
        rw (front, records-changed made f reads 8 all following rules.whole) refl
