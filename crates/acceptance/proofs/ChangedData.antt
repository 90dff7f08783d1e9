-- Chunks that get other data: the chunk with an identifier becomes its letters, the length of the new data and the new data. The other
-- chunks are changed in another way or not at all. This is a change of chunks.
use Prim.Native.Nat.{ℕ, ◌+◌, ◌<◌}
use mathlib.Core.Path.{◌≡◌, refl, sym, ap, ◌∙◌}
use mathlib.Core.List.{List, ◌++◌, map, append_assoc}
use mathlib.Core.Bool.{Bool, true, false, cond, ◌||◌}
use native.Mathlib.Omega.{arith}
use lib.ListN.{length, take, drop, length-append}
use lib.Seq.{take_at, length-take-le}
use lib.Dec.{eqb}
use borrow.Author.Tests.{eq-eqb}
use Rattle.vocabulary.specs.Lists.{joined}
use Rattle.numbers.specs.Numbers.{Bytes, number32, part_of, bytes32}
use Rattle.numbers.proofs.AllBytes.{bytes-append, bytes_take, bytes32-bytes}
use Rattle.layout.specs.declared.ChunkSpan.{ChunkSpan}
use Rattle.blocks.specs.Filling.{data_end}
use Rattle.acceptance.specs.Rules.{IsChunk, Among, Covered, ChunkRules, Filled}
use Rattle.acceptance.proofs.Spans.{Found}
use Rattle.acceptance.proofs.Locating.{byte_at-front, byte_at-take, PartAt, part-is, bytes32-number}
use Rattle.acceptance.proofs.Cutting.{part-front, front-taken}
use Rattle.acceptance.proofs.Identifiers.{identifier_of, chunk-named, letters-number}
use Rattle.acceptance.proofs.Recorded.{every-among}
use Rattle.acceptance.proofs.ChunkHalf.{span-part}
use Rattle.acceptance.proofs.ChangedChunks.{Change, SameBut, alone_at}

-- A chunk with the given data (M5).
abbrev pub with_data : List ℕ → List ℕ → List ℕ
with_data content chunk = take 4 chunk ++ (bytes32 (length content) ++ content)

-- The chunk with an identifier gets the given data, and the other chunks are changed by `others`.
abbrev pub data_changed : ℕ → List ℕ → (List ℕ → List ℕ) → List ℕ → List ℕ
data_changed identifier content others chunk = cond (eqb (number32 chunk 0) identifier) (with_data content chunk) (others chunk)

-- The change that leaves every chunk unchanged.
pub no_change : Change (λ n. false) (λ chunk. chunk)
no_change = record { letters = λ chunk c. refl; whole = λ chunk c. c; stays = λ chunk c e. refl }

module _ (content chunk : List ℕ) (c : IsChunk chunk) where
  four : length (take 4 chunk) ≡ 4
  four = length-take-le 4 chunk (omega (arith, c.size))

  pub data-letters : take 4 (with_data content chunk) ≡ take 4 chunk
  data-letters = take_at (take 4 chunk) (bytes32 (length content) ++ content) 4 four

  pub data-size : length (with_data content chunk) ≡ 8 + length content
  data-size = omega (arith, length-append (take 4 chunk) (bytes32 (length content) ++ content), four)

  pub data-whole : IsChunk (with_data content chunk)
  data-whole = record {
    size = omega (arith, data-size, ap (number32 (with_data content chunk)) (sym four) ∙ bytes32-number (length content) (take 4 chunk) content);
    letters = λ i h. rw (byte_at-front (take 4 chunk) (bytes32 (length content) ++ content) i (omega (arith, four)), byte_at-take 4 chunk i h) (c.letters i h);
  }

-- If the data of a chunk are blocks, the blocks fill the chunk (B1).
pub data-filled : (blocks : List (List ℕ)) (chunk : List ℕ) → IsChunk chunk → Filled 8 (with_data (joined blocks) chunk) (length blocks) blocks
data-filled blocks chunk c =
    let content : List ℕ = joined blocks in
    let front : List ℕ = take 4 chunk ++ bytes32 (length content) in
    let parts : with_data content chunk ≡ front ++ content = sym (append_assoc (take 4 chunk) (bytes32 (length content)) content) in
    let eight : length front ≡ 8 = omega (arith, length-append (take 4 chunk) (bytes32 (length content)), four content chunk c) in
    let fronts : take 8 (with_data content chunk) ≡ front = ap (take 8) parts ∙ take_at front content 8 eight in
    record { fronts = omega (arith, data-size content chunk c); bytes = parts ∙ ap (λ (l : List ℕ). l ++ content) (sym fronts); number = refl }

module _ (identifier : ℕ) (content : List ℕ) (others : List ℕ → List ℕ) where
  abbrev changed : List ℕ → List ℕ
  changed = data_changed identifier content others

  abbrev changed_if : Bool → List ℕ → List ℕ
  changed_if b chunk = cond b (with_data content chunk) (others chunk)

  -- What holds for a chunk with the new data, and for a chunk changed by `others`, holds for the changed chunk.
  by-identifier : (P : List ℕ → Type 0) (chunk : List ℕ) → P (with_data content chunk) → P (others chunk) → P (changed chunk)
  by-identifier P chunk new other = go (eqb (number32 chunk 0) identifier)
    where
      go : (b : Bool) → P (changed_if b chunk)
      go true = new
      go false = other

  module _ {changes : ℕ → Bool} (change : Change changes others) where
    pub data-change : Change (λ n. eqb n identifier || changes n) changed
    data-change = record {
      letters = λ chunk c. by-identifier (λ new. take 4 new ≡ take 4 chunk) chunk (data-letters content chunk c) (change.letters chunk c);
      whole = λ chunk c. by-identifier IsChunk chunk (data-whole content chunk c) (change.whole chunk c);
      stays = λ chunk c e. go chunk c (eqb (number32 chunk 0) identifier) e;
    }
      where
        go : (chunk : List ℕ) → IsChunk chunk → (b : Bool) → b || changes (number32 chunk 0) ≡ false → changed_if b chunk ≡ chunk
        go chunk c true e = let z : ◌≡◌ {A = ℕ} 0 1 = cc in absurd (omega arith)
        go chunk c false e = change.stays chunk c e

    -- Applying the change twice is the same as once, if that is so for the other chunks.
    pub data-twice : (chunk : List ℕ) → IsChunk chunk → others (others chunk) ≡ others chunk → changed (changed chunk) ≡ changed chunk
    data-twice chunk c again = go (eqb (number32 chunk 0) identifier) refl
      where
        same_number : (new : List ℕ) → take 4 new ≡ take 4 chunk → number32 new 0 ≡ number32 chunk 0
        same_number new same = letters-number new (take 4 chunk) same ∙ sym (letters-number chunk (take 4 chunk) refl)

        go : (b : Bool) → eqb (number32 chunk 0) identifier ≡ b → changed (changed_if b chunk) ≡ changed_if b chunk
        go true e =
            let letters = data-letters content chunk c in
            rw (same_number (with_data content chunk) letters, e) (ap (λ (front : List ℕ). front ++ (bytes32 (length content) ++ content)) letters)
        go false e = rw (same_number (others chunk) (change.letters chunk c), e) again

  -- The changed chunk consists of bytes.
  module _ (short : length content < 0x100000000) (below : Bytes content) (each : (chunk : List ℕ) → Bytes chunk → Bytes (others chunk)) where
    pub data-bytes : (chunk : List ℕ) → Bytes chunk → Bytes (changed chunk)
    data-bytes chunk b =
        let new : Bytes (bytes32 (length content) ++ content) = bytes-append (bytes32 (length content)) content (bytes32-bytes (length content) short) below in
        by-identifier Bytes chunk (bytes-append (take 4 chunk) (bytes32 (length content) ++ content) (bytes_take 4 chunk b) new) (each chunk b)

  -- Except for the chunk with the new data it is the other change.
  pub data-same-but : SameBut identifier changed others
  data-same-but chunk c e = ap (λ (b : Bool). changed_if b chunk) e

-- The chunk with covered letters has the new data.
module _ {letters : List ℕ} (covers : Covered letters) (content : List ℕ) (others : List ℕ → List ℕ) where
  abbrev given : List ℕ → List ℕ
  given = data_changed (identifier_of covers) content others

  pub data-there : {chunk : List ℕ} → IsChunk chunk → take 4 chunk ≡ letters → given chunk ≡ with_data content chunk
  data-there {chunk} c named =
      let is = eq-eqb (number32 chunk 0) (identifier_of covers) ((chunk-named c covers).1 named) in
      ap (λ (b : Bool). cond b (with_data content chunk) (others chunk)) is

-- A chunk by its place, with the new data and unchanged.
module _ {m chunk : List ℕ} {at : ℕ} (p : PartAt m at chunk) (c : IsChunk chunk) where
  pub data-read : (content : List ℕ) → part_of m at 4 ++ (bytes32 (length content) ++ content) ≡ with_data content chunk
  data-read content = ap (λ (front : List ℕ). front ++ (bytes32 (length content) ++ content)) (part-front p 4 (omega (arith, c.size)))

  pub chunk_read : part_of m at (8 + number32 chunk 4) ≡ chunk
  chunk_read = ap (part_of m at) (sym c.size) ∙ part-is p

-- The module with other data in one chunk, by the span of the chunk.
module _ {letters : List ℕ} (covers : Covered letters) (content : List ℕ) where
  abbrev alone : List ℕ → List ℕ
  alone = data_changed (identifier_of covers) content (λ chunk. chunk)

  -- The same, appended from the module's bytes before the chunk's length, the new length and data, and the bytes after the chunk.
  abbrev spliced : List ℕ → ChunkSpan → List ℕ
  spliced m span = take (span.at + 4) m ++ (bytes32 (length content) ++ (content ++ drop (data_end span) m))

  module _ {m header : List ℕ} {all : List (List ℕ)} (rules : ChunkRules m header all) {chunk : List ℕ} (a : Among all letters chunk) where
    pub data-at : (span : ChunkSpan) → Found m all letters span → header ++ joined (map alone all) ≡ spliced m span
    data-at span found =
        let c = every-among rules.whole a in
        let front = front-taken (span-part (found.holds chunk a)) 4 (omega (arith, c.size)) in
        alone_at covers (data-same-but (identifier_of covers) content (λ one. one)) rules a span found
        ∙ rw (data-there covers content (λ one. one) c a.named, front) (simp append_assoc)
