-- Chunks decoded: the blocks of a chunk, each read as a description and encoded again, are the chunk's data; and a chunk is its letters,
-- its length and its data.
use Prim.Native.Nat.{ℕ}
use mathlib.Core.Path.{◌≡◌, refl, sym, ap, subst, ◌∙◌}
use mathlib.Core.List.{List, ◌++◌, map}
use native.Mathlib.Omega.{arith}
use lib.ListN.{length, take, drop, length-drop, length-map, take-append-drop}
use lib.Seq.{length-take-le, drop_at}
use Rattle.vocabulary.specs.Lists.{joined, Every, none, also}
use Rattle.vocabulary.proofs.EveryOne.{every_of, every-both}
use Rattle.vocabulary.proofs.MappedLists.{every_map}
use Rattle.cells.specs.Cells.{groups_of}
use Rattle.numbers.specs.Numbers.{Bytes, number16, number32, bytes16, bytes32}
use Rattle.numbers.proofs.AllBytes.{bytes_drop, bytes-joined}
use Rattle.packed_rows.proofs.Shapes.{none as no_block, one as one_block, Blocks, blocks-joined}
use Rattle.acceptance.specs.Rules.{IsChunk, Filled, EnvelopeRules, EnvelopesRules}
use Rattle.format.specs.Description.{sixteen, thirty_two, Envelope}
use Rattle.format.specs.Encoding.{envelope_bytes, envelopes_bytes}
use Rattle.format.specs.WellFormed.{EnvelopeFits, EnvelopesFit, Fits32}
use Rattle.format.proofs.DescribedBlocks.{number-then, number_fits, envelope_in, envelope-again, envelope-fits}

-- Each element decoded and encoded again.
pub map-again : {A B : Type 0} (f : A → B) (g : B → A) {xs : List A} → Every (λ x. g (f x) ≡ x) xs → map g (map f xs) ≡ xs
map-again f g none = refl
map-again f g (also p e) = rw (p, map-again f g e)

-- The data of a chunk after its front.
module _ {front : ℕ} {chunk : List ℕ} {count : ℕ} {blocks : List (List ℕ)} (filled : Filled front chunk count blocks) where
  pub after_front : joined blocks ≡ drop front chunk
  after_front = sym (ap (drop front) filled.bytes ∙ drop_at (take front chunk) (joined blocks) front (length-take-le front chunk filled.fronts))

  pub blocks-bytes : Bytes chunk → Every Bytes blocks
  blocks-bytes bytes = (bytes-joined blocks).1 (subst Bytes (sym after_front) (bytes_drop front chunk bytes))

-- Blocks of one kind, each read by a function: encoded again they are the blocks, and what is read is well formed.
module _ {A : Type 0} (read : List ℕ → A) {R : List ℕ → Type 0} {blocks : List (List ℕ)} (bytes : Every Bytes blocks) (rules : Every R blocks) where
  pub all-again : (encode : A → List ℕ) → ((block : List ℕ) → Bytes block → R block → encode (read block) ≡ block) → map encode (map read blocks) ≡ blocks
  all-again encode again = map-again read encode (every_of (λ block h. again block h.0 h.1) (every-both bytes rules))

  pub all_fit : {Fits : A → Type 0} → ((block : List ℕ) → Bytes block → R block → Fits (read block)) → Every Fits (map read blocks)
  all_fit fits = (every_map read blocks).1 (every_of (λ block h. fits block h.0 h.1) (every-both bytes rules))

-- B6: the envelopes of a chunk.
abbrev pub envelopes_in : List ℕ → List Envelope
envelopes_in chunk = map envelope_in (groups_of (number16 chunk 8) 136 (drop 10 chunk))

every-sized : {size : ℕ} {P : List ℕ → Type 0} → ((block : List ℕ) → P block → length block ≡ size) → {blocks : List (List ℕ)}
    → Every P blocks
    → Blocks (length blocks) size blocks
every-sized h none = no_block
every-sized h (also {x = block} p e) = one_block (h block p) (every-sized h e)

module _ (instruments : ℕ) (ValueFits : ℕ → Type 0) (chunk : List ℕ) (bytes : Bytes chunk) (r : EnvelopesRules instruments ValueFits chunk) where
  envelope-blocks : groups_of (number16 chunk 8) 136 (drop 10 chunk) ≡ r.envelopes
  envelope-blocks =
      let blocks = every-sized (λ block (e : EnvelopeRules instruments ValueFits block). e.size) r.rules in
      rw (← after_front r.filled, ← r.filled.number) (blocks-joined 136 blocks)

  envelopes-are : envelopes_in chunk ≡ map envelope_in r.envelopes
  envelopes-are = ap (map envelope_in) envelope-blocks

  count-is : length (envelopes_in chunk) ≡ number16 chunk 8
  count-is = ap length envelopes-are ∙ length-map r.envelopes envelope_in ∙ r.filled.number

  below : Every Bytes r.envelopes
  below = blocks-bytes r.filled bytes

  rest-again : joined (map envelope_bytes (envelopes_in chunk)) ≡ drop 10 chunk
  rest-again =
      ap (λ (es : List Envelope). joined (map envelope_bytes es)) envelopes-are
      ∙ ap joined (all-again envelope_in below r.rules envelope_bytes (envelope-again instruments ValueFits))
      ∙ after_front r.filled

  pub envelopes-again : envelopes_bytes (envelopes_in chunk) ≡ drop 8 chunk
  envelopes-again =
      ap (λ (n : ℕ). bytes16 n ++ joined (map envelope_bytes (envelopes_in chunk))) count-is ∙ number-then chunk bytes sixteen 8 r.filled.fronts rest-again

  pub envelopes-fit : EnvelopesFit instruments ValueFits (envelopes_in chunk)
  envelopes-fit = record {
    many = rw count-is (number_fits chunk bytes sixteen 8);
    each = subst (Every (EnvelopeFits instruments ValueFits)) (sym envelopes-are) (all_fit envelope_in below r.rules (envelope-fits instruments ValueFits));
  }

-- M5: a chunk is its letters, its length and its data.
module _ (chunk : List ℕ) (bytes : Bytes chunk) (c : IsChunk chunk) where
  data-length : length (drop 8 chunk) ≡ number32 chunk 4
  data-length = length-drop 8 chunk ∙ omega (arith, c.size)

  pub data-fits : {held : List ℕ} → held ≡ drop 8 chunk → Fits32 (length held)
  data-fits e = rw (e, data-length) (number_fits chunk bytes thirty_two 4)

  pub chunk-again : {letters held : List ℕ} → letters ≡ take 4 chunk → held ≡ drop 8 chunk → letters ++ (bytes32 (length held) ++ held) ≡ chunk
  chunk-again d e =
      rw (d, e, data-length)
      (ap (λ (rest : List ℕ). take 4 chunk ++ rest) (number-then chunk bytes thirty_two 4 (omega (arith, c.size)) refl) ∙ take-append-drop 4 chunk)
