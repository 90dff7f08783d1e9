-- The headers that the check records for chunks one after the other from a place on. It finds a chunk among them exactly if a chunk with
-- those letters is among the chunks.
use Prim.Native.Nat.{ℕ, ◌+◌}
use mathlib.Core.Path.{◌≡◌, refl, ap}
use mathlib.Core.Logic.{◌↔◌}
use mathlib.Core.List.{List, [], ◌∷◌, ◌++◌}
use mathlib.Core.Bool.{Bool, true, false, or-true}
use native.Mathlib.Omega.{arith}
use native.Mathlib.Nat.{add_assoc, add-zero}
use lib.ListN.{length, take, length-append}
use lib.Dec.{eqb}
use borrow.Author.Tests.{eqb-true, eq-eqb, ne_eqb}
use Rattle.vocabulary.specs.Lists.{joined, Every, none, also}
use Rattle.vocabulary.proofs.EveryOne.{every_append, every_first}
use Rattle.vocabulary.proofs.Splits.{Within}
use Rattle.numbers.specs.Numbers.{number32}
use Rattle.layout.specs.Chunks.{ChunkHeader, occurs}
use Rattle.layout.specs.Outlines.{header_span, span_of}
use Rattle.acceptance.specs.Rules.{IsChunk, Among, Covered}
use Rattle.acceptance.proofs.Identifiers.{identifier_of, chunk-named}

-- The header that the check records for a chunk at a place, and those for chunks one after the other.
abbrev pub recorded : ℕ → List ℕ → ChunkHeader
recorded at chunk = record { identifier = number32 chunk 0; at = at; length = number32 chunk 4 }

abbrev pub records_from : ℕ → List (List ℕ) → List ChunkHeader
records_from at [] = []
records_from at (chunk ∷ chunks) = recorded at chunk ∷ records_from (at + length chunk) chunks

pub records-append : (at : ℕ) (xs ys : List (List ℕ)) → records_from at (xs ++ ys) ≡ records_from at xs ++ records_from (at + length (joined xs)) ys
records-append at [] ys = rw add-zero
records-append at (x ∷ xs) ys = rw (records-append (at + length x) xs ys, length-append) (simp add_assoc)

-- A chunk of a longer list.
pub among-after : {chunks : List (List ℕ)} {letters chunk : List ℕ} (first : List ℕ) → Among chunks letters chunk → Among (first ∷ chunks) letters chunk
among-after first a = record { before = first ∷ a.before; after = a.after; splits = ap (λ (l : List (List ℕ)). first ∷ l) a.splits; named = a.named }

pub among-front : {letters : List ℕ} (chunk : List ℕ) (chunks : List (List ℕ)) → take 4 chunk ≡ letters → Among (chunk ∷ chunks) letters chunk
among-front chunk chunks e = record { before = []; after = chunks; splits = refl; named = e }

pub every-among : {chunks : List (List ℕ)} {letters chunk : List ℕ} → Every IsChunk chunks → Among chunks letters chunk → IsChunk chunk
every-among {chunk = chunk} every a = every_first ((every_append a.before (chunk ∷ a.after)).0 (rw a.splits at every)).1

-- A chunk that is among the chunks is an element of their list.
pub among-within : {chunks : List (List ℕ)} {letters chunk : List ℕ} → Among chunks letters chunk → Within chunks chunk
among-within a = record { before = a.before; after = a.after; splits = a.splits }

pub within-among : {chunks : List (List ℕ)} {letters chunk : List ℕ} → Within chunks chunk → take 4 chunk ≡ letters → Among chunks letters chunk
within-among w named = record { before = w.before; after = w.after; splits = w.splits; named = named }

-- There is a chunk with these letters among the chunks.
abbrev pub There : List (List ℕ) → List ℕ → Type 0
There chunks letters = (chunk : List ℕ) × Among chunks letters chunk

module _ {letters : List ℕ} (covers : Covered letters) where
  occurs-there : (at : ℕ) {chunks : List (List ℕ)} → Every IsChunk chunks
      → occurs (identifier_of covers) (records_from at chunks) ≡ true
      → There chunks letters
  occurs-there at none h = let z : ◌≡◌ {A = ℕ} 0 1 = cc in absurd (omega arith)
  occurs-there at (also {x = chunk} {xs = chunks} c every) h = go (eqb (number32 chunk 0) (identifier_of covers)) refl (occurs-there (at + length chunk) every)
    where
      go : (b : Bool) → eqb (number32 chunk 0) (identifier_of covers) ≡ b
          → (occurs (identifier_of covers) (records_from (at + length chunk) chunks) ≡ true → There chunks letters)
          → There (chunk ∷ chunks) letters
      go true e ih = (chunk, among-front chunk chunks ((chunk-named c covers).0 (eqb-true _ _ e)))
      go false e ih = let further = ih (rw e at h) in (further.0, among-after chunk further.1)

  occurs-after : (at : ℕ) (before after : List (List ℕ)) (chunk : List ℕ) → number32 chunk 0 ≡ identifier_of covers
      → occurs (identifier_of covers) (records_from at (before ++ (chunk ∷ after))) ≡ true
  occurs-after at [] after chunk e = rw (eq-eqb _ _ e)
  occurs-after at (first ∷ before) after chunk e =
      rw (occurs-after (at + length first) before after chunk e) (or-true (eqb (number32 first 0) (identifier_of covers)))

  pub occurs-says : (at : ℕ) {chunks : List (List ℕ)} → Every IsChunk chunks
      → (occurs (identifier_of covers) (records_from at chunks) ≡ true) ↔ There chunks letters
  occurs-says at every = (
    occurs-there at every,
    λ (chunk, a). rw a.splits (occurs-after at a.before a.after chunk ((chunk-named (every-among every a) covers).1 a.named)),
  )

  -- The span that the check finds is that of the first chunk with these letters.
  pub span-of-first : (at : ℕ) {before : List (List ℕ)} (chunk : List ℕ) (after : List (List ℕ)) → Every IsChunk before
      → number32 chunk 0 ≡ identifier_of covers → (There before letters → ⊥)
      → span_of (identifier_of covers) (records_from at (before ++ (chunk ∷ after))) ≡ header_span (recorded (at + length (joined before)) chunk)
  span-of-first at chunk after none e not-before = rw (eq-eqb _ _ e, add-zero)
  span-of-first at chunk after (also {x = first} {xs = before} c every) e not-before =
      let other : eqb (number32 first 0) (identifier_of covers) ≡ false =
      ne_eqb _ _ (λ same. not-before (first, among-front first before ((chunk-named c covers).0 same))) in
      let ih = span-of-first (at + length first) chunk after every e (λ there. not-before (there.0, among-after first there.1)) in
      rw (other, ih, length-append) (simp add_assoc)

-- The span of a chunk is present exactly if the chunk occurs.
pub present-occurs : (n : ℕ) (records : List ChunkHeader) → (span_of n records).present ≡ occurs n records
present-occurs n [] = refl
present-occurs n (c ∷ records) = go (eqb c.identifier n) refl (present-occurs n records)
  where
    go : (b : Bool) → eqb c.identifier n ≡ b → (span_of n records).present ≡ occurs n records → (span_of n (c ∷ records)).present ≡ occurs n (c ∷ records)
    go true e ih = rw e
    go false e ih = rw e ih
