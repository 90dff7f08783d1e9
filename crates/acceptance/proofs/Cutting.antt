-- Blocks one after the other. The reader finds the place of each block from the sizes of those before it; the rules cut the data into
-- blocks. Both are equivalent: if n sizes, read one after the other, end exactly at the end of the data, the data are n blocks of these
-- sizes, and each block is at its place. A size is read only in bytes that every block of the kind has.
use Prim.Native.Nat.{ℕ, zero, suc, ◌+◌, ◌≤◌, ◌<◌}
use mathlib.Core.Path.{◌≡◌, refl, sym, ap, ◌∙◌}
use mathlib.Core.List.{List, [], ◌∷◌, ◌++◌, map, append_assoc}
use native.Mathlib.Omega.{arith}
use lib.ListN.{length, get_or, take, drop, length-append, length-drop, take-append-drop}
use lib.Seq.{length-take-le, take_at, take-append-add, take-append-le}
use Rattle.vocabulary.specs.Lists.{joined, Every, none, also}
use Rattle.numbers.specs.Numbers.{part_of}
use Rattle.blocks.specs.Sizes.{size_of, places_from, place_after}
use Rattle.blocks.specs.declared.BlockKind.{BlockKind}
use Rattle.blocks.specs.declared.BlockKind.TheVariants.{Song, Instrument, Pattern, Sample, Envelope}
use Rattle.acceptance.proofs.Locating.{PartAt, number16-at, number32-at, number32-start, part-is}

-- The two parts of a part.
module _ {m : List ℕ} {at : ℕ} (first rest : List ℕ) (p : PartAt m at (first ++ rest)) where
  pub part-first : PartAt m at first
  part-first = record { before = p.before; after = rest ++ p.after; bytes = p.bytes ∙ simp append_assoc; starts = p.starts }

  pub part-rest : PartAt m (at + length first) rest
  part-rest = record { before = p.before ++ first; after = p.after; bytes = p.bytes ∙ simp append_assoc; starts = rw (length-append, p.starts) }

-- The front of a part, and the module up to the front's end.
module _ {m part : List ℕ} {at : ℕ} (p : PartAt m at part) (k : ℕ) (h : k ≤ length part) where
  pub part-front : part_of m at k ≡ take k part
  part-front =
      let front : PartAt m at (take k part) = part-first (take k part) (drop k part) (rw (take-append-drop k part) p) in
      ap (part_of m at) (sym (length-take-le k part h)) ∙ part-is front

  pub front-taken : take (at + k) m ≡ take at m ++ take k part
  front-taken =
      let rest : List ℕ = part ++ p.after in
      let before : take at m ≡ p.before = ap (take at) p.bytes ∙ take_at p.before rest at p.starts in
      ap (take (at + k)) p.bytes
      ∙ ap (λ (n : ℕ). take (n + k) (p.before ++ rest)) (sym p.starts)
      ∙ take-append-add p.before rest k
      ∙ ap (λ (l : List ℕ). p.before ++ l) (take-append-le k part p.after h)
      ∙ ap (λ (l : List ℕ). l ++ take k part) (sym before)

-- The number of bytes that every block of a kind has at least.
abbrev pub least : BlockKind → ℕ
least Song = 46
least Instrument = 50
least Pattern = 6
least Sample = 8
least Envelope = 136

pub size-least : (kind : BlockKind) (m : List ℕ) (at : ℕ) → least kind ≤ size_of kind m at
unfolding size_of
size-least Song m at = omega arith
size-least Instrument m at = omega arith
size-least Pattern m at = omega arith
size-least Sample m at = omega arith
size-least Envelope m at = omega arith

-- A block that is as long as its own bytes say.
abbrev pub Sized : BlockKind → List ℕ → Type 0
Sized kind block = length block ≡ size_of kind block 0

pub sized-least : (kind : BlockKind) (block : List ℕ) → Sized kind block → least kind ≤ length block
sized-least kind block s = rw s (size-least kind block 0)

-- The size that is read at the block's place is that read in the block.
pub size-in-part : (kind : BlockKind) {m block : List ℕ} {at : ℕ} → PartAt m at block → least kind ≤ length block → size_of kind m at ≡ size_of kind block 0
unfolding size_of
size-in-part Song p h = rw (number16-at p 44 (omega arith))
size-in-part Instrument p h = refl
size-in-part Pattern p h = rw (number32-at p 2 (omega arith))
size-in-part Sample p h = rw (number32-at p 4 (omega arith), number32-start p (omega arith))
size-in-part Envelope p h = refl

module _ (kind : BlockKind) {m : List ℕ} where
  pub part-size : {block : List ℕ} {at : ℕ} → PartAt m at block → Sized kind block → size_of kind m at ≡ length block
  part-size {block} p s = size-in-part kind p (sized-least kind block s) ∙ sym s

  pub part-sized : {block : List ℕ} {at : ℕ} → PartAt m at block → length block ≡ size_of kind m at → Sized kind block
  part-sized {block} {at} p e = e ∙ size-in-part kind p (rw e (size-least kind m at))

-- The place after n blocks is not before the first.
pub after-least : (size : ℕ → ℕ) (n at : ℕ) → at ≤ place_after size n at
after-least size zero at = omega arith
after-least size (suc n) at = omega (arith, after-least size n (at + size at))

-- Each block ends no later than the end of all blocks.
pub after_next : (size : ℕ → ℕ) (n i at : ℕ) → i < n → place_after size i at + size (place_after size i at) ≤ place_after size n at
after_next size zero i at h = absurd (omega arith)
after_next size (suc n) zero at h = after-least size n (at + size at)
after_next size (suc n) (suc i) at h = after_next size n i (at + size at) (omega arith)

-- There are as many places as blocks.
pub places_count : (size : ℕ → ℕ) (n at : ℕ) → length (places_from size n at) ≡ n
places_count size zero at = refl
places_count size (suc n) at = ap suc (places_count size n (at + size at))

-- Lists that are as long as the blocks, one for each block, end where the blocks end.
pub places-length : (f : ℕ → List ℕ) (size : ℕ → ℕ) (n at : ℕ) → Every (λ place. length (f place) ≡ size place) (places_from size n at)
    → at + length (joined (map f (places_from size n at))) ≡ place_after size n at
places-length f size zero at none = omega arith
places-length f size (suc n) at (also same each) =
    omega (arith, length-append (f at) (joined (map f (places_from size n (at + size at)))), same, places-length f size n (at + size at) each)

pub after_first : (size : ℕ → ℕ) (n at first : ℕ) → size at ≡ first → place_after size (suc n) at ≡ place_after size n (at + first)
after_first size n at first e = ap (λ (k : ℕ). place_after size n (at + k)) e

-- Data cut into n blocks.
pub record Cut (kind : BlockKind) (n : ℕ) (bytes : List ℕ) : Type 0 where
  pub blocks : List (List ℕ)
  pub number : length blocks ≡ n
  pub all : bytes ≡ joined blocks
  pub sized : Every (Sized kind) blocks

pub cut : (kind : BlockKind) (m : List ℕ) (n at : ℕ) (bytes : List ℕ) → PartAt m at bytes
    → place_after (size_of kind m) n at ≡ at + length bytes
    → Cut kind n bytes
cut kind m zero at [] p e = record { blocks = []; number = refl; all = refl; sized = none }
cut kind m zero at (x ∷ bytes) p e = absurd (omega arith)
cut kind m (suc n) at bytes p e =
    more (cut kind m n (at + length block) (drop size bytes) (part-rest block (drop size bytes) parts)
    (rw (block_size, length-drop) (e ∙ omega (arith, fits))))
  where
    size : ℕ
    size = size_of kind m at

    fits : size ≤ length bytes
    fits = omega (arith, after-least (size_of kind m) n (at + size), e)

    block : List ℕ
    block = take size bytes

    block_size : length block ≡ size
    block_size = length-take-le size bytes fits

    parts : PartAt m at (block ++ drop size bytes)
    parts = rw take-append-drop p

    more : Cut kind n (drop size bytes) → Cut kind (suc n) bytes
    more c = record {
      blocks = block ∷ c.blocks;
      number = ap suc c.number;
      all = sym (take-append-drop size bytes) ∙ ap (λ (rest : List ℕ). block ++ rest) c.all;
      sized = also (part-sized kind (part-first block (drop size bytes) parts) block_size) c.sized;
    }

-- The place after all blocks is the end of their bytes.
pub blocks_end : (kind : BlockKind) {m : List ℕ} (blocks : List (List ℕ)) {at : ℕ} → PartAt m at (joined blocks)
    → Every (Sized kind) blocks
    → place_after (size_of kind m) (length blocks) at ≡ at + length (joined blocks)
blocks_end kind [] p e = omega arith
blocks_end kind (block ∷ blocks) {at} p (also s e) =
    after_first (size_of kind _) (length blocks) at (length block) (part-size kind (part-first block (joined blocks) p) s)
    ∙ blocks_end kind blocks (part-rest block (joined blocks) p) e
    ∙ omega (arith, length-append block (joined blocks))

-- Each block is at its place.
pub block-there : (kind : BlockKind) {m : List ℕ} (blocks : List (List ℕ)) (i : ℕ) {at : ℕ} → i < length blocks
    → PartAt m at (joined blocks) → Every (Sized kind) blocks
    → PartAt m (place_after (size_of kind m) i at) (get_or blocks i [])
block-there kind [] i h p e = absurd (omega arith)
block-there kind (block ∷ blocks) zero h p e = part-first block (joined blocks) p
block-there kind (block ∷ blocks) (suc i) h p (also s e) =
    rw (part-size kind (part-first block (joined blocks) p) s) (block-there kind blocks i (omega arith) (part-rest block (joined blocks) p) e)

-- What holds for every place holds for every block, and conversely.
module _ (kind : BlockKind) {m : List ℕ} {P : ℕ → Type 0} {Q : List ℕ → Type 0} where
  pub places-blocks : ((at : ℕ) (block : List ℕ) → PartAt m at block → Sized kind block → P at → Q block)
      → (blocks : List (List ℕ)) {at : ℕ} → PartAt m at (joined blocks) → Every (Sized kind) blocks
      → Every P (places_from (size_of kind m) (length blocks) at)
      → Every Q blocks
  places-blocks h [] p e f = none
  places-blocks h (block ∷ blocks) {at} p (also s e) (also x f) =
      let first = part-first block (joined blocks) p in
      also (h at block first s x) (places-blocks h blocks (part-rest block (joined blocks) p) e (rw (part-size kind first s) at f))

  pub blocks-places : ((at : ℕ) (block : List ℕ) → PartAt m at block → Sized kind block → Q block → P at)
      → (blocks : List (List ℕ)) {at : ℕ} → PartAt m at (joined blocks) → Every (Sized kind) blocks → Every Q blocks
      → Every P (places_from (size_of kind m) (length blocks) at)
  blocks-places h [] p e f = none
  blocks-places h (block ∷ blocks) {at} p (also s e) (also x f) =
      let first = part-first block (joined blocks) p in
      let rest = blocks-places h blocks (part-rest block (joined blocks) p) e f in
      also (h at block first s x) (rw (sym (part-size kind first s)) at rest)

-- What is made from the place of each block is what is made from each record, if the blocks are the bytes of the records.
module _ (kind : BlockKind) {m : List ℕ} {A B : Type 0} (bytes : A → List ℕ) {Fits : A → Type 0}
    (sized : (x : A) → Fits x → Sized kind (bytes x)) (made : ℕ → B) (is : A → B)
    (each : (x : A) → Fits x → (at : ℕ) → PartAt m at (bytes x) → made at ≡ is x) where
  pub places-made : (at : ℕ) {xs : List A} → Every Fits xs → PartAt m at (joined (map bytes xs))
      → map made (places_from (size_of kind m) (length xs) at) ≡ map is xs
  places-made at none p = refl
  places-made at (also {x = x} {xs = xs} f e) p =
      let here : PartAt m at (bytes x) = part-first (bytes x) (joined (map bytes xs)) p in
      let rest = places-made (at + length (bytes x)) e (part-rest (bytes x) (joined (map bytes xs)) p) in
      rw (part-size kind here (sized x f), each x f at here, rest)
