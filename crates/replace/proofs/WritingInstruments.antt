-- Writing INST's new data: one instrument, and the loop over all of them.
use Prim.Native.Nat.{ℕ, zero, suc, ◌+◌, ◌-◌, ◌≤◌, ◌<◌}
use mathlib.Core.Path.{◌≡◌, refl, sym, ap, ◌∙◌}
use mathlib.Core.List.{List, [], ◌∷◌, ◌++◌, map, append_assoc}
use mathlib.Core.Bool.{Bool, true, false, cond}
use native.Mathlib.Omega.{arith}
use lib.ListN.{length, take, drop, replicate, length-append, length-map}
use borrow.Rule.Slice.PartMut.{mid_of, put_mid}
use Rattle.vocabulary.specs.Lists.{joined, Every}
use Rattle.vocabulary.proofs.EveryOne.{every_of}
use Rattle.numbers.specs.Numbers.{part_of, bytes16, bytes32, put_at}
use Rattle.numbers.proofs.Parts.{part-split}
use Rattle.numbers.proofs.PutBytes.{put_both, put-instead}
use Rattle.packed_rows.specs.Entries.{count}
use Rattle.packed_rows.proofs.Fields.{count-both, count_most}
use Rattle.layout.specs.declared.ChunkSpan.{ChunkSpan}
use Rattle.blocks.specs.Sizes.{size_of, places_from, place_after, first_block}
use Rattle.blocks.specs.declared.BlockKind.TheVariants.{Instrument}
use Rattle.acceptance.proofs.Holding.{every-place}
use Rattle.acceptance.proofs.Locating.{part_length}
use Rattle.acceptance.proofs.Cutting.{after_next, places_count, places-length}
use Rattle.acceptance.proofs.Ends.{copied}
use Rattle.acceptance.proofs.Ahead.{AheadBlocks, blocks-first, blocks-each, blocks-turn, blocks_last}
use Rattle.replace.specs.Replaced.{loop_cleared, rewritten_instrument}
use Rattle.replace.specs.Steps.{instrument_places, InstrumentsIn, instruments_written}

-- The block of an instrument that is inside the module.
module _ (m : List ℕ) (sample frames at : ℕ) (inside : at + 50 ≤ length m) where
  abbrev first : List ℕ
  first = part_of m at 38

  abbrev loop : List ℕ
  loop = part_of m (at + 38) 8

  abbrev panning : List ℕ
  panning = part_of m (at + 46) 2

  abbrev flags : List ℕ
  flags = part_of m (at + 46 + 2) 2

  block-parts : part_of m at 50 ≡ first ++ (loop ++ (panning ++ flags))
  block-parts =
      let same : at + 38 + 8 ≡ at + 46 = omega arith in
      part-split m at 38 12
      ∙ ap (λ (l : List ℕ). first ++ l) (part-split m (at + 38) 8 4 ∙ ap (λ (k : ℕ). loop ++ part_of m k 4) same)
      ∙ ap (λ (l : List ℕ). first ++ (loop ++ l)) (part-split m (at + 46) 2 2)

  abbrev cleared_block : List ℕ
  cleared_block = first ++ (replicate 8 0 ++ (panning ++ replicate 2 0))

  -- The loop and the flags of the block at the front of an output are set to 0.
  block-cleared : (rest : List ℕ)
      → put_at (bytes16 0) 48 (put_at (bytes32 0) 42 (put_at (bytes32 0) 38 (part_of m at 50 ++ rest))) ≡ cleared_block ++ rest
  block-cleared rest =
      let size₁ : length first ≡ 38 = part_length m at 38 (omega arith) in
      let size₂ : length loop ≡ 8 = part_length m (at + 38) 8 (omega arith) in
      let size₃ : length panning ≡ 2 = part_length m (at + 46) 2 (omega arith) in
      let size₄ : length flags ≡ 2 = part_length m (at + 46 + 2) 2 (omega arith) in
      let whole : length (part_of m at 50 ++ rest) ≡ 50 + length rest = length-append (part_of m at 50) rest ∙ rw (part_length m at 50 inside) refl in
      let zeros : List ℕ = replicate 8 0 in
      let front : List ℕ = first ++ (zeros ++ panning) in
      let long : length front ≡ 48 = omega (arith, length-append first (zeros ++ panning), size₁, size₃) in
      let parts : part_of m at 50 ++ rest ≡ first ++ (loop ++ ((panning ++ flags) ++ rest)) =
      ap (λ (l : List ℕ). l ++ rest) block-parts ∙ simp append_assoc in
      let both : put_at (bytes32 0) 42 (put_at (bytes32 0) 38 (part_of m at 50 ++ rest)) ≡ put_at zeros 38 (part_of m at 50 ++ rest) =
      put_both (bytes32 0) (bytes32 0) 38 42 (part_of m at 50 ++ rest) refl (omega (arith, whole)) in
      let once : put_at zeros 38 (part_of m at 50 ++ rest) ≡ first ++ (zeros ++ ((panning ++ flags) ++ rest)) =
      ap (put_at zeros 38) parts ∙ put-instead first zeros 38 size₁ loop ((panning ++ flags) ++ rest) size₂ in
      ap (put_at (bytes16 0) 48) (both ∙ once ∙ sides front first zeros panning flags rest refl)
      ∙ put-instead front (bytes16 0) 48 long flags rest size₄
      ∙ simp append_assoc
    where
      sides : (front first zeros panning flags rest : List ℕ) → front ≡ first ++ (zeros ++ panning)
          → first ++ (zeros ++ ((panning ++ flags) ++ rest)) ≡ front ++ (flags ++ rest)
      sides front first zeros panning flags rest e = rw e (simp append_assoc)

  cleared-size : length cleared_block ≡ 50
  cleared-size =
      let size₁ : length first ≡ 38 = part_length m at 38 (omega arith) in
      let size₃ : length panning ≡ 2 = part_length m (at + 46) 2 (omega arith) in
      omega (
        arith,
        length-append first (replicate 8 0 ++ (panning ++ replicate 2 0)),
        length-append panning (replicate 2 0),
        size₁,
        size₃,
      )

  pub instrument-size : length (rewritten_instrument m sample frames at) ≡ 50
  instrument-size = go (loop_cleared m sample frames at)
    where
      go : (b : Bool) → length (cond b cleared_block (part_of m at 50)) ≡ 50
      go true = cleared-size
      go false = part_length m at 50 inside

  pub block-fits : {source : List ℕ} {room : ℕ} → source ≡ part_of m at 50 → 50 ≤ room → length source ≤ room
  block-fits s h = omega (arith, ap length s, part_length m at 50 inside)

  -- Writing it: the block is copied, and cleared if the test says so.
  module _ (out₀ : List ℕ) {source out₁ : List ℕ} (s : source ≡ part_of m at 50)
      (copy : out₁ ≡ take (length source) source ++ drop (length source) out₀) where
    copied-block : out₁ ≡ part_of m at 50 ++ drop 50 out₀
    copied-block = copied source (part_of m at 50) out₀ out₁ s copy ∙ ap (λ (k : ℕ). part_of m at 50 ++ drop k out₀) (part_length m at 50 inside)

    pub instrument-kept : {b : Bool} → b ≡ loop_cleared m sample frames at → b ≡ false
        → (0 ≡ count (loop_cleared m sample frames at ∷ [])) × (out₁ ≡ rewritten_instrument m sample frames at ++ drop 50 out₀)
    instrument-kept e f = rw (sym e ∙ f) (refl, copied-block)

    pub instrument-cleared : {b : Bool} → b ≡ loop_cleared m sample frames at → b ≡ true
        → {out₂ out₃ out₄ : List ℕ} → out₂ ≡ put_at (bytes32 0) 38 out₁ → out₃ ≡ put_at (bytes32 0) 42 out₂ → out₄ ≡ put_at (bytes16 0) 48 out₃
        → (1 ≡ count (loop_cleared m sample frames at ∷ [])) × (out₄ ≡ rewritten_instrument m sample frames at ++ drop 50 out₀)
    instrument-cleared e t e₂ e₃ e₄ =
        let all : _ ≡ cleared_block ++ drop 50 out₀ = e₄ ∙ rw (e₃, e₂, copied-block) (block-cleared (drop 50 out₀)) in
        rw (sym e ∙ t) (refl, all)

-- How many of n places pass a test.
module _ (test : ℕ → Bool) (size : ℕ → ℕ) where
  abbrev counted : ℕ → ℕ → ℕ
  counted n at = count (map test (places_from size n at))

  counted_next : (n at : ℕ) → 0 < n → counted n at ≡ count (test at ∷ []) + counted (n - 1) (at + size at)
  counted_next zero at some = absurd (omega arith)
  counted_next (suc n) at some =
      let less : suc n - 1 ≡ n = omega arith in
      rw less (count-both (test at ∷ []) (map test (places_from size n (at + size at))))

  counted-most : (n at : ℕ) → counted n at ≤ n
  counted-most n at =
      let places : List ℕ = places_from size n at in
      omega (arith, count_most (map test places), length-map places test, places_count size n at)

-- The loop over the instruments: the blocks before are written and counted.
pub record Clearing (m : List ℕ) (sample frames n start : ℕ) (out₀ out : List ℕ) (at to cleared left : ℕ) : Type 0 where
  pub blocks : AheadBlocks (rewritten_instrument m sample frames) (size_of Instrument m) (λ place. place + 50 ≤ length m) n start out₀ out at to left
  pub count : cleared + counted (loop_cleared m sample frames) (size_of Instrument m) left at
      ≡ counted (loop_cleared m sample frames) (size_of Instrument m) n start

module _ {m : List ℕ} {sample frames n start : ℕ} (out₀ : List ℕ) where
  pub clearing-first : Every (λ place. place + 50 ≤ length m) (places_from (size_of Instrument m) n start)
      → length (joined (map (rewritten_instrument m sample frames) (places_from (size_of Instrument m) n start))) ≤ length out₀
      → Clearing m sample frames n start out₀ out₀ start 0 0 n
  clearing-first each room = record { blocks = blocks-first out₀ each room; count = omega arith }

  module _ (out : List ℕ) {at to cleared left : ℕ} (c : Clearing m sample frames n start out₀ out at to cleared left) (some : 0 < left) where
    pub clearing-inside : at + 50 ≤ length m
    clearing-inside = blocks-each out₀ out c.blocks some

    pub clearing-small : {r : ℕ} → r ≡ count (loop_cleared m sample frames at ∷ []) → cleared + r ≤ n
    clearing-small e =
        omega (
          arith,
          c.count,
          counted_next (loop_cleared m sample frames) (size_of Instrument m) left at some,
          counted-most (loop_cleared m sample frames) (size_of Instrument m) n start,
        )

    pub clearing-turn : (mid : List ℕ) {r : ℕ}
        → (r ≡ count (loop_cleared m sample frames at ∷ []))
        × (mid ≡ rewritten_instrument m sample frames at ++ drop 50 (mid_of to (length out - to) out))
        → Clearing m sample frames n start out₀ (put_mid to (length out - to) out mid) (at + 50) (to + 50) (cleared + r) (left - 1)
    unfolding size_of
    clearing-turn mid done = record {
      blocks = blocks-turn out₀ out c.blocks some mid {r = 50} {s = 50} (sym (instrument-size m sample frames at clearing-inside), done.1) refl;
      count = omega (arith, c.count, counted_next (loop_cleared m sample frames) (size_of Instrument m) left at some, done.0);
    }

  pub clearing-last : (out : List ℕ) {at to cleared left : ℕ} → Clearing m sample frames n start out₀ out at to cleared left → left ≤ 0
      → (cleared ≡ count (map (loop_cleared m sample frames) (places_from (size_of Instrument m) n start)))
      × (out ≡ joined (map (rewritten_instrument m sample frames) (places_from (size_of Instrument m) n start))
      ++ drop (length (joined (map (rewritten_instrument m sample frames) (places_from (size_of Instrument m) n start)))) out₀)
  clearing-last out {left = left} c over =
      let none : left ≡ 0 = omega arith in
      let done = blocks_last out₀ out c.blocks over in
      (omega (arith, rw none at c.count), rw done.0 at done.1)

-- The loop begins at the first block of INST.
module _ {m : List ℕ} {sample frames n start : ℕ} (inst : ChunkSpan) (e : start ≡ first_block Instrument inst) (out₀ : List ℕ) where
  pub clearing-begins : InstrumentsIn m inst n → length (instruments_written m inst n sample frames) ≤ length out₀
      → Clearing m sample frames n start out₀ out₀ start 0 0 n
  clearing-begins each room = rw e (clearing-first out₀ each room)

  pub clearing-ends : (out : List ℕ) {at to cleared left : ℕ} → Clearing m sample frames n start out₀ out at to cleared left → left ≤ 0
      → (cleared ≡ count (map (loop_cleared m sample frames) (instrument_places m inst n)))
      × (out ≡ instruments_written m inst n sample frames ++ drop (length (instruments_written m inst n sample frames)) out₀)
  clearing-ends out c over = rw e at (clearing-last out₀ out c over)

instrument-block : (m : List ℕ) (at : ℕ) → size_of Instrument m at ≡ 50
unfolding size_of
instrument-block m at = refl

-- The new data of INST are as long as the blocks.
pub instruments-length : (m : List ℕ) (sample frames n at : ℕ) → Every (λ place. place + 50 ≤ length m) (places_from (size_of Instrument m) n at)
    → at + length (joined (map (rewritten_instrument m sample frames) (places_from (size_of Instrument m) n at))) ≡ place_after (size_of Instrument m) n at
instruments-length m sample frames n at each =
    places-length (rewritten_instrument m sample frames) (size_of Instrument m) n at
    (every_of (λ place inside. instrument-size m sample frames place inside ∙ sym (instrument-block m place)) each)

-- Blocks that end inside the module are inside it.
pub instruments-inside : (m : List ℕ) (n at : ℕ) → place_after (size_of Instrument m) n at ≤ length m
    → Every (λ place. place + 50 ≤ length m) (places_from (size_of Instrument m) n at)
instruments-inside m n at h =
    let size : ℕ → ℕ = size_of Instrument m in
    (every-place (λ (place : ℕ). place + 50 ≤ length m) size n at).1
    (λ i less. omega (arith, h, after_next size n i at less, instrument-block m (place_after size i at)))
