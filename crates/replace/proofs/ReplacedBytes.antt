-- The module with a sample replaced, as its bytes: the module with the sample's block and SMPL's length replaced, and the new data of INST
-- put at their place in it.
use Prim.Native.Nat.{ℕ, zero, suc, ◌+◌, ◌≤◌, ◌<◌}
use mathlib.Core.Path.{◌≡◌, refl, sym, ap, ◌∙◌}
use mathlib.Core.Logic.{◌⊎◌, inl, inr}
use mathlib.Core.List.{List, ◌∷◌, ◌++◌, map, append_assoc}
use mathlib.Core.Bool.{false}
use native.Mathlib.Omega.{arith}
use lib.ListN.{length, take, drop, set, length-append, length-drop, take-append-drop}
use lib.Seq.{take-add, take-take, drop_at, drop-append-le, length-take-le}
use lib.Dec.{eqb}
use borrow.Author.Tests.{lt-ltb, le-ltb}
use Rattle.vocabulary.specs.Lists.{joined, Every}
use Rattle.vocabulary.specs.Letters.{inst_letters, smpl_letters}
use Rattle.vocabulary.proofs.EveryOne.{every_append, every_rest}
use Rattle.vocabulary.proofs.MappedLists.{map-append, map-itself}
use Rattle.vocabulary.proofs.JoinedLists.{joined-append}
use Rattle.vocabulary.proofs.Splits.{two-splits}
use Rattle.numbers.specs.Numbers.{Bytes, number32, part_of, bytes32, put_at}
use Rattle.numbers.proofs.Parts.{parts-of, four-again}
use Rattle.numbers.proofs.PutBytes.{put-there, put-instead}
use Rattle.layout.specs.Chunks.{inst_identifier, smpl_identifier}
use Rattle.layout.specs.declared.ChunkSpan.{ChunkSpan}
use Rattle.blocks.specs.Sizes.{places_from, place_after}
use Rattle.blocks.specs.Filling.{data_end}
use Rattle.acceptance.specs.Rules.{IsChunk, Among, Covered, ChunkRules}
use Rattle.acceptance.proofs.Spans.{Found}
use Rattle.acceptance.proofs.Identifiers.{chunk-named}
use Rattle.acceptance.proofs.Recorded.{every-among, There}
use Rattle.acceptance.proofs.ChangedChunks.{SameBut, joined_length, others_same, split-changed, alone-length, stays-as}
use Rattle.acceptance.proofs.ChangedData.{with_data, no_change, data-change, data-same-but, data-there, data-size}
use Rattle.replace.specs.Steps.{place_afterwards}
use Rattle.replace.proofs.ReplacedChunks.{smpl_changed, inst_changed, both_changed}

-- Blocks with one of them replaced, between the bytes before the first and the bytes after the last.
module _ (m : List ℕ) (size : ℕ → ℕ) where
  abbrev blocks : ℕ → ℕ → List (List ℕ)
  blocks n at = map (λ (place : ℕ). part_of m place (size place)) (places_from size n at)

  blocks-joined : (n at : ℕ) → joined (blocks n at) ++ drop (place_after size n at) m ≡ drop at m
  blocks-joined zero at = refl
  blocks-joined (suc n) at =
      append_assoc (part_of m at (size at)) (joined (blocks n (at + size at))) (drop (place_after size n (at + size at)) m)
      ∙ ap (λ (l : List ℕ). part_of m at (size at) ++ l) (blocks-joined n (at + size at))
      ∙ sym (parts-of m at (size at))

  pub block-set : (new : List ℕ) (i n at : ℕ) → i < n
      → take at m ++ (joined (set (blocks n at) i new) ++ drop (place_after size n at) m)
      ≡ take (place_after size i at) m ++ (new ++ drop (place_after size i at + size (place_after size i at)) m)
  block-set new i zero at h = absurd (omega arith)
  block-set new zero (suc n) at h =
      ap (λ (l : List ℕ). take at m ++ l)
      (append_assoc new (joined (blocks n (at + size at))) (drop (place_after size n (at + size at)) m)
      ∙ ap (λ (l : List ℕ). new ++ l) (blocks-joined n (at + size at)))
  block-set new (suc i) (suc n) at h =
      let others : List ℕ = joined (set (blocks n (at + size at)) i new) in
      let rest : List ℕ = drop (place_after size n (at + size at)) m in
      ap (λ (l : List ℕ). take at m ++ l) (append_assoc (part_of m at (size at)) others rest)
      ∙ sym (append_assoc (take at m) (part_of m at (size at)) (others ++ rest))
      ∙ ap (λ (l : List ℕ). l ++ (others ++ rest)) (sym (take-add at (size at) m))
      ∙ block-set new i n (at + size at) (omega arith)

-- A chunk's data with one block replaced: the bytes of the module up to that block, with the new length put in, the new block, and the rest.
module _ (m content block : List ℕ) (at end first next : ℕ) (starts : at + 4 + 4 ≤ first) (inside : first ≤ length m)
    (replaced : take (at + 4 + 4) m ++ (content ++ drop end m) ≡ take first m ++ (block ++ drop next m)) where
  pub spliced-is : take (at + 4) m ++ (bytes32 (length content) ++ (content ++ drop end m))
      ≡ put_at (bytes32 (length content)) (at + 4) (take first m) ++ (block ++ drop next m)
  spliced-is =
      let size : length (take first m) ≡ first = length-take-le first m inside in
      let eight : length (take (at + 4 + 4) m) ≡ at + 4 + 4 = length-take-le (at + 4 + 4) m (omega arith) in
      let four : List ℕ = bytes32 (length content) in
      let tail : content ++ drop end m ≡ drop (at + 4 + 4) (take first m) ++ (block ++ drop next m) =
      sym (drop_at (take (at + 4 + 4) m) (content ++ drop end m) (at + 4 + 4) eight)
      ∙ ap (drop (at + 4 + 4)) replaced
      ∙ drop-append-le (at + 4 + 4) (take first m) (block ++ drop next m) (omega (arith, size)) in
      let put : put_at four (at + 4) (take first m) ≡ take (at + 4) m ++ (four ++ drop (at + 4 + 4) (take first m)) =
      put-there four (at + 4) (take first m) (omega (arith, size))
      ∙ ap (λ (l : List ℕ). l ++ (four ++ drop (at + 4 + 4) (take first m))) (take-take (at + 4) first m (omega arith)) in
      ap (λ (l : List ℕ). take (at + 4) m ++ (four ++ l)) tail
      ∙ sides (take (at + 4) m) four (drop (at + 4 + 4) (take first m)) (block ++ drop next m)
      ∙ ap (λ (l : List ℕ). l ++ (block ++ drop next m)) (sym put)
    where
      sides : (a b c d : List ℕ) → a ++ (b ++ (c ++ d)) ≡ (a ++ (b ++ c)) ++ d
      sides a b c d = simp append_assoc

-- A chunk's data overwritten with new data of the same length: the result is the chunk with the new data.
module _ (front chunk rest content : List ℕ) (at : ℕ) (place : length front + 8 ≡ at) (c : IsChunk chunk) (below : Bytes chunk)
    (same : length content ≡ number32 chunk 4) where
  chunk-put : put_at content at (front ++ (chunk ++ rest)) ≡ front ++ (with_data content chunk ++ rest)
  chunk-put =
      let head : List ℕ = take 4 chunk ++ bytes32 (length content) in
      let four : length (take 4 chunk) ≡ 4 = length-take-le 4 chunk (omega (arith, c.size)) in
      let number : bytes32 (length content) ≡ part_of chunk 4 4 = ap bytes32 same ∙ four-again chunk below 4 (omega (arith, c.size)) in
      let parts : chunk ≡ head ++ drop 8 chunk =
      sym (take-append-drop 4 chunk)
      ∙ ap (λ (l : List ℕ). take 4 chunk ++ l) (parts-of chunk 4 4)
      ∙ ap (λ (l : List ℕ). take 4 chunk ++ (l ++ drop 8 chunk)) (sym number)
      ∙ sym (append_assoc (take 4 chunk) (bytes32 (length content)) (drop 8 chunk)) in
      let long : length (front ++ head) ≡ at =
      omega (arith, length-append front head, length-append (take 4 chunk) (bytes32 (length content)), four, place) in
      ap (λ (l : List ℕ). put_at content at (front ++ (l ++ rest))) parts
      ∙ ap (put_at content at) (sides front head (drop 8 chunk) rest)
      ∙ put-instead (front ++ head) content at long (drop 8 chunk) rest (omega (arith, length-drop 8 chunk, c.size, same))
      ∙ back front (take 4 chunk) (bytes32 (length content)) content rest
    where
      sides : (a b c d : List ℕ) → a ++ ((b ++ c) ++ d) ≡ (a ++ b) ++ (c ++ d)
      sides a b c d = simp append_assoc

      back : (a b c d e : List ℕ) → (a ++ (b ++ c)) ++ (d ++ e) ≡ a ++ ((b ++ (c ++ d)) ++ e)
      back a b c d e = simp append_assoc

-- INST and SMPL of a module: which comes first.
data Order (inst smpl : ChunkSpan) (before after : List (List ℕ)) : Type 0 where
  inst_first : data_end inst ≤ smpl.at → (There before smpl_letters → ⊥) → Order inst smpl before after
  smpl_first : data_end smpl ≤ inst.at → (There after smpl_letters → ⊥) → Order inst smpl before after

module _ {m header : List ℕ} {all : List (List ℕ)} (rules : ChunkRules m header all) {inst smpl : ChunkSpan} (i : Found m all inst_letters inst)
    (s : Found m all smpl_letters smpl) {c d : List ℕ} (a : Among all inst_letters c) (b : Among all smpl_letters d) where
  inst-first : (between : List (List ℕ)) → a.after ≡ between ++ (d ∷ b.after) → Order inst smpl a.before a.after
  inst-first between e = inst_first
      (omega (
        arith,
        i.begins c a,
        s.begins d b,
        (i.holds c a).size,
        joined_length a.before a.after c a.splits,
        joined_length b.before b.after d b.splits,
        joined_length between b.after d e,
      ))
      (λ (other, o). rules.once smpl_letters Covered.smpl o.before (o.after ++ (c ∷ between)) b.after other d
      (a.splits ∙ rw (o.splits, e) (simp append_assoc)) o.named b.named)

  smpl-first : (between : List (List ℕ)) → b.after ≡ between ++ (c ∷ a.after) → Order inst smpl a.before a.after
  smpl-first between e = smpl_first
      (omega (
        arith,
        i.begins c a,
        s.begins d b,
        (s.holds d b).size,
        joined_length a.before a.after c a.splits,
        joined_length b.before b.after d b.splits,
        joined_length between a.after c e,
      ))
      (λ (other, o). rules.once smpl_letters Covered.smpl b.before (between ++ (c ∷ o.before)) o.after d other
      (b.splits ∙ rw (e, o.splits) (simp append_assoc)) b.named o.named)

  in_order : Order inst smpl a.before a.after
  in_order = go (two-splits a.before b.before (sym a.splits ∙ b.splits))
    where
      go : (c ≡ d)
          ⊎ (((between : List (List ℕ)) × (a.after ≡ between ++ (d ∷ b.after)))
          ⊎ ((between : List (List ℕ)) × (b.after ≡ between ++ (c ∷ a.after))))
          → Order inst smpl a.before a.after
      go (inl same) = let z : inst_letters ≡ smpl_letters = sym a.named ∙ ap (take 4) same ∙ b.named in differ z
        where
          differ : inst_letters ≡ smpl_letters → Order inst smpl a.before a.after
          differ z = let n : ◌≡◌ {A = ℕ} 73 83 = cc in absurd (omega arith)
      go (inr (inl (between, e))) = inst-first between e
      go (inr (inr (between, e))) = smpl-first between e

  -- If SMPL comes first, its data end before INST.
  pub smpl-before : smpl.at ≤ inst.at → data_end smpl ≤ inst.at
  smpl-before h = go in_order
    where
      go : Order inst smpl a.before a.after → data_end smpl ≤ inst.at
      go (inst_first ends absent) = absurd (omega (arith, ends))
      go (smpl_first ends absent) = ends

  -- The new data of SMPL and of INST.
  module _ (samples instruments : List ℕ) (below : Bytes c) (same : length instruments ≡ inst.length) where
    abbrev both : List ℕ → List ℕ
    both = both_changed samples instruments

    abbrev front : List ℕ
    front = header ++ joined (map (smpl_changed samples) a.before)

    abbrev rest : List ℕ
    rest = joined (map (smpl_changed samples) a.after)

    whole : IsChunk c
    whole = every-among rules.whole a

    agree : SameBut inst_identifier both (smpl_changed samples)
    agree chunk w e = rw e refl

    -- INST does not change with SMPL, and gets its new data.
    inst-stays : smpl_changed samples c ≡ c
    inst-stays = stays-as (data-change smpl_identifier samples (λ chunk. chunk) no_change) rules.whole Covered.inst refl a

    inst-given : both c ≡ with_data instruments c
    inst-given =
        data-same-but smpl_identifier samples (inst_changed instruments) c whole not-smpl
        ∙ data-there Covered.inst instruments (λ chunk. chunk) whole a.named
      where
        not-smpl : eqb (number32 c 0) smpl_identifier ≡ false
        not-smpl = rw ((chunk-named whole Covered.inst).1 a.named) refl

    smpl-replaced : header ++ joined (map (smpl_changed samples) all) ≡ front ++ (c ++ rest)
    smpl-replaced =
        ap (λ (l : List (List ℕ)). header ++ joined (map (smpl_changed samples) l)) a.splits
        ∙ rw (
          map-append (smpl_changed samples) a.before (c ∷ a.after),
          joined-append (map (smpl_changed samples) a.before)
              (smpl_changed samples c ∷ map (smpl_changed samples) a.after),
        )
        (rw inst-stays (sym (append_assoc header (joined (map (smpl_changed samples) a.before)) (c ++ rest))))

    both-replaced : header ++ joined (map both all) ≡ front ++ (with_data instruments c ++ rest)
    both-replaced =
        rw (split-changed Covered.inst agree rules a, joined-append (map (smpl_changed samples) a.before) (both c ∷ map (smpl_changed samples) a.after))
        (rw inst-given (sym (append_assoc header (joined (map (smpl_changed samples) a.before)) (with_data instruments c ++ rest))))

    pub both-put : header ++ joined (map both all) ≡ put_at instruments (length front + 8) (header ++ joined (map (smpl_changed samples) all))
    both-put =
        let number : length instruments ≡ number32 c 4 = omega (arith, same, (i.holds c a).size, whole.size) in
        both-replaced
        ∙ sym (chunk-put front c rest instruments (length front + 8) refl whole below number)
        ∙ ap (put_at instruments (length front + 8)) (sym smpl-replaced)

    pub both-fits : length front + 8 + length instruments ≤ length (header ++ joined (map (smpl_changed samples) all))
    both-fits =
        omega (arith, ap length smpl-replaced, length-append front (c ++ rest), length-append c rest, same, (i.holds c a).size)

    -- The place of INST's data.
    parts_whole : Every IsChunk a.before × Every IsChunk (c ∷ a.after)
    parts_whole = (every_append a.before (c ∷ a.after)).0 (rw a.splits at rules.whole)

    alone : SameBut smpl_identifier (smpl_changed samples) (λ chunk. chunk)
    alone = data-same-but smpl_identifier samples (λ chunk. chunk)

    smpl-size : length (smpl_changed samples d) ≡ 8 + length samples
    smpl-size =
        let w = every-among rules.whole b in
        ap length (data-there Covered.smpl samples (λ chunk. chunk) w b.named) ∙ data-size samples d w

    pub place_is : (old new : ℕ) → old ≤ smpl.length → length samples + old ≡ smpl.length + new → length front + 8 ≡ place_afterwards inst smpl old new
    place_is old new fits grown = go in_order
      where
        total : length (header ++ joined (map (smpl_changed samples) all)) + length d ≡ length m + length (smpl_changed samples d)
        total = alone-length Covered.smpl alone rules b

        lengths : length (front ++ (c ++ rest)) ≡ length front + (length c + length rest)
        lengths = omega (arith, length-append front (c ++ rest), length-append c rest)

        fronts : length front ≡ 8 + length (joined (map (smpl_changed samples) a.before))
        fronts = length-append header (joined (map (smpl_changed samples) a.before)) ∙ rw rules.header_size refl

        go : Order inst smpl a.before a.after → length front + 8 ≡ place_afterwards inst smpl old new
        go (inst_first ends absent) =
            let stays : map (smpl_changed samples) a.before ≡ a.before =
            others_same Covered.smpl alone parts_whole.0 absent ∙ map-itself a.before in
            rw (lt-ltb inst.at smpl.at (omega (arith, ends)))
            (omega (arith, fronts, ap (λ (l : List (List ℕ)). length (joined l)) stays, i.begins c a))
        go (smpl_first ends absent) =
            let stays : map (smpl_changed samples) a.after ≡ a.after =
            others_same Covered.smpl alone (every_rest parts_whole.1) absent ∙ map-itself a.after in
            rw (le-ltb inst.at smpl.at (omega (arith, ends)))
            (omega (
              arith,
              total,
              ap length smpl-replaced,
              lengths,
              ap (λ (l : List (List ℕ)). length (joined l)) stays,
              i.begins c a,
              (s.holds d b).size,
              smpl-size,
              ap length rules.bytes,
              length-append header (joined all),
              rules.header_size,
              joined_length a.before a.after c a.splits,
              grown,
            ))
