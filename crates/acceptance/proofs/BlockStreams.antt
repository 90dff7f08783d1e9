-- The packed streams of patterns. The check reads a stream in the module, the rules read it in the pattern's block. The check accepts a
-- stream exactly if it is the stream of some rows of sound entries (theorem 6 of `packed_rows`).
use Prim.Native.Nat.{ℕ, ◌+◌, ◌%◌, ◌≤◌}
use Rattle.std.specs.Prelude.{⊤, Result, Ok, Err}
use mathlib.Core.Path.{◌≡◌, refl, sym, ap, ◌∙◌}
use mathlib.Core.Logic.Iff
use mathlib.Core.Logic.{◌↔◌}
use mathlib.Core.List.{List, ◌++◌}
use mathlib.Core.Bool.{Bool, true, false, cond, not}
use native.Mathlib.Omega.{arith}
use lib.ListN.{length, take, drop, length-append, length-drop, take-append-drop}
use lib.Seq.{length-take-le}
use borrow.Author.Tests.{le-leb, eq-eqb}
use Rattle.vocabulary.proofs.EveryOne.{every_one}
use Rattle.refusal.specs.Numbers.{refusal}
use Rattle.refusal.specs.Rules.{accepted}
use Rattle.refusal.specs.declared.Reason.TheVariants.{Sizes}
use Rattle.refusal.specs.declared.Refusal.{Refusal}
use Rattle.cells.specs.Cells.{sizes_fit}
use Rattle.numbers.specs.Numbers.{Bytes, number16, number32, part_of}
use Rattle.packed_rows.specs.Entries.{Entry}
use Rattle.packed_rows.specs.Stream.{read_stream, whole, cells_read, AcceptedAs}
use Rattle.packed_rows.specs.Answers.{check_answer, verdict_of_reading}
use Rattle.packed_rows.specs.Theorems.{SoundStream}
use Rattle.packed_rows.proofs.Theorems.{reads-exactly, accepts-exactly}
use Rattle.blocks.specs.StoredFields.{packed_bytes}
use Rattle.blocks.specs.Sizes.{size_of}
use Rattle.blocks.specs.declared.BlockKind.TheVariants.{Pattern}
use Rattle.module.specs.Streams.{pattern_stream_rules}
use Rattle.acceptance.specs.Rules.{PatternRules}
use Rattle.acceptance.proofs.Locating.{PartAt, number32-at, number16-start, number16-front, number32-front}
use Rattle.acceptance.proofs.Locating.{number16-take, number32-take, part_length, part-there, part-of-part, part-is}
use Rattle.acceptance.proofs.Holding.{false-never, AllHold}
use Rattle.acceptance.proofs.Cutting.{Sized}

-- An even number of tracks, from 4 to 254.
abbrev pub TracksFit : ℕ → Type 0
TracksFit tracks = (4 ≤ tracks) × (tracks ≤ 254) × (tracks % 2 ≡ 0)

-- What the check of a stream answers.
pub accepted-says : (v : Result ⊤ Refusal) → (accepted v ≡ true) ↔ (v ≡ Ok tt)
accepted-says (Ok _) = (λ e. refl, λ e. refl)
accepted-says (Err r) = (λ e. false-never e, λ e. let z : ◌≡◌ {A = ℕ} 0 1 = cc in absurd (omega arith))

module _ (stream : List ℕ) (rows tracks : ℕ) where
  pub accepted-sizes : check_answer stream rows tracks ≡ Ok tt → sizes_fit rows tracks ≡ true
  accepted-sizes = go (sizes_fit rows tracks) (refusal Sizes 0) (verdict_of_reading (read_stream rows tracks stream))
    where
      go : (fits : Bool) (r : Refusal) (v : Result ⊤ Refusal) → cond (not fits) (Err r) v ≡ Ok tt → fits ≡ true
      go true r v e = refl
      go false r v e = let z : ◌≡◌ {A = ℕ} 0 1 = cc in absurd (omega arith)

  stream-read : check_answer stream rows tracks ≡ Ok tt → (entries : List (List Entry)) × SoundStream rows tracks stream entries
  stream-read e = (accepts-exactly rows tracks stream (accepted-sizes e)).0 e

  -- An accepted stream is accepted as the cells that are read from it.
  pub holds : check_answer stream rows tracks ≡ Ok tt → AcceptedAs rows tracks stream (cells_read rows tracks stream)
  holds e =
      let entries : List (List Entry) = (stream-read e).0 in
      let read : read_stream rows tracks stream ≡ whole entries = (reads-exactly rows tracks stream entries).1 (stream-read e).1 in
      record { entries = entries; read = read; gives = rw read }

  stream-accepted : rows ≤ 65535 → TracksFit tracks → (entries : List (List Entry)) → SoundStream rows tracks stream entries
      → check_answer stream rows tracks ≡ Ok tt
  stream-accepted h t entries s =
      (accepts-exactly rows tracks stream
      (rw (le-leb rows 65535 h, le-leb 4 tracks t.0, le-leb tracks 254 t.1, eq-eqb (tracks % 2) 0 t.2))).1
      (entries, s)

-- The bound of a 2-byte number.
number16-bound : (m : List ℕ) → Bytes m → (at : ℕ) → number16 m at ≤ 65535
unfolding number16
number16-bound m b at = omega (arith, b at, b (at + 1))

-- The stream in the module and in the block.
module _ {m block : List ℕ} {at : ℕ} (p : PartAt m at block) (fits : 6 ≤ length block) (stream : List ℕ)
    (inside : PartAt block 6 stream) (packed : number32 block 2 ≡ length stream) where
  pub stream-same : packed_bytes m at ≡ stream
  stream-same = rw (number32-at p 2 (omega arith), packed) (part-is (part-of-part p inside))

  stream-says : (tracks : ℕ) → AllHold (pattern_stream_rules m tracks at) ↔ (check_answer stream (number16 block 0) tracks ≡ Ok tt)
  stream-says tracks = simp (every_one, accepted-says, stream-same, number16-start p (omega arith)) Iff.rfl

pub pattern-holds : {m block : List ℕ} {at : ℕ} → PartAt m at block → Sized Pattern block → (tracks : ℕ)
    → AllHold (pattern_stream_rules m tracks at)
    → PatternRules tracks block
unfolding size_of
pattern-holds {m} {block} {at} p s tracks e = record {
  front = take 6 block;
  stream = stream;
  filler = drop size (drop 6 block);
  entries = read.0;
  bytes = sym (rw take-append-drop (take-append-drop 6 block));
  front_size = length-take-le 6 block (omega arith);
  packed = number32-take 6 block 2 (omega arith) ∙ sym long;
  odd = rw (length-drop, length-drop, long) (omega arith);
  sound = rw (number16-take 6 block 0 (omega arith)) read.1;
}
  where
    size : ℕ
    size = number32 block 2

    stream : List ℕ
    stream = part_of block 6 size

    long : length stream ≡ size
    long = part_length block 6 size (omega arith)

    read : (entries : List (List Entry)) × SoundStream (number16 block 0) tracks stream entries
    read =
        stream-read stream (number16 block 0) tracks
        ((stream-says p (omega arith) stream (part-there block 6 size (omega arith)) (sym long) tracks).0 e)

-- The packed bytes are accepted if they are a sound stream.
module _ {m block : List ℕ} {at : ℕ} (p : PartAt m at block) (s : Sized Pattern block) (below : Bytes m) (tracks : ℕ) (t : TracksFit tracks) where
  abbrev pub Sound : List (List Entry) → Type 0
  Sound entries = SoundStream (number16 block 0) tracks (part_of block 6 (number32 block 2)) entries

  pub sound-accepted : (entries : List (List Entry)) → Sound entries → AllHold (pattern_stream_rules m tracks at)
  unfolding size_of
  sound-accepted entries sound =
      let size : ℕ = number32 block 2 in
      let stream : List ℕ = part_of block 6 size in
      let rows : number16 block 0 ≤ 65535 = rw (number16-start p (omega arith)) at (number16-bound m below at) in
      (stream-says p (omega arith) stream (part-there block 6 size (omega arith)) (sym (part_length block 6 size (omega arith))) tracks).1
      (stream-accepted stream (number16 block 0) tracks rows t entries sound)

module _ (tracks : ℕ) (block : List ℕ) (r : PatternRules tracks block) where
  pattern-length : length block ≡ 6 + length r.stream + length r.stream % 2
  pattern-length =
      ap length r.bytes ∙ length-append r.front (r.stream ++ r.filler) ∙ omega (arith, length-append r.stream r.filler, r.front_size, r.odd)

  pattern-packed : number32 block 2 ≡ length r.stream
  pattern-packed = rw r.bytes (number32-front r.front (r.stream ++ r.filler) 2 (omega (arith, r.front_size)) ∙ r.packed)

  pattern-rows : number16 block 0 ≡ number16 r.front 0
  pattern-rows = rw r.bytes (number16-front r.front (r.stream ++ r.filler) 0 (omega (arith, r.front_size)))

  pattern-stream : PartAt block 6 r.stream
  pattern-stream = record { before = r.front; after = r.filler; bytes = r.bytes; starts = r.front_size }

  pub pattern-sound : SoundStream (number16 block 0) tracks (part_of block 6 (number32 block 2)) r.entries
  pattern-sound = rw (pattern-rows, pattern-packed, part-is pattern-stream) r.sound

  pub pattern-sized : Sized Pattern block
  unfolding size_of
  pattern-sized = rw pattern-packed pattern-length

  pub pattern-rules-hold : {m : List ℕ} {at : ℕ} → PartAt m at block → Bytes m → TracksFit tracks → AllHold (pattern_stream_rules m tracks at)
  pattern-rules-hold {m} {at} p b t =
      let fits : 6 ≤ length block = omega (arith, pattern-length) in
      (stream-says p fits r.stream pattern-stream pattern-packed tracks).1
      (stream-accepted r.stream (number16 block 0) tracks (rw (number16-start p (omega arith)) at (number16-bound m b at)) t
      r.entries (rw pattern-rows r.sound))
