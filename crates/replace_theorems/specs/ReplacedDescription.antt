-- FORMAT.md, D8 (document 02, K1, "Replacing a sample"): a description with a sample replaced. The sample has the new frames at 16 bits
-- (E2), the loops that no longer fit it are cleared (E3), and all else is unchanged. Also what theorem 20 says of the answers of queries.
use Rattle.std.specs.Prelude.{ℕ, suc, ◌+◌, ◌-◌, ◌/◌, ◌%◌, ◌≤◌, ◌≡◌, ◌⊎◌, List, [], ◌∷◌, map, Bool, cond, ◌&&◌, length, set, eqb, ltb}
use Rattle.module.specs.Loops.{loop_kind, is_loop}
use Rattle.samples.specs.Shown.{sample_answer}
use Rattle.instruments.specs.Shown.{instrument_answer}
use Rattle.instruments.specs.declared.InstrumentAnswer.{InstrumentAnswer}
use Rattle.format.specs.Description.{Instrument, Sample, sixteen, Chunk, NAME, INFO, SONG, INST, PATT, SMPL, VENV, PENV, Other}
use Rattle.format.specs.Description.{Description}

-- E2: a sample of 16 bits with these frames.
abbrev pub sixteen_bit : List ℕ → Sample
sixteen_bit frames = record { width = sixteen; frames = frames }

-- E3: whether an instrument is looped (V6), is on this sample, and has a loop that ends after this number of frames.
abbrev pub loop_outside : ℕ → ℕ → Instrument → Bool
loop_outside sample frames i =
    is_loop (loop_kind i.flags i.loop_length) && (eqb i.sample sample && ltb frames (i.loop_start + i.loop_length))

-- E3: such an instrument gets "loop start, loop length and flags 0"; every other instrument is unchanged.
abbrev pub without_loop : Instrument → Instrument
without_loop i = record {
  name = i.name;
  sample = i.sample;
  volume = i.volume;
  rate = i.rate;
  loop_start = 0;
  loop_length = 0;
  panning = i.panning;
  flags = 0;
}

abbrev pub cleared_instrument : ℕ → ℕ → Instrument → Instrument
cleared_instrument sample frames i = cond (loop_outside sample frames i) (without_loop i) i

-- E4: INST has the cleared instruments, SMPL has the new sample at its number, counted from 1, and every other chunk is unchanged.
abbrev pub replaced_chunk : ℕ → List ℕ → Chunk → Chunk
replaced_chunk sample frames (NAME name) = NAME name
replaced_chunk sample frames (INFO info) = INFO info
replaced_chunk sample frames (SONG songs) = SONG songs
replaced_chunk sample frames (INST instruments) = INST (map (cleared_instrument sample (length frames)) instruments)
replaced_chunk sample frames (PATT patterns) = PATT patterns
replaced_chunk sample frames (SMPL samples) = SMPL (set samples (sample - 1) (sixteen_bit frames))
replaced_chunk sample frames (VENV envelopes) = VENV envelopes
replaced_chunk sample frames (PENV envelopes) = PENV envelopes
replaced_chunk sample frames (Other letters bytes) = Other letters bytes

abbrev pub replaced_description : ℕ → List ℕ → Description → Description
replaced_description sample frames d = record {
  version = d.version;
  revision = d.revision;
  reserved = d.reserved;
  chunks = map (replaced_chunk sample frames) d.chunks;
}

-- V6 by the answers of the queries: an instrument is shown as looped if its loop length is not 0 and bit 0 or bit 1 of its flags is set.
abbrev pub ShownLooped : InstrumentAnswer → Type 0
ShownLooped i = (1 ≤ i.loop_length) × ((i.flags % 2 ≡ 1) ⊎ (i.flags / 2 % 2 ≡ 1))

-- Then its sample is not 0, and its loop ends within the frames that are shown for that sample.
abbrev pub LoopInside : List ℕ → InstrumentAnswer → Type 0
LoopInside m i = (1 ≤ i.sample) × (i.loop_start + i.loop_length ≤ (sample_answer m i.sample).frames)

abbrev pub LoopsInside : List ℕ → Type 0
LoopsInside m =
    (number : ℕ) → (instrument_answer m number).outcome.number ≡ 0 → ShownLooped (instrument_answer m number)
    → LoopInside m (instrument_answer m number)

-- Two lists of the same length differ at exactly n places.
pub data Differing {A : Type 0} : List A → List A → ℕ → Type 0 where
  ended : Differing [] [] 0
  same : (x : A) {xs ys : List A} {n : ℕ} → Differing xs ys n → Differing (x ∷ xs) (x ∷ ys) n
  other : {x y : A} {xs ys : List A} {n : ℕ} → (x ≡ y → ⊥) → Differing xs ys n → Differing (x ∷ xs) (y ∷ ys) (suc n)
