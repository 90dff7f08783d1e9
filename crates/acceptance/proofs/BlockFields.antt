-- The fields of songs, instruments, samples and envelopes. The check reads them in the module, from the block's place on; the rules read
-- them in the block. The check's tests are equivalent to what the rules state.
use Prim.Native.Nat.{ℕ, ◌+◌, ◌-◌, ◌*◌, ◌/◌, ◌%◌, ◌≤◌, ◌<◌}
use mathlib.Core.Path.{◌≡◌, refl, sym, subst}
use mathlib.Core.Logic.Iff
use mathlib.Core.Logic.{◌↔◌, ◌⊎◌, inl, inr}
use mathlib.Core.List.{List, []}
use mathlib.Core.Bool.{Bool, true, false, cond, not}
use native.Mathlib.Omega.{arith}
use native.Mathlib.Nat.{add_assoc}
use lib.ListN.{length, get_or}
use lib.Dec.{T, eqb}
use lib.IntN.{ℤ}
use lib.Signed.{le_z, ◌≤ℤ◌}
use borrow.Author.Tests.{eqb-true, eqb-false}
use Rattle.vocabulary.proofs.EveryOne.{every_one, every-split}
use Rattle.numbers.specs.Numbers.{byte_at, number16, number32}
use Rattle.layout.specs.declared.ChunkSpan.{ChunkSpan}
use Rattle.blocks.specs.StoredFields.{song_length, song_entry, envelope_flags, envelope_sections}
use Rattle.blocks.specs.Sizes.{width_of, size_of}
use Rattle.blocks.specs.Filling.{flags_rules}
use Rattle.blocks.specs.declared.BlockKind.TheVariants.{Song, Instrument, Sample, Envelope}
use Rattle.fields.specs.Fields.{panning_fits, bit0, bit1, entry_rules, song_rules, instrument_rules, envelope_head_rules}
use Rattle.fields.specs.Fields.{envelope_point_rules, value_fits, value_rules, values_rules, envelope_rules}
use Rattle.module.specs.Loops.{no_loop, forward, ping_pong, is_loop, loop_kind, is_looped, frames_of_sample, instrument_loop_rules}
use Rattle.acceptance.specs.Rules.{SongRules, PanningFits, LoopedBlock, InstrumentRules, SampleRules, EnvelopeRules}
use Rattle.acceptance.proofs.Locating.{PartAt, byte_at-at, number16-at, number32-at, number16-start, number32-start}
use Rattle.acceptance.proofs.Holding.{false-never, and-says, AllHold, each-hold, every-step, plain}
use Rattle.acceptance.proofs.Cutting.{Sized}

-- Signed numbers.
pub le_z-says : (a b : ℤ) → (le_z a b ≡ true) ↔ (a ≤ℤ b)
le_z-says a b = (λ e. record { le = subst T (sym e) tt }, λ h. passed (le_z a b) h.le)
  where
    passed : (test : Bool) → T test → test ≡ true
    passed true t = refl
    passed false t = absurd t

pub panning-says : (v : ℕ) → (panning_fits v ≡ true) ↔ PanningFits v
panning-says v = simp (and-says, le_z-says) Iff.rfl

-- Songs.
song-says : (m : List ℕ) (patterns at : ℕ) → AllHold (song_rules m patterns at) ↔ ((i : ℕ) → i < song_length m at → song_entry m at i < patterns)
song-says m patterns at = simp (plain, each-hold (entry_rules m patterns), every-step) Iff.rfl

module _ {m block : List ℕ} {at : ℕ} (p : PartAt m at block) (s : Sized Song block) where
  pub song-size : length block ≡ 46 + 2 * number16 block 44
  unfolding size_of
  song-size = s

  pub entry-count : song_length m at ≡ number16 block 44
  entry-count = number16-at p 44 (omega (arith, song-size))

  pub entry-same : (i : ℕ) → i < number16 block 44 → song_entry m at i ≡ number16 block (46 + 2 * i)
  entry-same i h = rw add_assoc (number16-at p (46 + 2 * i) (omega (arith, song-size)))

  pub song-holds : (patterns : ℕ) → AllHold (song_rules m patterns at) ↔ SongRules patterns block
  song-holds patterns = (
    λ e. record { size = song-size; entries = λ i h. (rw (entry-same i h) at ((song-says m patterns at).0 e i (rw entry-count h))) },
    λ r. (song-says m patterns at).1 (λ i h. (let l : i < number16 block 44 = rw entry-count at h in rw (entry-same i l) (r.entries i l))),
  )

pub song-sized : (patterns : ℕ) (block : List ℕ) → SongRules patterns block → Sized Song block
unfolding size_of
song-sized patterns block r = r.size

-- Instruments.
pub loop-says : (flags length : ℕ) → (is_loop (loop_kind flags length) ≡ true) ↔ ((1 ≤ length) × ((flags % 2 ≡ 1) ⊎ (flags / 2 % 2 ≡ 1)))
loop-says flags length = go (eqb length 0) (bit0 flags) (bit1 flags) refl refl refl
  where
    go : (none first second : Bool) → eqb length 0 ≡ none → bit0 flags ≡ first → bit1 flags ≡ second
        → (is_loop (cond none no_loop (cond first forward (cond second ping_pong no_loop))) ≡ true) ↔ ((1 ≤ length) × ((flags % 2 ≡ 1) ⊎ (flags / 2 % 2 ≡ 1)))
    go true first second a b c = (λ e. false-never e, λ h. absurd (omega (arith, eqb-true length 0 a, h.0)))
    go false true second a b c = (λ e. (let ne : length ≡ 0 → ⊥ = eqb-false length 0 a in (omega arith, inl (eqb-true (flags % 2) 1 b))), λ h. refl)
    go false false true a b c = (λ e. (let ne : length ≡ 0 → ⊥ = eqb-false length 0 a in (omega arith, inr (eqb-true (flags / 2 % 2) 1 c))), λ h. refl)
    go false false false a b c = (
      λ e. false-never e,
      λ h. elim h.1 [ inl x ↦ absurd (eqb-false (flags % 2) 1 b x) | inr x ↦ absurd (eqb-false (flags / 2 % 2) 1 c x) ],
    )

module _ {m block : List ℕ} {at : ℕ} (p : PartAt m at block) (s : Sized Instrument block) where
  pub instrument-size : length block ≡ 50
  unfolding size_of
  instrument-size = s

  instrument-says : (samples : ℕ)
      → AllHold (instrument_rules m samples at)
      ↔ ((number16 block 30 ≤ samples) × ((number16 block 32 ≤ 64) × (PanningFits (number16 block 46) × (number16 block 48 < 4))))
  instrument-says samples =
      simp (
        plain,
        le_z-says,
        number16-at p 30 (omega (arith, instrument-size)),
        number16-at p 32 (omega (arith, instrument-size)),
        number16-at p 46 (omega (arith, instrument-size)),
        number16-at p 48 (omega (arith, instrument-size)),
      ) Iff.rfl

  pub looped-says : (is_looped m at ≡ true) ↔ LoopedBlock block
  looped-says = simp (loop-says, number32-at p 42 (omega (arith, instrument-size)), number16-at p 48 (omega (arith, instrument-size))) Iff.rfl

  loop-fits-says : (chunk : ChunkSpan)
      → AllHold (instrument_loop_rules m chunk at)
      ↔ (LoopedBlock block → (1 ≤ number16 block 30) × (number32 block 38 + number32 block 42 ≤ frames_of_sample m chunk (number16 block 30)))
  loop-fits-says chunk =
      simp (
        plain,
        loop-says,
        number16-at p 30 (omega (arith, instrument-size)),
        number32-at p 38 (omega (arith, instrument-size)),
        number32-at p 42 (omega (arith, instrument-size)),
        number16-at p 48 (omega (arith, instrument-size)),
      ) Iff.rfl

  -- The rules and the loop rules of an instrument hold in the module exactly if they hold for its block, given that the frames of each
  -- sample are those of its block. The count of samples is that of their blocks.
  pub instrument-holds : (chunk : ChunkSpan) (samples : List (List ℕ))
      → ((sample : ℕ) → 1 ≤ sample → sample ≤ length samples → frames_of_sample m chunk sample ≡ number32 (get_or samples (sample - 1) []) 4)
      → (AllHold (instrument_rules m (length samples) at) × AllHold (instrument_loop_rules m chunk at)) ↔ InstrumentRules samples block
  instrument-holds chunk samples frames = (
    λ e.
        let f = (instrument-says (length samples)).0 e.0 in
        let l = (loop-fits-says chunk).0 e.1 in
        record {
          size = instrument-size;
          sample = f.0;
          volume = f.1.0;
          panning = f.1.1.0;
          flags = f.1.1.1;
          loop = λ h. ((l h).0, rw (frames (number16 block 30) (l h).0 f.0) at (l h).1);
        },
    λ r. (
      (instrument-says (length samples)).1 (r.sample, (r.volume, (r.panning, r.flags))),
      (loop-fits-says chunk).1 (λ h. ((r.loop h).0, rw (frames (number16 block 30) (r.loop h).0 r.sample) (r.loop h).1)),
    ),
  )

pub instrument-sized : (samples : List (List ℕ)) (block : List ℕ) → InstrumentRules samples block → Sized Instrument block
unfolding size_of
instrument-sized samples block r = r.size

-- Samples.
pub width-says : (flags : ℕ) → (not (eqb (width_of flags) 0) ≡ true) ↔ ((flags ≡ 1) ⊎ ((flags ≡ 2) ⊎ (flags ≡ 4)))
width-says flags = go (eqb flags 1) (eqb flags 2) (eqb flags 4) refl refl refl
  where
    go : (one two four : Bool) → eqb flags 1 ≡ one → eqb flags 2 ≡ two → eqb flags 4 ≡ four
        → (not (eqb (cond one 1 (cond two 2 (cond four 4 0))) 0) ≡ true) ↔ ((flags ≡ 1) ⊎ ((flags ≡ 2) ⊎ (flags ≡ 4)))
    go true two four a b c = (λ e. inl (eqb-true flags 1 a), λ h. refl)
    go false true four a b c = (λ e. inr (inl (eqb-true flags 2 b)), λ h. refl)
    go false false true a b c = (λ e. inr (inr (eqb-true flags 4 c)), λ h. refl)
    go false false false a b c = (
      λ e. false-never e,
      λ h.
          elim h [
            | inl x ↦ absurd (eqb-false flags 1 a x)
            | inr y ↦ elim y [
              | inl x ↦ absurd (eqb-false flags 2 b x)
              | inr x ↦ absurd (eqb-false flags 4 c x)
            ]
          ],
    )

width_is : (flags : ℕ) → (flags ≡ 1) ⊎ ((flags ≡ 2) ⊎ (flags ≡ 4)) → width_of flags ≡ flags
width_is flags (inl e) = rw e
width_is flags (inr (inl e)) = rw e
width_is flags (inr (inr e)) = rw e

pub sample-sized : (block : List ℕ) → SampleRules block → Sized Sample block
unfolding size_of
sample-sized block r = rw (width_is (number32 block 0) r.flags) r.size

pub sample-holds : {m block : List ℕ} {at : ℕ} → PartAt m at block → Sized Sample block → (chunk : ChunkSpan)
    → AllHold (flags_rules m chunk at) ↔ SampleRules block
unfolding size_of
sample-holds {m} {block} {at} p s chunk = (
  λ e.
      let flags = says.0 e in
      record { flags = flags; size = rw (width_is (number32 block 0) flags) at s },
  λ r. says.1 r.flags,
)
  where
    says : AllHold (flags_rules m chunk at) ↔ ((number32 block 0 ≡ 1) ⊎ ((number32 block 0 ≡ 2) ⊎ (number32 block 0 ≡ 4)))
    says = simp (every_one, number32-start p (omega arith), width-says) Iff.rfl

-- Envelopes.
pub values-say : (m : List ℕ) (at : ℕ) (signed : Bool) (sections : ℕ)
    → AllHold (values_rules m signed sections at) ↔ ((i : ℕ) → i < sections + 1 → value_fits signed (number16 m (at + 8 + 4 * i + 2)) ≡ true)
values-say m at signed sections = simp (every_one, each-hold (value_rules m signed), every-step) Iff.rfl

module _ {m block : List ℕ} {at : ℕ} (p : PartAt m at block) (s : Sized Envelope block) where
  pub envelope-size : length block ≡ 136
  unfolding size_of
  envelope-size = s

  pub byte-same : (k : ℕ) → k < 8 → byte_at m (at + k) ≡ byte_at block k
  byte-same k h = byte_at-at p k (omega (arith, envelope-size))

  pub value_same : (i : ℕ) → i ≤ 31 → number16 m (at + 8 + 4 * i + 2) ≡ number16 block (10 + 4 * i)
  value_same i h = let same : at + 8 + 4 * i + 2 ≡ at + (10 + 4 * i) = omega arith in rw same (number16-at p (10 + 4 * i) (omega (arith, envelope-size)))

  head-says : (instruments : ℕ)
      → AllHold (envelope_head_rules m instruments at)
      ↔ (((1 ≤ number16 block 0) × (number16 block 0 ≤ instruments)) × ((byte_at block 2 < 16) × (byte_at block 3 ≤ 31)))
  head-says instruments = simp (plain, number16-start p (omega (arith, envelope-size)), byte-same 2 (omega arith), byte-same 3 (omega arith)) Iff.rfl

  points-say : (flags sections : ℕ)
      → AllHold (envelope_point_rules m flags sections at)
      ↔ ((flags / 2 % 2 ≡ 1 → byte_at block 4 ≤ sections)
      × ((flags / 2 / 2 % 2 ≡ 1 → byte_at block 5 ≤ sections)
      × ((flags / 2 / 2 % 2 ≡ 1 → (byte_at block 6 ≤ sections) × (byte_at block 5 ≤ byte_at block 6))
      × (flags / 2 / 2 / 2 % 2 ≡ 1 → byte_at block 7 ≤ sections))))
  points-say flags sections = simp (plain, byte-same 4 (omega arith), byte-same 5 (omega arith), byte-same 6 (omega arith), byte-same 7 (omega arith)) Iff.rfl

  module _ (signed : Bool) (ValueFits : ℕ → Type 0) (fits-says : (v : ℕ) → (value_fits signed v ≡ true) ↔ ValueFits v) (instruments : ℕ) where
    parts : (flags sections : ℕ) → envelope_flags m at ≡ flags → envelope_sections m at ≡ sections
        → AllHold (envelope_rules m instruments signed at)
        ↔ (AllHold (envelope_head_rules m instruments at) × AllHold (envelope_point_rules m flags sections at) × AllHold (values_rules m signed sections at))
    parts flags sections a b =
        rw (← a, ← b) (every-split (envelope_head_rules m instruments at)
        (envelope_point_rules m (envelope_flags m at) (envelope_sections m at) at)
        (values_rules m signed (envelope_sections m at) at))

    in_block : AllHold (envelope_rules m instruments signed at)
        ↔ (AllHold (envelope_head_rules m instruments at)
        × AllHold (envelope_point_rules m (byte_at block 2) (byte_at block 3) at)
        × AllHold (values_rules m signed (byte_at block 3) at))
    in_block = parts (byte_at block 2) (byte_at block 3) (byte-same 2 (omega arith)) (byte-same 3 (omega arith))

    pub envelope-holds : AllHold (envelope_rules m instruments signed at) ↔ EnvelopeRules instruments ValueFits block
    envelope-holds = (
      λ e.
          let h = (head-says instruments).0 (in_block.0 e).0 in
          let q = (points-say (byte_at block 2) (byte_at block 3)).0 (in_block.0 e).1 in
          let v = (values-say m at signed (byte_at block 3)).0 (in_block.0 e).2 in
          record {
            size = envelope-size;
            instrument = h.0;
            flags = h.1.0;
            sections = h.1.1;
            first_sustain = q.0;
            loop = λ b. (q.1.0 b, (q.1.1.0 b).0, (q.1.1.0 b).1);
            second_sustain = q.1.1.1;
            values = λ i l. (fits-says (number16 block (10 + 4 * i))).0 (rw (value_same i (omega (arith, h.1.1))) at (v i (omega arith)));
          },
      λ r. in_block.1 (
        (head-says instruments).1 (r.instrument, (r.flags, r.sections)),
        (points-say (byte_at block 2) (byte_at block 3)).1 (r.first_sustain, (λ b. (r.loop b).0, (λ b. ((r.loop b).1, (r.loop b).2), r.second_sustain))),
        (values-say m at signed (byte_at block 3)).1
            (λ i l. rw (value_same i (omega (arith, r.sections))) ((fits-says (number16 block (10 + 4 * i))).1 (r.values i (omega arith)))),
      ),
    )

pub envelope-sized : (instruments : ℕ) (ValueFits : ℕ → Type 0) (block : List ℕ) → EnvelopeRules instruments ValueFits block → Sized Envelope block
unfolding size_of
envelope-sized instruments ValueFits block r = r.size
