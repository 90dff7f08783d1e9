-- Samples: what the queries show of the encoding of a sample in the module is the sample, and its frames, as stored and at 16 bits.
use Prim.Native.Nat.{ℕ, ◌+◌, ◌*◌, ◌<◌}
use mathlib.Core.Path.{◌≡◌, refl, sym, ap, ◌∙◌}
use mathlib.Core.List.{List, ◌++◌, map}
use native.Mathlib.Omega.{arith}
use lib.ListN.{length, get_or}
use lib.Dec.{ltb}
use lib.IntN.{ℤ, pos, ◌*ℤ◌}
use borrow.Author.Tests.{ltb-true}
use Rattle.vocabulary.specs.Lists.{joined}
use Rattle.refusal.specs.Lengths.{length_if, output_of}
use Rattle.numbers.specs.Numbers.{byte_at, part_of, signed_by, signed16, bytes16, bytes32, unsigned16}
use Rattle.numbers.proofs.Stored.{bytes16-again, bytes32-again}
use Rattle.blocks.specs.StoredFields.{sample_frames}
use Rattle.blocks.specs.Sizes.{width_of, size_of}
use Rattle.blocks.specs.declared.BlockKind.TheVariants.{Sample as SampleBlock}
use Rattle.acceptance.proofs.Locating.{PartAt, byte_at-start, number16-start, number32-start, number32-at, part-is}
use Rattle.acceptance.proofs.Cutting.{Sized, part-rest}
use Rattle.samples.specs.Shown.{bytes_per_frame as frame_width, shown_sample, divided_down, frame16 as frame16_at, frame_of}
use Rattle.samples.specs.Shown.{frame_in, all_frames, all_frames_size}
use Rattle.showing_theorems.proofs.SameBytes.{same_if}
use Rattle.format.specs.Description.{Width, eight, sixteen, thirty_two, Sample}
use Rattle.format.specs.Encoding.{flags_of, frame_bytes, sample_bytes}
use Rattle.format.specs.Shown.{described_sample, stored_frames, at_16_bits, described_frame, frames_length, frames_written}
use Rattle.format.proofs.Stored.{piece-at}
use Rattle.format.proofs.ReadingBlocks.{frame-size, frames-size, sample-size, sample-flags, sample-frames}
use Rattle.format.proofs.ShownBlocks.{each-listed}

-- The flags are the number of bytes in a frame.
width-flags : (w : Width) → width_of (flags_of w) ≡ flags_of w
width-flags eight = refl
width-flags sixteen = refl
width-flags thirty_two = refl

-- A frame at a place, at 16 bits.
frame_at : (w : Width) (frame : ℕ) {m : List ℕ} {at : ℕ} → PartAt m at (frame_bytes w frame) → frame16_at m (flags_of w) at ≡ at_16_bits w frame
unfolding byte_at
frame_at eight frame p = ap (λ (v : ℕ). signed_by 128 v *ℤ pos 256) (byte_at-start p (omega arith))
frame_at sixteen frame p = ap (λ (v : ℕ). signed16 v) (number16-start p (omega arith) ∙ bytes16-again frame)
frame_at thirty_two frame p = ap (λ (v : ℕ). divided_down (signed_by 2147483648 v)) (number32-start p (omega arith) ∙ bytes32-again frame)

module _ (s : Sample) where
  pub sample-sized : Sized SampleBlock (sample_bytes s)
  unfolding size_of
  sample-sized = rw (sample-frames s, sample-flags s, width-flags s.width) (sample-size s)

  module _ {m : List ℕ} {at : ℕ} (p : PartAt m at (sample_bytes s)) where
    width : frame_width m at ≡ flags_of s.width
    width = rw (number32-start p (omega (arith, sample-size s)), sample-flags s) (width-flags s.width)

    count : sample_frames m at ≡ length s.frames
    count = number32-at p 4 (omega (arith, sample-size s)) ∙ sample-frames s

    pub sample-shown : shown_sample m at ≡ described_sample s
    sample-shown = rw (width, count)

    -- The frames as stored.
    stored : PartAt m (at + 8) (stored_frames s)
    stored = part-rest (bytes32 (flags_of s.width) ++ bytes32 (length s.frames)) (stored_frames s) p

    pub frames-length : sample_frames m at * frame_width m at ≡ length (stored_frames s)
    frames-length = rw (width, count) (sym (frames-size s.width s.frames))

    pub frames-shown : part_of m (at + 8) (sample_frames m at * frame_width m at) ≡ stored_frames s
    frames-shown = ap (part_of m (at + 8)) frames-length ∙ part-is stored

    -- A frame at 16 bits.
    frame-there : (frame : ℕ) → frame < length s.frames → PartAt m (at + 8 + frame * flags_of s.width) (frame_bytes s.width (get_or s.frames frame 0))
    frame-there frame h = piece-at (frame_bytes s.width) (flags_of s.width) (frame-size s.width) s.frames frame 0 h stored

    frame-of : (frame : ℕ) → frame < length s.frames → frame_of m at frame ≡ at_16_bits s.width (get_or s.frames frame 0)
    frame-of frame h = rw width (frame_at s.width (get_or s.frames frame 0) (frame-there frame h))

    pub frame-shown : (frame : ℕ) → frame_in m at frame ≡ described_frame frame s
    frame-shown frame = rw count (same_if (ltb frame (length s.frames)) _ (λ h. rw (frame-of frame (ltb-true frame _ h))))

    -- All frames at 16 bits.
    all : all_frames m at ≡ joined (map (λ f. bytes16 (unsigned16 (at_16_bits s.width f))) s.frames)
    all =
        rw count (ap joined (each-listed (λ frame. bytes16 (unsigned16 (frame_of m at frame)))
        (λ f. bytes16 (unsigned16 (at_16_bits s.width f))) 0 s.frames 0
        (λ i h. ap (λ (z : ℤ). bytes16 (unsigned16 z))
        (frame-of (0 + i) (omega arith) ∙ ap (λ (k : ℕ). at_16_bits s.width (get_or s.frames k 0)) (omega arith)))))

    pub all-frames-shown : (room : ℕ) → length_if (all_frames_size m at) room ≡ frames_length room s
    all-frames-shown room = rw count

    pub all-frames-written : (out : List ℕ) → output_of (all_frames_size m at) (all_frames m at) out ≡ frames_written out s
    all-frames-written out = rw (all, count)
