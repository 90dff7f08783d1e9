-- Samples: the bits and the number of the frames, and the frames themselves, are in the sample's block. A sample that is found is in an
-- accepted module, so a frame has 1, 2 or 4 bytes, and each lies within the block.
use Prim.Native.Nat.{ℕ, ◌+◌, ◌*◌, ◌≤◌, ◌<◌}
use mathlib.Core.Path.{◌≡◌, refl, ap}
use mathlib.Core.Logic.{◌⊎◌, inl, inr}
use mathlib.Core.List.{List}
use native.Mathlib.Omega.{arith}
use native.Mathlib.Nat.{add_assoc, mul-le-mul_right}
use lib.Dec.{ltb}
use lib.IntN.{ℤ}
use borrow.Author.Tests.{ltb-true}
use Rattle.vocabulary.specs.Lists.{joined}
use Rattle.refusal.specs.Lengths.{output_of}
use Rattle.numbers.specs.Numbers.{number32, part_of, bytes16, unsigned16}
use Rattle.blocks.specs.StoredFields.{sample_frames}
use Rattle.blocks.specs.Sizes.{size_of}
use Rattle.blocks.specs.declared.BlockKind.TheVariants.{Sample as SampleBlock}
use Rattle.blocks.specs.declared.RecordKind.TheVariants.{Sample}
use Rattle.queries.specs.Finding.{answer_found, output_found}
use Rattle.samples.specs.Shown.{bytes_per_frame, shown_sample, sample_if, sample_answer, frames_if, frame16, frame_of, frame_in, frame_if}
use Rattle.samples.specs.Shown.{frame_answer, all_frames, all_frames_size, all_frames_answer, all_frames_output}
use Rattle.query_theorems.proofs.SampleFrames.{frames-in}
use Rattle.showing_theorems.specs.Showing.{SameFrames}
use Rattle.showing_theorems.proofs.Alike.{SameBlock, Alike}
use Rattle.showing_theorems.proofs.SameBytes.{each_same, same_if, same_byte, same-16, same-32, same-first32, same-part}
use Rattle.showing_theorems.proofs.AlikeAnswers.{by-finding}

module _ {m n : List ℕ} {at to : ℕ} (s : SameBlock SampleBlock m n at to) where
  flags-same : number32 n to ≡ number32 m at
  unfolding size_of
  flags-same = same-first32 s (omega arith)

  count_same : sample_frames n to ≡ sample_frames m at
  unfolding size_of
  count_same = same-32 s 4 (omega arith)

  pub sample-same : shown_sample n to ≡ shown_sample m at
  sample-same = rw (flags-same, count_same)

  -- The part of the module that is returned.
  part_same : part_of n (to + 8) (sample_frames n to * bytes_per_frame n to) ≡ part_of m (at + 8) (sample_frames m at * bytes_per_frame m at)
  unfolding size_of
  part_same = rw (count_same, flags-same) (same-part s 8 (sample_frames m at * bytes_per_frame m at) (omega arith))

  -- A frame of 1, 2 or 4 bytes within the block.
  frame16-same : (bytes k : ℕ) → (bytes ≡ 1) ⊎ ((bytes ≡ 2) ⊎ (bytes ≡ 4)) → k + bytes ≤ size_of SampleBlock m at
      → frame16 n bytes (to + k) ≡ frame16 m bytes (at + k)
  frame16-same bytes k (inl e) h = rw e (rw (same_byte s k (omega arith)))
  frame16-same bytes k (inr (inl e)) h = rw e (rw (same-16 s k (omega arith)))
  frame16-same bytes k (inr (inr e)) h = rw e (rw (same-32 s k (omega arith)))

  module _ (width : (bytes_per_frame m at ≡ 1) ⊎ ((bytes_per_frame m at ≡ 2) ⊎ (bytes_per_frame m at ≡ 4))) where
    frame_of-same : (frame : ℕ) → frame < sample_frames m at → frame_of n to frame ≡ frame_of m at frame
    unfolding size_of
    frame_of-same frame h =
        rw flags-same
        (simp add_assoc
        (frame16-same (bytes_per_frame m at) (8 + frame * bytes_per_frame m at) width
        (omega (arith, mul-le-mul_right (bytes_per_frame m at) h))))

    frame_same : (frame : ℕ) → frame_in n to frame ≡ frame_in m at frame
    frame_same frame = rw count_same (same_if (ltb frame (sample_frames m at)) _ (λ h. rw (frame_of-same frame (ltb-true frame _ h))))

    all_frames-same : all_frames n to ≡ all_frames m at
    all_frames-same =
        rw count_same (ap joined (each_same (λ frame. bytes16 (unsigned16 (frame_of n to frame)))
        (λ frame. bytes16 (unsigned16 (frame_of m at frame))) (sample_frames m at) 0 0
        (λ i h. ap (λ (z : ℤ). bytes16 (unsigned16 z)) (frame_of-same (0 + i) (omega arith)))))

    output-same : (out : List ℕ) → output_of (all_frames_size n to) (all_frames n to) out ≡ output_of (all_frames_size m at) (all_frames m at) out
    output-same out = rw (all_frames-same, count_same)

module _ {m n : List ℕ} (a : Alike m n) (sample : ℕ) where
  pub same-sample : sample_answer n sample ≡ sample_answer m sample
  same-sample = by-finding a Sample sample (sample_if m) (sample_if n) (λ r. refl) (λ b c e v t s. sample-same s)

  pub same-frames : SameFrames m n sample
  same-frames = record {
    outcome = by-finding a Sample sample (λ f. (frames_if m f).outcome) (λ f. (frames_if n f).outcome) (λ r. refl) (λ b c e v t s. refl);
    length =
        by-finding a Sample sample (λ f. (frames_if m f).length) (λ f. (frames_if n f).length) (λ r. refl)
        (λ b c e v t s. rw (count_same s, flags-same s));
    bytes = by-finding a Sample sample (λ f. part_of m (frames_if m f).offset (frames_if m f).length)
        (λ f. part_of n (frames_if n f).offset (frames_if n f).length) (λ r. refl) (λ b c e v t s. part_same s);
  }

  pub same-frame : (frame : ℕ) → frame_answer n sample frame ≡ frame_answer m sample frame
  same-frame frame =
      by-finding a Sample sample (frame_if m frame) (frame_if n frame) (λ r. refl)
      (λ b c e v t s. frame_same s (frames-in m sample b e).width frame)

  pub same-all-frames : (room : ℕ) → all_frames_answer n sample room ≡ all_frames_answer m sample room
  same-all-frames room =
      by-finding a Sample sample (answer_found (all_frames_size m) room) (answer_found (all_frames_size n) room) (λ r. refl)
      (λ b c e v t s. rw (count_same s))

  pub same-all-frames-output : (out : List ℕ) → all_frames_output n sample out ≡ all_frames_output m sample out
  same-all-frames-output out =
      by-finding a Sample sample (output_found (all_frames_size m) (all_frames m) out)
      (output_found (all_frames_size n) (all_frames n) out) (λ r. refl)
      (λ b c e v t s. output-same s (frames-in m sample b e).width out)
