-- Writing the module with PATT's rewritten data: its bytes up to PATT's length, the data after the place of the length and the length; then
-- its bytes after PATT.
use Prim.Native.Nat.{ℕ, ◌+◌, ◌-◌, ◌≤◌, ◌<◌}
use mathlib.Core.Path.{◌≡◌, refl, sym, ap, ◌∙◌}
use mathlib.Core.List.{List, ◌++◌, append_assoc}
use native.Mathlib.Omega.{arith}
use lib.ListN.{length, take, drop, length-append, length-drop}
use lib.Seq.{length-take-le}
use borrow.Rule.Slice.PartMut.{mid_of, put_mid}
use Rattle.numbers.specs.Numbers.{bytes32, put_at}
use Rattle.layout.specs.declared.ChunkSpan.{ChunkSpan}
use Rattle.blocks.specs.Filling.{data_end}
use Rattle.acceptance.proofs.Ends.{mid-end, copied, put_next, written-length}
use Rattle.repack.specs.Steps.{rewritten_front, replaced}
use Rattle.repack.proofs.LengthBefore.{third-is}

module _ (m : List ℕ) (chunk : ChunkSpan) (rewritten : List ℕ) (whole : data_end chunk ≤ length m) where
  abbrev front : List ℕ
  front = take (chunk.at + 4) m

  pub front-size : length front ≡ chunk.at + 4
  front-size = length-take-le (chunk.at + 4) m (omega arith)

  -- The length of the module with PATT's data replaced.
  pub replaced-length : length (replaced m chunk rewritten) + chunk.length ≡ length m + length rewritten
  replaced-length =
      omega (
        arith,
        length-append front (bytes32 (length rewritten) ++ (rewritten ++ drop (data_end chunk) m)),
        front-size,
        length-append rewritten (drop (data_end chunk) m),
        length-drop (data_end chunk) m,
      )

  counted-length : {n : ℕ} → n ≡ length rewritten → length m - chunk.length + n ≡ length (replaced m chunk rewritten)
  counted-length size = omega (arith, replaced-length)

  -- The room that the output needs: the module's own length, or the counted length.
  pub room-enough : {room : ℕ} → length rewritten ≤ chunk.length → length m ≤ room
      → (length (replaced m chunk rewritten) ≤ length m) × (room < length m → length m ≡ length (replaced m chunk rewritten))
  room-enough shorter h = (omega (arith, replaced-length), λ less. absurd (omega arith))

  pub room-counted : {room n : ℕ} → n ≡ length rewritten
      → (length (replaced m chunk rewritten) ≤ length m - chunk.length + n)
      × (room < length m - chunk.length + n → length m - chunk.length + n ≡ length (replaced m chunk rewritten))
  room-counted size = (omega (arith, counted-length size), λ less. counted-length size)

  -- The module up to PATT's end, and the bytes after PATT.
  pub front_length : length (rewritten_front m chunk rewritten) ≡ chunk.at + 4 + 4 + length rewritten
  front_length = omega (arith, length-append front (bytes32 (length rewritten) ++ rewritten), front-size)

  pub front-room : {room : ℕ} → length (replaced m chunk rewritten) ≤ room → length (rewritten_front m chunk rewritten) ≤ room
  front-room h = omega (arith, front_length, replaced-length)

  -- Writing up to PATT's end: the arguments and answers of the calls, one after the other.
  module _ (out₀ : List ℕ) (room : length (rewritten_front m chunk rewritten) ≤ length out₀) where
    abbrev start : ℕ
    start = chunk.at + 4 + 4

    pub start-room : start + length rewritten ≤ length out₀
    start-room = omega (arith, front_length)

    module _ {out₁ : List ℕ} (e₁ : out₁ ≡ take (length front) front ++ drop (length front) out₀) where
      first : out₁ ≡ front ++ drop (chunk.at + 4) out₀
      first = copied front front out₀ out₁ refl e₁ ∙ ap (λ (k : ℕ). front ++ drop k out₀) front-size

      module _ {n : ℕ} {mid₂ : List ℕ} (done : (n ≡ length rewritten) × (mid₂ ≡ rewritten ++ drop n (mid_of start (length out₁ - start) out₁))) where
        abbrev out₂ : List ℕ
        out₂ = put_mid start (length out₁ - start) out₁ mid₂

        module _ {out₃ : List ℕ} (e₃ : out₃ ≡ put_at (bytes32 n) (chunk.at + 4) out₂) where
          pub front-written : (start + n ≡ length (rewritten_front m chunk rewritten)) × (out₃ ≡ rewritten_front m chunk rewritten ++ drop (start + n) out₀)
          front-written = (
            omega (arith, front_length, done.0),
            e₃
                ∙ third-is front out₀ out₁ (chunk.at + 4) front-size (omega (arith, start-room)) first rewritten mid₂ n done.0
                (omega (arith, start-room, done.0)) done.1
                ∙ ap (λ (k : ℕ). front ++ (bytes32 k ++ (rewritten ++ drop (start + n) out₀))) done.0
                ∙ sym (append_assoc front (bytes32 (length rewritten) ++ rewritten) (drop (start + n) out₀)),
          )

  -- Writing the bytes after PATT.
  module _ (out₀ : List ℕ) (room : length (replaced m chunk rewritten) ≤ length out₀) {end : ℕ} {out₁ : List ℕ}
      (done : (end ≡ length (rewritten_front m chunk rewritten)) × (out₁ ≡ rewritten_front m chunk rewritten ++ drop end out₀)) where
    abbrev following : ℕ
    following = chunk.at + 8 + chunk.length

    abbrev rest : List ℕ
    rest = mid_of following (length m - following) m

    rest-is : rest ≡ drop (data_end chunk) m
    rest-is = mid-end following m ∙ ap (λ (k : ℕ). drop k m) same
      where
        same : following ≡ data_end chunk
        same = omega arith

    before : out₁ ≡ rewritten_front m chunk rewritten ++ drop (length (rewritten_front m chunk rewritten)) out₀
    before = done.1 ∙ ap (λ (k : ℕ). rewritten_front m chunk rewritten ++ drop k out₀) done.0

    pub kept-length : length out₁ ≡ length out₀
    kept-length = written-length (rewritten_front m chunk rewritten) out₀ out₁ before (front-room room)

    all-is : rewritten_front m chunk rewritten ++ rest ≡ replaced m chunk rewritten
    all-is =
        append_assoc front (bytes32 (length rewritten) ++ rewritten) rest
        ∙ ap (λ (l : List ℕ). front ++ (bytes32 (length rewritten) ++ (rewritten ++ l))) rest-is

    pub rest-length : length rest ≡ length m - following
    rest-length = omega (arith, ap length rest-is, length-drop (data_end chunk) m)

    pub all-length : end + (length m - following) ≡ length (replaced m chunk rewritten)
    all-length = omega (arith, replaced-length, front_length, done.0)

    pub rest-room : end + (length m - following) ≤ length out₀
    rest-room = omega (arith, all-length)

    module _ {mid₂ : List ℕ} (e₂ : mid₂ ≡ take (length rest) rest ++ drop (length rest) (mid_of end (length out₁ - end) out₁)) where
      abbrev written : List ℕ
      written = put_mid end (length out₁ - end) out₁ mid₂

      pub module-written : (end + (length m - following) ≡ length (replaced m chunk rewritten))
          × (written ≡ replaced m chunk rewritten ++ drop (end + (length m - following)) out₀)
      module-written = (
        all-length,
        put_next (rewritten_front m chunk rewritten) rest out₀ out₁ mid₂ end (length out₁) before (sym done.0)
            (omega (arith, kept-length, rest-length, all-length)) (omega (arith, kept-length))
            (copied rest rest (mid_of end (length out₁ - end) out₁) mid₂ refl e₂)
            ∙ rw (all-is, all-length) refl,
      )
