-- A stored frame at 16 bits, taken as signed, is the frame that document 01 defines; and its two bytes.
use Prim.Native.Nat.{ℕ, suc, ◌+◌, ◌-◌, ◌*◌, ◌/◌, ◌<◌}
use mathlib.Core.Path.{◌≡◌, refl, sym, ap, ◌∙◌}
use mathlib.Core.List.{List}
use mathlib.Core.Bool.{Bool, true, false}
use native.Mathlib.Omega.{arith}
use lib.Dec.{ltb}
use lib.IntN.{ℤ, pos, negsuc, neg_ℤ, ◌*ℤ◌, pos-*ℤ-pos, negsuc-*ℤ-pos}
use borrow.Author.Tests.{lt-ltb, le-ltb, ltb-true, ltb-false}
use Rattle.refusal.specs.Numbers.{no_refusal}
use Rattle.refusal.specs.declared.Outcome.{Outcome}
use Rattle.numbers.specs.Numbers.{signed_by, signed16, unsigned16}
use Rattle.blocks.specs.StoredFields.{sample_frames}
use Rattle.samples.specs.Shown.{bytes_per_frame, divided_down, frame16, frame_of, frame_in}
use Rattle.samples.specs.declared.FrameAnswer.{FrameAnswer}

-- 8 bits: times 256.
pub times-256 : (b : ℕ) → b < 256 → signed16 (b * 256) ≡ signed_by 128 b *ℤ pos 256
times-256 b h = go (ltb b 128) refl
  where
    go : (t : Bool) → ltb b 128 ≡ t → signed16 (b * 256) ≡ signed_by 128 b *ℤ pos 256
    go true t =
        let low = ltb-true b 128 t in
        simp (t, lt-ltb (b * 256) 32768 (omega arith)) (sym (pos-*ℤ-pos b 256))
    go false t =
        let high = ltb-false b 128 t in
        let same : suc (255 - b) * 256 ≡ suc (65535 - b * 256) = omega arith in
        simp (t, le-ltb (b * 256) 32768 (omega arith)) (ap (λ (n : ℕ). neg_ℤ (pos n)) (sym same) ∙ sym (negsuc-*ℤ-pos (255 - b) 256))

-- 32 bits: divided by 65,536 and rounded down.
pub rounds-down : (v : ℕ) → v < 4294967296 → signed16 (v / 65536) ≡ divided_down (signed_by 2147483648 v)
rounds-down v h = go (ltb v 2147483648) refl
  where
    go : (t : Bool) → ltb v 2147483648 ≡ t → signed16 (v / 65536) ≡ divided_down (signed_by 2147483648 v)
    go true t =
        let low = ltb-true v 2147483648 t in
        simp (t, lt-ltb (v / 65536) 32768 (omega arith))
    go false t =
        let high = ltb-false v 2147483648 t in
        let same : 65535 - v / 65536 ≡ (4294967295 - v) / 65536 = omega arith in
        simp (t, le-ltb (v / 65536) 32768 (omega arith)) (ap negsuc same)

-- A stored number taken as signed and stored again is the same number.
pub stored-again : (v : ℕ) → v < 65536 → unsigned16 (signed16 v) ≡ v
stored-again v h = go (ltb v 32768) refl
  where
    go : (t : Bool) → ltb v 32768 ≡ t → unsigned16 (signed16 v) ≡ v
    go true t = simp t
    go false t = simp t (omega (arith, h))

-- A frame that exists is shown.
pub frame-shown : (m : List ℕ) (at frame count bytes : ℕ) (outcome : Outcome) (z : ℤ) → outcome ≡ no_refusal
    → count ≡ sample_frames m at → frame < count → bytes ≡ bytes_per_frame m at → z ≡ frame16 m bytes (at + 8 + frame * bytes)
    → ◌≡◌ {A = FrameAnswer} (record { outcome = outcome; frame = z }) (frame_in m at frame)
frame-shown m at frame count bytes outcome z none counted less width e =
    let shown : z ≡ frame_of m at frame = e ∙ ap (λ (b : ℕ). frame16 m b (at + 8 + frame * b)) width in
    simp (← counted, lt-ltb frame count less, shown, none)
