-- New frames are any even number of bytes: each two of them are a frame of 16 bits.
use Prim.Native.Nat.{ℕ, ◌+◌, ◌*◌, ◌/◌, ◌%◌}
use mathlib.Core.Path.{◌≡◌}
use mathlib.Core.List.{List, map}
use native.Mathlib.Omega.{arith}
use lib.ListN.{length}
use Rattle.vocabulary.specs.Lists.{joined, Every}
use Rattle.numbers.specs.Numbers.{Bytes, number16, each_from, bytes16}
use Rattle.numbers.proofs.AllBytes.{number16-below}
use Rattle.format.specs.Description.{sixteen}
use Rattle.format.specs.WellFormed.{Fits16}
use Rattle.format.proofs.DescribedBlocks.{number-next, pieces-again, every-each}

doubled : (n : ℕ) → n % 2 ≡ 0 → n ≡ 2 * (n / 2)
doubled n even = omega arith

pub frames-from-bytes : (new : List ℕ) → Bytes new → length new % 2 ≡ 0
    → (frames : List ℕ) × Every Fits16 frames × (joined (map bytes16 frames) ≡ new)
frames-from-bytes new bytes even = go (length new / 2) (doubled (length new) even)
  where
    frame : ℕ → ℕ
    frame i = number16 new (2 * i)

    go : (n : ℕ) → length new ≡ 2 * n → (frames : List ℕ) × Every Fits16 frames × (joined (map bytes16 frames) ≡ new)
    go n long = (
      each_from frame 0 n,
      every-each frame n (λ i h. number16-below new bytes (2 * i)),
      pieces-again bytes16 frame new (λ i. 2 * i) n
          (λ i h. number-next new bytes sixteen (2 * i) (2 * (i + 1)) (omega arith) (omega (arith, long))) long,
    )
