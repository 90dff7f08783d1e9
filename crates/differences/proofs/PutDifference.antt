-- The five numbers of an entry, written one after the other.
use Prim.Native.Nat.{ℕ, ◌+◌, ◌≤◌}
use mathlib.Core.Path.{◌≡◌}
use mathlib.Core.List.{List, [], ◌∷◌, flatten}
use native.Mathlib.Omega.{arith}
use lib.ListN.{length}
use Rattle.numbers.specs.Numbers.{bytes16, put_at}
use Rattle.numbers.proofs.PutBytes.{put-each}
use Rattle.differences.specs.Differences.{difference_bytes}
use Rattle.differences.specs.declared.Difference.{Difference}

pub difference-put : (d : Difference) (at : ℕ) (out : List ℕ) → at + 10 ≤ length out
    → put_at (bytes16 d.field) (at + 8) (put_at (bytes16 d.track) (at + 6) (put_at (bytes16 d.row) (at + 4)
    (put_at (bytes16 d.number) (at + 2) (put_at (bytes16 d.kind) at out))))
    ≡ put_at (difference_bytes d) at out
unfolding flatten
difference-put d at out room =
    let four : at + 4 ≡ at + 2 + 2 = omega arith in
    let six : at + 6 ≡ at + 2 + 2 + 2 = omega arith in
    let eight : at + 8 ≡ at + 2 + 2 + 2 + 2 = omega arith in
    rw (four, six, eight)
    (put-each (bytes16 d.kind ∷ bytes16 d.number ∷ bytes16 d.row ∷ bytes16 d.track ∷ bytes16 d.field ∷ []) at out room)
