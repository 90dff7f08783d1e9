-- Room of many zeros. Its length is not computed.
use Prim.Native.Nat.{ℕ}
use mathlib.Core.Path.{◌≡◌, refl, sym}
use mathlib.Core.List.{List}
use lib.ListN.{length, replicate, length-replicate}

pub zeros-long : (n : ℕ) (room : List ℕ) → room ≡ replicate n 0 → (n ≡ length room) × (room ≡ replicate n 0)
zeros-long n room e = rw e (sym (length-replicate n 0), refl)
