-- What copying to the front of an output leaves in it.
use Prim.Native.Nat.{ℕ, zero, suc, ◌+◌, ◌<◌, ◌≤◌, min}
use mathlib.Core.Path.{◌≡◌, refl, ap, ◌∙◌}
use mathlib.Core.List.{List, [], ◌∷◌, ◌++◌}
use native.Mathlib.Omega.{arith}
use native.Mathlib.Nat.{suc-add}
use lib.ListN.{length, get_or, set, take, drop}
use lib.Seq.{take_all}
use Rattle.std.proofs.lemmas.List.{drop_all}
use mathlib.Core.Bool.{Bool, true, false}
use lib.Dec.{leb}
use borrow.Author.Tests.{leb-true, leb-false}
use Rattle.byte_copy.specs.Copied.{copied}

-- One more byte is copied.
pub one-more : (bytes out : List ℕ) (i : ℕ) → i < length bytes → i < length out
    → set (take i bytes ++ drop i out) i (get_or bytes i 0) ≡ take (i + 1) bytes ++ drop (i + 1) out
one-more [] out i h k = absurd (omega arith)
one-more (b ∷ bytes) [] i h k = absurd (omega arith)
one-more (b ∷ bytes) (o ∷ out) zero h k = refl
one-more (b ∷ bytes) (o ∷ out) (suc i) h k = rw (suc-add i 1) (ap (λ (rest : List ℕ). b ∷ rest) (one-more bytes out i (omega arith) (omega arith)))

-- With room for all bytes, they are in front of what the output held after them.
pub copied-all : (bytes out : List ℕ) → length bytes ≤ length out → copied bytes out ≡ bytes ++ drop (length bytes) out
unfolding copied
copied-all bytes out h = rw (take_all (length out) bytes h)

-- With less room, the output holds as many of them as fit.
pub copied-part : (bytes out : List ℕ) → length out ≤ length bytes → copied bytes out ≡ take (length out) bytes ++ drop (length out) out
unfolding copied
copied-part bytes out h = rw (drop_all (length bytes) out h, drop_all (length out) out (omega arith))

-- The same of an output that was copied to, in the form that the lemmas of `repack`, `replace` and `records` take.
pub copied-in : (bytes out after : List ℕ) → after ≡ copied bytes out → length bytes ≤ length out
    → after ≡ take (length bytes) bytes ++ drop (length bytes) out
copied-in bytes out after e h = e ∙ copied-all bytes out h ∙ rw (take_all (length bytes) bytes (omega arith))

-- What a copy of the first bytes leaves, up to the end of the shorter of the two.
pub copied-up : (bytes out : List ℕ) (n : ℕ) → n ≡ min (length bytes) (length out) → take n bytes ++ drop n out ≡ copied bytes out
copied-up bytes out n e =
    go (leb (length bytes) (length out)) refl
  where
    go : (b : Bool) → leb (length bytes) (length out) ≡ b → take n bytes ++ drop n out ≡ copied bytes out
    go true t =
        let h : length bytes ≤ length out = leb-true _ _ t in
        let all : n ≡ length bytes = omega arith in
        rw (copied-all bytes out h, all, take_all (length bytes) bytes (omega arith))
    go false t =
        let h : length out < length bytes = leb-false _ _ t in
        let room : n ≡ length out = omega arith in
        rw (copied-part bytes out (omega arith), room)
