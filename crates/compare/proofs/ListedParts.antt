-- A list written to a part of the output, from the place of its first entry on, is the list written to the whole output.
use Prim.Native.Nat.{ℕ, suc, ◌+◌, ◌-◌, ◌*◌, ◌/◌, ◌<◌, ◌≤◌, min}
use mathlib.Core.Path.{◌≡◌, refl, sym, ap, ◌∙◌}
use mathlib.Core.List.{List, [], ◌∷◌, ◌++◌, append_assoc}
use mathlib.Core.Bool.{Bool, true, false}
use native.Mathlib.Omega.{arith}
use lib.ListN.{length, take, drop, length-append, length-drop, take-append-drop}
use lib.Seq.{length-take-le, take-append-add, drop-drop, drop_at}
use lib.Dec.{leb}
use borrow.Author.Tests.{leb-true, leb-false}
use borrow.Rule.Slice.PartMut.{mid_of, put_mid}
use Rattle.numbers.specs.Numbers.{put_at}
use Rattle.numbers.proofs.PutBytes.{put-over, put-there}
use Rattle.acceptance.proofs.Ends.{mid-end, put-end}
use Rattle.differences.specs.Differences.{difference_bytes, entries_listed}
use Rattle.differences.specs.declared.Difference.{Difference}
use Rattle.differences.proofs.Listing.{listed-none}

-- Bytes written at a place that is not before the end of the front.
module _ (xs front rest : List ℕ) (a : ℕ) (place : length front ≡ a) (at : ℕ) where
  pub put-beyond : put_at xs (a + at) (front ++ rest) ≡ front ++ put_at xs at rest
  put-beyond = go (leb (at + length xs) (length rest)) refl
    where
      size : length (front ++ rest) ≡ a + length rest
      size = length-append front rest ∙ ap (◌+ length rest) place

      before : take (a + at) (front ++ rest) ≡ front ++ take at rest
      before = ap (λ (n : ℕ). take (n + at) (front ++ rest)) (sym place) ∙ take-append-add front rest at

      after : drop (a + at + length xs) (front ++ rest) ≡ drop (at + length xs) rest
      after =
          ap (λ (n : ℕ). drop n (front ++ rest)) (let same : a + at + length xs ≡ a + (at + length xs) = omega arith in same)
          ∙ sym (drop-drop (at + length xs) a (front ++ rest))
          ∙ ap (drop (at + length xs)) (drop_at front rest a place)

      go : (b : Bool) → leb (at + length xs) (length rest) ≡ b → put_at xs (a + at) (front ++ rest) ≡ front ++ put_at xs at rest
      go true t =
          let room = leb-true (at + length xs) (length rest) t in
          put-there xs (a + at) (front ++ rest) (omega (arith, size, room))
          ∙ rw (before, after) (append_assoc front (take at rest) (xs ++ drop (at + length xs) rest))
          ∙ ap (front ++◌) (sym (put-there xs at rest room))
      go false t =
          let none = leb-false (at + length xs) (length rest) t in
          put-over xs (a + at) (front ++ rest) (omega (arith, size, none)) ∙ ap (front ++◌) (sym (put-over xs at rest none))

-- Entries after a front that holds n entries.
pub listed-beyond : (ds : List Difference) (n k : ℕ) (front rest : List ℕ) → length front ≡ 10 * n
    → entries_listed ds (n + k) (front ++ rest) ≡ front ++ entries_listed ds k rest
listed-beyond [] n k front rest place = refl
listed-beyond (d ∷ ds) n k front rest place =
    let one = difference_bytes d in
    let there : 10 * (n + k) ≡ 10 * n + 10 * k = omega arith in
    let next : suc (n + k) ≡ n + suc k = omega arith in
    let first : put_at one (10 * (n + k)) (front ++ rest) ≡ front ++ put_at one (10 * k) rest =
    ap (λ (at : ℕ). put_at one at (front ++ rest)) there ∙ put-beyond one front rest (10 * n) place (10 * k) in
    ap (entries_listed ds (suc (n + k))) first
    ∙ ap (λ (i : ℕ). entries_listed ds i (front ++ put_at one (10 * k) rest)) next
    ∙ listed-beyond ds n (suc k) front (put_at one (10 * k) rest) place

-- The output from the entry with number n on, or from the last place for an entry if it has no room for so many.
module _ (ds : List Difference) (n : ℕ) (out : List ℕ) (start : ℕ) (s : start ≡ 10 * min n (length out / 10)) where
  pub start-inside : start ≤ length out
  start-inside = omega (arith, s)

  pub listed-parts : take start out ++ entries_listed ds 0 (drop start out) ≡ entries_listed ds n out
  listed-parts = go (leb (10 * n) (length out)) refl
    where
      go : (b : Bool) → leb (10 * n) (length out) ≡ b → take start out ++ entries_listed ds 0 (drop start out) ≡ entries_listed ds n out
      go true t =
          let room = leb-true (10 * n) (length out) t in
          let there : start ≡ 10 * n = omega (arith, s, room) in
          let same : n + 0 ≡ n = omega arith in
          sym (listed-beyond ds n 0 (take start out) (drop start out) (length-take-le start out start-inside ∙ there))
          ∙ ap (λ (k : ℕ). entries_listed ds k (take start out ++ drop start out)) same
          ∙ ap (entries_listed ds n) (take-append-drop start out)
      go false t =
          let none = leb-false (10 * n) (length out) t in
          let left : length (drop start out) < 10 = omega (arith, s, none, length-drop start out) in
          ap (take start out ++◌) (listed-none ds 0 (drop start out) left)
          ∙ take-append-drop start out
          ∙ sym (listed-none ds n out (omega (arith, none)))

  -- A part from there on, lent and given back with the entries.
  pub listed-lent : (mid : List ℕ) → mid ≡ entries_listed ds 0 (mid_of start (length out - start) out)
      → put_mid start (length out - start) out mid ≡ entries_listed ds n out
  listed-lent mid is = put-end start out mid ∙ ap (take start out ++◌) (is ∙ ap (entries_listed ds 0) (mid-end start out)) ∙ listed-parts
