-- Data are written after the place of their length, and then their length, in 4 bytes, before them.
use Prim.Native.Nat.{ℕ, ◌+◌, ◌-◌, ◌≤◌}
use mathlib.Core.Path.{◌≡◌, sym, ap, ◌∙◌}
use mathlib.Core.List.{List, ◌++◌}
use native.Mathlib.Omega.{arith}
use lib.ListN.{length, take, drop, length-append, length-drop}
use lib.Seq.{take-take, take-append-le, take_at, drop_at, drop-drop, length-take-le}
use borrow.Rule.Slice.PartMut.{mid_of, put_mid}
use Rattle.numbers.specs.Numbers.{bytes32, put_at}
use Rattle.numbers.proofs.PutBytes.{put-there}
use Rattle.acceptance.proofs.Ends.{mid-end, put-end}

-- The output after it is written up to the place of the length.
module _ (front out first : List ℕ) (a : ℕ) (size : length front ≡ a) (room : a + 4 ≤ length out) (e₁ : first ≡ front ++ drop a out) where
  first-length : length first ≡ length out
  first-length = omega (arith, ap length e₁, length-append front (drop a out), length-drop a out, size)

  first_rest : drop (a + 4) first ≡ drop (a + 4) out
  first_rest =
      let following : drop a first ≡ drop a out = rw e₁ (drop_at front (drop a out) a size) in
      sym (drop-drop 4 a first) ∙ ap (drop 4) following ∙ drop-drop 4 a out

  -- The part that is lent after the place of the length.
  pub lent_length : length (mid_of (a + 4) (length first - (a + 4)) first) ≡ length out - (a + 4)
  lent_length = omega (arith, ap length (mid-end (a + 4) first), length-drop (a + 4) first, first-length)

  four-more : length (take (a + 4) first) ≡ a + 4
  four-more = length-take-le (a + 4) first (omega (arith, first-length))

  -- The output after the data are written there.
  module _ (xs mid : List ℕ) (n : ℕ) (long : n ≡ length xs) (enough : a + 4 + n ≤ length out)
      (e₂ : mid ≡ xs ++ drop n (mid_of (a + 4) (length first - (a + 4)) first)) where
    abbrev second : List ℕ
    second = put_mid (a + 4) (length first - (a + 4)) first mid

    second_is : second ≡ take (a + 4) first ++ (xs ++ drop (a + 4 + n) out)
    second_is =
        put-end (a + 4) first mid
        ∙ ap (λ (rest : List ℕ). take (a + 4) first ++ rest)
        (e₂
        ∙ ap (λ (rest : List ℕ). xs ++ drop n rest) (mid-end (a + 4) first ∙ first_rest)
        ∙ ap (λ (rest : List ℕ). xs ++ rest) (drop-drop n (a + 4) out))

    after-length : drop (a + 4) second ≡ xs ++ drop (a + 4 + n) out
    after-length = ap (drop (a + 4)) second_is ∙ drop_at (take (a + 4) first) (xs ++ drop (a + 4 + n) out) (a + 4) four-more

    front-stays : take a second ≡ front
    front-stays =
        ap (take a) second_is
        ∙ take-append-le a (take (a + 4) first) (xs ++ drop (a + 4 + n) out) (omega (arith, four-more))
        ∙ take-take a (a + 4) first (omega arith)
        ∙ ap (take a) e₁
        ∙ take_at front (drop a out) a size

    place_inside : a + 4 ≤ length second
    place_inside = omega (arith, ap length second_is, length-append (take (a + 4) first) (xs ++ drop (a + 4 + n) out), four-more)

    -- The output after the length is written.
    pub third-is : put_at (bytes32 n) a second ≡ front ++ (bytes32 n ++ (xs ++ drop (a + 4 + n) out))
    third-is =
        put-there (bytes32 n) a second place_inside
        ∙ ap (λ (l : List ℕ). l ++ (bytes32 n ++ drop (a + 4) second)) front-stays
        ∙ ap (λ (rest : List ℕ). front ++ (bytes32 n ++ rest)) after-length
