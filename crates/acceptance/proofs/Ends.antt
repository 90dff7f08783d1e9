-- A part of a list, lent and given back: it runs to the list's end, or it is written after what is written already.
use Prim.Native.Nat.{ℕ, ◌+◌, ◌-◌, ◌≤◌}
use mathlib.Core.Path.{◌≡◌, sym, ap, ◌∙◌}
use mathlib.Core.List.{List, ◌++◌, append_assoc, append-nil}
use native.Mathlib.Omega.{arith}
use lib.ListN.{length, take, drop, length-append, length-drop, take-append-drop, drop_of_length-le}
use lib.Seq.{take_all, take_at, drop_at, drop-drop, drop-append-le, length-take-le}
use borrow.Rule.Slice.PartMut.{mid_of, post_of, put_mid}

module _ (a : ℕ) (xs : List ℕ) where
  pub mid-end : mid_of a (length xs - a) xs ≡ drop a xs
  mid-end = take_all (length xs - a) (drop a xs) (omega (arith, length-drop a xs))

  pub put-end : (ys : List ℕ) → put_mid a (length xs - a) xs ys ≡ take a xs ++ ys
  put-end ys =
      ap (λ (rest : List ℕ). take a xs ++ (ys ++ rest)) (drop_of_length-le (drop a xs) {i = length xs - a} (omega (arith, length-drop a xs)))
      ∙ ap (λ (rest : List ℕ). take a xs ++ rest) (append-nil ys)

-- The list after a copy to its front.
pub copied : (source xs out first : List ℕ) → source ≡ xs → first ≡ take (length source) source ++ drop (length source) out → first ≡ xs ++ drop (length xs) out
copied source xs out first same e = rw same at (e ∙ ap (λ (front : List ℕ). front ++ drop (length source) out) (take_all (length source) source (omega arith)))

-- A list is written up to a place, and a part from there on is lent and given back with more written at its front.
module _ (front xs out₀ out mid : List ℕ) (a e : ℕ) (before : out ≡ front ++ drop (length front) out₀)
    (place : length front ≡ a) (fits : a + length xs ≤ e) (inside : e ≤ length out₀) where
  ahead : drop a out ≡ drop a out₀
  ahead = ap (drop a) before ∙ drop_at front (drop (length front) out₀) a place ∙ ap (λ (k : ℕ). drop k out₀) place

  lent : length (take (e - a) (drop a out₀)) ≡ e - a
  lent = length-take-le (e - a) (drop a out₀) (omega (arith, length-drop a out₀))

  pub put_next : mid ≡ xs ++ drop (length xs) (mid_of a (e - a) out) → put_mid a (e - a) out mid ≡ (front ++ xs) ++ drop (length (front ++ xs)) out₀
  put_next is =
      let part : mid_of a (e - a) out ≡ take (e - a) (drop a out₀) = ap (take (e - a)) ahead in
      let following : mid ++ post_of a (e - a) out ≡ xs ++ drop (length xs) (drop a out₀) =
      ap (λ (l : List ℕ). l ++ post_of a (e - a) out) (is ∙ ap (λ (l : List ℕ). xs ++ drop (length xs) l) part)
      ∙ ap (λ (l : List ℕ). (xs ++ drop (length xs) (take (e - a) (drop a out₀))) ++ drop (e - a) l) ahead
      ∙ append_assoc xs (drop (length xs) (take (e - a) (drop a out₀))) (drop (e - a) (drop a out₀))
      ∙ ap (λ (l : List ℕ). xs ++ l) (sym (drop-append-le (length xs) (take (e - a) (drop a out₀)) (drop (e - a) (drop a out₀)) (omega (arith, lent)))
      ∙ ap (drop (length xs)) (take-append-drop (e - a) (drop a out₀))) in
      let written : take a out ≡ front = ap (take a) before ∙ take_at front (drop (length front) out₀) a place in
      let there : a + length xs ≡ length (front ++ xs) = omega (arith, length-append front xs, place) in
      let last : drop (length xs) (drop a out₀) ≡ drop (length (front ++ xs)) out₀ = drop-drop (length xs) a out₀ ∙ ap (λ (k : ℕ). drop k out₀) there in
      ap (λ (l : List ℕ). l ++ (mid ++ post_of a (e - a) out)) written
      ∙ ap (λ (l : List ℕ). front ++ l) (following ∙ ap (λ (l : List ℕ). xs ++ l) last)
      ∙ sym (append_assoc front xs (drop (length (front ++ xs)) out₀))

-- The length of the list is unchanged.
pub written-length : (xs out₀ out : List ℕ) → out ≡ xs ++ drop (length xs) out₀ → length xs ≤ length out₀ → length out ≡ length out₀
written-length xs out₀ out e h = omega (arith, ap length e, length-append xs (drop (length xs) out₀), length-drop (length xs) out₀)
