-- Bytes written at a place of an output.
--     put-over    an output that is too short is unchanged
--     put-there   what the output holds if it is long enough
--     put-length  its length is unchanged
--     put-after   the output is written up to the place
--     put-instead bytes of the output are overwritten with as many others
--     put-within  the place is within the front of the output
--     put_both    two lists written one after the other are the same as both written at once
--     put-each    so are several lists
--     put_front   so are several lists from the front on
--     put-sets    the stores of the code
use Prim.Native.Nat.{ℕ, ◌+◌, ◌<◌, ◌≤◌}
use mathlib.Core.Path.{◌≡◌, refl, sym, ap, ◌∙◌}
use mathlib.Core.List.{List, [], ◌∷◌, ◌++◌, append_assoc, flatten}
use mathlib.Core.Bool.{Bool, true, false}
use native.Mathlib.Omega.{arith}
use native.Mathlib.Nat.{add-zero}
use lib.ListN.{length, take, drop, length-append, length-drop, take-append-drop}
use lib.Seq.{take_at, drop_at, take-append-le, drop-append-le, drop-drop, length-take-le, sets, sets-eq}
use lib.Dec.{leb}
use borrow.Author.Tests.{le-leb, lt-leb, leb-true, leb-false}
use Rattle.numbers.specs.Numbers.{put_at}

module _ (xs : List ℕ) (at : ℕ) (out : List ℕ) where
  pub put-over : length out < at + length xs → put_at xs at out ≡ out
  unfolding put_at
  put-over h = simp (lt-leb (at + length xs) (length out) h)

  module _ (h : at + length xs ≤ length out) where
    pub put-there : put_at xs at out ≡ take at out ++ (xs ++ drop (at + length xs) out)
    unfolding put_at
    put-there = simp (le-leb (at + length xs) (length out) h)

    pub put-sets : sets out at xs ≡ put_at xs at out
    put-sets = sets-eq xs out at h ∙ append_assoc (take at out) xs (drop (at + length xs) out) ∙ sym put-there

    there-length : length (put_at xs at out) ≡ length out
    there-length =
        ap length put-there
        ∙ omega (
          arith,
          length-append (take at out) (xs ++ drop (at + length xs) out),
          length-append xs (drop (at + length xs) out),
          length-take-le at out (omega arith),
          length-drop (at + length xs) out,
        )

  pub put-length : length (put_at xs at out) ≡ length out
  put-length = go (leb (at + length xs) (length out)) refl
    where
      go : (b : Bool) → leb (at + length xs) (length out) ≡ b → length (put_at xs at out) ≡ length out
      go true t = there-length (leb-true (at + length xs) (length out) t)
      go false t = ap length (put-over (leb-false (at + length xs) (length out) t))

module _ (front xs : List ℕ) (at : ℕ) (place : length front ≡ at) where
  pub put-after : (rest : List ℕ) → length xs ≤ length rest → put_at xs at (front ++ rest) ≡ front ++ (xs ++ drop (length xs) rest)
  put-after rest h =
      let inside : at + length xs ≤ length (front ++ rest) = omega (arith, length-append front rest) in
      let following : drop (at + length xs) (front ++ rest) ≡ drop (length xs) rest =
      sym (drop-drop (length xs) at (front ++ rest)) ∙ ap (drop (length xs)) (drop_at front rest at place) in
      put-there xs at (front ++ rest) inside
      ∙ ap (λ (l : List ℕ). l ++ (xs ++ drop (at + length xs) (front ++ rest))) (take_at front rest at place)
      ∙ ap (λ (l : List ℕ). front ++ (xs ++ l)) following

  pub put-instead : (old rest : List ℕ) → length old ≡ length xs → put_at xs at (front ++ (old ++ rest)) ≡ front ++ (xs ++ rest)
  put-instead old rest same =
      put-after (old ++ rest) (omega (arith, length-append old rest)) ∙ ap (λ (l : List ℕ). front ++ (xs ++ l)) (drop_at old rest (length xs) same)

module _ (xs : List ℕ) (at : ℕ) (front rest : List ℕ) (h : at + length xs ≤ length front) where
  pub put-within : put_at xs at (front ++ rest) ≡ put_at xs at front ++ rest
  put-within =
      put-there xs at (front ++ rest) (omega (arith, length-append front rest))
      ∙ rw (take-append-le at front rest (omega arith), drop-append-le (at + length xs) front rest h) (simp append_assoc)
      ∙ ap (λ (l : List ℕ). l ++ rest) (sym (put-there xs at front h))

module _ (xs ys : List ℕ) (at to : ℕ) (out : List ℕ) (e : at + length xs ≡ to) (h : to + length ys ≤ length out) where
  pub put_both : put_at ys to (put_at xs at out) ≡ put_at (xs ++ ys) at out
  put_both =
      let inside : at + length xs ≤ length out = omega (arith, h) in
      let before : length (take at out ++ xs) ≡ to = omega (arith, length-append (take at out) xs, length-take-le at out (omega arith)) in
      let first : put_at xs at out ≡ (take at out ++ xs) ++ drop to out =
      put-there xs at out inside
      ∙ sym (append_assoc (take at out) xs (drop (at + length xs) out))
      ∙ ap (λ (k : ℕ). (take at out ++ xs) ++ drop k out) e in
      let end : to + length ys ≡ at + length (xs ++ ys) = omega (arith, length-append xs ys) in
      let last : drop (length ys) (drop to out) ≡ drop (at + length (xs ++ ys)) out =
      drop-drop (length ys) to out ∙ ap (λ (k : ℕ). drop k out) end in
      ap (put_at ys to) first
      ∙ put-after (take at out ++ xs) ys to before (drop to out) (omega (arith, length-drop to out))
      ∙ ap (λ (l : List ℕ). (take at out ++ xs) ++ (ys ++ l)) last
      ∙ append_assoc (take at out) xs (ys ++ drop (at + length (xs ++ ys)) out)
      ∙ ap (λ (l : List ℕ). take at out ++ l) (sym (append_assoc xs ys (drop (at + length (xs ++ ys)) out)))
      ∙ sym (put-there (xs ++ ys) at out (omega (arith, end)))

-- Lists written one after the other, as calls leave them.
abbrev pub put_each : List (List ℕ) → ℕ → List ℕ → List ℕ
put_each [] at out = out
put_each (xs ∷ more) at out = put_each more (at + length xs) (put_at xs at out)

pub put-each : (all : List (List ℕ)) (at : ℕ) (out : List ℕ) → at + length (flatten all) ≤ length out → put_each all at out ≡ put_at (flatten all) at out
unfolding flatten
put-each [] at out h = sym (put-there [] at out h ∙ ap (λ (k : ℕ). take at out ++ drop k out) (add-zero at) ∙ take-append-drop at out)
put-each (xs ∷ more) at out h =
    let room : at + length xs + length (flatten more) ≤ length out = omega (arith, length-append xs (flatten more)) in
    put-each more (at + length xs) (put_at xs at out) (omega (arith, put-length xs at out))
    ∙ put_both xs (flatten more) at (at + length xs) out refl room

pub put_front : (all : List (List ℕ)) (out : List ℕ) → length (flatten all) ≤ length out → put_each all 0 out ≡ flatten all ++ drop (length (flatten all)) out
put_front all out h = put-each all 0 out (omega arith) ∙ put-after [] (flatten all) 0 refl out h
