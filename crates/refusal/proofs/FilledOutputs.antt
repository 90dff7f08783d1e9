-- Laws about the answer and the output of a call that fills a lent output.
use Prim.Native.Nat.{ℕ, ◌<◌, ◌≤◌}
use mathlib.Core.Path.{◌≡◌, refl, sym, ap, ◌∙◌}
use mathlib.Core.List.{List, ◌++◌}
use native.Mathlib.Omega.{arith}
use lib.ListN.{length, drop}
use borrow.Author.Tests.{lt-ltb, le-ltb}
use Rattle.refusal.specs.Numbers.{refusal}
use Rattle.refusal.specs.Lengths.{refused_length, written_length, length_if, output_if}
use Rattle.refusal.specs.declared.Reason.TheVariants.{Room}
use Rattle.refusal.specs.declared.LengthAnswer.{LengthAnswer}

module _ (needed : ℕ) (written out : List ℕ) where
  -- Too little room: 17, and the output is unchanged.
  pub lacking : length out < needed
      → (refused_length (refusal Room needed) ≡ length_if needed (length out)) × (out ≡ output_if (length_if needed (length out)) written out)
  lacking h = (simp (lt-ltb (length out) needed h), simp (lt-ltb (length out) needed h))

  -- Enough room: the output holds what is written and then what was there before.
  pub enough : length written ≡ needed → needed ≤ length out
      → (written_length needed ≡ length_if needed (length out)) × (written ++ drop needed out ≡ output_if (length_if needed (length out)) written out)
  enough e h =
      (simp (le-ltb (length out) needed h), simp (le-ltb (length out) needed h) (ap (λ (n : ℕ). written ++ drop n out) (sym e)))

-- The same, by the bytes to write.
module _ (bytes out : List ℕ) where
  pub all-lacking : (needed : ℕ) → needed ≡ length bytes → length out < needed → (answer : LengthAnswer) → answer ≡ refused_length (refusal Room needed)
      → (answer ≡ length_if (length bytes) (length out)) × (out ≡ output_if (length_if (length bytes) (length out)) bytes out)
  all-lacking needed is h answer e =
      let lacks = lt-ltb (length out) (length bytes) (omega (arith, is)) in
      (e ∙ rw (is, lacks) refl, rw lacks refl)

  pub all-enough : length bytes ≤ length out → (n : ℕ) (answer : LengthAnswer) (out' : List ℕ) → answer ≡ written_length n
      → (n ≡ length bytes) × (out' ≡ bytes ++ drop n out)
      → (answer ≡ length_if (length bytes) (length out)) × (out' ≡ output_if (length_if (length bytes) (length out)) bytes out)
  all-enough h n answer out' e done =
      let fits = le-ltb (length out) (length bytes) h in
      (e ∙ rw (done.0, fits) refl, done.1 ∙ rw (done.0, fits) refl)
