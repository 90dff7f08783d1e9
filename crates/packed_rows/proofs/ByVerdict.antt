-- A reading by its verdict: an accepted stream was read whole, and a refused one is broken at the place of the refusal.
use Prim.Native.Nat.{ℕ}
use Rattle.std.specs.Prelude.{⊤, Result, Ok, Err}
use mathlib.Core.Logic.{◌↔◌}
use mathlib.Core.Path.{◌≡◌, refl, sym}
use mathlib.Core.List.{List}
use native.Mathlib.Omega.{arith}
use Rattle.refusal.specs.Numbers.{refusal}
use Rattle.refusal.specs.declared.Reason.TheVariants.{Stream}
use Rattle.refusal.specs.declared.Refusal.{Refusal}
use Rattle.packed_rows.specs.Entries.{Entry}
use Rattle.packed_rows.specs.Stream.{Reading, broken_at, whole}
use Rattle.packed_rows.specs.Answers.{verdict_of_reading}

pub accepted-reading : (r : Reading) → (verdict_of_reading r ≡ Ok tt) ↔ ((entries : List (List Entry)) × (r ≡ whole entries))
accepted-reading (broken_at p) = (
  λ h. absurd (let z : ◌≡◌ {A = ℕ} 0 1 = cc in omega arith),
  λ h. absurd (let e = h.1 in let z : ◌≡◌ {A = ℕ} 0 1 = cc in omega arith),
)
accepted-reading (whole entries) = (λ h. (entries, refl), λ h. refl)

pub same-refusal : {a b : Refusal} → ◌≡◌ {A = Result ⊤ Refusal} (Err a) (Err b) → a ≡ b
same-refusal e = cc

pub refused-reading : (r : Reading) (why : Refusal) → verdict_of_reading r ≡ Err why → (place : ℕ) × (r ≡ broken_at place) × (why ≡ refusal Stream place)
refused-reading (broken_at p) why e = (p, refl, sym (same-refusal e))
refused-reading (whole entries) why e = absurd (let z : ◌≡◌ {A = ℕ} 0 1 = cc in omega arith)
