-- The answer of the check: if it is accepted, the sizes fit and the stream is accepted; if it is refused, a call that begins with the check
-- gives the same refusal.
use Prim.Native.Nat.{ℕ}
use Rattle.std.specs.Prelude.{⊤, Result, Ok, Err}
use mathlib.Core.Path.{◌≡◌, refl, ap, sym}
use mathlib.Core.Bool.{Bool, true, false, cond, not}
use native.Mathlib.Omega.{arith}
use Rattle.refusal.specs.Numbers.{refusal}
use Rattle.refusal.specs.declared.Reason.TheVariants.{Sizes}
use Rattle.refusal.specs.declared.Refusal.{Refusal}
use Rattle.packed_rows.proofs.ByVerdict.{same-refusal}

pub check-accepted : (fit : Bool) (verdict : Result ⊤ Refusal) → cond (not fit) (Err (refusal Sizes 0)) verdict ≡ Ok tt
    → (fit ≡ true) × (verdict ≡ Ok tt)
check-accepted true verdict e = (refl, e)
check-accepted false verdict e = absurd (let z : ◌≡◌ {A = ℕ} 0 1 = cc in omega arith)

pub check-refused : (fit : Bool) (verdict : Result ⊤ Refusal) (r : Refusal) (answer : Result ℕ Refusal)
    → ((why : Refusal) → verdict ≡ Err why → Err why ≡ answer)
    → cond (not fit) (Err (refusal Sizes 0)) verdict ≡ Err r → Err r ≡ cond (not fit) (Err (refusal Sizes 0)) answer
check-refused true verdict r answer later e = later r e
check-refused false verdict r answer later e = ap Err (sym (same-refusal e))
