-- Rules in order: what the first broken rule of a list says of its rules, and of lists one after the other.
use Prim.Native.Nat.{ℕ}
use Rattle.std.specs.Prelude.{⊤, Result, Ok, Err}
use mathlib.Core.Path.{◌≡◌, refl}
use mathlib.Core.List.{List, [], ◌∷◌, ◌++◌}
use mathlib.Core.Bool.{Bool, true, false, cond}
use lib.ListN.{drop}
use native.Mathlib.Omega.{arith}
use Rattle.refusal.specs.Rules.{Rule, first_broken}
use Rattle.refusal.specs.declared.Refusal.{Refusal}

-- All rules of a list hold.
abbrev pub Hold : List Rule → Type 0
Hold [] = Unit {0}
Hold (r ∷ rs) = (r.holds ≡ true) × Hold rs

held : (b : Bool) (v : Result ⊤ Refusal) (r : Refusal) → cond b v (Err r) ≡ Ok tt → (b ≡ true) × (v ≡ Ok tt)
held true v r e = (refl, e)
held false v r e = let z : ◌≡◌ {A = ℕ} 0 1 = cc in absurd (omega arith)

-- If no rule is broken, all rules hold.
pub rules-held : (rs : List Rule) → first_broken rs ≡ Ok tt → Hold rs
rules-held [] e = tt
rules-held (r ∷ rs) e =
    let both = held r.holds (first_broken rs) _ e in
    (both.0, rules-held rs both.1)

-- The first n rules hold, so the verdict is that of the others.
abbrev pub FirstHold : ℕ → List Rule → Type 0
FirstHold n rules = first_broken rules ≡ first_broken (drop n rules)

-- Rules after rules that all hold, and after one that does not.
module _ (ys : List Rule) where
  pub broken-passed : (xs : List Rule) → first_broken xs ≡ Ok tt → first_broken (xs ++ ys) ≡ first_broken ys
  broken-passed [] e = refl
  broken-passed (x ∷ xs) e = go x.holds refl (broken-passed xs)
    where
      go : (b : Bool) → x.holds ≡ b → (first_broken xs ≡ Ok tt → first_broken (xs ++ ys) ≡ first_broken ys) → first_broken ((x ∷ xs) ++ ys) ≡ first_broken ys
      go true t later = rw t (later (rw t at e))
      go false t later = let z : ◌≡◌ {A = ℕ} 0 1 = cc (rw t at e) in absurd (omega arith)

  pub broken-stopped : {r : Refusal} (xs : List Rule) → first_broken xs ≡ Err r → first_broken (xs ++ ys) ≡ Err r
  broken-stopped [] e = let z : ◌≡◌ {A = ℕ} 0 1 = cc in absurd (omega arith)
  broken-stopped {r} (x ∷ xs) e = go x.holds refl (broken-stopped xs)
    where
      go : (b : Bool) → x.holds ≡ b → (first_broken xs ≡ Err r → first_broken (xs ++ ys) ≡ Err r) → first_broken ((x ∷ xs) ++ ys) ≡ Err r
      go true t later = rw t (later (rw t at e))
      go false t later = rw t (rw t at e)

-- The first verdict if it is a refusal, else the second.
abbrev pub and_then : Result ⊤ Refusal → Result ⊤ Refusal → Result ⊤ Refusal
and_then (Ok _) v = v
and_then (Err r) v = Err r

pub broken-append : (xs ys : List Rule) → first_broken (xs ++ ys) ≡ and_then (first_broken xs) (first_broken ys)
broken-append xs ys = go (first_broken xs) refl
  where
    go : (v : Result ⊤ Refusal) → first_broken xs ≡ v → first_broken (xs ++ ys) ≡ and_then v (first_broken ys)
    go (Ok _) e = broken-passed ys xs e
    go (Err r) e = broken-stopped ys xs e
