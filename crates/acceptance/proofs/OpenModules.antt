-- An accepted module opens: its layout is that of whole chunks, and all rules for its content hold.
use Prim.Native.Nat.{ℕ}
use Rattle.std.specs.Prelude.{⊤, Result, Ok, Err}
use mathlib.Core.Path.{◌≡◌, refl}
use mathlib.Core.List.{List}
use native.Mathlib.Omega.{arith}
use Rattle.refusal.specs.Rules.{first_broken}
use Rattle.refusal.specs.declared.Refusal.{Refusal}
use Rattle.layout.specs.Outlines.{outline_if, outline}
use Rattle.layout.specs.declared.Layout.{Layout}
use Rattle.module.specs.Verdicts.{content_rules, content_if, opened, verdict_of_outline, module_verdict}
use Rattle.acceptance.proofs.Holding.{accepted-hold}
use Rattle.acceptance.proofs.ContentRules.{ContentHolds, content-hold}
use Rattle.acceptance.proofs.WholeChunks.{SpansWhole, outline-spans}

-- An accepted module opens, and a refused one does not.
pub accepted-opens : (m : List ℕ) → module_verdict m ≡ Ok tt → (l : Layout) × (opened m ≡ Ok l)
accepted-opens m = go (opened m) refl
  where
    go : (o : Result Layout Refusal) → opened m ≡ o → verdict_of_outline o ≡ Ok tt → (l : Layout) × (opened m ≡ Ok l)
    go (Ok l) h e = (l, h)
    go (Err r) h e = let z : ◌≡◌ {A = ℕ} 0 1 = cc in absurd (omega arith)

pub refused-opens : (m : List ℕ) (r : Refusal) → module_verdict m ≡ Err r → opened m ≡ Err r
refused-opens m r = go (opened m) refl
  where
    go : (o : Result Layout Refusal) → opened m ≡ o → verdict_of_outline o ≡ Err r → opened m ≡ Err r
    go (Ok l) h e = let z : ◌≡◌ {A = ℕ} 0 1 = cc in absurd (omega arith)
    go (Err s) h e = cc

-- A module that opens: its layout is that of whole chunks, and all rules for its content hold.
pub record Opens (m : List ℕ) (l : Layout) : Type 0 where
  pub outlined : outline m ≡ Ok l
  pub spans : SpansWhole m l
  pub content : ContentHolds m l

pub module-opens : (m : List ℕ) (l : Layout) → opened m ≡ Ok l → Opens m l
module-opens m l = go (outline m) refl
  where
    same : {k : Layout} → ◌≡◌ {A = Result Layout Refusal} (Ok k) (Ok l) → k ≡ l
    same e = cc

    accepted : (k : Layout) → outline m ≡ Ok k → (v : Result ⊤ Refusal) → first_broken (content_rules m k) ≡ v → outline_if v (Ok k) ≡ Ok l → Opens m l
    accepted k h (Ok _) e o =
        let content = (content-hold m k).0 ((accepted-hold (content_rules m k)).0 e) in
        let opens : Opens m k = record { outlined = h; spans = outline-spans m k h; content = content } in
        rw (same o) at opens
    accepted k h (Err r) e o = let z : ◌≡◌ {A = ℕ} 0 1 = cc in absurd (omega arith)

    go : (o : Result Layout Refusal) → outline m ≡ o → content_if m o ≡ Ok l → Opens m l
    go (Ok k) h e = accepted k h (first_broken (content_rules m k)) refl e
    go (Err r) h e = let z : ◌≡◌ {A = ℕ} 0 1 = cc in absurd (omega arith)
