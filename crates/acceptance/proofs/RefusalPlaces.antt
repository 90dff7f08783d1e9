-- Theorem 10, assembled: a module is refused by its outline, with 1 to 10, or after it by the rules for its content, with 11 to 15.
use Prim.Native.Nat.{ℕ, ◌≤◌}
use Rattle.std.specs.Prelude.{Result, Ok, Err}
use Rattle.layout.specs.declared.Layout.{Layout}
use mathlib.Core.Path.{◌≡◌, refl}
use mathlib.Core.List.{List}
use lib.ListN.{length}
use Rattle.refusal.specs.Rules.{first_broken}
use Rattle.refusal.specs.declared.Refusal.{Refusal}
use Rattle.numbers.specs.Numbers.{Bytes}
use Rattle.layout.specs.Outlines.{outline}
use Rattle.module.specs.Verdicts.{content_rules, content_if, verdict_of_outline, module_verdict}
use Rattle.acceptance.specs.Places.{PlaceOf}
use Rattle.acceptance.proofs.ChunkHalf.{outline-chunks}
use Rattle.acceptance.proofs.ChunkPlaces.{outline-place}
use Rattle.acceptance.proofs.ContentPlaces.{content-place}
use Rattle.acceptance.proofs.Acceptance.{verdict-found}

pub refusal-place : (m : List ℕ) → Bytes m → (r : Refusal) → module_verdict m ≡ Err r → PlaceOf m r × (r.place ≤ length m)
refusal-place m below r = go (outline m) refl
  where
    go : (o : Result Layout Refusal) → outline m ≡ o → verdict_of_outline (content_if m o) ≡ Err r → PlaceOf m r × (r.place ≤ length m)
    go (Ok l) h e = content-place m l below (outline-chunks m l below h) r (rw (verdict-found l (first_broken (content_rules m l))) at e)
    go (Err s) h e = outline-place m r (cc)
