-- A call that replaces a sample and is not refused: the module opens and the rules of the call hold. So the module is the encoding of a
-- description, the new frames are frames of 16 bits, there is a sample with that number, and the result is within the limit.
use Prim.Native.Nat.{ℕ, ◌-◌, ◌%◌, ◌≤◌}
use Rattle.std.specs.Prelude.{⊤, Result, Ok, Err}
use mathlib.Core.Path.{◌≡◌, refl, sym, ap, ◌∙◌}
use mathlib.Core.List.{List, ◌∷◌, map}
use mathlib.Core.Bool.{Bool}
use native.Mathlib.Omega.{arith}
use lib.ListN.{length}
use lib.Dec.{leb, ltb}
use borrow.Author.Tests.{leb-true, ltb-true, eqb-true}
use Rattle.vocabulary.specs.Lists.{joined, Every}
use Rattle.refusal.specs.Numbers.{number_of}
use Rattle.refusal.specs.Rules.{Rule, rule, first_broken}
use Rattle.refusal.specs.declared.Reason.{Reason}
use Rattle.refusal.specs.declared.Reason.TheVariants.{TooLong, Room, NotThere, OddFrames}
use Rattle.refusal.specs.declared.Refusal.{Refusal}
use Rattle.refusal.proofs.RuleLists.{rules-held}
use Rattle.numbers.specs.Numbers.{Bytes, bytes16}
use Rattle.layout.specs.declared.Layout.{Layout}
use Rattle.module.specs.Verdicts.{opened, verdict_of_outline}
use Rattle.acceptance.specs.Places.{AllChunks, ContentPlace, PlaceOf}
use Rattle.acceptance.proofs.Holding.{and-says}
use Rattle.acceptance.proofs.FirstBroken.{WhereBroken, no-rule, this-or, first-broken}
use Rattle.acceptance.proofs.Theorems.{refusal-place}
use Rattle.replace.specs.Replaced.{replaced_module, replace_rules, replace_by, replace_if, replace_answer, sample_replaced_if, sample_replaced}
use Rattle.format.specs.Description.{Description}
use Rattle.format.specs.Encoding.{encoded}
use Rattle.format.specs.WellFormed.{Fits16, WellFormed}
use Rattle.format.proofs.Placed.{encoded-opens, info-numbers}
use Rattle.format.proofs.Theorems.{accepted-encoded}
use Rattle.replace_theorems.proofs.NewFrames.{frames-from-bytes}

-- The number of a refusal is not 0: the module's own, and those of the call.
content-number : {m : List ℕ} {all : AllChunks m} {r : Refusal} → ContentPlace all r → 1 ≤ r.number
content-number (ContentPlace.blocks at fault) = omega arith
content-number (ContentPlace.reference at) = omega arith
content-number (ContentPlace.field_range at) = omega arith
content-number (ContentPlace.loop at fault) = omega arith
content-number (ContentPlace.stream at fault) = omega arith

place-number : {m : List ℕ} {r : Refusal} → PlaceOf m r → 1 ≤ r.number
place-number (PlaceOf.too_long long) = omega arith
place-number (PlaceOf.not_aModule fault) = omega arith
place-number (PlaceOf.version long fault) = omega arith
place-number (PlaceOf.chunk_cut at fault) = omega arith
place-number (PlaceOf.identifier at fault) = omega arith
place-number (PlaceOf.repeated at fault) = omega arith
place-number (PlaceOf.before_info at fault) = omega arith
place-number (PlaceOf.missing chunks fault) = omega arith
place-number (PlaceOf.fixed_length at fault) = omega arith
place-number (PlaceOf.info_range at fault) = omega arith
place-number (PlaceOf.content all at) = content-number at

abbrev Counted : List Rule → Type 0
Counted rules = WhereBroken (λ r. 1 ≤ r.number) rules

refused-by : (reason : Reason) (holds : Bool) (place : ℕ) {rules : List Rule} → 1 ≤ number_of reason → Counted rules
    → Counted (rule holds reason place ∷ rules)
refused-by reason holds place some rest = this-or (λ e. some) (λ e. rest)

call-numbers : (m : List ℕ) (l : Layout) (sample : ℕ) (new : List ℕ) (room : ℕ) → Counted (replace_rules m l sample new room)
call-numbers m l sample new room =
    refused-by NotThere _ _ (omega arith)
    (refused-by OddFrames _ _ (omega arith)
    (refused-by TooLong _ _ (omega arith)
    (refused-by Room _ _ (omega arith) no-rule)))

-- A call that is not refused: the module opens, and the rules of the call hold.
pub record Passed (m : List ℕ) (sample : ℕ) (new : List ℕ) (room : ℕ) : Type 0 where
  pub layout : Layout
  pub opens : opened m ≡ Ok layout
  pub held : first_broken (replace_rules m layout sample new room) ≡ Ok tt

module _ (m : List ℕ) (bytes : Bytes m) (sample : ℕ) (new : List ℕ) (room : ℕ) where
  rules-passed : (l : Layout) → opened m ≡ Ok l → (v : Result ⊤ Refusal) → first_broken (replace_rules m l sample new room) ≡ v
      → (replace_by m l sample new v).outcome.number ≡ 0
      → Passed m sample new room
  rules-passed l opens (Ok _) held ok = record { layout = l; opens = opens; held = held }
  rules-passed l opens (Err r) held ok =
      let some : 1 ≤ r.number = first-broken (call-numbers m l sample new room) r held in
      absurd (omega (arith, ok))

  call-passed : (o : Result Layout Refusal) → opened m ≡ o → (replace_if m sample new room o).outcome.number ≡ 0 → Passed m sample new room
  call-passed (Ok l) opens ok = rules-passed l opens (first_broken (replace_rules m l sample new room)) refl ok
  call-passed (Err r) opens ok =
      let some : 1 ≤ r.number = place-number (refusal-place m bytes r (ap verdict_of_outline opens)).0 in
      absurd (omega (arith, ok))

-- What such a call is about.
pub record DescribedCall (m : List ℕ) (sample : ℕ) (new : List ℕ) (room : ℕ) : Type 0 where
  pub passed : Passed m sample new room
  pub description : Description
  pub well_formed : WellFormed description
  pub encodes : encoded description ≡ m
  pub frames : List ℕ
  pub fits : Every Fits16 frames
  pub stores : joined (map bytes16 frames) ≡ new
  pub low : 1 ≤ sample
  pub high : sample ≤ length well_formed.samples
  pub limit : length (sample_replaced m sample new) ≤ 16777216

module _ (m : List ℕ) (bytes : Bytes m) (sample : ℕ) (new : List ℕ) (new_bytes : Bytes new) (room : ℕ) where
  described : Passed m sample new room → (d : Description) → WellFormed d → encoded d ≡ m
      → (frames : List ℕ) → Every Fits16 frames → joined (map bytes16 frames) ≡ new
      → DescribedCall m sample new room
  described passed d w is frames fits same =
      let l : Layout = passed.layout in
      let (k, first, layout) = encoded-opens d w in
      let second : opened (encoded d) ≡ Ok l = ap opened is ∙ passed.opens in
      let one : k ≡ l = cc in
      let numbers = info-numbers d w layout w.info w.info_there in
      let rules = rules-held (replace_rules m l sample new room) passed.held in
      let counted = (and-says (leb 1 sample) (ltb (sample - 1) l.samples)).0 rules.0 in
      let low : 1 ≤ sample = leb-true 1 sample counted.0 in
      let below = ltb-true (sample - 1) l.samples counted.1 in
      let samples : l.samples ≡ length w.samples =
      ap (λ (l : Layout). l.samples) (sym one) ∙ numbers.1 ∙ sym w.lists.sample_count in
      let result : sample_replaced m sample new ≡ replaced_module m l sample new = ap (sample_replaced_if m sample new) passed.opens in
      let short = leb-true (length (replaced_module m l sample new)) 16777216 rules.1.1.0 in
      record {
        passed = passed;
        description = d;
        well_formed = w;
        encodes = is;
        frames = frames;
        fits = fits;
        stores = same;
        low = low;
        high = omega (arith, below, samples, low);
        limit = omega (arith, short, ap length result);
      }

  pub described-call : (replace_answer m sample new room).outcome.number ≡ 0 → DescribedCall m sample new room
  described-call ok =
      let passed = call-passed m bytes sample new room (opened m) refl ok in
      let (d, w, is) = accepted-encoded m bytes (ap verdict_of_outline passed.opens) in
      let rules = rules-held (replace_rules m passed.layout sample new room) passed.held in
      let (frames, fits, same) = frames-from-bytes new new_bytes (eqb-true (length new % 2) 0 rules.1.0) in
      described passed d w is frames fits same
