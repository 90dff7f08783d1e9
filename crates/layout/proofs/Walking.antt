-- The loop over the chunks: the chunks from a place on, after those whose spans are known, are the module's chunks.
use Prim.Native.Nat.{ℕ, zero, suc, ◌+◌, ◌<◌, ◌≤◌}
use Rattle.std.specs.Prelude.{⊤, Result, Ok, Err}
use mathlib.Core.Path.{◌≡◌, refl, sym, ap, ◌∙◌}
use mathlib.Core.List.{List, [], ◌∷◌, ◌++◌}
use mathlib.Core.Bool.{false, ◌&&◌}
use native.Mathlib.Omega.{arith}
use lib.ListN.{length}
use borrow.Author.Tests.{le-leb, lt-leb, not-true}
use Rattle.refusal.specs.Rules.{first_broken}
use Rattle.refusal.specs.declared.Refusal.{Refusal}
use Rattle.refusal.proofs.RuleLists.{rules-held}
use Rattle.numbers.specs.Numbers.{number32}
use Rattle.layout.specs.Chunks.{ChunkHeader, chunk_at, chunk_end, covered, occurs, chunk_rules, complete, walk_on, chunks_from, chunks}
use Rattle.layout.specs.Outlines.{header_span, spans_of}
use Rattle.layout.specs.Steps.{put_in, placed_rules, walked, OthersTo}
use Rattle.layout.specs.declared.ChunkSpans.{ChunkSpans}
use Rattle.layout.proofs.ChunksBefore.{rules-placed, put-more}
use Rattle.layout.proofs.Others.{other-end, other-holds, other-stays}

-- An accepted chunk is not a second one with a covered identifier.
not-repeated : (m : List ℕ) (before : List ChunkHeader) (at : ℕ) → first_broken (chunk_rules m before at) ≡ Ok tt
    → (covered (number32 m at) && occurs (number32 m at) before) ≡ false
not-repeated m before at e = not-true (covered (number32 m at) && occurs (number32 m at) before) (rules-held (chunk_rules m before at) e).1.1.1.0

-- The state of the loop: the chunks before the place, and enough steps to reach the end.
pub record Walking (m : List ℕ) (p : ChunkSpans) (at : ℕ) : Type 0 where
  pub steps : ℕ
  pub before : List ChunkHeader
  pub enough : length m < at + steps
  pub placed : p ≡ spans_of before
  pub same : chunks_from steps m before at ≡ chunks m

pub walking-first : (m : List ℕ) → Walking m (spans_of []) 8
unfolding chunks
walking-first m = record { steps = suc (length m); before = []; enough = omega arith; placed = refl; same = refl }

-- At the end no chunk is left; before it one step is taken.
chunks-end : (steps : ℕ) (m : List ℕ) (before : List ChunkHeader) (at : ℕ) → length m ≤ at → chunks_from steps m before at ≡ complete before
unfolding chunks_from
chunks-end zero m before at h = refl
chunks-end (suc steps) m before at h = simp (le-leb _ _ h)

chunks-next : (steps : ℕ) (m : List ℕ) (before : List ChunkHeader) (at : ℕ) → at < length m
    → chunks_from (suc steps) m before at
    ≡ walk_on (first_broken (chunk_rules m before at)) (chunks_from steps m (before ++ (chunk_at m at ∷ [])) (chunk_end (chunk_at m at)))
unfolding chunks_from
chunks-next steps m before at h = simp (lt-leb (length m) at h)

module _ (m : List ℕ) (p : ChunkSpans) (at : ℕ) (w : Walking m p at) where
  pub walking-last : length m ≤ at → walked (chunks m) ≡ Ok p
  walking-last h = ap walked (sym w.same ∙ chunks-end w.steps m w.before at h) ∙ ap Ok (sym w.placed)

  by-chunks : (v : Result ⊤ Refusal) → first_broken (placed_rules m at p) ≡ v → first_broken (chunk_rules m w.before at) ≡ v
  by-chunks v e = sym (rules-placed m w.before at) ∙ ap (λ (q : ChunkSpans). first_broken (placed_rules m at q)) (sym w.placed) ∙ e

  walking-step : at < length m → (v : Result ⊤ Refusal) → first_broken (placed_rules m at p) ≡ v
      → (steps : ℕ) × (suc steps ≡ w.steps) × (walk_on v (chunks_from steps m (w.before ++ (chunk_at m at ∷ [])) (chunk_end (chunk_at m at))) ≡ chunks m)
  walking-step h v e = go w.steps refl
    where
      go : (steps : ℕ) → w.steps ≡ steps
          → (s : ℕ) × (suc s ≡ w.steps) × (walk_on v (chunks_from s m (w.before ++ (chunk_at m at ∷ [])) (chunk_end (chunk_at m at))) ≡ chunks m)
      go zero q = absurd (omega (arith, w.enough))
      go (suc s) q = (s, sym q, rw (← by-chunks v e, ← chunks-next s m w.before at h, ← q) w.same)

  pub walking-refused : at < length m → (r : Refusal) → first_broken (placed_rules m at p) ≡ Err r → walked (chunks m) ≡ Err r
  walking-refused h r e = sym (ap walked (walking-step h (Err r) e).2)

  pub walking-turn : at < length m → first_broken (placed_rules m at p) ≡ Ok tt → (p' : ChunkSpans)
      → p' ≡ put_in p (number32 m at) (header_span (chunk_at m at))
      → Walking m p' (at + 8 + number32 m (at + 4))
  walking-turn h e p' put =
      let next = walking-step h (Ok tt) e in
      record {
        steps = next.0;
        before = w.before ++ (chunk_at m at ∷ []);
        enough = omega (arith, w.enough, next.1);
        placed =
            put
            ∙ ap (λ (q : ChunkSpans). put_in q (number32 m at) (header_span (chunk_at m at))) w.placed
            ∙ put-more (chunk_at m at) w.before (not-repeated m w.before at (by-chunks (Ok tt) e));
        same = next.2;
      }

-- Chunks that are not covered advance the loop and change no span.
pub walking-others : (m : List ℕ) (p : ChunkSpans) (n at end : ℕ) → OthersTo m n at end → Walking m p at → Walking m p end
walking-others m p zero at end e w = rw (← e) w
walking-others m p (suc n) at end (is, more) w =
    let following : at + 8 + number32 m (at + 4) ≤ length m = other-end m at is in
    walking-others m p n (at + 8 + number32 m (at + 4)) end more
    (walking-turn m p at w (omega (arith, following)) (other-holds m at is p) p (other-stays m at is p (header_span (chunk_at m at))))
