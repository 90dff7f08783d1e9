-- The chunks before a place, and the spans of the covered ones: the rules of the next chunk are the same by either, and one more chunk is
-- one more span.
use Prim.Native.Nat.{ℕ}
use mathlib.Core.Path.{◌≡◌, refl, sym, ap, ◌∙◌}
use mathlib.Core.List.{List, [], ◌∷◌, ◌++◌}
use mathlib.Core.Bool.{Bool, true, false, cond, ◌&&◌, ◌||◌, true≢false, or_assoc, and-or_distrib_right}
use lib.Dec.{eqb}
use borrow.Author.Tests.{eqb-true}
use Rattle.refusal.specs.Rules.{first_broken}
use Rattle.numbers.specs.Numbers.{number32}
use Rattle.layout.specs.Chunks.{name_identifier, info_identifier, song_identifier, inst_identifier, patt_identifier, smpl_identifier, venv_identifier}
use Rattle.layout.specs.Chunks.{penv_identifier, ChunkHeader, covered, occurs, chunk_rules}
use Rattle.layout.specs.Outlines.{header_span, span_of, spans_of, mandatory_there}
use Rattle.layout.specs.declared.ChunkSpan.{ChunkSpan}
use Rattle.layout.specs.Steps.{present_in, put_in, placed_rules, all_present}

-- The span of a chunk is present exactly if the chunk occurs.
pub present-of : (k : ℕ) (cs : List ChunkHeader) → (span_of k cs).present ≡ occurs k cs
present-of k [] = refl
present-of k (c ∷ cs) = go (eqb c.identifier k) refl (present-of k cs)
  where
    go : (b : Bool) → eqb c.identifier k ≡ b → (span_of k cs).present ≡ occurs k cs → (span_of k (c ∷ cs)).present ≡ occurs k (c ∷ cs)
    go true t more = simp t
    go false t more = simp t more

pub present-all : (cs : List ChunkHeader) → all_present (spans_of cs) ≡ mandatory_there cs
present-all cs =
    simp (
      present-of info_identifier cs,
      present-of song_identifier cs,
      present-of inst_identifier cs,
      present-of patt_identifier cs,
      present-of smpl_identifier cs,
    )

module _ (cs : List ChunkHeader) (identifier : ℕ) where
  -- The test for one identifier, and whether it occurs.
  present-one : (k : ℕ) → (eqb identifier k && (span_of k cs).present) ≡ (eqb identifier k && occurs identifier cs)
  present-one k = go (eqb identifier k) refl
    where
      go : (b : Bool) → eqb identifier k ≡ b → (eqb identifier k && (span_of k cs).present) ≡ (eqb identifier k && occurs identifier cs)
      go true t = simp t (present-of k cs ∙ ap (λ (i : ℕ). occurs i cs) (sym (eqb-true identifier k t)))
      go false t = simp t

  pub present-in : present_in (spans_of cs) identifier ≡ (covered identifier && occurs identifier cs)
  present-in =
      simp (
        present-one name_identifier,
        present-one info_identifier,
        present-one song_identifier,
        present-one inst_identifier,
        present-one patt_identifier,
        present-one smpl_identifier,
        present-one venv_identifier,
        present-one penv_identifier,
        or_assoc,
        and-or_distrib_right,
      )

pub rules-placed : (m : List ℕ) (cs : List ChunkHeader) (at : ℕ) → first_broken (placed_rules m at (spans_of cs)) ≡ first_broken (chunk_rules m cs at)
rules-placed m cs at = rw (present-in cs (number32 m at), present-of info_identifier cs)

-- One more chunk, after chunks that do not have its identifier.
following : (a b o : Bool) (x y z z' : ChunkSpan) → (b && (a || o)) ≡ false → ((b && o) ≡ false → z' ≡ cond b y z) → cond a x z' ≡ cond b y (cond a x z)
following true true o x y z z' h more = absurd (true≢false h)
following true false o x y z z' h more = refl
following false true o x y z z' h more = more h
following false false o x y z z' h more = more refl

more_of : (k : ℕ) (c : ChunkHeader) (cs : List ChunkHeader) → (eqb c.identifier k && occurs k cs) ≡ false
    → span_of k (cs ++ (c ∷ [])) ≡ cond (eqb c.identifier k) (header_span c) (span_of k cs)
more_of k c [] h = refl
more_of k c (d ∷ ds) h =
    following (eqb d.identifier k) (eqb c.identifier k) (occurs k ds) (header_span d) (header_span c) (span_of k ds)
    (span_of k (ds ++ (c ∷ []))) h (more_of k c ds)

module _ (c : ChunkHeader) (cs : List ChunkHeader) (new : (covered c.identifier && occurs c.identifier cs) ≡ false) where
  not-before : (k : ℕ) → covered k ≡ true → (eqb c.identifier k && occurs k cs) ≡ false
  not-before k is = go (eqb c.identifier k) refl
    where
      go : (b : Bool) → eqb c.identifier k ≡ b → (eqb c.identifier k && occurs k cs) ≡ false
      go true t =
          let same : c.identifier ≡ k = eqb-true c.identifier k t in
          let new-k : (covered k && occurs k cs) ≡ false = ap (λ (i : ℕ). covered i && occurs i cs) (sym same) ∙ new in
          simp t (ap (λ (b : Bool). b && occurs k cs) (sym is) ∙ new-k)
      go false t = simp t

  more-spans : (k : ℕ) → covered k ≡ true → span_of k (cs ++ (c ∷ [])) ≡ cond (eqb c.identifier k) (header_span c) (span_of k cs)
  more-spans k is = more_of k c cs (not-before k is)

  pub put-more : put_in (spans_of cs) c.identifier (header_span c) ≡ spans_of (cs ++ (c ∷ []))
  put-more =
      simp (
        more-spans name_identifier refl,
        more-spans info_identifier refl,
        more-spans song_identifier refl,
        more-spans inst_identifier refl,
        more-spans patt_identifier refl,
        more-spans smpl_identifier refl,
        more-spans venv_identifier refl,
        more-spans penv_identifier refl,
      )
