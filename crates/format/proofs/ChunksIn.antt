-- The chunks in the list of a description. What holds for each chunk in the list holds for every element, a covered chunk is in it once,
-- and chunks with the same bytes are in the same order.
use Prim.Native.Nat.{ℕ}
use mathlib.Core.Path.{◌≡◌, refl, sym, subst, ◌∙◌}
use mathlib.Core.List.{List, [], ◌∷◌, ◌++◌, map}
use native.Mathlib.Omega.{arith}
use Rattle.vocabulary.specs.Lists.{Every, also}
use Rattle.vocabulary.proofs.Splits.{Within, within-front, within-after, within-every, every-within, NoTwo, only_one}
use Rattle.acceptance.specs.Rules.{Covered}
use Rattle.format.specs.Description.{Chunk}
use Rattle.format.specs.Encoding.{chunk_letters}
use Rattle.format.specs.WellFormed.{In, Once}

pub in_within : {chunks : List Chunk} {c : Chunk} → In chunks c → Within chunks c
in_within i = record { before = i.before; after = i.after; splits = i.splits }

pub within_in : {chunks : List Chunk} {c : Chunk} → Within chunks c → In chunks c
within_in w = record { before = w.before; after = w.after; splits = w.splits }

pub in-front : (c : Chunk) (chunks : List Chunk) → In (c ∷ chunks) c
in-front c chunks = within_in (within-front c chunks)

pub in_after : {chunks : List Chunk} {c : Chunk} (first : Chunk) → In chunks c → In (first ∷ chunks) c
in_after first i = within_in (within-after first (in_within i))

-- Each chunk in the list, and every element.
module _ {P : Chunk → Type 0} where
  pub every_in : (chunks : List Chunk) → ((c : Chunk) → In chunks c → P c) → Every P chunks
  every_in chunks h = every-within chunks (λ c w. h c (within_in w))

  pub in-every : {chunks : List Chunk} {c : Chunk} → Every P chunks → In chunks c → P c
  in-every every i = within-every every (in_within i)

-- M6 by letters: no two chunks have the same covered letters, so a covered chunk is the only one with its letters.
module _ {chunks : List Chunk} where
  pub once-letters : Once chunks → (letters : List ℕ) → Covered letters → NoTwo (λ (c : Chunk). chunk_letters c ≡ letters) chunks
  once-letters once letters covers before between after one two e p q = once before between after one two e (subst Covered (sym p) covers) (p ∙ sym q)

  pub letters-once : ((letters : List ℕ) → Covered letters → NoTwo (λ (c : Chunk). chunk_letters c ≡ letters) chunks) → Once chunks
  letters-once never before between after one two e covers same = never (chunk_letters one) covers before between after one two e refl (sym same)

  pub in-once : Once chunks → {one two : Chunk} → In chunks one → In chunks two → Covered (chunk_letters one)
      → chunk_letters one ≡ chunk_letters two
      → one ≡ two
  in-once once {one} i j covers same =
      only_one (λ (c : Chunk). chunk_letters c ≡ chunk_letters one) (once-letters once (chunk_letters one) covers) (in_within i) (in_within j) refl (sym same)

-- Lists of chunks for which a function gives the same results, one by one.
module _ {A : Type 0} (f : Chunk → A) where
  pub in-other : (before after others : List Chunk) (c : Chunk) → map f (before ++ (c ∷ after)) ≡ map f others
      → (other : Chunk) × In others other × (f c ≡ f other)
  in-other [] after [] c e = let z : ◌≡◌ {A = ℕ} 0 1 = cc in absurd (omega arith)
  in-other [] after (x ∷ others) c e = (x, in-front x others, cc)
  in-other (b ∷ before) after [] c e = let z : ◌≡◌ {A = ℕ} 0 1 = cc in absurd (omega arith)
  in-other (b ∷ before) after (x ∷ others) c e = let found = in-other before after others c (cc) in (found.0, in_after x found.1, found.2)

  pub each_same : {P : Chunk → Type 0} → ((c other : Chunk) → P c → P other → f c ≡ f other → c ≡ other)
      → (chunks others : List Chunk) → Every P chunks → Every P others → map f chunks ≡ map f others
      → chunks ≡ others
  each_same one [] [] p q e = refl
  each_same one [] (x ∷ others) p q e = let z : ◌≡◌ {A = ℕ} 0 1 = cc in absurd (omega arith)
  each_same one (c ∷ chunks) [] p q e = let z : ◌≡◌ {A = ℕ} 0 1 = cc in absurd (omega arith)
  each_same one (c ∷ chunks) (x ∷ others) (also p ps) (also q qs) e =
      let first = one c x p q (cc) in
      let rest = each_same one chunks others ps qs (cc) in
      λ i. first i ∷ rest i
