-- Parts that state their own length: a list of bytes is made of such parts in only one way. Chunks are such parts, and so are the blocks of
-- one kind.
use Prim.Native.Nat.{ℕ, ◌<◌}
use mathlib.Core.Path.{◌≡◌, refl, sym, ap, ◌∙◌}
use mathlib.Core.List.{List, [], ◌∷◌, ◌++◌, append_assoc, append-nil}
use native.Mathlib.Omega.{arith}
use lib.ListN.{length, take, drop, length-append}
use lib.Seq.{take_at, drop_at}
use Rattle.vocabulary.specs.Lists.{joined, Every, none, also}
use Rattle.vocabulary.proofs.EveryOne.{every_append}
use Rattle.numbers.specs.Numbers.{number32}
use Rattle.blocks.specs.Sizes.{size_of}
use Rattle.blocks.specs.declared.BlockKind.{BlockKind}
use Rattle.blocks.proofs.BlockSizes.{size-some}
use Rattle.acceptance.specs.Rules.{IsChunk}
use Rattle.acceptance.proofs.Locating.{number32-front, PartAt}
use Rattle.acceptance.proofs.Cutting.{Sized, part-size}

pub split-same : (a b xs ys : List ℕ) → length a ≡ length b → a ++ xs ≡ b ++ ys → (a ≡ b) × (xs ≡ ys)
split-same a b xs ys long e = (
  sym (take_at a xs (length a) refl) ∙ ap (take (length a)) e ∙ take_at b ys (length a) (sym long),
  sym (drop_at a xs (length a) refl) ∙ ap (drop (length a)) e ∙ drop_at b ys (length a) (sym long),
)

-- A part is not empty, and two parts at the front of the same bytes have the same length.
pub record OwnLength (P : List ℕ → Type 0) : Type 0 where
  pub some : (a : List ℕ) → P a → 0 < length a
  pub same : (a b xs ys : List ℕ) → P a → P b → a ++ xs ≡ b ++ ys → length a ≡ length b

module _ {P : List ℕ → Type 0} (own : OwnLength P) where
  -- The parts that remain after those before them.
  abbrev pub Left : List (List ℕ) → List (List ℕ) → List ℕ → Type 0
  Left parts before after = (rest : List (List ℕ)) × (parts ≡ before ++ rest) × (joined rest ≡ after)

  pub front-split : {xs before : List (List ℕ)} (after : List ℕ) → Every P xs → Every P before → joined xs ≡ joined before ++ after → Left xs before after
  front-split {xs} after every none e = (xs, refl, e)
  front-split after none (also {x = b} {xs = before} p more) e =
      absurd (omega (arith, own.some b p, ap length e, length-append (b ++ joined before) after, length-append b (joined before)))
  front-split after (also {x = x} {xs = xs} q every) (also {x = b} {xs = before} p more) e =
      let bytes : x ++ joined xs ≡ b ++ (joined before ++ after) = e ∙ append_assoc b (joined before) after in
      let parts = split-same x b (joined xs) (joined before ++ after) (own.same x b (joined xs) (joined before ++ after) q p bytes) bytes in
      let (rest, splits, joins) = front-split after every more parts.1 in
      (rest, ap (λ (first : List ℕ). first ∷ xs) parts.0 ∙ ap (λ (others : List (List ℕ)). b ∷ others) splits, joins)

  none_left : {rest : List (List ℕ)} → Every P rest → joined rest ≡ [] → rest ≡ []
  none_left none e = refl
  none_left (also {x = x} {xs = xs} p more) e = absurd (omega (arith, own.some x p, ap length e, length-append x (joined xs)))

  pub all_same : {xs ys : List (List ℕ)} → Every P xs → Every P ys → joined xs ≡ joined ys → xs ≡ ys
  all_same {xs} {ys} every each e =
      let (rest, splits, joins) = front-split [] every each (e ∙ sym (append-nil (joined ys))) in
      let nothing = none_left ((every_append ys rest).0 (rw splits at every)).1 joins in
      splits ∙ rw nothing (append-nil ys)

pub chunks-own : OwnLength IsChunk
chunks-own = record {
  some = λ a c. omega (arith, c.size);
  same = λ a b xs ys c d e. (
      let first = number32-front a xs 4 (omega (arith, c.size)) in
      let second = number32-front b ys 4 (omega (arith, d.size)) in
      let whole = ap (λ (l : List ℕ). number32 l 4) e in
      omega (arith, c.size, d.size)
      );
}

pub blocks-own : (kind : BlockKind) → OwnLength (Sized kind)
blocks-own kind = record {
  some = λ a s. rw s (size-some kind a 0);
  same = λ a b xs ys s t e. sym (part-size kind (front a xs) s) ∙ ap (λ (l : List ℕ). size_of kind l 0) e ∙ part-size kind (front b ys) t;
}
  where
    front : (a xs : List ℕ) → PartAt (a ++ xs) 0 a
    front a xs = record { before = []; after = xs; bytes = refl; starts = refl }
