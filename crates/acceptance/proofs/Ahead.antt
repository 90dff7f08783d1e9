-- Writing lists one after the other to the front of an output: the part that is written, and the part still to be written. Each list is
-- written by a call that is lent the output from a place on.
use Prim.Native.Nat.{ℕ, zero, suc, ◌+◌, ◌-◌, ◌≤◌, ◌<◌}
use mathlib.Core.Path.{◌≡◌, refl, sym, ap, ◌∙◌}
use mathlib.Core.List.{List, [], ◌∷◌, ◌++◌, map, append_assoc, append-nil}
use native.Mathlib.Omega.{arith}
use lib.ListN.{length, drop, length-append, length-drop}
use lib.Seq.{drop-drop}
use borrow.Rule.Slice.PartMut.{mid_of, put_mid}
use Rattle.vocabulary.specs.Lists.{joined, Every, none, also}
use Rattle.vocabulary.proofs.EveryOne.{every_first, every_rest}
use Rattle.numbers.specs.Numbers.{put_at}
use Rattle.numbers.proofs.PutBytes.{put-after}
use Rattle.blocks.specs.Sizes.{places_from}
use Rattle.acceptance.proofs.Ends.{mid-end, put_next, written-length}

-- Everything except the rest is written, and the rest is written from this place on.
pub record Ahead (out₀ all out : List ℕ) (to : ℕ) (rest : List ℕ) : Type 0 where
  pub done : List ℕ
  pub written : out ≡ done ++ drop (length done) out₀
  pub place : length done ≡ to
  pub whole : done ++ rest ≡ all

pub ahead-first : (out₀ all : List ℕ) → Ahead out₀ all out₀ 0 all
ahead-first out₀ all = record { done = []; written = refl; place = refl; whole = refl }

-- The first list is written by a call that is lent the whole output.
pub ahead-second : {out₀ : List ℕ} (xs rest : List ℕ) {out : List ℕ} {r : ℕ} → (r ≡ length xs) × (out ≡ xs ++ drop r out₀) → Ahead out₀ (xs ++ rest) out r rest
ahead-second xs rest first = record { done = xs; written = rw first.0 at first.1; place = sym first.0; whole = refl }

module _ {out₀ all : List ℕ} (room : length all ≤ length out₀) (out : List ℕ) {to : ℕ} where
  ahead-place : (rest : List ℕ) → Ahead out₀ all out to rest → to + length rest ≡ length all
  ahead-place rest a = omega (arith, ap length a.whole, length-append a.done rest, a.place)

  pub ahead-length : (rest : List ℕ) → Ahead out₀ all out to rest → length out ≡ length out₀
  ahead-length rest a = written-length a.done out₀ out a.written (omega (arith, ahead-place rest a, a.place, room))

  pub ahead-inside : (rest : List ℕ) → Ahead out₀ all out to rest → to ≤ length out
  ahead-inside rest a = omega (arith, ahead-place rest a, ahead-length rest a, room)

  module _ (xs rest : List ℕ) (a : Ahead out₀ all out to (xs ++ rest)) where
    pub ahead_small : to + length xs ≤ length out₀
    ahead_small = omega (arith, ahead-place (xs ++ rest) a, length-append xs rest, room)

    pub ahead-part : length xs ≤ length (mid_of to (length out - to) out)
    ahead-part = omega (arith, ahead_small, ahead-length (xs ++ rest) a, ap length (mid-end to out), length-drop to out)

    pub ahead-next : (mid : List ℕ) {r : ℕ} → (r ≡ length xs) × (mid ≡ xs ++ drop r (mid_of to (length out - to) out))
        → Ahead out₀ all (put_mid to (length out - to) out mid) (to + r) rest
    ahead-next mid next = record {
      done = a.done ++ xs;
      written = put_next a.done xs out₀ out mid to (length out) a.written a.place
          (omega (arith, ahead_small, ahead-length (xs ++ rest) a)) (omega (arith, ahead-length (xs ++ rest) a))
          (rw next.0 at next.1);
      place = omega (arith, length-append a.done xs, a.place, next.0);
      whole = append_assoc a.done xs rest ∙ a.whole;
    }

  pub ahead-over : Ahead out₀ all out to [] → (to ≡ length all) × (out ≡ all ++ drop to out₀)
  ahead-over a =
      let same : a.done ≡ all = sym (append-nil a.done) ∙ a.whole in
      (omega (arith, a.place, ap length same), a.written ∙ rw (a.place, same) refl)

-- The last list.
module _ {out₀ all : List ℕ} (room : length all ≤ length out₀) (out : List ℕ) {to : ℕ} (xs : List ℕ) (a : Ahead out₀ all out to xs) where
  last : Ahead out₀ all out to (xs ++ [])
  last = rw append-nil a

  pub last-small : to + length xs ≤ length out₀
  last-small = ahead_small room out xs [] last

  pub last-part : length xs ≤ length (mid_of to (length out - to) out)
  last-part = ahead-part room out xs [] last

  pub ahead-last : (mid : List ℕ) {r : ℕ} → (r ≡ length xs) × (mid ≡ xs ++ drop r (mid_of to (length out - to) out))
      → (to + r ≡ length all) × (put_mid to (length out - to) out mid ≡ all ++ drop (to + r) out₀)
  ahead-last mid next = ahead-over room (put_mid to (length out - to) out mid) (ahead-next room out xs [] last mid next)

  -- The last list is put at its place.
  pub ahead-put : put_at xs to out ≡ all ++ drop (to + length xs) out₀
  ahead-put =
      let rest : List ℕ = drop (length a.done) out₀ in
      let fits : length xs ≤ length rest = omega (arith, last-small, a.place, length-drop (length a.done) out₀) in
      ap (put_at xs to) a.written
      ∙ put-after a.done xs to a.place rest fits
      ∙ sym (append_assoc a.done xs (drop (length xs) rest))
      ∙ ap (λ (l : List ℕ). l ++ drop (length xs) rest) a.whole
      ∙ ap (λ (l : List ℕ). all ++ l) (drop-drop (length xs) (length a.done) out₀ ∙ ap (λ (k : ℕ). drop (k + length xs) out₀) a.place)

-- Three lists: the first by a call that is lent the whole output, the others after it.
module _ (xs ys zs out₀ : List ℕ) (room : length (xs ++ (ys ++ zs)) ≤ length out₀) where
  pub first_fits : length xs ≤ length out₀
  first_fits = omega (arith, length-append xs (ys ++ zs), room)

  module _ (out₁ : List ℕ) {p : ℕ} (e₁ : (p ≡ length xs) × (out₁ ≡ xs ++ drop p out₀)) where
    after_first : Ahead out₀ (xs ++ (ys ++ zs)) out₁ p (ys ++ zs)
    after_first = ahead-second xs (ys ++ zs) e₁

    pub second-inside : p ≤ length out₁
    second-inside = ahead-inside room out₁ (ys ++ zs) after_first

    pub second-part : length ys ≤ length (mid_of p (length out₁ - p) out₁)
    second-part = ahead-part room out₁ ys zs after_first

    module _ (mid₂ : List ℕ) {q : ℕ} (e₂ : (q ≡ length ys) × (mid₂ ≡ ys ++ drop q (mid_of p (length out₁ - p) out₁))) where
      abbrev out₂ : List ℕ
      out₂ = put_mid p (length out₁ - p) out₁ mid₂

      after-second : Ahead out₀ (xs ++ (ys ++ zs)) out₂ (p + q) zs
      after-second = ahead-next room out₁ ys zs after_first mid₂ e₂

      pub third-inside : p + q ≤ length out₂
      third-inside = ahead-inside room out₂ zs after-second

      pub third-length : length out₂ ≡ length out₀
      third-length = ahead-length room out₂ zs after-second

      pub third-put : put_at zs (p + q) out₂ ≡ (xs ++ (ys ++ zs)) ++ drop (p + q + length zs) out₀
      third-put = ahead-put room out₂ zs after-second

      pub third-part : length zs ≤ length (mid_of (p + q) (length out₂ - (p + q)) out₂)
      third-part = last-part room out₂ zs after-second

      pub three-written : (mid₃ : List ℕ) {r : ℕ}
          → (r ≡ length zs) × (mid₃ ≡ zs ++ drop r (mid_of (p + q) (length out₂ - (p + q)) out₂))
          → (p + q + r ≡ length (xs ++ (ys ++ zs))) × (put_mid (p + q) (length out₂ - (p + q)) out₂ mid₃ ≡ (xs ++ (ys ++ zs)) ++ drop (p + q + r) out₀)
      three-written mid₃ e₃ = ahead-last room out₂ zs after-second mid₃ e₃

-- A condition that always holds, for blocks without a condition.
pub every_any : {P : ℕ → Type 0} → ((x : ℕ) → P x) → (xs : List ℕ) → Every P xs
every_any h [] = none
every_any h (x ∷ xs) = also (h x) (every_any h xs)

-- The first of the remaining blocks, and the others.
pub blocks-split : (f : ℕ → List ℕ) (size : ℕ → ℕ) (left at : ℕ) → 0 < left
    → joined (map f (places_from size left at)) ≡ f at ++ joined (map f (places_from size (left - 1) (at + size at)))
blocks-split f size zero at some = absurd (omega arith)
blocks-split f size (suc left) at some = let less : suc left - 1 ≡ left = omega arith in rw less refl

-- Some blocks are written, and the condition holds for each of the remaining ones.
pub record AheadBlocks (f : ℕ → List ℕ) (size : ℕ → ℕ) (P : ℕ → Type 0) (n start : ℕ) (out₀ out : List ℕ) (at to left : ℕ) : Type 0 where
  pub ahead : Ahead out₀ (joined (map f (places_from size n start))) out to (joined (map f (places_from size left at)))
  pub each : Every P (places_from size left at)
  pub room : length (joined (map f (places_from size n start))) ≤ length out₀

module _ {f : ℕ → List ℕ} {size : ℕ → ℕ} {P : ℕ → Type 0} {n start : ℕ} (out₀ : List ℕ) where
  pub blocks-first : Every P (places_from size n start) → length (joined (map f (places_from size n start))) ≤ length out₀
      → AheadBlocks f size P n start out₀ out₀ start 0 n
  blocks-first e room = record { ahead = ahead-first out₀ (joined (map f (places_from size n start))); each = e; room = room }

  module _ (out : List ℕ) {at to left : ℕ} (b : AheadBlocks f size P n start out₀ out at to left) where
    pub blocks-length : length out ≡ length out₀
    blocks-length = ahead-length b.room out (joined (map f (places_from size left at))) b.ahead

    pub blocks-inside : to ≤ length out
    blocks-inside = ahead-inside b.room out (joined (map f (places_from size left at))) b.ahead

    pub blocks_last : left ≤ 0 → (to ≡ length (joined (map f (places_from size n start)))) × (out ≡ joined (map f (places_from size n start)) ++ drop to out₀)
    blocks_last over =
        let none : left ≡ 0 = omega arith in
        ahead-over b.room out (rw none at b.ahead)

    module _ (some : 0 < left) where
      next : Ahead out₀ (joined (map f (places_from size n start))) out to (f at ++ joined (map f (places_from size (left - 1) (at + size at))))
      next = rw (blocks-split f size left at some) at b.ahead

      each_next : P at × Every P (places_from size (left - 1) (at + size at))
      each_next =
          let more : left ≡ suc (left - 1) = omega arith in
          let e : Every P (places_from size (suc (left - 1)) at) = rw more at b.each in
          (every_first e, every_rest e)

      pub blocks-each : P at
      blocks-each = each_next.0

      pub blocks-small : to + length (f at) ≤ length out₀
      blocks-small = ahead_small b.room out (f at) (joined (map f (places_from size (left - 1) (at + size at)))) next

      pub blocks-part : length (f at) ≤ length (mid_of to (length out - to) out)
      blocks-part = ahead-part b.room out (f at) (joined (map f (places_from size (left - 1) (at + size at)))) next

      pub blocks-turn : (mid : List ℕ) {r s : ℕ}
          → (r ≡ length (f at)) × (mid ≡ f at ++ drop r (mid_of to (length out - to) out)) → s ≡ size at
          → AheadBlocks f size P n start out₀ (put_mid to (length out - to) out mid) (at + s) (to + r) (left - 1)
      blocks-turn mid block e =
          record {
            ahead = rw e (ahead-next b.room out (f at) (joined (map f (places_from size (left - 1) (at + size at)))) next mid block);
            each = rw e each_next.1;
            room = b.room;
          }
