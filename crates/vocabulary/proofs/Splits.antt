-- An element of a list, between those before it and those after it: a property of each such element is a property of every element, also in
-- a mapped list. If no two elements of a list have a property, an element that has it is the only one.
use mathlib.Core.Path.{◌≡◌, refl, sym, ap, subst, ◌∙◌}
use mathlib.Core.Logic.{◌⊎◌, inl, inr}
use mathlib.Core.List.{List, [], ◌∷◌, ◌++◌, map, append_assoc}
use Rattle.vocabulary.specs.Lists.{Every, none, also}
use Rattle.vocabulary.proofs.EveryOne.{every_append, every_first}
use Rattle.vocabulary.proofs.MappedLists.{map-append, map-split}

-- The element is in the list.
pub record Within {A : Type 0} (xs : List A) (x : A) : Type 0 where
  pub before : List A
  pub after : List A
  pub splits : xs ≡ before ++ (x ∷ after)

module _ {A : Type 0} where
  pub within-front : (x : A) (xs : List A) → Within (x ∷ xs) x
  within-front x xs = record { before = []; after = xs; splits = refl }

  pub within-after : {xs : List A} {x : A} (first : A) → Within xs x → Within (first ∷ xs) x
  within-after first w = record { before = first ∷ w.before; after = w.after; splits = ap (λ (l : List A). first ∷ l) w.splits }

  -- Each element that is in the list, and every element.
  module _ {P : A → Type 0} where
    pub within-every : {xs : List A} {x : A} → Every P xs → Within xs x → P x
    within-every {x = x} every w = every_first ((every_append w.before (x ∷ w.after)).0 (rw w.splits at every)).1

    pub every-within : (xs : List A) → ((x : A) → Within xs x → P x) → Every P xs
    every-within [] h = none
    every-within (x ∷ xs) h = also (h x (within-front x xs)) (every-within xs (λ y w. h y (within-after x w)))

  -- In a mapped list.
  pub within-mapped : {B : Type 0} (f : A → B) {xs : List A} {x : A} → Within xs x → Within (map f xs) (f x)
  within-mapped f {x = x} w = record {
    before = map f w.before;
    after = map f w.after;
    splits = ap (map f) w.splits ∙ map-append f w.before (x ∷ w.after);
  }

  pub mapped-within : {B : Type 0} (f : A → B) {xs : List A} {y : B} → Within (map f xs) y → (x : A) × Within xs x × (y ≡ f x)
  mapped-within f {xs} {y} w =
      let s = map-split f xs w.before w.after y w.splits in
      (s.one, record { before = s.front; after = s.back; splits = s.splits }, s.one_is)

  -- Two splits of one list: at the same element, or one after the other.
  pub two-splits : (before others : List A) {after rest : List A} {one two : A} → before ++ (one ∷ after) ≡ others ++ (two ∷ rest)
      → (one ≡ two) ⊎ (((between : List A) × (after ≡ between ++ (two ∷ rest))) ⊎ ((between : List A) × (rest ≡ between ++ (one ∷ after))))
  two-splits [] [] e = inl (cc)
  two-splits [] (x ∷ others) e = inr (inl (others, cc))
  two-splits (x ∷ before) [] e = inr (inr (before, cc))
  two-splits (x ∷ before) (y ∷ others) e = two-splits before others (cc)

  -- No two elements of a list have the property.
  abbrev pub NoTwo : (A → Type 0) → List A → Type 0
  NoTwo P xs = (before between after : List A) (one two : A) → xs ≡ before ++ (one ∷ (between ++ (two ∷ after))) → P one → P two → ⊥

  pub only_one : (P : A → Type 0) {xs : List A} {one two : A} → NoTwo P xs → Within xs one → Within xs two → P one → P two → one ≡ two
  only_one P {xs} {one} {two} never v w p q = go (two-splits v.before w.before (sym v.splits ∙ w.splits))
    where
      go : (one ≡ two)
          ⊎ (((between : List A) × (v.after ≡ between ++ (two ∷ w.after))) ⊎ ((between : List A) × (w.after ≡ between ++ (one ∷ v.after))))
          → one ≡ two
      go (inl same) = same
      go (inr (inl (between, s))) = absurd (never v.before between w.after one two (v.splits ∙ ap (λ (l : List A). v.before ++ (one ∷ l)) s) p q)
      go (inr (inr (between, s))) = absurd (never w.before between v.after two one (w.splits ∙ ap (λ (l : List A). w.before ++ (two ∷ l)) s) q p)

-- No two elements of a mapped list have a property, if no two elements of the list have one that it implies.
module _ {A B : Type 0} (f : A → B) (Q : B → Type 0) {P : A → Type 0} {xs : List A} where
  pub no-two-mapped : ((x : A) → Within xs x → Q (f x) → P x) → NoTwo P xs → NoTwo Q (map f xs)
  no-two-mapped goes never before between after one two e p q =
      let s = map-split f xs before (between ++ (two ∷ after)) one e in
      let t = map-split f s.back between after two (sym s.back_is) in
      let both : xs ≡ s.front ++ (s.one ∷ (t.front ++ (t.one ∷ t.back))) = s.splits ∙ ap (λ (l : List A). s.front ++ (s.one ∷ l)) t.splits in
      let joins = append_assoc s.front (s.one ∷ t.front) (t.one ∷ t.back) in
      let first : Within xs s.one = record { before = s.front; after = s.back; splits = s.splits } in
      let second : Within xs t.one = record { before = s.front ++ (s.one ∷ t.front); after = t.back; splits = both ∙ sym joins } in
      never s.front t.front t.back s.one t.one both (goes s.one first (subst Q s.one_is p)) (goes t.one second (subst Q t.one_is q))
