-- What is in a list that is put together: in one of two lists one after the other, in the list of one of several numbers, or the one entry
-- that is there if a test fails.
--     in-none, in_one    the empty list, and a list of one element
--     in-front, in-back, in_either    two lists
--     in-joined          lists number by number
--     in-unless          an entry for something that differs
--     nothing-in         a list is empty exactly if nothing is in it
use Prim.Native.Nat.{ℕ, zero, suc, ◌+◌, ◌-◌, ◌≤◌, ◌<◌}
use mathlib.Core.Path.{◌≡◌, refl, sym, ap, subst, ◌∙◌}
use mathlib.Core.Logic.{◌↔◌, ◌⊎◌, inl, inr}
use mathlib.Core.List.{List, [], ◌∷◌, ◌++◌}
use mathlib.Core.Bool.{Bool, true, false, not}
use native.Mathlib.Omega.{arith}
use Rattle.vocabulary.specs.Lists.{joined}
use Rattle.vocabulary.proofs.Splits.{Within, within-front, within-after}
use Rattle.numbers.specs.Numbers.{each_from}
use Rattle.differences.specs.Differences.{difference_if}
use Rattle.differences.specs.declared.Difference.{Difference}
use Rattle.acceptance.proofs.Holding.{false-never}

-- The element is in the list of one of n numbers, from one on.
pub record AtNumber {A : Type 0} (f : ℕ → List A) (k n : ℕ) (x : A) : Type 0 where
  pub number : ℕ
  pub least : k ≤ number
  pub most : number < k + n
  pub within : Within (f number) x

module _ {A : Type 0} {x : A} where
  pub in-none : Within [] x → ⊥
  in-none w = go w.before w.after w.splits
    where
      go : (before after : List A) → [] ≡ before ++ (x ∷ after) → ⊥
      go [] after e = let z : ◌≡◌ {A = ℕ} 0 1 = cc in absurd (omega arith)
      go (y ∷ before) after e = let z : ◌≡◌ {A = ℕ} 0 1 = cc in absurd (omega arith)

  -- The first element, or one of the others.
  in-first : (first : A) (xs : List A) → Within (first ∷ xs) x → (x ≡ first) ⊎ Within xs x
  in-first first xs w = go w.before w.after w.splits
    where
      go : (before after : List A) → first ∷ xs ≡ before ++ (x ∷ after) → (x ≡ first) ⊎ Within xs x
      go [] after e = inl (cc)
      go (y ∷ before) after e = inr (record { before = before; after = after; splits = cc })

  pub in_one : (only : A) → Within (only ∷ []) x ↔ (x ≡ only)
  in_one only = (λ w. go (in-first only [] w), λ e. subst (Within (only ∷ [])) (sym e) (within-front only []))
    where
      go : (x ≡ only) ⊎ Within [] x → x ≡ only
      go (inl e) = e
      go (inr w) = absurd (in-none w)

  pub in-front : (xs ys : List A) → Within xs x → Within (xs ++ ys) x
  in-front xs ys w = record { before = w.before; after = w.after ++ ys; splits = ap (◌++ ys) w.splits ∙ go w.before }
    where
      go : (before : List A) → (before ++ (x ∷ w.after)) ++ ys ≡ before ++ (x ∷ (w.after ++ ys))
      go [] = refl
      go (y ∷ before) = ap (y ∷◌) (go before)

  pub in-back : (xs ys : List A) → Within ys x → Within (xs ++ ys) x
  in-back [] ys w = w
  in-back (y ∷ xs) ys w = within-after y (in-back xs ys w)

  pub in_either : (xs ys : List A) → Within (xs ++ ys) x → Within xs x ⊎ Within ys x
  in_either [] ys w = inr w
  in_either (first ∷ xs) ys w = go (in-first first (xs ++ ys) w) (in_either xs ys)
    where
      further : Within xs x ⊎ Within ys x → Within (first ∷ xs) x ⊎ Within ys x
      further (inl v) = inl (within-after first v)
      further (inr v) = inr v

      go : (x ≡ first) ⊎ Within (xs ++ ys) x → (Within (xs ++ ys) x → Within xs x ⊎ Within ys x) → Within (first ∷ xs) x ⊎ Within ys x
      go (inl e) rest = inl (subst (Within (first ∷ xs)) (sym e) (within-front first xs))
      go (inr v) rest = further (rest v)

  -- The lists of n numbers.
  module _ (f : ℕ → List A) where
    joined_says : (k n : ℕ) → Within (joined (each_from f k n)) x → AtNumber f k n x
    joined_says k zero w = absurd (in-none w)
    joined_says k (suc n) w = go (in_either (f k) (joined (each_from f (k + 1) n)) w) (joined_says (k + 1) n)
      where
        go : Within (f k) x ⊎ Within (joined (each_from f (k + 1) n)) x
            → (Within (joined (each_from f (k + 1) n)) x → AtNumber f (k + 1) n x)
            → AtNumber f k (suc n) x
        go (inl v) rest = record { number = k; least = omega arith; most = omega arith; within = v }
        go (inr v) rest =
            let a = rest v in
            record { number = a.number; least = omega (arith, a.least); most = omega (arith, a.most); within = a.within }

    joined-holds : (k n i : ℕ) → i < n → Within (f (k + i)) x → Within (joined (each_from f k n)) x
    joined-holds k zero i less w = absurd (omega arith)
    joined-holds k (suc n) zero less w =
        let same : k + 0 ≡ k = omega arith in
        in-front (f k) (joined (each_from f (k + 1) n)) (subst (λ (j : ℕ). Within (f j) x) same w)
    joined-holds k (suc n) (suc i) less w =
        let same : k + suc i ≡ k + 1 + i = omega arith in
        in-back (f k) (joined (each_from f (k + 1) n)) (joined-holds (k + 1) n i (omega arith) (subst (λ (j : ℕ). Within (f j) x) same w))

    pub in-joined : (k n : ℕ) → Within (joined (each_from f k n)) x ↔ AtNumber f k n x
    in-joined k n = (
      joined_says k n,
      λ a.
          let same : a.number ≡ k + (a.number - k) = omega (arith, a.least) in
          joined-holds k n (a.number - k) (omega (arith, a.least, a.most)) (subst (λ (j : ℕ). Within (f j) x) same a.within),
    )

-- An entry for something that is not the same, by a test.
pub in-unless : {Same : Type 0} (same : Bool) (e d : Difference) → (same ≡ true) ↔ Same
    → Within (difference_if (not same) e) d ↔ ((Same → ⊥) × (d ≡ e))
in-unless true e d says = (λ w. absurd (in-none w), λ h. absurd (h.0 (says.0 refl)))
in-unless false e d says = (λ w. (λ s. false-never (says.1 s), (in_one e).0 w), λ h. (in_one e).1 h.1)

pub nothing-in : {A : Type 0} (xs : List A) → (xs ≡ []) ↔ ((x : A) → Within xs x → ⊥)
nothing-in {A} xs = (λ e x w. in-none (subst (λ (ys : List A). Within ys x) e w), go xs)
  where
    go : (ys : List A) → ((x : A) → Within ys x → ⊥) → ys ≡ []
    go [] h = refl
    go (y ∷ ys) h = absurd (h y (within-front y ys))
