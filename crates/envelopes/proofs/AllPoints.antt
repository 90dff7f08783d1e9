-- An array that calls of a closure give, one for each index, is the list of a function's values, if each call gives the function's value and
-- leaves the closure as it is.
use Prim.Native.Nat.{ℕ, zero, suc, ◌+◌, ◌<◌, ◌≤◌}
use mathlib.Core.Path.{◌≡◌, refl, subst, ap, ◌∙◌}
use mathlib.Core.Bool.{Bool, true, false}
use mathlib.Core.List.{List, [], ◌∷◌}
use native.Mathlib.Omega.{arith}
use lib.Dec.{leb}
use lib.ListN.{length, get_or}
use borrow.Author.Tests.{leb-true, leb-false}
use denote.Param.Members.{Mut, Called}
use Rattle.std.specs.Array.{IsFromFnResult, IsFromFnResultFrom}
use Rattle.numbers.specs.Numbers.{each_from}

each-read : {A : Type 0} (v : ℕ → A) (xs : List A) (n k : ℕ) → length xs ≡ n → ((i : ℕ) (d : A) → i < n → get_or xs i d ≡ v (k + i)) → xs ≡ each_from v k n
each-read v [] zero k long h = refl
each-read v [] (suc n) k long h = absurd (omega (arith, long))
each-read v (x ∷ xs) zero k long h = absurd (omega (arith, long))
each-read {A} v (x ∷ xs) (suc n) k long h =
    let first : x ≡ v k = h 0 x (omega arith) ∙ ap v (omega arith) in
    let later : (i : ℕ) (d : A) → i < n → get_or xs i d ≡ v (k + 1 + i) = λ i d less. h (suc i) d (omega arith) ∙ ap v (omega arith) in
    ap (λ (a : A). a ∷ xs) first ∙ ap (λ (l : List A). v k ∷ l) (each-read v xs n (k + 1) (omega (arith, long)) later)

module _ {F A : Type 0} (g : Mut F (ℕ × Unit {0}) A) (v : ℕ → A) (f : F) (n : ℕ)
    (calls : (i : ℕ) (y : A) (q : F) → i < n → Called g f (i, tt) y q → (y ≡ v i) × (q ≡ f)) where
  given : (xs : List A) (more i : ℕ) → i + more ≡ n → IsFromFnResultFrom g f xs i more → (j : ℕ) (d : A) → i ≤ j → j < n → get_or xs j d ≡ v j
  given xs zero i e h j d least less = absurd (omega arith)
  given xs (suc more) i e h j d least less =
      let here = calls i h.1 h.0 (omega arith) h.3 in
      let Q : F → Type 0 = λ q. IsFromFnResultFrom g q xs (i + 1) more in
      let later : i < j → get_or xs j d ≡ v j = λ above. given xs more (i + 1) (omega (arith, e)) (subst Q here.1 h.4) j d (omega (arith, above)) less in
      let P : ℕ → Type 0 = λ k. get_or xs k d ≡ v k in
      go (leb j i) refl later (λ same. subst P same (h.2.1 d ∙ here.0))
    where
      go : (b : Bool) → leb j i ≡ b → (i < j → get_or xs j d ≡ v j) → (i ≡ j → get_or xs j d ≡ v j) → get_or xs j d ≡ v j
      go true b later now = now (omega (arith, leb-true j i b))
      go false b later now = later (leb-false j i b)

  pub each-made : (xs : List A) → IsFromFnResult g f xs n → xs ≡ each_from v 0 n
  each-made xs h = each-read v xs n 0 h.long (λ i d less. given xs n 0 (omega arith) h.each i d (omega arith) less ∙ ap v (omega arith))
