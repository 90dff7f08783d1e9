-- Bytes and numbers of a record in the module, as the queries show them.
use Prim.Native.Nat.{ℕ, suc, ◌+◌, ◌<◌}
use mathlib.Core.Path.{◌≡◌, refl, sym, ap, ◌∙◌}
use mathlib.Core.List.{List, [], ◌∷◌, map}
use native.Mathlib.Omega.{arith}
use native.Mathlib.Nat.{add_assoc, add-zero}
use lib.ListN.{length, get_or}
use Rattle.numbers.specs.Numbers.{part_of, each_from, bytes_from}
use Rattle.numbers.proofs.Parts.{bytes-part}
use Rattle.acceptance.proofs.Locating.{PartAt, part-inside, part-is}

-- The bytes of a part, shown one by one.
pub bytes-at : {m part : List ℕ} {at : ℕ} → PartAt m at part → (n : ℕ) → length part ≡ n → bytes_from m at n ≡ part
bytes-at {m} {part} {at} p n e = bytes-part m n at (omega (arith, part-inside p)) ∙ ap (part_of m at) (sym e) ∙ part-is p

-- The results of a function for the numbers of a list, if they are those of another function for the elements with these numbers.
pub each-listed : {A B : Type 0} (f : ℕ → B) (g : A → B) (other : A) (xs : List A) (k : ℕ)
    → ((i : ℕ) → i < length xs → f (k + i) ≡ g (get_or xs i other))
    → each_from f k (length xs) ≡ map g xs
each-listed f g other [] k h = refl
each-listed f g other (x ∷ xs) k h =
    let first : f k ≡ g x = simp add-zero at (h 0 (omega arith)) in
    let rest : each_from f (k + 1) (length xs) ≡ map g xs =
    each-listed f g other xs (k + 1) (λ i less. simp add_assoc (ap f (omega arith) ∙ h (suc i) (omega arith))) in
    cc
