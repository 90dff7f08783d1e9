-- The rules of the header, as the check computes them from the module and as the rules state them for the header's own 8 bytes.
use Prim.Native.Nat.{ℕ, ◌/◌, ◌%◌, ◌≤◌, ◌<◌}
use mathlib.Core.Path.{◌≡◌, refl, sym, ap, ◌∙◌}
use mathlib.Core.Logic.{◌↔◌, ◌⊎◌, inl, inr}
use mathlib.Core.List.{List, [], ◌∷◌, ◌++◌}
use mathlib.Core.Bool.{Bool, true, false, ◌||◌, or-true}
use native.Mathlib.Omega.{arith}
use lib.ListN.{length, take, length-append}
use lib.Dec.{eqb}
use borrow.Author.Tests.{eqb-true, eq-eqb}
use Rattle.numbers.specs.Numbers.{byte_at, Bytes, number16, number32}
use Rattle.layout.specs.Header.{header_rules}
use Rattle.acceptance.proofs.Locating.{byte_at-front, number32-front}
use Rattle.acceptance.proofs.Holding.{AllHold, plain}
use Rattle.acceptance.proofs.Identifiers.{four_bytes, number-letters, letters-number}

-- M3: D B M 0.
abbrev begin : List ℕ
begin = 68 ∷ 66 ∷ 77 ∷ 48 ∷ []

-- M2 to M4, for the header.
pub record HeaderFits (m header : List ℕ) : Type 0 where
  pub limit : length m ≤ 16777216
  pub begins : take 4 header ≡ 68 ∷ 66 ∷ 77 ∷ 48 ∷ []
  pub version : (byte_at header 4 ≡ 2) ⊎ (byte_at header 4 ≡ 3)
  pub revision : (byte_at header 5 / 16 ≤ 9) × (byte_at header 5 % 16 ≤ 9)

either-equal : (n a b : ℕ) → (eqb n a || eqb n b ≡ true) ↔ ((n ≡ a) ⊎ (n ≡ b))
either-equal n a b = (forth (eqb n a) refl, back)
  where
    forth : (t : Bool) → eqb n a ≡ t → t || eqb n b ≡ true → (n ≡ a) ⊎ (n ≡ b)
    forth true e h = inl (eqb-true n a e)
    forth false e h = inr (eqb-true n b h)

    back : (n ≡ a) ⊎ (n ≡ b) → eqb n a || eqb n b ≡ true
    back (inl e) = rw (eq-eqb n a e)
    back (inr e) = rw (eq-eqb n b e) (or-true (eqb n a))

pub begins-number : (m : List ℕ) → take 4 m ≡ begin → number32 m 0 ≡ 0x44424D30
unfolding number32 number16 byte_at
begins-number m e = letters-number m begin e

module _ (m header rest : List ℕ) (bytes : m ≡ header ++ rest) (size : length header ≡ 8) where
  pub header-byte : (i : ℕ) → i < 8 → byte_at m i ≡ byte_at header i
  header-byte i h = rw bytes (byte_at-front header rest i (omega arith))

  header-number : number32 m 0 ≡ number32 header 0
  header-number = rw bytes (number32-front header rest 0 (omega arith))

  module-long : 8 ≤ length m
  module-long = omega (arith, ap length bytes, length-append header rest)

  number-begins : Bytes m → number32 m 0 ≡ 0x44424D30 → take 4 header ≡ begin
  unfolding number32 number16 byte_at
  number-begins below e =
      number-letters header begin (omega arith) (λ i h. rw (header-byte i (omega arith)) at (below i)) (four_bytes begin refl) (sym header-number ∙ e)

  pub rules-header : Bytes m → AllHold (header_rules m) → HeaderFits m header
  rules-header below hold =
      let says = simp (plain, either-equal, header-byte 4 (omega arith), header-byte 5 (omega arith)) at hold in
      record { limit = says.0; begins = number-begins below says.1.0.1; version = says.1.1.0; revision = says.1.1.1 }

  pub header-rules : HeaderFits m header → AllHold (header_rules m)
  header-rules fits =
      simp (plain, either-equal, header-byte 4 (omega arith), header-byte 5 (omega arith))
      (fits.limit, ((module-long, header-number ∙ begins-number header fits.begins), (fits.version, fits.revision)))
