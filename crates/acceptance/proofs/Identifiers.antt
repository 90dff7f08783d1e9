-- The identifier of a chunk as four letters, which the rules use, and as one number, which the check compares. The two are equivalent,
-- since every letter is under 256.
use Prim.Native.Nat.{ℕ, zero, suc, ◌≤◌, ◌<◌}
use mathlib.Core.Path.{◌≡◌, refl, sym, ap, ◌∙◌}
use mathlib.Core.Logic.{◌↔◌}
use mathlib.Core.List.{List, [], ◌∷◌}
use mathlib.Core.Bool.{Bool, true, false, ◌&&◌, ◌||◌}
use native.Mathlib.Omega.{arith}
use lib.ListN.{length, take}
use lib.Seq.{length-take-le, get_or-take, ext_get_or}
use lib.Dec.{eqb, ltb}
use borrow.Author.Tests.{eqb-true}
use Rattle.vocabulary.specs.Letters.{name_letters, info_letters, song_letters, inst_letters, patt_letters, smpl_letters, venv_letters, penv_letters}
use Rattle.numbers.specs.Numbers.{byte_at, number16, number32}
use Rattle.layout.specs.Chunks.{name_identifier, info_identifier, song_identifier, inst_identifier, patt_identifier, smpl_identifier, venv_identifier}
use Rattle.layout.specs.Chunks.{penv_identifier, needs_info, covered}
use Rattle.acceptance.specs.Rules.{IsChunk, Covered, NeedsInfo}
use Rattle.acceptance.proofs.Locating.{number32-take}
use Rattle.acceptance.proofs.Holding.{ltb-says, and-says}

-- Four bytes.
pub record FourBytes (letters : List ℕ) : Type 0 where
  pub size : length letters ≡ 4
  pub below : (i : ℕ) → i < 4 → byte_at letters i < 256

-- A test for this, which can be computed.
abbrev all_below : List ℕ → Bool
all_below [] = true
all_below (b ∷ bs) = ltb b 256 && all_below bs

below_at : (bs : List ℕ) → all_below bs ≡ true → (i : ℕ) → byte_at bs i < 256
unfolding byte_at
below_at [] h i = omega arith
below_at (b ∷ bs) h zero = (ltb-says b 256).0 ((and-says (ltb b 256) (all_below bs)).0 h).0
below_at (b ∷ bs) h (suc i) = below_at bs ((and-says (ltb b 256) (all_below bs)).0 h).1 i

pub four_bytes : (letters : List ℕ) → eqb (length letters) 4 && all_below letters ≡ true → FourBytes letters
four_bytes letters h =
    let both = (and-says (eqb (length letters) 4) (all_below letters)).0 h in
    record { size = eqb-true (length letters) 4 both.0; below = λ i l. below_at letters both.1 i }

-- Four bytes are determined by their number.
module _ (xs letters : List ℕ) (long : 4 ≤ length xs) (bytes : (i : ℕ) → i < 4 → byte_at xs i < 256) (four : FourBytes letters) where
  halves-same : number32 xs 0 ≡ number32 letters 0 → (number16 xs 0 ≡ number16 letters 0) × (number16 xs 2 ≡ number16 letters 2)
  unfolding number32 number16
  halves-same e =
      let a = bytes 2 (omega arith) in
      let b = bytes 3 (omega arith) in
      let c = four.below 2 (omega arith) in
      let d = four.below 3 (omega arith) in
      omega arith

  bytes_same : number32 xs 0 ≡ number32 letters 0 → (i : ℕ) → i < 4 → byte_at xs i ≡ byte_at letters i
  unfolding number16
  bytes_same e zero h = omega (arith, (halves-same e).0, bytes 1 (omega arith), four.below 1 (omega arith))
  bytes_same e (suc zero) h = omega (arith, (halves-same e).0, bytes 1 (omega arith), four.below 1 (omega arith))
  bytes_same e (suc (suc zero)) h = omega (arith, (halves-same e).1, bytes 3 (omega arith), four.below 3 (omega arith))
  bytes_same e (suc (suc (suc zero))) h = omega (arith, (halves-same e).1, bytes 3 (omega arith), four.below 3 (omega arith))
  bytes_same e (suc (suc (suc (suc i)))) h = absurd (omega arith)

  pub number-letters : number32 xs 0 ≡ number32 letters 0 → take 4 xs ≡ letters
  unfolding byte_at
  number-letters e =
      let taken = length-take-le 4 xs long in
      ext_get_or 0 (take 4 xs) letters (omega (arith, four.size)) (λ i h. let low : i < 4 = omega arith in get_or-take 4 xs i 0 low ∙ bytes_same e i low)

pub letters-number : (xs letters : List ℕ) → take 4 xs ≡ letters → number32 xs 0 ≡ number32 letters 0
letters-number xs letters e = sym (number32-take 4 xs 0 (omega arith)) ∙ ap (λ (l : List ℕ). number32 l 0) e

-- The identifier of a covered chunk, as the check uses it.
abbrev pub identifier_of : {letters : List ℕ} → Covered letters → ℕ
identifier_of Covered.name = name_identifier
identifier_of Covered.info = info_identifier
identifier_of Covered.song = song_identifier
identifier_of Covered.inst = inst_identifier
identifier_of Covered.patt = patt_identifier
identifier_of Covered.smpl = smpl_identifier
identifier_of Covered.venv = venv_identifier
identifier_of Covered.penv = penv_identifier

-- What is computed for each of them: its letters are four bytes, their number is the identifier, and the check treats it as covered.
record Identifies (letters : List ℕ) (identifier : ℕ) : Type 0 where
  four : eqb (length letters) 4 && all_below letters ≡ true
  number : number32 letters 0 ≡ identifier
  taken : covered identifier ≡ true

covered-identified : {letters : List ℕ} (covers : Covered letters) → Identifies letters (identifier_of covers)
unfolding number32 number16 byte_at
covered-identified Covered.name = record { four = refl; number = refl; taken = refl }
covered-identified Covered.info = record { four = refl; number = refl; taken = refl }
covered-identified Covered.song = record { four = refl; number = refl; taken = refl }
covered-identified Covered.inst = record { four = refl; number = refl; taken = refl }
covered-identified Covered.patt = record { four = refl; number = refl; taken = refl }
covered-identified Covered.smpl = record { four = refl; number = refl; taken = refl }
covered-identified Covered.venv = record { four = refl; number = refl; taken = refl }
covered-identified Covered.penv = record { four = refl; number = refl; taken = refl }

-- A chunk has that identifier exactly if it has those letters.
pub chunk-named : {chunk letters : List ℕ} → IsChunk chunk → (covers : Covered letters) → (number32 chunk 0 ≡ identifier_of covers) ↔ (take 4 chunk ≡ letters)
chunk-named {chunk} {letters} c covers = rw (← (covered-identified covers).number) (
  number-letters chunk letters (omega (arith, c.size)) (λ i h. omega (arith, (c.letters i h).1)) (four_bytes letters (covered-identified covers).four),
  letters-number chunk letters,
)

-- The check treats exactly these identifiers as covered.
pub covered-holds : {letters : List ℕ} (covers : Covered letters) → covered (identifier_of covers) ≡ true
covered-holds covers = (covered-identified covers).taken

-- The four that come after INFO are covered.
abbrev pub needing : {letters : List ℕ} → NeedsInfo letters → Covered letters
needing NeedsInfo.song = Covered.song
needing NeedsInfo.inst = Covered.inst
needing NeedsInfo.patt = Covered.patt
needing NeedsInfo.smpl = Covered.smpl

pub needing-holds : {letters : List ℕ} (needs : NeedsInfo letters) → needs_info (identifier_of (needing needs)) ≡ true
needing-holds NeedsInfo.song = refl
needing-holds NeedsInfo.inst = refl
needing-holds NeedsInfo.patt = refl
needing-holds NeedsInfo.smpl = refl

either : {A : Type 0} (a b : Bool) → (a ≡ true → A) → (b ≡ true → A) → a || b ≡ true → A
either true b f g h = f refl
either false b f g h = g h

pub needing-letters : (n : ℕ) → needs_info n ≡ true → (letters : List ℕ) × (needs : NeedsInfo letters) × (n ≡ identifier_of (needing needs))
needing-letters n =
    either (eqb n song_identifier) _ (λ e. (song_letters, NeedsInfo.song, eqb-true n song_identifier e))
    (either (eqb n inst_identifier) _ (λ e. (inst_letters, NeedsInfo.inst, eqb-true n inst_identifier e))
    (either (eqb n patt_identifier) _ (λ e. (patt_letters, NeedsInfo.patt, eqb-true n patt_identifier e))
    (λ e. (smpl_letters, NeedsInfo.smpl, eqb-true n smpl_identifier e))))

pub covered-letters : (n : ℕ) → covered n ≡ true → (letters : List ℕ) × (covers : Covered letters) × (n ≡ identifier_of covers)
covered-letters n =
    either (eqb n name_identifier) _ (λ e. (name_letters, Covered.name, eqb-true n name_identifier e))
    (either (eqb n info_identifier) _ (λ e. (info_letters, Covered.info, eqb-true n info_identifier e))
    (either (needs_info n) _ (λ e. let found = needing-letters n e in (found.0, needing found.1, found.2))
    (either (eqb n venv_identifier) _ (λ e. (venv_letters, Covered.venv, eqb-true n venv_identifier e))
    (λ e. (penv_letters, Covered.penv, eqb-true n penv_identifier e)))))
