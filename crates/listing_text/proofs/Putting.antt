-- Writing to a text, one part after the other.
use Prim.Native.Nat.{ℕ, suc, ◌+◌, ◌-◌, ◌/◌, ◌%◌, ◌<◌, ◌≤◌}
use mathlib.Core.Path.{◌≡◌, refl, sym, ap, subst, ◌∙◌}
use mathlib.Core.List.{List, ◌∷◌, ◌++◌, append_assoc, append-nil}
use native.Mathlib.Omega.{arith}
use native.Mathlib.Numerals.{add-one}
use lib.ListN.{length, take, drop, set, length-append, length-set, take-append-drop, drop_of_length-le}
use lib.Seq.{append_snoc, drop-cons, drop-set-lt, get_or-set_same, length-take-le, take-set-le, take-set-lt, take-take}
use Rattle.layout.specs.declared.Layout.{Layout}
use Rattle.listing_text.specs.Lines.{ascii, digit, decimal, version_line, number_line, accepted_lines}
use Rattle.listing_text.specs.Steps.{Put, count_lines}
use Rattle.listing_text.proofs.Decimals.{decimal-short, decimal-long, decimal-longer, decimal-some}

-- One part after the other.
pub put_both : {text₀ text₁ text₂ : List ℕ} {at next last : ℕ} (xs ys : List ℕ) → Put text₀ at xs text₁ next
    → Put text₁ next ys text₂ last
    → Put text₀ at (xs ++ ys) text₂ last
put_both {text₀} {text₁} {text₂} {at} xs ys p q =
    record {
      place = omega (arith, length-append xs ys, p.place, q.place);
      front = q.front ∙ rw p.front (append_assoc (take at text₀) xs ys);
    }

-- The seven lines of an accepted module, from the version, the five numbers and the length.
pub seven : {text₀ text₁ text₂ text₃ : List ℕ} {first second last : ℕ} (l : Layout) (bytes : ℕ)
    → Put text₀ 0 (version_line l.version l.revision) text₁ first
    → Put text₁ first (count_lines l.instruments l.samples l.songs l.patterns l.tracks) text₂ second
    → Put text₂ second (number_line (ascii "accepted ") bytes) text₃ last
    → Put text₀ 0 (accepted_lines l bytes) text₃ last
seven {text₀} {text₃ = text₃} {last = last} l bytes p q r =
    subst (λ (lines : List ℕ). Put text₀ 0 (version_line l.version l.revision ++ lines) text₃ last)
    (following (number_line (ascii "instruments ") l.instruments) (number_line (ascii "samples ") l.samples)
    (number_line (ascii "songs ") l.songs) (number_line (ascii "patterns ") l.patterns)
    (number_line (ascii "tracks ") l.tracks) (number_line (ascii "accepted ") bytes))
    (put_both (version_line l.version l.revision) _ p (put_both (count_lines l.instruments l.samples l.songs l.patterns l.tracks) _ q r))
  where
    following : (a b c d e rest : List ℕ) → (a ++ (b ++ (c ++ (d ++ e)))) ++ rest ≡ a ++ (b ++ (c ++ (d ++ (e ++ rest))))
    following a b c d e rest = simp append_assoc

-- The digits of a number from the last to the first: the digits of `rest` are still to be written, the last of them at `to`. After it are
-- the digits already written.
pub record Spelling (text₀ : List ℕ) (at n : ℕ) (text : List ℕ) (rest to : ℕ) : Type 0 where
  pub room : length text ≡ length text₀
  pub fits : at + length (decimal n) ≤ length text₀
  pub place : to + 1 ≡ at + length (decimal rest)
  pub kept : take at text ≡ take at text₀
  pub done : decimal rest ++ drop (to + 1) (take (at + length (decimal n)) text) ≡ decimal n

module _ {text₀ : List ℕ} {at n : ℕ} where
  pub spelling-first : at + length (decimal n) ≤ length text₀ → Spelling text₀ at n text₀ n (at + length (decimal n) - 1)
  spelling-first h =
      let some = decimal-some n in
      let following : at + length (decimal n) - 1 + 1 ≡ at + length (decimal n) = omega arith in
      record {
        room = refl;
        fits = h;
        place = following;
        kept = refl;
        done = rw (
          following,
          drop_of_length-le (take (at + length (decimal n)) text₀) {i = at + length (decimal n)}
              (omega (arith, length-take-le (at + length (decimal n)) text₀ h)),
        ) (append-nil (decimal n));
      }

  module _ {text : List ℕ} {rest to : ℕ} where
    -- The place of the next digit is inside the number's room.
    pub spelling-inside : Spelling text₀ at n text rest to → (at ≤ to) × (to < at + length (decimal n))
    spelling-inside s =
        let some = decimal-some rest in
        let all : length (decimal rest) + length (drop (to + 1) (take (at + length (decimal n)) text)) ≡ length (decimal n) =
        sym (length-append (decimal rest) _) ∙ ap length s.done in
        (omega (arith, s.place), omega (arith, s.place))

    pub spelling-write : Spelling text₀ at n text rest to → to < length text
    spelling-write s = let inside = spelling-inside s in omega (arith, s.room, s.fits)

    -- There is a place before it if there are more digits.
    pub spelling-more : 10 ≤ rest → Spelling text₀ at n text rest to → 1 ≤ to
    spelling-more h s = let some = decimal-some (rest / 10) in let longer = decimal-longer rest h in omega (arith, s.place)

    -- The text from there on, after a digit is written.
    spelling-put : (d : ℕ) → Spelling text₀ at n text rest to
        → drop to (take (at + length (decimal n)) (set text to d)) ≡ d ∷ drop (to + 1) (take (at + length (decimal n)) text)
    spelling-put d s =
        let inside = spelling-inside s in
        let long : length (take (at + length (decimal n)) text) ≡ at + length (decimal n) =
        length-take-le (at + length (decimal n)) text (omega (arith, s.room, s.fits)) in
        rw (
          take-set-lt (at + length (decimal n)) text to d inside.1,
          drop-cons (set (take (at + length (decimal n)) text) to d) to 0 (rw length-set (omega (arith, inside.1))),
          get_or-set_same (take (at + length (decimal n)) text) to d 0 (omega (arith, inside.1)),
          drop-set-lt (suc to) (take (at + length (decimal n)) text) to d (omega arith),
          add-one to,
        )

    pub spelling-turn : 10 ≤ rest → Spelling text₀ at n text rest to → Spelling text₀ at n (set text to (digit (rest % 10))) (rest / 10) (to - 1)
    spelling-turn h s =
        let inside = spelling-inside s in
        let some = decimal-some (rest / 10) in
        let longer = decimal-longer rest h in
        let back : to - 1 + 1 ≡ to = omega (arith, s.place) in
        record {
          room = length-set text to (digit (rest % 10)) ∙ s.room;
          fits = s.fits;
          place = omega (arith, s.place);
          kept = take-set-le at text to (digit (rest % 10)) inside.0 ∙ s.kept;
          done = rw (back, spelling-put (digit (rest % 10)) s, ← append_snoc (decimal (rest / 10)) (digit (rest % 10)), ← decimal-long rest h) s.done;
        }

    pub spelling-last : rest < 10 → Spelling text₀ at n text rest to → Put text₀ at (decimal n) (set text to (digit rest)) (at + length (decimal n))
    spelling-last h s =
        let inside = spelling-inside s in
        let one : length (decimal rest) ≡ 1 = ap length (decimal-short rest h) in
        let here : to ≡ at = omega (arith, s.place) in
        let spelled : List ℕ = take (at + length (decimal n)) (set text to (digit rest)) in
        let following : drop at spelled ≡ decimal n =
        ap (λ (k : ℕ). drop k spelled) (sym here)
        ∙ (spelling-put (digit rest) s ∙ (rw (decimal-short rest h) at s.done)) in
        let before : take at spelled ≡ take at text₀ =
        rw (take-take at (at + length (decimal n)) (set text to (digit rest)) (omega arith), take-set-le at text to (digit rest) inside.0)
        s.kept in
        record {
          place = refl;
          front = sym (take-append-drop at spelled) ∙ rw (before, following);
        }
