-- Text that is written to a line part by part.
use Prim.Native.Nat.{ℕ, suc, ◌+◌, ◌-◌, ◌<◌, ◌≤◌, min}
use native.Mathlib.Nat.{add-zero}
use native.Mathlib.Numerals.{add-one}
use native.Mathlib.Omega.{arith}
use mathlib.Core.Path.{◌≡◌, refl, sym, ap, ◌∙◌, subst}
use mathlib.Core.Bool.{Bool, true, false}
use mathlib.Core.List.{List, [], ◌∷◌, ◌++◌, map}
use lib.Dec.{leb}
use lib.ListN.{length, get_or, set, take, drop, length-append, take-append-drop, drop_of_length-le}
use lib.Seq.{sets, length-sets, set_out, drop-cons, length-take-le, take_all}
use borrow.Rule.Slice.PartMut.{put_mid}
use Rattle.std.proofs.lemmas.Slice.{put_mid-paste}
use Rattle.std.proofs.lemmas.List.Edits.{sets-eq}
use borrow.Author.Tests.{leb-true, leb-false}
use Rattle.vocabulary.specs.Lists.{joined}
use Rattle.conformance_text.specs.Text.{line_end, HasPut}

-- Past a line's end nothing is stored.
pub past_end : (text line : List ℕ) (at : ℕ) → length line ≤ at → sets line at text ≡ line
past_end [] line at h = refl
past_end (x ∷ text) line at h = ap (λ (l : List ℕ). sets l (suc at) text) (set_out line at x h) ∙ past_end text line (suc at) (omega arith)

-- Two texts, one after the other.
sets-append : (xs ys line : List ℕ) (at : ℕ) → sets line at (xs ++ ys) ≡ sets (sets line at xs) (at + length xs) ys
sets-append [] ys line at = rw (add-zero at)
sets-append (x ∷ xs) ys line at =
    let place : at + suc (length xs) ≡ suc at + length xs = omega arith in
    rw place (sets-append xs ys (set line at x) (suc at))

-- A text written past the line's end is written at its end: both change nothing.
pub clamped : (text line : List ℕ) (at : ℕ) → sets line (min at (length line)) text ≡ sets line at text
clamped text line at =
    go (leb at (length line)) refl
  where
    go : (b : Bool) → leb at (length line) ≡ b → sets line (min at (length line)) text ≡ sets line at text
    go true e = let h : at ≤ length line = leb-true _ _ e in let same : min at (length line) ≡ at = omega arith in rw same
    go false e =
        let h : length line < at = leb-false _ _ e in
        past_end text line (min at (length line)) (omega arith) ∙ sym (past_end text line at (omega arith))

-- A text that is copied to a line as far as there is room: `n` bytes of it, from `start` on, which is the place or the line's end.
pub copied : (line : List ℕ) (at : ℕ) (text : List ℕ) (start n k : ℕ) (part : List ℕ) → start ≡ min at (length line)
    → n ≡ min (length text) (length line - start)
    → n ≡ k
    → part ≡ take n text
    → put_mid start k line part ≡ sets line at text
copied line at text start n k part s m same front =
    let long : length (take n text) ≡ n = length-take-le n text (omega arith) in
    let held : List ℕ = sets line start (take n text) in
    put_mid-paste start k line part (take n text) n front same (sym long)
    ∙ rw (take_all n (take n text) (omega arith)) (ap (λ (e : ℕ). take start line ++ take n text ++ drop (start + e) line) (sym long))
    ∙ sym (sets-eq (take n text) line start (omega arith))
    ∙ rest (leb (length text) n) refl held (start + length (take n text)) (omega (arith, length-sets line start (take n text), long))
    ∙ sym (sets-append (take n text) (drop n text) line start)
    ∙ ap (sets line start) (take-append-drop n text)
    ∙ ap (λ (i : ℕ). sets line i text) s
    ∙ clamped text line at
  where
    -- Either nothing is left of the text, or the line is full.
    rest : (b : Bool) → leb (length text) n ≡ b → (l : List ℕ) (i : ℕ) → (n < length text → length l ≤ i) → l ≡ sets l i (drop n text)
    rest true e l i full = ap (sets l i) (sym (drop_of_length-le text (leb-true _ _ e)))
    rest false e l i full = sym (past_end (drop n text) l i (full (leb-false _ _ e)))

-- Of `text`, which is written at `at`, everything but `rest` is written, and `next` is the place after it.
pub record Going (line₀ : List ℕ) (at : ℕ) (text line : List ℕ) (next : ℕ) (rest : List ℕ) : Type 0 where
  pub room : length line ≡ length line₀
  pub inside : next ≤ length line
  pub place : min (next + length rest) (length line₀) ≡ line_end line₀ at text
  pub same : sets line next rest ≡ sets line₀ at text

-- The first part is written.
pub going_on : (line₀ : List ℕ) (at : ℕ) (xs rest : List ℕ) {line : List ℕ} {next : ℕ}
    → HasPut line₀ at xs line next → Going line₀ at (xs ++ rest) line next rest
going_on line₀ at xs rest {line} {next} put =
    let held : List ℕ = sets line₀ at xs in
    let long : length held ≡ length line₀ = length-sets line₀ at xs in
    let all : length (xs ++ rest) ≡ length xs + length rest = length-append xs rest in
    let end : ℕ = at + length xs in
    let clamp : sets held (min end (length line₀)) rest ≡ sets held end rest = ap (λ (k : ℕ). sets held (min end k) rest) (sym long) ∙ clamped rest held end in
    rw (put.1, put.0) (record { room = long; inside = omega arith; place = omega arith; same = clamp ∙ sym (sets-append xs rest line₀ at) })

-- Two parts are written, one after the other.
pub both-put : (line₀ : List ℕ) (at : ℕ) (xs ys : List ℕ) {line line' : List ℕ} {next next' : ℕ}
    → HasPut line₀ at xs line next → HasPut line next ys line' next' → HasPut line₀ at (xs ++ ys) line' next'
both-put line₀ at xs ys put then =
    let g : Going line₀ at (xs ++ ys) _ _ ys = going_on line₀ at xs ys put in
    (omega (arith, g.room, g.place, then.0), then.1 ∙ g.same)

module _ (line₀ : List ℕ) (at : ℕ) (text : List ℕ) where
  pub going-first : at ≤ length line₀ → Going line₀ at text line₀ at text
  going-first h = record { room = refl; inside = h; place = refl; same = refl }

  module _ {line : List ℕ} {next : ℕ} where
    -- One more part.
    pub going_more : (xs rest : List ℕ) {line' : List ℕ} {next' : ℕ}
        → Going line₀ at text line next (xs ++ rest) → HasPut line next xs line' next' → Going line₀ at text line' next' rest
    going_more xs rest {line'} {next'} g put =
        let step : Going line next (xs ++ rest) line' next' rest = going_on line next xs rest put in
        record {
          room = step.room ∙ g.room;
          inside = step.inside;
          place = omega (arith, g.room, g.place, step.place);
          same = step.same ∙ g.same;
        }

-- The texts of the elements from a place on.
abbrev pub texts : (ℕ → List ℕ) → List ℕ → ℕ → List ℕ
texts f xs i = joined (map f (drop i xs))

-- The loop that writes the text of each element.
module _ (line₀ : List ℕ) (at : ℕ) (text : List ℕ) (f : ℕ → List ℕ) (xs : List ℕ) (i : ℕ) {line : List ℕ} {next : ℕ} where
  pub going-turn : {line' : List ℕ} {next' : ℕ} → i < length xs → Going line₀ at text line next (texts f xs i)
      → HasPut line next (f (get_or xs i 0)) line' next' → Going line₀ at text line' next' (texts f xs (i + 1))
  going-turn h g put =
      let parts : texts f xs i ≡ f (get_or xs i 0) ++ texts f xs (i + 1) = rw (drop-cons xs i 0 h, add-one i) in
      going_more line₀ at text (f (get_or xs i 0)) (texts f xs (i + 1)) (subst (Going line₀ at text line next) parts g) put
