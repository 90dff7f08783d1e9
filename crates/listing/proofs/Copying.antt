-- The front of a text; a listing that was written to enough room.
use Prim.Native.Nat.{ℕ, ◌≤◌}
use Rattle.std.specs.Prelude.{Result, Ok, is_ok, IsOk}
use mathlib.Core.Path.{◌≡◌, sym, ap, ◌∙◌}
use mathlib.Core.List.{List, ◌++◌}
use native.Mathlib.Omega.{arith}
use lib.ListN.{length, take, drop, length-append}
use lib.Seq.{length-take-le, take-append_seam}
use borrow.Author.Tests.{le-ltb}
use Rattle.refusal.specs.declared.Refusal.{Refusal}
use Rattle.listing_text.specs.Lines.{listing, lines_answer, lines_output}
use Rattle.io.specs.Counts.{IsPrefixLen}

pub counts : (n : ℕ) (text : List ℕ) → n ≤ length text → IsPrefixLen n text
counts n text h = (h, sym (length-take-le n text h))

-- A listing fits in 256 bytes: it is written, and the text begins with it.
module _ (m text text' : List ℕ) (r : Result ℕ Refusal) (answer : r ≡ lines_answer m (length text))
    (output : text' ≡ lines_output m text) (short : length (listing m) ≤ 256) (room : 256 ≤ length text) where
  answer-written : r ≡ Ok (length (listing m))
  answer-written = answer ∙ simp (le-ltb (length text) (length (listing m)) (omega arith))

  text-written : text' ≡ listing m ++ drop (length (listing m)) text
  text-written = output ∙ simp (le-ltb (length text) (length (listing m)) (omega arith))

  pub listing-written : (n : ℕ) → r ≡ Ok n → (take n text' ≡ listing m) × IsPrefixLen n text'
  listing-written n e =
      let all : length (listing m) ≡ n = cc answer-written in
      let front : take n text' ≡ listing m = rw (← all, text-written) (take-append_seam (listing m) (drop (length (listing m)) text)) in
      (front, counts n text' (rw text-written (omega (arith, length-append (listing m) (drop (length (listing m)) text)))))

  pub listing-never-refused : IsOk r
  listing-never-refused = ap is_ok answer-written
