-- Listing entries: what a list written in parts leaves in the output, and the state of every loop that lists.
use Prim.Native.Nat.{ℕ, suc, ◌+◌, ◌*◌, ◌<◌, ◌≤◌}
use mathlib.Core.Path.{◌≡◌, refl, sym, ap, ◌∙◌}
use mathlib.Core.List.{List, [], ◌∷◌, ◌++◌, append_assoc, append-nil}
use native.Mathlib.Omega.{arith}
use lib.ListN.{length, drop, length-append, length-drop}
use lib.Seq.{drop-drop}
use Rattle.numbers.specs.Numbers.{put_at}
use Rattle.numbers.proofs.PutBytes.{put-over, put-length, put-after}
use Rattle.differences.specs.Differences.{difference_bytes, list_bytes, entries_listed}
use Rattle.differences.specs.declared.Difference.{Difference}

-- Entries listed after others.
pub listed-append : (xs ys : List Difference) (n : ℕ) (out : List ℕ)
    → entries_listed (xs ++ ys) n out ≡ entries_listed ys (n + length xs) (entries_listed xs n out)
listed-append [] ys n out = ap (λ (k : ℕ). entries_listed ys k out) (omega arith)
listed-append (x ∷ xs) ys n out =
    listed-append xs ys (suc n) (put_at (difference_bytes x) (10 * n) out)
    ∙ ap (λ (k : ℕ). entries_listed ys k (entries_listed xs (suc n) (put_at (difference_bytes x) (10 * n) out))) (omega arith)

-- The output keeps its length.
pub listed-length : (ds : List Difference) (n : ℕ) (out : List ℕ) → length (entries_listed ds n out) ≡ length out
listed-length [] n out = refl
listed-length (d ∷ ds) n out = listed-length ds (suc n) (put_at (difference_bytes d) (10 * n) out) ∙ put-length (difference_bytes d) (10 * n) out

-- An output without room for the next entry is unchanged.
pub listed-none : (ds : List Difference) (n : ℕ) (out : List ℕ) → length out < 10 * n + 10 → entries_listed ds n out ≡ out
listed-none [] n out h = refl
listed-none (d ∷ ds) n out h =
    let same : put_at (difference_bytes d) (10 * n) out ≡ out = put-over (difference_bytes d) (10 * n) out h in
    ap (entries_listed ds (suc n)) same ∙ listed-none ds (suc n) out (omega arith)

-- The length of the list in bytes.
pub list_length : (ds : List Difference) → length (list_bytes ds) ≡ 10 * length ds
list_length [] = refl
list_length (d ∷ ds) = length-append (difference_bytes d) (list_bytes ds) ∙ omega (arith, list_length ds)

-- Entries for which there is room, after what is already written.
pub listed-after : (ds : List Difference) (n : ℕ) (front rest : List ℕ) → length front ≡ 10 * n → 10 * length ds ≤ length rest
    → entries_listed ds n (front ++ rest) ≡ front ++ (list_bytes ds ++ drop (10 * length ds) rest)
listed-after [] n front rest place h = refl
listed-after (d ∷ ds) n front rest place h =
    let one = difference_bytes d in
    let written : put_at one (10 * n) (front ++ rest) ≡ (front ++ one) ++ drop 10 rest =
    put-after front one (10 * n) place rest (omega (arith, h)) ∙ sym (append_assoc front one (drop 10 rest)) in
    let more : 10 + 10 * length ds ≡ 10 * suc (length ds) = omega arith in
    let further : length (front ++ one) ≡ 10 * suc n = length-append front one ∙ omega (arith, place) in
    ap (entries_listed ds (suc n)) written
    ∙ listed-after ds (suc n) (front ++ one) (drop 10 rest) further (omega (arith, h, length-drop 10 rest))
    ∙ append_assoc front one (list_bytes ds ++ drop (10 * length ds) (drop 10 rest))
    ∙ ap (λ (l : List ℕ). front ++ (one ++ (list_bytes ds ++ l))) (drop-drop (10 * length ds) 10 rest ∙ ap (λ (k : ℕ). drop k rest) more)
    ∙ ap (front ++◌) (sym (append_assoc one (list_bytes ds) (drop (10 * suc (length ds)) rest)))

-- A whole list from the front of an output that has room for it.
pub listed-whole : (ds : List Difference) (out : List ℕ) → 10 * length ds ≤ length out → entries_listed ds 0 out ≡ list_bytes ds ++ drop (10 * length ds) out
listed-whole ds out h = listed-after ds 0 [] out refl h

-- The state of a loop that lists `all` after n entries: `count` of them are listed, and `rest` are left.
pub record Listing (all : List Difference) (n : ℕ) (out₀ out : List ℕ) (count : ℕ) (rest : List Difference) : Type 0 where
  pub done : List Difference
  pub splits : all ≡ done ++ rest
  pub counted : length done ≡ count
  pub written : out ≡ entries_listed done n out₀

pub listing-first : (all : List Difference) (n : ℕ) (out : List ℕ) → Listing all n out out 0 all
listing-first all n out = record { done = []; splits = refl; counted = refl; written = refl }

module _ {all : List Difference} {n : ℕ} {out₀ out : List ℕ} {count : ℕ} {rest : List Difference} (state : Listing all n out₀ out count rest) where
  pub listing-length : count + length rest ≡ length all
  listing-length = omega (arith, ap length state.splits, length-append state.done rest, state.counted)

  -- The output keeps its length.
  pub listing-kept : length out ≡ length out₀
  listing-kept = ap length state.written ∙ listed-length state.done n out₀

  pub listing-turn : (new later : List Difference) (out' : List ℕ) (r : ℕ) → rest ≡ new ++ later → r ≡ length new
      → out' ≡ entries_listed new (n + count) out → Listing all n out₀ out' (count + r) later
  listing-turn new later out' r is size wrote =
      record {
        done = state.done ++ new;
        splits = state.splits ∙ ap (state.done ++◌) is ∙ sym (append_assoc state.done new later);
        counted = length-append state.done new ∙ omega (arith, state.counted, size);
        written = wrote
            ∙ ap (λ (k : ℕ). entries_listed new (n + k) out) (sym state.counted)
            ∙ ap (entries_listed new (n + length state.done)) state.written
            ∙ sym (listed-append state.done new n out₀);
      }

  pub listing-last : rest ≡ [] → (count ≡ length all) × (out ≡ entries_listed all n out₀)
  listing-last none =
      let whole : state.done ≡ all = sym (state.splits ∙ ap (state.done ++◌) none ∙ append-nil state.done) in
      (sym state.counted ∙ ap length whole, state.written ∙ ap (λ (ds : List Difference). entries_listed ds n out₀) whole)
