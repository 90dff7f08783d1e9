-- The walk over the chunks. If it reads them all, the module is its header and these chunks, and each fits after those before it. If it
-- stops, such chunks are before the place. A module of such chunks is read to its end.
use Prim.Native.Nat.{ℕ, zero, suc, ◌+◌, ◌≤◌, ◌<◌}
use Rattle.std.specs.Prelude.{⊤, Result, Ok, Err}
use mathlib.Core.Path.{◌≡◌, refl, sym, ap, subst, ◌∙◌}
use mathlib.Core.List.{List, [], ◌∷◌, ◌++◌, append_assoc, append-nil}
use mathlib.Core.Bool.{Bool, true, false, cond}
use native.Mathlib.Omega.{arith}
use lib.ListN.{length, take, drop, length-append, take-append-drop}
use lib.Seq.{length-take-le, take_at}
use lib.Dec.{leb}
use borrow.Author.Tests.{leb-true, leb-false, le-leb, lt-leb}
use Rattle.vocabulary.specs.Lists.{joined, Every, none, also}
use Rattle.vocabulary.proofs.EveryOne.{every_first, every_rest}
use Rattle.vocabulary.proofs.JoinedLists.{joined-last, joined-next}
use Rattle.refusal.specs.Rules.{first_broken}
use Rattle.refusal.specs.declared.Refusal.{Refusal}
use Rattle.numbers.specs.Numbers.{number32, part_of}
use Rattle.layout.specs.Chunks.{ChunkHeader, chunk_at, chunk_end, chunk_rules, Walk, complete, stopped, walk_on, chunks_from, chunks}
use Rattle.acceptance.specs.Rules.{IsChunk}
use Rattle.acceptance.proofs.Locating.{PartAt, number32-at, part_length, part-there, part-inside}
use Rattle.acceptance.proofs.Holding.{AllHold, accepted-hold}
use Rattle.acceptance.proofs.Recorded.{records_from, records-append}
use Rattle.acceptance.proofs.Fitting.{ChunkFits, rules-fit, fits-rules, identifier-is, data-length-is}

-- A list of chunks, each of which fits after those before it.
pub data InTurn : List (List ℕ) → List (List ℕ) → Type 0 where
  done : {before : List (List ℕ)} → InTurn before []
  next : {before : List (List ℕ)} {chunk : List ℕ} {rest : List (List ℕ)} → ChunkFits before chunk
      → InTurn (before ++ (chunk ∷ [])) rest
      → InTurn before (chunk ∷ rest)

pub turn-bytes : {before rest : List (List ℕ)} → InTurn before rest → Every IsChunk rest
turn-bytes done = none
turn-bytes (next fits turn) = also fits.bytes (turn-bytes turn)

-- One more chunk at the end.
turn_last : {before rest : List (List ℕ)} (chunk : List ℕ) → InTurn before rest → ChunkFits (before ++ rest) chunk → InTurn before (rest ++ (chunk ∷ []))
turn_last {before} chunk done fits = next (rw append-nil at fits) done
turn_last {before} chunk (next {chunk = first} {rest = rest} f turn) fits = next f (turn_last chunk turn (rw append_assoc fits))

-- The walk is at this place: the module's header and chunks that fit in order are before it.
pub record Reached (m header : List ℕ) (before : List (List ℕ)) (at : ℕ) : Type 0 where
  pub rest : List ℕ
  pub bytes : m ≡ (header ++ joined before) ++ rest
  pub header_size : length header ≡ 8
  pub there : length (header ++ joined before) ≡ at
  pub turn : InTurn [] before

pub reached-first : (m : List ℕ) → 8 ≤ length m → Reached m (take 8 m) [] 8
reached-first m h = record {
  rest = drop 8 m;
  bytes = rw (append-nil (take 8 m)) (sym (take-append-drop 8 m));
  header_size = length-take-le 8 m h;
  there = rw (append-nil (take 8 m)) (length-take-le 8 m h);
  turn = done;
}

module _ {m header : List ℕ} {before : List (List ℕ)} {at : ℕ} (r : Reached m header before at) where
  pub reached-inside : at ≤ length m
  reached-inside = omega (arith, ap length r.bytes, length-append (header ++ joined before) r.rest, r.there)

  pub reached-end : length m ≤ at → m ≡ header ++ joined before
  reached-end h = go r.rest refl
    where
      go : (rest : List ℕ) → r.rest ≡ rest → m ≡ header ++ joined before
      go [] e = r.bytes ∙ rw e (append-nil (header ++ joined before))
      go (b ∷ rest) e = absurd (omega (arith, ap length r.bytes, length-append (header ++ joined before) r.rest, r.there, ap length e))

  pub front_same : {chunk : List ℕ} (part : PartAt m at chunk) → part.before ≡ header ++ joined before
  front_same {chunk} part =
      sym (take_at part.before (chunk ++ part.after) at part.starts)
      ∙ ap (take at) (sym part.bytes ∙ r.bytes)
      ∙ take_at (header ++ joined before) r.rest at r.there

  module _ {chunk : List ℕ} (part : PartAt m at chunk) (fits : ChunkFits before chunk) where
    pub reached-next : Reached m header (before ++ (chunk ∷ [])) (at + length chunk)
    reached-next = record {
      rest = part.after;
      bytes = part.bytes ∙ rw (front_same part, joined-last before chunk) (simp append_assoc);
      header_size = r.header_size;
      there = rw (joined-last before chunk, ← append_assoc header (joined before) chunk)
          (length-append (header ++ joined before) chunk ∙ ap (λ (n : ℕ). n + length chunk) r.there);
      turn = turn_last chunk r.turn fits;
    }

    records-next : records_from 8 before ++ (chunk_at m at ∷ []) ≡ records_from 8 (before ++ (chunk ∷ []))
    records-next =
        let size = fits.bytes.size in
        let here : 8 + length (joined before) ≡ at = omega (arith, length-append header (joined before), r.there, r.header_size) in
        rw (records-append 8 before (chunk ∷ []), here, identifier-is part size, data-length-is part size)

    end-next : chunk_end (chunk_at m at) ≡ at + length chunk
    end-next = omega (arith, fits.bytes.size, data-length-is part fits.bytes.size)

    walk-next : (steps : ℕ)
        → chunks_from steps m (records_from 8 before ++ (chunk_at m at ∷ [])) (chunk_end (chunk_at m at))
        ≡ chunks_from steps m (records_from 8 (before ++ (chunk ∷ []))) (at + length chunk)
    walk-next steps = rw (records-next, end-next)

-- A chunk whose data do not run past the end: its bytes are at the place, and it is as long as it says.
pub whole_part : (m : List ℕ) (at : ℕ) → at + 8 + number32 m (at + 4) ≤ length m → (chunk : List ℕ) × PartAt m at chunk × (length chunk ≡ 8 + number32 chunk 4)
whole_part m at h =
    let n : ℕ = 8 + number32 m (at + 4) in
    let inside : at + n ≤ length m = omega arith in
    let part = part-there m at n inside in
    let long = part_length m at n inside in
    (part_of m at n, part, long ∙ ap (λ (k : ℕ). 8 + k) (number32-at part 4 (omega arith)))

-- An accepted chunk: its bytes are at the place, and it fits after those before it.
accepted-fits : {m header : List ℕ} {before : List (List ℕ)} {at : ℕ} → Reached m header before at
    → AllHold (chunk_rules m (records_from 8 before) at) → (chunk : List ℕ) × PartAt m at chunk × ChunkFits before chunk
accepted-fits {m} {header} {before} {at} r hold =
    let (chunk, part, size) = whole_part m at (leb-true (at + 8 + number32 m (at + 4)) (length m) (every_first (every_rest (every_rest hold)))) in
    (chunk, part, rules-fit 8 (turn-bytes r.turn) part size hold)

-- Induction along the walk: what holds if all chunks are read, and if one is refused, holds for every walk.
module _ {m header : List ℕ} (P : Walk → Type 0)
    (ends : (all : List (List ℕ)) → m ≡ header ++ joined all → InTurn [] all → P (complete (records_from 8 all)))
    (stops : (before : List (List ℕ)) (at : ℕ) → Reached m header before at → at < length m → (r : Refusal)
    → first_broken (chunk_rules m (records_from 8 before) at) ≡ Err r
    → P (stopped r)) where
  abbrev Onward : ℕ → Type 0
  Onward steps = (before : List (List ℕ)) (at : ℕ) → Reached m header before at → length m < at + steps → P (chunks_from steps m (records_from 8 before) at)

  along-steps : (steps : ℕ) → Onward steps
  unfolding chunks_from
  along-steps zero before at r h = absurd (omega (arith, reached-inside r))
  along-steps (suc steps) before at r h = go (leb (length m) at) refl (along-steps steps)
    where
      following : Walk
      following = chunks_from steps m (records_from 8 before ++ (chunk_at m at ∷ [])) (chunk_end (chunk_at m at))

      turn : (v : Result ⊤ Refusal) → first_broken (chunk_rules m (records_from 8 before) at) ≡ v → at < length m → Onward steps → P (walk_on v following)
      turn (Err refused) e less ih = stops before at r less refused e
      turn (Ok _) e less ih =
          let (chunk, part, fits) = accepted-fits r ((accepted-hold (chunk_rules m (records_from 8 before) at)).0 e) in
          subst P (sym (walk-next r part fits steps))
          (ih (before ++ (chunk ∷ [])) (at + length chunk) (reached-next r part fits) (omega (arith, fits.bytes.size)))

      go : (b : Bool) → leb (length m) at ≡ b → Onward steps
          → P (cond b (complete (records_from 8 before)) (walk_on (first_broken (chunk_rules m (records_from 8 before) at)) following))
      go true e ih = ends before (reached-end r (leb-true (length m) at e)) r.turn
      go false e ih = turn (first_broken (chunk_rules m (records_from 8 before) at)) refl (leb-false (length m) at e) ih

  pub along : Reached m header [] 8 → P (chunks m)
  unfolding chunks
  along r = along-steps (suc (length m)) [] 8 r (omega arith)

-- Chunks that fit in order are read to the end.
walk_ends : (steps : ℕ) (m : List ℕ) (before : List ChunkHeader) (at : ℕ) → length m ≤ at → chunks_from steps m before at ≡ complete before
unfolding chunks_from
walk_ends zero m before at h = refl
walk_ends (suc steps) m before at h = rw (le-leb (length m) at h)

walk-goes-on : (steps : ℕ) (m : List ℕ) (before : List ChunkHeader) (at : ℕ) → at < length m
    → first_broken (chunk_rules m before at) ≡ Ok tt
    → chunks_from (suc steps) m before at ≡ chunks_from steps m (before ++ (chunk_at m at ∷ [])) (chunk_end (chunk_at m at))
unfolding chunks_from
walk-goes-on steps m before at h e = rw (lt-leb (length m) at h, e)

read-on : (steps : ℕ) {m header : List ℕ} {before rest : List (List ℕ)} {at : ℕ} → Reached m header before at
    → m ≡ (header ++ joined before) ++ joined rest → InTurn before rest → length m < at + steps
    → chunks_from steps m (records_from 8 before) at ≡ complete (records_from 8 (before ++ rest))
read-on zero r bytes turn h = absurd (omega (arith, reached-inside r))
read-on (suc steps) {m} {header} {before} {at = at} r bytes done h =
    let over : length m ≤ at = omega (arith, ap length bytes, length-append (header ++ joined before) [], r.there) in
    rw (append-nil before) (walk_ends (suc steps) m (records_from 8 before) at over)
read-on (suc steps) {m} {header} {before} {at = at} r bytes (next {chunk = chunk} {rest = rest} fits turn) h =
    let part : PartAt m at chunk = record { before = header ++ joined before; after = joined rest; bytes = bytes; starts = r.there } in
    let inside : at + length chunk ≤ length m = part-inside part in
    let ih = read-on steps (reached-next r part fits) (bytes ∙ joined-next header before chunk rest) turn (omega (arith, fits.bytes.size)) in
    walk-goes-on steps m (records_from 8 before) at (omega (arith, fits.bytes.size))
    ((accepted-hold (chunk_rules m (records_from 8 before) at)).1 (fits-rules 8 (turn-bytes r.turn) part fits))
    ∙ walk-next r part fits steps
    ∙ ih
    ∙ rw append_assoc

pub read_whole : (m header : List ℕ) (all : List (List ℕ)) → length header ≡ 8 → m ≡ header ++ joined all → InTurn [] all
    → chunks m ≡ complete (records_from 8 all)
unfolding chunks
read_whole m header all size bytes turn =
    let bytes' : m ≡ (header ++ []) ++ joined all = rw (append-nil header) bytes in
    let front : Reached m header [] 8 = record { rest = joined all; bytes = bytes'; header_size = size; there = rw (append-nil header) size; turn = done } in
    read-on (suc (length m)) front bytes' turn (omega arith)
