-- Chunks that are not covered: their rules hold, whatever the spans of the covered ones, and no span changes.
use Prim.Native.Nat.{ℕ, zero, suc, ◌+◌, ◌≤◌}
use Rattle.std.specs.Prelude.{Ok}
use mathlib.Core.Path.{◌≡◌, refl, sym}
use mathlib.Core.List.{List}
use mathlib.Core.Bool.{Bool, true, false, not, ◌&&◌, ◌||◌, true≢false}
use lib.ListN.{length}
use lib.Dec.{eqb, leb}
use borrow.Author.Tests.{leb-true}
use Rattle.refusal.specs.Rules.{first_broken}
use Rattle.numbers.specs.Numbers.{number32}
use Rattle.layout.specs.Chunks.{name_identifier, info_identifier, song_identifier, inst_identifier, patt_identifier, smpl_identifier, venv_identifier}
use Rattle.layout.specs.Chunks.{penv_identifier, needs_info, covered, four_letters}
use Rattle.layout.specs.declared.ChunkSpan.{ChunkSpan}
use Rattle.layout.specs.declared.ChunkSpans.{ChunkSpans}
use Rattle.layout.specs.Steps.{put_in, is_other, OthersTo, placed_rules}

and_left : (a b : Bool) → (a && b) ≡ true → a ≡ true
and_left true b e = refl
and_left false b e = e

and_right : (a b : Bool) → (a && b) ≡ true → b ≡ true
and_right true b e = e
and_right false b e = absurd (true≢false (sym e))

or_left : (a b : Bool) → (a || b) ≡ false → a ≡ false
or_left true b e = e
or_left false b e = refl

or_right : (a b : Bool) → (a || b) ≡ false → b ≡ false
or_right true b e = absurd (true≢false e)
or_right false b e = e

not-holds : (a : Bool) → not a ≡ true → a ≡ false
not-holds true e = sym e
not-holds false e = refl

module _ (m : List ℕ) (at : ℕ) (is : is_other m at ≡ true) where
  header : leb (at + 8) (length m) ≡ true
  header = and_left (leb (at + 8) (length m)) _ is

  after-header : (leb (at + 8 + number32 m (at + 4)) (length m) && (four_letters m at && not (covered (number32 m at)))) ≡ true
  after-header = and_right (leb (at + 8) (length m)) _ is

  room : leb (at + 8 + number32 m (at + 4)) (length m) ≡ true
  room = and_left (leb (at + 8 + number32 m (at + 4)) (length m)) _ after-header

  after-room : (four_letters m at && not (covered (number32 m at))) ≡ true
  after-room = and_right (leb (at + 8 + number32 m (at + 4)) (length m)) _ after-header

  letters : four_letters m at ≡ true
  letters = and_left (four_letters m at) _ after-room

  uncovered : covered (number32 m at) ≡ false
  uncovered = not-holds _ (and_right (four_letters m at) _ after-room)

  pub other-end : at + 8 + number32 m (at + 4) ≤ length m
  other-end = leb-true _ _ room

  -- The chunk has none of the eight identifiers.
  n1 : eqb (number32 m at) name_identifier ≡ false
  n1 = or_left (eqb (number32 m at) name_identifier) _ uncovered

  past-name : (eqb (number32 m at) info_identifier
      || (needs_info (number32 m at) || (eqb (number32 m at) venv_identifier || eqb (number32 m at) penv_identifier)))
      ≡ false
  past-name = or_right (eqb (number32 m at) name_identifier) _ uncovered

  n2 : eqb (number32 m at) info_identifier ≡ false
  n2 = or_left (eqb (number32 m at) info_identifier) _ past-name

  past-info : (needs_info (number32 m at) || (eqb (number32 m at) venv_identifier || eqb (number32 m at) penv_identifier)) ≡ false
  past-info = or_right (eqb (number32 m at) info_identifier) _ past-name

  needs : needs_info (number32 m at) ≡ false
  needs = or_left (needs_info (number32 m at)) _ past-info

  envelopes : (eqb (number32 m at) venv_identifier || eqb (number32 m at) penv_identifier) ≡ false
  envelopes = or_right (needs_info (number32 m at)) _ past-info

  n7 : eqb (number32 m at) venv_identifier ≡ false
  n7 = or_left (eqb (number32 m at) venv_identifier) _ envelopes

  n8 : eqb (number32 m at) penv_identifier ≡ false
  n8 = or_right (eqb (number32 m at) venv_identifier) _ envelopes

  n3 : eqb (number32 m at) song_identifier ≡ false
  n3 = or_left (eqb (number32 m at) song_identifier) _ needs

  past-song : (eqb (number32 m at) inst_identifier || (eqb (number32 m at) patt_identifier || eqb (number32 m at) smpl_identifier)) ≡ false
  past-song = or_right (eqb (number32 m at) song_identifier) _ needs

  n4 : eqb (number32 m at) inst_identifier ≡ false
  n4 = or_left (eqb (number32 m at) inst_identifier) _ past-song

  past-inst : (eqb (number32 m at) patt_identifier || eqb (number32 m at) smpl_identifier) ≡ false
  past-inst = or_right (eqb (number32 m at) inst_identifier) _ past-song

  n5 : eqb (number32 m at) patt_identifier ≡ false
  n5 = or_left (eqb (number32 m at) patt_identifier) _ past-inst

  n6 : eqb (number32 m at) smpl_identifier ≡ false
  n6 = or_right (eqb (number32 m at) patt_identifier) _ past-inst

  pub other-holds : (p : ChunkSpans) → first_broken (placed_rules m at p) ≡ Ok tt
  other-holds p = simp (header, letters, room, n1, n2, n3, n4, n5, n6, n7, n8)

  pub other-stays : (p : ChunkSpans) (span : ChunkSpan) → p ≡ put_in p (number32 m at) span
  other-stays p span = simp (n1, n2, n3, n4, n5, n6, n7, n8)

-- One more such chunk.
pub others-more : (m : List ℕ) (n at end : ℕ) → OthersTo m n at end → is_other m end ≡ true → OthersTo m (suc n) at (end + 8 + number32 m (end + 4))
others-more m zero at end e is = rw (e) (is, refl)
others-more m (suc n) at end (first, more) is = (first, others-more m n (at + 8 + number32 m (at + 4)) end more is)
