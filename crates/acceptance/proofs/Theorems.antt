-- The theorems about which modules are accepted, and about the places of refusals.
--
--  8. For every list of bytes: the check of a module accepts it exactly if the rules hold, as `Rules` states them without a reader. The
--     module is a header and chunks, one after the other, for which M2 to M9 hold. SONG, INST, PATT and SMPL consist of as many blocks as
--     INFO says, one after the other, and nothing else; VENV and PENV, if present, of as many as their own count says. For each block B2 to
--     B6 and V1 to V7 hold; the stream of a pattern is rows of sound entries, as in theorem 6.
--  9. The accepted modules are exactly the encodings of well-formed descriptions: crates/format/proofs/Theorems.antt.
-- 10. For every list of bytes: if the check refuses a module, the place of the refusal is at most the module's length, and the fault there
--     is what the number says, as `PlaceOf` states it without a reader (F17). 1: at 0, too many bytes. 2: at 0, fewer than 8 bytes, or they
--     do not begin with DBM0. 3: at 4, version or revision. 4 to 7 and 9: a chunk's header begins there, after whole chunks. The header or
--     the data of this chunk are cut (4); its identifier is not four letters (5); it is covered, and a chunk with its letters is before it
--     (6); it is SONG, INST, PATT or SMPL, and no INFO is before it (7); it is NAME or INFO and has another length (9). 8: at the end, and
--     one of the mandatory chunks is missing. 10: at the number of INFO that is out of range. For 11 to 15 the module has no fault of 1 to
--     10. 11: a chunk with blocks begins there, and does not consist of the right number of blocks of their sizes. 12: at the entry, the
--     sample or the instrument of a block that does not exist. 13: at the field of an instrument or an envelope that is out of range. 14:
--     the block of an instrument begins there, and its loop does not lie within its sample. 15: the block of a pattern begins there, and
--     its packed bytes are not a stream. If the check accepts a module, it has none of these faults at any place.
--
-- The check is `module_verdict`, which the contract cites.
use Prim.Native.Nat.{ℕ, ◌≤◌}
use Rattle.std.specs.Prelude.{Ok, Err}
use mathlib.Core.Path.{◌≡◌}
use mathlib.Core.Logic.{◌↔◌}
use mathlib.Core.List.{List}
use lib.ListN.{length}
use Rattle.refusal.specs.declared.Refusal.{Refusal}
use Rattle.numbers.specs.Numbers.{Bytes}
use Rattle.module.specs.Verdicts.{module_verdict}
use Rattle.acceptance.specs.Rules.{Rules}
use Rattle.acceptance.specs.Places.{PlaceOf}
use Rattle.acceptance.proofs.Acceptance as Acceptance
use Rattle.acceptance.proofs.RefusalPlaces as RefusalPlaces
use Rattle.acceptance.proofs.Faultless as Faultless

-- Theorem 8.
pub accepted-exactly : (m : List ℕ) → Bytes m → (module_verdict m ≡ Ok tt) ↔ Rules m
accepted-exactly = Acceptance.accepted-exactly

-- Theorem 10.
pub refusal-place : (m : List ℕ) → Bytes m → (r : Refusal) → module_verdict m ≡ Err r → PlaceOf m r × (r.place ≤ length m)
refusal-place = RefusalPlaces.refusal-place

pub accepted-faultless : (m : List ℕ) → Bytes m → module_verdict m ≡ Ok tt → (r : Refusal) → PlaceOf m r → ⊥
accepted-faultless = Faultless.accepted-faultless
