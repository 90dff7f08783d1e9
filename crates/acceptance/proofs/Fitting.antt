-- The rules of one chunk, as the check computes them from the module's bytes at a place, and as the rules state them for the chunk's own
-- bytes after the chunks before it.
use Prim.Native.Nat.{ℕ, zero, suc, ◌+◌, ◌≤◌, ◌<◌}
use mathlib.Core.Path.{◌≡◌, refl}
use mathlib.Core.Logic.Iff
use mathlib.Core.Logic.{◌↔◌}
use mathlib.Core.List.{List, []}
use mathlib.Core.Bool.{Bool, true, false, cond, not, ◌&&◌, ◌||◌}
use native.Mathlib.Omega.{arith}
use native.Mathlib.Nat.{add_assoc, add-zero}
use lib.ListN.{length, take}
use lib.Dec.{eqb}
use Rattle.vocabulary.specs.Lists.{Every, none, also}
use Rattle.vocabulary.specs.Letters.{name_letters, info_letters}
use Rattle.vocabulary.proofs.EveryOne.{every_more}
use Rattle.refusal.specs.Rules.{Rule}
use Rattle.numbers.specs.Numbers.{byte_at, number16, number32}
use Rattle.layout.specs.Chunks.{info_identifier, chunk_at, four_letters, needs_info, covered, occurs, length_fits, info_rules, chunk_rules}
use Rattle.acceptance.specs.Rules.{IsChunk, Covered, NeedsInfo, InfoRules}
use Rattle.acceptance.proofs.Locating.{PartAt, byte_at-at, number16-at, number32-at, number32-start, part-inside}
use Rattle.acceptance.proofs.Holding.{leb-says, eqb-says, and-says, unless-says, false-never, AllHold, plain}
use Rattle.acceptance.proofs.Identifiers.{chunk-named, covered-holds, covered-letters, needing, needing-holds, needing-letters}
use Rattle.acceptance.proofs.Recorded.{records_from, There, occurs-says}

-- M5 to M9, for one chunk after those before it.
pub record ChunkFits (before : List (List ℕ)) (chunk : List ℕ) : Type 0 where
  pub bytes : IsChunk chunk
  pub once : (letters : List ℕ) → Covered letters → take 4 chunk ≡ letters → There before letters → ⊥
  pub after_info : (letters : List ℕ) → NeedsInfo letters → take 4 chunk ≡ letters → There before info_letters
  pub name : take 4 chunk ≡ name_letters → length chunk ≡ 52
  pub info : take 4 chunk ≡ info_letters → InfoRules chunk

-- Rules that only some chunks have.
hold-if : (test : Bool) (rules : List Rule) → AllHold (cond test rules []) ↔ (test ≡ true → AllHold rules)
hold-if true rules = (λ h e. h, λ h. h refl)
hold-if false rules = (λ h e. false-never e, λ h. none)

-- M5: the four letters.
pub letters-say : (m : List ℕ) (at : ℕ) → (four_letters m at ≡ true) ↔ ((i : ℕ) → i < 4 → (65 ≤ byte_at m (at + i)) × (byte_at m (at + i) ≤ 90))
letters-say m at =
    (forth, λ h. simp (and-says, leb-says) (rw add-zero at (h 0 (omega arith)), (h 1 (omega arith), (h 2 (omega arith), h 3 (omega arith)))))
  where
    forth : four_letters m at ≡ true → (i : ℕ) → i < 4 → (65 ≤ byte_at m (at + i)) × (byte_at m (at + i) ≤ 90)
    forth h zero l = rw add-zero (simp (and-says, leb-says) at h).0
    forth h (suc zero) l = (simp (and-says, leb-says) at h).1.0
    forth h (suc (suc zero)) l = (simp (and-says, leb-says) at h).1.1.0
    forth h (suc (suc (suc zero))) l = (simp (and-says, leb-says) at h).1.1.1
    forth h (suc (suc (suc (suc i)))) l = absurd (omega arith)

-- A whole chunk of the module.
module _ {m : List ℕ} {at : ℕ} {chunk : List ℕ} (part : PartAt m at chunk) (size : length chunk ≡ 8 + number32 chunk 4) where
  pub identifier-is : number32 m at ≡ number32 chunk 0
  identifier-is = number32-start part (omega arith)

  pub data-length-is : number32 m (at + 4) ≡ number32 chunk 4
  data-length-is = number32-at part 4 (omega arith)

  pub chunk-letters-say : (four_letters m at ≡ true) ↔ ((i : ℕ) → i < 4 → (65 ≤ byte_at chunk i) × (byte_at chunk i ≤ 90))
  chunk-letters-say = (
    λ h i l. rw (byte_at-at part i (omega arith)) at ((letters-say m at).0 h i l),
    λ h. (letters-say m at).1 (λ i l. rw (byte_at-at part i (omega arith)) (h i l)),
  )

-- M9: the numbers of INFO.
module _ {m : List ℕ} {at : ℕ} {chunk : List ℕ} (part : PartAt m at chunk) (long : length chunk ≡ 18) where
  pub info-number : (k : ℕ) → k < 9 → number16 m (at + 8 + k) ≡ number16 chunk (8 + k)
  info-number k h = rw add_assoc (number16-at part (8 + k) (omega arith))

  pub info-say : AllHold (info_rules m (at + 8)) ↔ InfoRules chunk
  info-say = (forth, back)
    where
      at8 : number16 m (at + 8) ≡ number16 chunk 8
      at8 = number16-at part 8 (omega arith)

      at10 : number16 m (at + 8 + 2) ≡ number16 chunk 10
      at10 = info-number 2 (omega arith)

      at12 : number16 m (at + 8 + 4) ≡ number16 chunk 12
      at12 = info-number 4 (omega arith)

      at14 : number16 m (at + 8 + 6) ≡ number16 chunk 14
      at14 = info-number 6 (omega arith)

      at16 : number16 m (at + 8 + 8) ≡ number16 chunk 16
      at16 = info-number 8 (omega arith)

      forth : AllHold (info_rules m (at + 8)) → InfoRules chunk
      forth h =
          let says = simp (at8, at10, at12, at14, at16, plain) at h in
          record {
            size = long;
            instruments = says.0;
            samples = says.1.0;
            songs = says.1.1.0;
            patterns = says.1.1.1.0;
            tracks = (says.1.1.1.1.0, says.1.1.1.1.1.0, says.1.1.1.1.1.1);
          }

      back : InfoRules chunk → AllHold (info_rules m (at + 8))
      back r =
          simp (at8, at10, at12, at14, at16, plain)
          (r.instruments, (r.samples, (r.songs, (r.patterns, (r.tracks.0, (r.tracks.1, r.tracks.2))))))

-- M6, M7: what the tests on the earlier chunks state.
never_both : (a b : Bool) → (not (a && b) ≡ true) ↔ (a ≡ true → b ≡ true → ⊥)
never_both true true = (λ h p q. false-never h, λ h. absurd (h refl refl))
never_both true false = (λ h p q. false-never q, λ h. refl)
never_both false b = (λ h p q. false-never p, λ h. refl)

module _ (start : ℕ) {before : List (List ℕ)} {chunk : List ℕ} (every : Every IsChunk before) (c : IsChunk chunk) where
  once-says : (not (covered (number32 chunk 0) && occurs (number32 chunk 0) (records_from start before)) ≡ true)
      ↔ ((letters : List ℕ) → Covered letters → take 4 chunk ≡ letters → There before letters → ⊥)
  once-says = simp never_both (
    λ h letters covers named there.
        (let e = (chunk-named c covers).1 named in
        h (rw e (covered-holds covers)) (rw e ((occurs-says covers start every).1 there))),
    λ h p q.
        let (letters, covers, e) = covered-letters (number32 chunk 0) p in
        h letters covers ((chunk-named c covers).0 e) ((occurs-says covers start every).0 (rw e at q)),
  )

  after-says : (not (needs_info (number32 chunk 0)) || occurs info_identifier (records_from start before) ≡ true)
      ↔ ((letters : List ℕ) → NeedsInfo letters → take 4 chunk ≡ letters → There before info_letters)
  after-says = simp unless-says (
    λ h letters needs named. (occurs-says Covered.info start every).0 (h (rw ((chunk-named c (needing needs)).1 named) (needing-holds needs))),
    λ h p.
        let (letters, needs, e) = needing-letters (number32 chunk 0) p in
        (occurs-says Covered.info start every).1 (h letters needs ((chunk-named c (needing needs)).0 e)),
  )

-- M8, M9: the lengths of NAME and of INFO.
module _ {m : List ℕ} {at : ℕ} {chunk : List ℕ} (part : PartAt m at chunk) (c : IsChunk chunk) where
  lengths-say : (length_fits (chunk_at m at) ≡ true) ↔ ((take 4 chunk ≡ name_letters → length chunk ≡ 52) × (take 4 chunk ≡ info_letters → length chunk ≡ 18))
  lengths-say =
      simp (
        identifier-is part c.size,
        data-length-is part c.size,
        and-says,
        unless-says,
        eqb-says,
        chunk-named c Covered.name,
        chunk-named c Covered.info,
      ) (
        λ h. (λ e. omega (arith, h.0 e, c.size), λ e. omega (arith, h.1 e, c.size)),
        λ h. (λ e. omega (arith, h.0 e, c.size), λ e. omega (arith, h.1 e, c.size)),
      )

  info-if-named : AllHold (cond (eqb (number32 m at) info_identifier) (info_rules m (at + 8)) [])
      ↔ (take 4 chunk ≡ info_letters → AllHold (info_rules m (at + 8)))
  info-if-named = simp (hold-if, eqb-says, identifier-is part c.size, chunk-named c Covered.info) Iff.rfl

-- All rules of a chunk, in both directions.
module _ (start : ℕ) {before : List (List ℕ)} (every : Every IsChunk before) {m : List ℕ} {at : ℕ} {chunk : List ℕ} (part : PartAt m at chunk) where
  pub rules-fit : length chunk ≡ 8 + number32 chunk 4 → AllHold (chunk_rules m (records_from start before) at) → ChunkFits before chunk
  rules-fit size hold =
      let says = simp every_more at hold in
      let c : IsChunk chunk = record { size = size; letters = (chunk-letters-say part size).0 says.1.0 } in
      let lengths = (lengths-say part c).0 says.1.1.1.1.1.0 in
      record {
        bytes = c;
        once = (once-says start every c).0 (rw (identifier-is part size) at says.1.1.1.0);
        after_info = (after-says start every c).0 (rw (identifier-is part size) at says.1.1.1.1.0);
        name = lengths.0;
        info = λ e. (info-say part (lengths.1 e)).0 ((info-if-named part c).0 says.1.1.1.1.1.1 e);
      }

  pub fits-rules : ChunkFits before chunk → AllHold (chunk_rules m (records_from start before) at)
  fits-rules fits =
      let c = fits.bytes in
      let inside : at + length chunk ≤ length m = part-inside part in
      let head : at + 8 ≤ length m = omega (arith, c.size) in
      let whole : at + 8 + number32 m (at + 4) ≤ length m = omega (arith, c.size, data-length-is part c.size) in
      also ((leb-says _ _).1 head)
      (also ((chunk-letters-say part c.size).1 c.letters)
      (also ((leb-says _ _).1 whole)
      (also (rw (← identifier-is part c.size) at ((once-says start every c).1 fits.once))
      (also (rw (← identifier-is part c.size) at ((after-says start every c).1 fits.after_info))
      (also ((lengths-say part c).1 (fits.name, λ e. (fits.info e).size))
      ((info-if-named part c).1 (λ e. (info-say part (fits.info e).size).1 (fits.info e))))))))
