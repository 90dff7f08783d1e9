-- The chunk half of theorem 10: the places of refusals 1 to 10, and what is wrong there.
use Prim.Native.Nat.{ℕ, ◌+◌, ◌/◌, ◌%◌, ◌≤◌, ◌<◌}
use Rattle.std.specs.Prelude.{Result, Ok, Err}
use Rattle.layout.specs.declared.Layout.{Layout}
use mathlib.Core.Path.{◌≡◌, refl, sym, ap, subst, ◌∙◌}
use mathlib.Core.Logic.{◌↔◌, ◌⊎◌, inl, inr}
use mathlib.Core.List.{List, [], ◌++◌, append-nil}
use mathlib.Core.Bool.{Bool, true, false, not, ◌&&◌, ◌||◌}
use native.Mathlib.Omega.{arith}
use lib.ListN.{length, take, length-append}
use lib.Dec.{eqb, leb, lit<}
use borrow.Author.Tests.{leb-true, leb-false, eqb-true, eqb-false}
use Rattle.vocabulary.specs.Lists.{joined, Every}
use Rattle.vocabulary.specs.Letters.{info_letters}
use Rattle.refusal.specs.Numbers.{refusal}
use Rattle.refusal.specs.declared.Reason.TheVariants.{Repeated, BeforeInfo, Missing, InfoRange}
use Rattle.refusal.specs.declared.Refusal.{Refusal}
use Rattle.numbers.specs.Numbers.{byte_at, number16, number32}
use Rattle.layout.specs.Header.{header_fits, version_fits, header_rules}
use Rattle.layout.specs.Chunks.{name_identifier, info_identifier, song_identifier, inst_identifier, patt_identifier, smpl_identifier, ChunkHeader, occurs}
use Rattle.layout.specs.Chunks.{chunk_at, four_letters, needs_info, covered}
use Rattle.layout.specs.Chunks.{length_fits, tracks_fit, info_rules, chunk_rules}
use Rattle.layout.specs.Outlines.{mandatory_there, outline}
use Rattle.acceptance.specs.Rules.{IsChunk, Covered, NeedsInfo}
use Rattle.acceptance.specs.Faults.{HeaderFault, VersionFault, CutFault, IdentifierFault, LengthFault, RangeFault}
use Rattle.acceptance.specs.Places.{ChunkBegins, ChunksOf, PlaceOf, too_long, not_aModule, version, chunk_cut, identifier}
use Rattle.acceptance.specs.Places.{repeated, before_info, missing, fixed_length, info_range}
use Rattle.acceptance.proofs.Locating.{PartAt, byte_at-at, number16-at, number32-at, part-inside}
use Rattle.acceptance.proofs.Holding.{eqb-says, and-says, unless-says, plain}
use Rattle.acceptance.proofs.FirstBroken.{WhereBroken, no-rule, this-or, first-broken, broken-if, never, not-broken}
use Rattle.acceptance.proofs.FirstBroken.{both-broken, neither-broken, unless-broken}
use Rattle.acceptance.proofs.Identifiers.{identifier_of, chunk-named, needing, needing-letters, covered-letters}
use Rattle.acceptance.proofs.Recorded.{records_from, occurs-says}
use Rattle.acceptance.proofs.Fitting.{letters-say, identifier-is, data-length-is, chunk-letters-say, info-number}
use Rattle.acceptance.proofs.Chunking.{turn-bytes, Reached, front_same, whole_part}
use Rattle.acceptance.proofs.Heading.{begins-number}
use Rattle.acceptance.proofs.Outlining.{AllRead, along-outline}
use Rattle.acceptance.proofs.WholeChunks.{header_at}

-- The place and the fault at it are as F17 says, and the place is at most the module's length.
abbrev pub Placed : List ℕ → Refusal → Type 0
Placed m r = PlaceOf m r × (r.place ≤ length m)

-- 1, 2 and 3: length and header.
module _ (m : List ℕ) where
  header-fault : header_fits m ≡ false → HeaderFault m
  header-fault =
      both-broken (leb 8 (length m)) (eqb (number32 m 0) 0x44424D30)
      (λ e. HeaderFault.short (leb-false 8 (length m) e))
      (λ _ e. HeaderFault.begins (λ begins. eqb-false (number32 m 0) 0x44424D30 e (begins-number m begins)))

  version-fault : (first second : ℕ) → byte_at m 4 ≡ first → byte_at m 5 ≡ second → version_fits first second ≡ false → VersionFault m
  version-fault first second a b =
      both-broken (eqb first 2 || eqb first 3) (leb (second / 16) 9 && leb (second % 16) 9)
      (λ e.
      let (two, three) = neither-broken (eqb first 2) (eqb first 3) e in
      VersionFault.version (λ h. eqb-false first 2 two (sym a ∙ h)) (λ h. eqb-false first 3 three (sym a ∙ h)))
      (λ _. both-broken (leb (second / 16) 9) (leb (second % 16) 9)
      (λ e. VersionFault.first_digit (rw b (leb-false (second / 16) 9 e)))
      (λ _ e. VersionFault.second_digit (rw b (leb-false (second % 16) 9 e))))

  header-placed : WhereBroken (Placed m) (header_rules m)
  header-placed =
      let first : 0 ≤ length m = omega arith in
      let long : header_fits m ≡ true → 8 ≤ length m = λ fits. (simp plain at fits).0 in
      let fourth : header_fits m ≡ true → 4 ≤ length m = λ fits. omega (arith, long fits) in
      this-or (λ b. (too_long (leb-false (length m) 16777216 b), first)) λ _.
      this-or (λ b. (not_aModule (header-fault b), first)) λ fits.
      this-or (λ b. (version (long fits) (version-fault (byte_at m 4) (byte_at m 5) refl refl b), fourth fits)) λ _.
      no-rule

tracks-say : (tracks : ℕ) → (tracks_fit tracks ≡ true) ↔ ((4 ≤ tracks) × (tracks ≤ 254) × (tracks % 2 ≡ 0))
tracks-say tracks = simp plain (λ h. (h.0, h.1.0, h.1.1), λ h. (h.0, (h.1, h.2)))

-- 4, 5, 6, 7, 9, 10: at the place of the walk, after whole chunks.
module _ {m header : List ℕ} {before : List (List ℕ)} {at : ℕ} (r : Reached m header before at) (less : at < length m) where
  inside : at ≤ length m
  inside = omega arith

  rest-long : length m ≡ at + length r.rest
  rest-long = omega (arith, ap length r.bytes, length-append (header ++ joined before) r.rest, r.there)

  rest_part : PartAt m at r.rest
  rest_part = record {
    before = header ++ joined before;
    after = [];
    bytes = r.bytes ∙ ap (λ (rest : List ℕ). (header ++ joined before) ++ rest) (sym (append-nil r.rest));
    starts = r.there;
  }

  -- 4 and 5: the chunk is cut, or its identifier is not four letters.
  head-fault : leb (at + 8) (length m) ≡ false → CutFault r.rest
  head-fault e = CutFault.header (omega (arith, leb-false (at + 8) (length m) e, rest-long))

  module _ (headed : leb (at + 8) (length m) ≡ true) where
    rest-eight : 8 ≤ length r.rest
    rest-eight = omega (arith, leb-true (at + 8) (length m) headed, rest-long)

    letters-fault : four_letters m at ≡ false → IdentifierFault r.rest
    letters-fault e = record {
      size = rest-eight;
      letters = λ h. never (letters-say m at) e (λ i l. rw (byte_at-at rest_part i (omega (arith, rest-eight))) (h i l));
    }

    data-fault : leb (at + 8 + number32 m (at + 4)) (length m) ≡ false → CutFault r.rest
    data-fault e =
        let same = number32-at rest_part 4 (omega (arith, rest-eight)) in
        CutFault.contents (omega (arith, leb-false (at + 8 + number32 m (at + 4)) (length m) e, rest-long))

  -- The others are faults of a whole chunk.
  module _ {chunk : List ℕ} (part : PartAt m at chunk) (c : IsChunk chunk) where
    abbrev chunk-at : ChunkBegins m at
    chunk-at = record {
      begins = record {
        header = header;
        before = before;
        after = chunk ++ part.after;
        bytes = part.bytes ∙ ap (λ (front : List ℕ). front ++ (chunk ++ part.after)) (front_same r part);
        header_size = r.header_size;
        whole = turn-bytes r.turn;
        there = r.there;
        follows = less;
      };
      chunk = chunk;
      rest = part.after;
      bytes = refl;
      whole = c;
    }

    named : {letters : List ℕ} (covers : Covered letters) → number32 m at ≡ identifier_of covers → take 4 chunk ≡ letters
    named covers e = (chunk-named c covers).0 (sym (identifier-is part c.size) ∙ e)

    repeated-placed : not (covered (number32 m at) && occurs (number32 m at) (records_from 8 before)) ≡ false → Placed m (refusal Repeated at)
    repeated-placed e =
        let both = (and-says (covered (number32 m at)) (occurs (number32 m at) (records_from 8 before))).0 (not-broken _ e) in
        let (letters, covers, same) = covered-letters (number32 m at) both.0 in
        let (other, among) = (occurs-says covers 8 (turn-bytes r.turn)).0 (rw same at both.1) in
        let letter = named covers same in
        (repeated chunk-at (record { covered = rw letter covers; other = other; among = rw letter among }), inside)

    before-placed : not (needs_info (number32 m at)) || occurs info_identifier (records_from 8 before) ≡ false → Placed m (refusal BeforeInfo at)
    before-placed e =
        let (need, lacks) = unless-broken (needs_info (number32 m at)) (occurs info_identifier (records_from 8 before)) e in
        let (letters, needs, same) = needing-letters (number32 m at) need in
        let no = never (occurs-says Covered.info 8 (turn-bytes r.turn)) lacks in
        (before_info chunk-at (record { needs = rw (named (needing needs) same) needs; lacks = λ info a. no (info, a) }), inside)

    -- A chunk that has this identifier and whose data do not have this length.
    other_length : (n long : ℕ) → not (eqb (number32 m at) n) || eqb (number32 m (at + 4)) long ≡ false → (number32 m at ≡ n) × (length chunk ≡ 8 + long → ⊥)
    other_length n long e =
        let (is, other) = unless-broken (eqb (number32 m at) n) (eqb (number32 m (at + 4)) long) e in
        let no = eqb-false (number32 m (at + 4)) long other in
        (eqb-true (number32 m at) n is, λ h. no (omega (arith, c.size, data-length-is part c.size)))

    length-fault : length_fits (chunk_at m at) ≡ false → LengthFault chunk
    length-fault =
        both-broken (not (eqb (number32 m at) name_identifier) || eqb (number32 m (at + 4)) 44)
        (not (eqb (number32 m at) info_identifier) || eqb (number32 m (at + 4)) 10)
        (λ e. let (is, other) = other_length name_identifier 44 e in LengthFault.name (named Covered.name is) other)
        (λ _ e. let (is, other) = other_length info_identifier 10 e in LengthFault.info (named Covered.info is) other)

    module _ (letters : take 4 chunk ≡ info_letters) (long : length chunk ≡ 18) where
      range-placed : {offset : ℕ} (place : ℕ) → place ≡ at + offset → offset < 18 → RangeFault chunk offset → Placed m (refusal InfoRange place)
      range-placed {offset} place same low fault =
          let ends = part-inside part in
          let wrong = info_range chunk-at (record { named = letters; size = long; range = fault }) in
          subst (λ (k : ℕ). Placed m (refusal InfoRange k)) (sym same) (wrong, omega arith)

      -- The first number of INFO, and one at a later offset.
      first-placed : leb (number16 m (at + 8)) 255 ≡ false → Placed m (refusal InfoRange (at + 8))
      first-placed e =
          let over = leb-false (number16 chunk 8) 255 (rw (number16-at part 8 (omega arith)) at e) in
          range-placed (at + 8) refl (lit< tt) (RangeFault.instruments over)

      module _ (k : ℕ) (low : k < 9) (test : ℕ → Bool) (fault : test (number16 chunk (8 + k)) ≡ false → RangeFault chunk (8 + k)) where
        number-placed : test (number16 m (at + 8 + k)) ≡ false → Placed m (refusal InfoRange (at + 8 + k))
        number-placed e = range-placed (at + 8 + k) (omega arith) (omega arith) (fault (rw (info-number part long k low) at e))

      info-placed : WhereBroken (Placed m) (info_rules m (at + 8))
      info-placed =
          this-or first-placed λ _.
          this-or (number-placed 2 (lit< tt) (λ n. leb n 255) (λ e. RangeFault.samples (leb-false (number16 chunk 10) 255 e))) λ _.
          this-or (number-placed 4 (lit< tt) (λ n. leb n 32767) (λ e. RangeFault.songs (leb-false (number16 chunk 12) 32767 e))) λ _.
          this-or (number-placed 6 (lit< tt) (λ n. leb n 1024) (λ e. RangeFault.patterns (leb-false (number16 chunk 14) 1024 e))) λ _.
          this-or (number-placed 8 (lit< tt) tracks_fit (λ e. RangeFault.tracks (never (tracks-say (number16 chunk 16)) e))) λ _.
          no-rule

    info-if-placed : length_fits (chunk_at m at) ≡ true → eqb (number32 m at) info_identifier ≡ true → WhereBroken (Placed m) (info_rules m (at + 8))
    info-if-placed lengths test =
        let is = eqb-true (number32 m at) info_identifier test in
        let ten : number32 m (at + 4) ≡ 10 = (simp (and-says, unless-says, eqb-says) at lengths).1 is in
        info-placed (named Covered.info is) (omega (arith, c.size, data-length-is part c.size))

  chunk-placed : WhereBroken (Placed m) (chunk_rules m (records_from 8 before) at)
  chunk-placed =
      let here = header_at r less in
      this-or (λ b. (chunk_cut here (head-fault b), inside)) λ headed.
      this-or (λ b. (identifier here (letters-fault headed b), inside)) λ lettered.
      this-or (λ b. (chunk_cut here (data-fault headed b), inside)) λ whole.
      let (chunk, part, size) = whole_part m at (leb-true (at + 8 + number32 m (at + 4)) (length m) whole) in
      let c : IsChunk chunk = record { size = size; letters = (chunk-letters-say part size).0 lettered } in
      this-or (repeated-placed part c) λ _.
      this-or (before-placed part c) λ _.
      this-or (λ b. (fixed_length (chunk-at part c) (length-fault part c b), inside)) λ lengths.
      broken-if (eqb (number32 m at) info_identifier) (info-if-placed part c lengths)

-- 8: a mandatory chunk is missing.
abbrev Mandatory : List ℕ → Type 0
Mandatory letters = (letters ≡ info_letters) ⊎ NeedsInfo letters

missing-placed : (m : List ℕ) (all : List (List ℕ)) → AllRead m all → mandatory_there (records_from 8 all) ≡ false → Placed m (refusal Missing (length m))
missing-placed m all read =
    both-broken (occurs info_identifier records) _ (lacks Covered.info (inl refl)) λ _.
    both-broken (occurs song_identifier records) _ (lacks Covered.song (inr NeedsInfo.song)) λ _.
    both-broken (occurs inst_identifier records) _ (lacks Covered.inst (inr NeedsInfo.inst)) λ _.
    both-broken (occurs patt_identifier records) (occurs smpl_identifier records) (lacks Covered.patt (inr NeedsInfo.patt)) λ _.
    lacks Covered.smpl (inr NeedsInfo.smpl)
  where
    records : List ChunkHeader
    records = records_from 8 all

    whole : Every IsChunk all
    whole = turn-bytes read.turn

    these : ChunksOf m all
    these = record { header = take 8 m; bytes = read.bytes; header_size = read.front.header_size; whole = whole }

    lacks : {letters : List ℕ} (c : Covered letters) → Mandatory letters → occurs (identifier_of c) records ≡ false → Placed m (refusal Missing (length m))
    lacks {letters} c mandatory e =
        let no = never (occurs-says c 8 whole) e in
        (missing these (record { letters = letters; mandatory = mandatory; lacks = λ chunk a. no (chunk, a) }), omega arith)

-- For an outline that is refused, the place is as F17 says.
abbrev Says : List ℕ → Result Layout Refusal → Type 0
Says m (Ok l) = Unit {0}
Says m (Err r) = Placed m r

reported : (m : List ℕ) → Says m (outline m)
reported m = along-outline m (Says m) (record {
  header = first-broken (header-placed m);
  chunk = λ before at reached less. first-broken (chunk-placed reached less);
  missing = missing-placed m;
  found = λ all read mandatory. tt;
})

pub outline-place : (m : List ℕ) (r : Refusal) → outline m ≡ Err r → Placed m r
outline-place m r e = subst (Says m) e (reported m)
