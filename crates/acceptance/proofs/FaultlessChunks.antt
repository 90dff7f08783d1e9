-- If M2 to M9 hold, the module has none of the faults of 2 to 10 (theorem 10; for 1 see Faultless.antt). Each of them is the opposite of a
-- rule, and a module can be cut into chunks in only one way.
use Prim.Native.Nat.{ℕ, ◌+◌, ◌/◌, ◌%◌, ◌≤◌, ◌<◌}
use mathlib.Core.Path.{◌≡◌, refl, sym, ap, subst, ◌∙◌}
use mathlib.Core.Logic.{◌⊎◌, inl, inr}
use mathlib.Core.List.{List, [], ◌∷◌, ◌++◌, append_assoc}
use native.Mathlib.Omega.{arith}
use lib.ListN.{length, take, drop, length-append, take-append-drop}
use lib.Seq.{length-take-le, take_at}
use Rattle.vocabulary.specs.Lists.{joined}
use Rattle.vocabulary.specs.Letters.{info_letters}
use Rattle.vocabulary.proofs.EveryOne.{every_append, every_first}
use Rattle.numbers.specs.Numbers.{byte_at, number32}
use Rattle.acceptance.specs.Rules.{IsChunk, Among, NeedsInfo, InfoRules, ChunkRules}
use Rattle.acceptance.specs.Faults.{HeaderFault, VersionFault, CutFault, IdentifierFault, RepeatedFault, OrderFault}
use Rattle.acceptance.specs.Faults.{MissingFault, LengthFault, RangeFault, InfoFault}
use Rattle.acceptance.specs.Places.{HeaderAt, ChunkBegins, ChunksOf}
use Rattle.acceptance.proofs.Locating.{byte_at-front, number32-front}
use Rattle.acceptance.proofs.Recorded.{There}
use Rattle.acceptance.proofs.Heading.{header-byte}
use Rattle.acceptance.proofs.OneSplit.{split-same, front-split, all_same, chunks-own}

digit-never : (d : ℕ) → 9 < d → d ≤ 9 → ⊥
digit-never d over fits = absurd (omega arith)

no-range-fault : {info : List ℕ} {offset : ℕ} → InfoRules info → RangeFault info offset → ⊥
no-range-fault r (RangeFault.instruments h) = absurd (omega (arith, r.instruments))
no-range-fault r (RangeFault.samples h) = absurd (omega (arith, r.samples))
no-range-fault r (RangeFault.songs h) = absurd (omega (arith, r.songs))
no-range-fault r (RangeFault.patterns h) = absurd (omega (arith, r.patterns))
no-range-fault r (RangeFault.tracks h) = h r.tracks

-- 2 and 3: header and version.
module _ {m header : List ℕ} {chunks : List (List ℕ)} (c : ChunkRules m header chunks) where
  begins-same : take 4 m ≡ take 4 header
  begins-same =
      let four : length (take 4 header) ≡ 4 = length-take-le 4 header (omega (arith, c.header_size)) in
      let two = ap (λ (bytes : List ℕ). bytes ++ joined chunks) (sym (take-append-drop 4 header)) in
      let three = append_assoc (take 4 header) (drop 4 header) (joined chunks) in
      ap (take 4) (c.bytes ∙ two ∙ three) ∙ take_at (take 4 header) (drop 4 header ++ joined chunks) 4 four

  pub no-header-fault : HeaderFault m → ⊥
  no-header-fault (HeaderFault.short h) = absurd (omega (arith, ap length c.bytes, length-append header (joined chunks), c.header_size))
  no-header-fault (HeaderFault.begins h) = h (begins-same ∙ c.begins)

  byte-same : (i : ℕ) → i < 8 → byte_at m i ≡ byte_at header i
  byte-same = header-byte m header (joined chunks) c.bytes c.header_size

  pub no-version-fault : VersionFault m → ⊥
  no-version-fault (VersionFault.version two three) =
      let same = byte-same 4 (omega arith) in
      elim c.version [ inl e ↦ two (same ∙ e) | inr e ↦ three (same ∙ e) ]
  no-version-fault (VersionFault.first_digit h) = digit-never (byte_at header 5 / 16) (rw (byte-same 5 (omega arith)) at h) c.revision.0
  no-version-fault (VersionFault.second_digit h) = digit-never (byte_at header 5 % 16) (rw (byte-same 5 (omega arith)) at h) c.revision.1

  -- After a header and whole chunks are the remaining chunks.
  module _ (front : List ℕ) (size : length front ≡ 8) where
    after_front : (rest : List ℕ) → m ≡ front ++ rest → joined chunks ≡ rest
    after_front rest e = (split-same header front (joined chunks) rest (omega (arith, c.header_size)) (sym c.bytes ∙ e)).1

  -- A chunk's header begins where one of the chunks begins.
  module _ {place : ℕ} (at : HeaderAt m place) where
    record Next : Type 0 where
      chunk : List ℕ
      more : List (List ℕ)
      splits : chunks ≡ at.before ++ (chunk ∷ more)
      bytes : chunk ++ joined more ≡ at.after
      whole : IsChunk chunk

    next : Next
    next =
        let bytes = at.bytes ∙ append_assoc at.header (joined at.before) at.after in
        let joins = after_front at.header at.header_size (joined at.before ++ at.after) bytes in
        let (rest, splits, ends) = front-split chunks-own at.after c.whole at.whole joins in
        go rest splits ends
      where
        go : (rest : List (List ℕ)) → chunks ≡ at.before ++ rest → joined rest ≡ at.after → Next
        go [] splits ends =
            let long = ap length at.bytes ∙ length-append (at.header ++ joined at.before) at.after in
            absurd (omega (arith, at.follows, at.there, ap length ends))
        go (chunk ∷ more) splits ends = record {
          chunk = chunk;
          more = more;
          splits = splits;
          bytes = ends;
          whole = every_first ((every_append at.before (chunk ∷ more)).0 (rw splits at c.whole)).1;
        }

    pub no-cut-fault : CutFault at.after → ⊥
    no-cut-fault fault =
        let n = next in
        let same = number32-front n.chunk (joined n.more) 4 (omega (arith, n.whole.size)) in
        let long = length-append n.chunk (joined n.more) in
        go (n.chunk ++ joined n.more) n.bytes (omega (arith, n.whole.size))
      where
        go : (after : List ℕ) → after ≡ at.after → 8 + number32 after 4 ≤ length after → ⊥
        go after e fits = elim (subst CutFault (sym e) fault) [ CutFault.header h ↦ absurd (omega arith) | CutFault.contents h ↦ absurd (omega arith) ]

    pub no-identifier-fault : IdentifierFault at.after → ⊥
    no-identifier-fault fault =
        let n = next in
        let long : 8 ≤ length n.chunk = omega (arith, n.whole.size) in
        (subst IdentifierFault (sym n.bytes) fault).letters
        (λ i h. rw (byte_at-front n.chunk (joined n.more) i (omega arith)) (n.whole.letters i h))

  -- A whole chunk begins where one of the chunks begins, and is that chunk.
  module _ {place : ℕ} (at : ChunkBegins m place) where
    splits : (more : List (List ℕ)) × (chunks ≡ at.begins.before ++ (at.chunk ∷ more))
    splits =
        let n = next at.begins in
        let bytes = n.bytes ∙ at.bytes in
        let long = chunks-own.same n.chunk at.chunk (joined n.more) at.rest n.whole at.whole bytes in
        let same = (split-same n.chunk at.chunk (joined n.more) at.rest long bytes).0 in
        (n.more, n.splits ∙ ap (λ (chunk : List ℕ). at.begins.before ++ (chunk ∷ n.more)) same)

    among : {letters : List ℕ} → take 4 at.chunk ≡ letters → Among chunks letters at.chunk
    among named = record { before = at.begins.before; after = splits.0; splits = splits.1; named = named }

    pub no-repeated-fault : RepeatedFault at.begins.before at.chunk → ⊥
    no-repeated-fault fault =
        let a = fault.among in
        let before = ap (λ (front : List (List ℕ)). front ++ (at.chunk ∷ splits.0)) a.splits in
        let all = splits.1 ∙ before ∙ append_assoc a.before (fault.other ∷ a.after) (at.chunk ∷ splits.0) in
        c.once (take 4 at.chunk) fault.covered a.before a.after splits.0 fault.other at.chunk all a.named refl

    pub no-order-fault : OrderFault at.begins.before at.chunk → ⊥
    no-order-fault fault =
        let (info, a) = c.after_info (take 4 at.chunk) fault.needs at.begins.before splits.0 at.chunk splits.1 refl in
        fault.lacks info a

    pub no-length-fault : LengthFault at.chunk → ⊥
    no-length-fault (LengthFault.name named other) = other (c.name at.chunk (among named))
    no-length-fault (LengthFault.info named other) = other (c.info at.chunk (among named)).size

    pub no-info-fault : (offset : ℕ) → InfoFault at.chunk offset → ⊥
    no-info-fault offset fault = no-range-fault (c.info at.chunk (among fault.named)) fault.range

  -- 8: the mandatory chunks are present.
  module _ (info : There chunks info_letters) (needed : (letters : List ℕ) → NeedsInfo letters → There chunks letters) where
    mandatory-there : (letters : List ℕ) → (letters ≡ info_letters) ⊎ NeedsInfo letters → There chunks letters
    mandatory-there letters (inl e) = rw e info
    mandatory-there letters (inr needs) = needed letters needs

    pub no-missing-fault : (others : List (List ℕ)) → ChunksOf m others → MissingFault others → ⊥
    no-missing-fault others of fault =
        let same = all_same chunks-own c.whole of.whole (after_front of.header of.header_size (joined others) of.bytes) in
        let there : There others fault.letters = rw same at (mandatory-there fault.letters fault.mandatory) in
        fault.lacks there.0 there.1
