-- The chunk half of theorem 8. The outline of a module is found exactly if the module is a header and chunks for which M2 to M9 hold and
-- which include the mandatory ones. The layout found is that of these chunks.
use Prim.Native.Nat.{ℕ, ◌+◌}
use Rattle.std.specs.Prelude.{Result, Ok, Err}
use Rattle.refusal.specs.declared.Refusal.{Refusal}
use mathlib.Core.Path.{◌≡◌, sym, ap, subst, ◌∙◌}
use mathlib.Core.Logic.{◌↔◌}
use mathlib.Core.List.{List, ◌∷◌, ◌++◌, append_assoc}
use mathlib.Core.Bool.{true}
use native.Mathlib.Omega.{arith}
use lib.ListN.{length, take, length-append}
use Rattle.vocabulary.specs.Lists.{joined}
use Rattle.vocabulary.specs.Letters.{info_letters, song_letters, inst_letters, patt_letters, smpl_letters}
use Rattle.vocabulary.proofs.EveryOne.{every_append}
use Rattle.vocabulary.proofs.JoinedLists.{joined-append}
use Rattle.numbers.specs.Numbers.{Bytes}
use Rattle.layout.specs.Header.{header_rules}
use Rattle.layout.specs.Chunks.{occurs}
use Rattle.layout.specs.Outlines.{header_span, span_of, spans_of, layout_with, mandatory_there, outline}
use Rattle.layout.specs.declared.ChunkSpan.{ChunkSpan}
use Rattle.layout.specs.declared.Layout.{Layout}
use Rattle.acceptance.specs.Rules.{Among, Covered, ChunkRules}
use Rattle.acceptance.proofs.Spans.{SpanHolds, Found, LayoutOf}
use Rattle.acceptance.proofs.Locating.{PartAt, number16-at}
use Rattle.acceptance.proofs.Holding.{and-says, accepted-hold}
use Rattle.acceptance.proofs.Identifiers.{identifier_of, chunk-named}
use Rattle.acceptance.proofs.Recorded.{recorded, records_from, There, every-among, occurs-says, span-of-first, present-occurs}
use Rattle.acceptance.proofs.Chunking.{read_whole}
use Rattle.acceptance.proofs.Heading.{HeaderFits, header-byte, rules-header, header-rules}
use Rattle.acceptance.proofs.Outlining.{AllRead, along-outline}
use Rattle.acceptance.proofs.Turns.{ChunksFit, turn-fits, fits-turn}

-- M7: INFO, SONG, INST, PATT and SMPL are among the chunks.
pub record Mandatory (chunks : List (List ℕ)) : Type 0 where
  pub info : There chunks info_letters
  pub song : There chunks song_letters
  pub inst : There chunks inst_letters
  pub patt : There chunks patt_letters
  pub smpl : There chunks smpl_letters

-- A found outline of a module: its header, its chunks, their rules, and that the layout is that of these chunks.
pub record Outlined (m : List ℕ) (l : Layout) : Type 0 where
  pub header : List ℕ
  pub chunks : List (List ℕ)
  pub rules : ChunkRules m header chunks
  pub mandatory : Mandatory chunks
  pub layout : LayoutOf m header chunks l

-- The bytes of a chunk are at the place of its span.
pub span-part : {m chunk : List ℕ} {span : ChunkSpan} → SpanHolds m span chunk → PartAt m span.at chunk
span-part s = record { before = s.before; after = s.after; bytes = s.bytes; starts = s.starts }

module _ {m header : List ℕ} {all : List (List ℕ)} (rules : ChunkRules m header all) where
  -- A chunk among the chunks, and the first one with its letters.
  module _ {letters chunk : List ℕ} (a : Among all letters chunk) where
    pub bytes-split : m ≡ (header ++ joined a.before) ++ (chunk ++ joined a.after)
    bytes-split =
        rules.bytes
        ∙ rw (a.splits, joined-append a.before (chunk ∷ a.after)) (sym (append_assoc header (joined a.before) (chunk ++ joined a.after)))

    pub not-before : Covered letters → There a.before letters → ⊥
    not-before covers (other, b) =
        rules.once letters covers b.before b.after a.after other chunk
        (a.splits ∙ rw b.splits (append_assoc b.before (other ∷ b.after) (chunk ∷ a.after))) b.named a.named

    span-is : (covers : Covered letters) → span_of (identifier_of covers) (records_from 8 all) ≡ header_span (recorded (8 + length (joined a.before)) chunk)
    span-is covers =
        let before = ((every_append a.before (chunk ∷ a.after)).0 (rw a.splits at rules.whole)).0 in
        let c = every-among rules.whole a in
        ap (λ (l : List (List ℕ)). span_of (identifier_of covers) (records_from 8 l)) a.splits
        ∙ span-of-first covers 8 chunk a.after before ((chunk-named c covers).1 a.named) (not-before covers)

    span-of : (covers : Covered letters) → SpanHolds m (span_of (identifier_of covers) (records_from 8 all)) chunk
    span-of covers = record {
      before = header ++ joined a.before;
      after = joined a.after;
      bytes = bytes-split;
      there = rw (span-is covers);
      starts = rw (span-is covers) (length-append header (joined a.before) ∙ ap (λ (n : ℕ). n + length (joined a.before)) rules.header_size);
      size = rw (span-is covers) (every-among rules.whole a).size;
    }

  found_of : {letters : List ℕ} (covers : Covered letters) → Found m all letters (span_of (identifier_of covers) (records_from 8 all))
  found_of covers = record {
    holds = λ chunk a. span-of a covers;
    begins = λ chunk a. ap (λ (p : ChunkSpan). p.at) (span-is a covers);
    chunk = λ present. (occurs-says covers 8 rules.whole).0 (sym (present-occurs (identifier_of covers) (records_from 8 all)) ∙ present);
  }

  layout_of : LayoutOf m header all (layout_with m (spans_of (records_from 8 all)))
  layout_of = record {
    version = header-byte m header (joined all) rules.bytes rules.header_size 4 (omega arith);
    revision = header-byte m header (joined all) rules.bytes rules.header_size 5 (omega arith);
    counts = λ info a. (
        let part = span-part (span-of a Covered.info) in
        let long = (rules.info info a).size in (
          number16-at part 8 (omega arith),
          number16-at part 10 (omega arith),
          number16-at part 12 (omega arith),
          number16-at part 14 (omega arith),
          number16-at part 16 (omega arith),
        )
        );
    name = found_of Covered.name;
    song = found_of Covered.song;
    inst = found_of Covered.inst;
    patt = found_of Covered.patt;
    smpl = found_of Covered.smpl;
    venv = found_of Covered.venv;
    penv = found_of Covered.penv;
  }

  -- The check finds the mandatory chunks exactly if they are among the chunks.
  mandatory-says : (mandatory_there (records_from 8 all) ≡ true) ↔ Mandatory all
  mandatory-says = simp (and-says, says Covered.info, says Covered.song, says Covered.inst, says Covered.patt, says Covered.smpl) (
    λ h. record { info = h.0; song = h.1.0; inst = h.1.1.0; patt = h.1.1.1.0; smpl = h.1.1.1.1 },
    λ h. (h.info, (h.song, (h.inst, (h.patt, h.smpl)))),
  )
    where
      says : {letters : List ℕ} (covers : Covered letters) → (occurs (identifier_of covers) (records_from 8 all) ≡ true) ↔ There all letters
      says covers = occurs-says covers 8 rules.whole

-- The rules of the chunks from their parts.
rules-of : {m header : List ℕ} {all : List (List ℕ)} → m ≡ header ++ joined all → length header ≡ 8 → HeaderFits m header
    → ChunksFit all
    → ChunkRules m header all
rules-of bytes size head fits = record {
  bytes = bytes;
  limit = head.limit;
  header_size = size;
  begins = head.begins;
  version = head.version;
  revision = head.revision;
  whole = fits.whole;
  once = fits.once;
  after_info = fits.after_info;
  name = fits.name;
  info = fits.info;
}

module _ {m header : List ℕ} {all : List (List ℕ)} (rules : ChunkRules m header all) where
  header-part : HeaderFits m header
  header-part = record { limit = rules.limit; begins = rules.begins; version = rules.version; revision = rules.revision }

  pub chunks-part : ChunksFit all
  chunks-part = record { whole = rules.whole; once = rules.once; after_info = rules.after_info; name = rules.name; info = rules.info }

-- If the outline is found, the rules hold.
abbrev Says : List ℕ → Result Layout Refusal → Type 0
Says m (Ok l) = Outlined m l
Says m (Err r) = Unit {0}

reported : (m : List ℕ) → Bytes m → Says m (outline m)
reported m below =
    along-outline m (Says m)
    (record { header = λ r e. tt; chunk = λ before at reached less r e. tt; missing = λ all read lacks. tt; found = found })
  where
    found : (all : List (List ℕ)) → AllRead m all → mandatory_there (records_from 8 all) ≡ true → Outlined m (layout_with m (spans_of (records_from 8 all)))
    found all read h =
        let size = read.front.header_size in
        let rules = rules-of read.bytes size (rules-header m (take 8 m) (joined all) read.bytes size below read.header) (turn-fits read.turn) in
        record { header = take 8 m; chunks = all; rules = rules; mandatory = (mandatory-says rules).0 h; layout = layout_of rules }

pub outline-chunks : (m : List ℕ) (l : Layout) → Bytes m → outline m ≡ Ok l → Outlined m l
outline-chunks m l below e = subst (Says m) e (reported m below)

-- If the rules hold, the outline is found.
pub chunks-outline : (m header : List ℕ) (all : List (List ℕ)) → ChunkRules m header all → Mandatory all
    → (l : Layout) × (outline m ≡ Ok l) × LayoutOf m header all l
chunks-outline m header all rules mandatory =
    let accepted = (accepted-hold (header_rules m)).1 (header-rules m header (joined all) rules.bytes rules.header_size (header-part rules)) in
    let walked = read_whole m header all rules.header_size rules.bytes (fits-turn (chunks-part rules)) in
    (layout_with m (spans_of (records_from 8 all)), rw (accepted, walked, (mandatory-says rules).1 mandatory), layout_of rules)
