-- The spans of a layout that was found are those of whole chunks of the module (for theorem 13).
use Prim.Native.Nat.{ℕ, ◌+◌, ◌≤◌, ◌<◌}
use Rattle.std.specs.Prelude.{Result, Ok, Err}
use Rattle.refusal.specs.declared.Refusal.{Refusal}
use mathlib.Core.Path.{◌≡◌, refl, subst, ◌∙◌}
use mathlib.Core.List.{List, ◌++◌, append-nil}
use mathlib.Core.Bool.{Bool, true, false, cond}
use native.Mathlib.Omega.{arith}
use lib.ListN.{length, take}
use lib.Dec.{eqb}
use Rattle.vocabulary.specs.Lists.{joined}
use Rattle.vocabulary.proofs.JoinedLists.{joined-next}
use Rattle.numbers.specs.Numbers.{number32}
use Rattle.layout.specs.Chunks.{name_identifier, info_identifier, song_identifier, inst_identifier, patt_identifier, smpl_identifier, venv_identifier}
use Rattle.layout.specs.Chunks.{penv_identifier, occurs}
use Rattle.layout.specs.Outlines.{header_span, span_of, spans_of, layout_with, mandatory_there, outline}
use Rattle.layout.specs.declared.ChunkSpan.{ChunkSpan}
use Rattle.layout.specs.declared.Layout.{Layout}
use Rattle.blocks.specs.Filling.{data_end}
use Rattle.acceptance.specs.Rules.{Covered}
use Rattle.acceptance.specs.Places.{HeaderAt}
use Rattle.acceptance.proofs.Locating.{PartAt, part-inside}
use Rattle.acceptance.proofs.Holding.{eqb-says, and-says}
use Rattle.acceptance.proofs.Identifiers.{chunk-named}
use Rattle.acceptance.proofs.Recorded.{recorded, records_from, present-occurs}
use Rattle.acceptance.proofs.Fitting.{identifier-is, data-length-is}
use Rattle.acceptance.proofs.Chunking.{InTurn, done, next, turn-bytes, Reached, reached-next}
use Rattle.acceptance.proofs.Outlining.{AllRead, along-outline}

-- A chunk's header begins at the place of the walk, unless the module ends there.
abbrev pub header_at : {m header : List ℕ} {before : List (List ℕ)} {at : ℕ} → Reached m header before at → at < length m → HeaderAt m at
header_at {m} {header} {before} r less = record {
  header = header;
  before = before;
  after = r.rest;
  bytes = r.bytes;
  header_size = r.header_size;
  whole = turn-bytes r.turn;
  there = r.there;
  follows = less;
}

-- A span of a layout is that of a whole chunk with this identifier: it is present, the chunk's header begins at its place, its length is
-- the one stored there, 44 for NAME, and its data end within the module.
pub record WholeAt (m : List ℕ) (identifier : ℕ) (span : ChunkSpan) : Type 0 where
  pub present : span.present ≡ true
  pub header : HeaderAt m span.at
  pub named : number32 m span.at ≡ identifier
  pub size : number32 m (span.at + 4) ≡ span.length
  pub name_size : identifier ≡ name_identifier → span.length ≡ 44
  pub inside : data_end span ≤ length m

-- A span that the check finds among chunks that fit in order.
span-whole : (n : ℕ) {m header : List ℕ} {before rest : List (List ℕ)} {at : ℕ} → Reached m header before at
    → m ≡ (header ++ joined before) ++ joined rest → InTurn before rest → (span_of n (records_from at rest)).present ≡ true
    → WholeAt m n (span_of n (records_from at rest))
span-whole n r bytes done there = let z : ◌≡◌ {A = ℕ} 0 1 = cc in absurd (omega arith)
span-whole n {m} {header} {before} {at = at} r bytes (next {chunk = chunk} {rest = rest} fits turn) there =
    go (eqb (number32 chunk 0) n) refl (span-whole n (reached-next r part fits) (bytes ∙ joined-next header before chunk rest) turn) there
  where
    part : PartAt m at chunk
    part = record { before = header ++ joined before; after = joined rest; bytes = bytes; starts = r.there }

    go : (b : Bool) → eqb (number32 chunk 0) n ≡ b
        → ((span_of n (records_from (at + length chunk) rest)).present ≡ true → WholeAt m n (span_of n (records_from (at + length chunk) rest)))
        → (cond b (header_span (recorded at chunk)) (span_of n (records_from (at + length chunk) rest))).present ≡ true
        → WholeAt m n (cond b (header_span (recorded at chunk)) (span_of n (records_from (at + length chunk) rest)))
    go true e ih h =
        let size = fits.bytes.size in
        let inside = part-inside part in
        record {
          present = refl;
          header = header_at r (omega arith);
          named = identifier-is part size ∙ (eqb-says _ _).0 e;
          size = data-length-is part size;
          name_size = λ same. omega (arith, fits.name ((chunk-named fits.bytes Covered.name).0 ((eqb-says _ _).0 e ∙ same)));
          inside = omega arith;
        }
    go false e ih h = ih h

-- The spans of a found layout are those of whole chunks.
pub record SpansWhole (m : List ℕ) (l : Layout) : Type 0 where
  pub name : l.spans.name.present ≡ true → WholeAt m name_identifier l.spans.name
  pub info : WholeAt m info_identifier l.spans.info
  pub song : WholeAt m song_identifier l.spans.song
  pub inst : WholeAt m inst_identifier l.spans.inst
  pub patt : WholeAt m patt_identifier l.spans.patt
  pub smpl : WholeAt m smpl_identifier l.spans.smpl
  pub venv : l.spans.venv.present ≡ true → WholeAt m venv_identifier l.spans.venv
  pub penv : l.spans.penv.present ≡ true → WholeAt m penv_identifier l.spans.penv

places_of : {m : List ℕ} (all : List (List ℕ)) → AllRead m all → mandatory_there (records_from 8 all) ≡ true
    → SpansWhole m (layout_with m (spans_of (records_from 8 all)))
places_of {m} all read mandatory = record {
  name = of name_identifier;
  info = of info_identifier (rw (present-occurs info_identifier (records_from 8 all)) says.0);
  song = of song_identifier (rw (present-occurs song_identifier (records_from 8 all)) says.1.0);
  inst = of inst_identifier (rw (present-occurs inst_identifier (records_from 8 all)) says.1.1.0);
  patt = of patt_identifier (rw (present-occurs patt_identifier (records_from 8 all)) says.1.1.1.0);
  smpl = of smpl_identifier (rw (present-occurs smpl_identifier (records_from 8 all)) says.1.1.1.1);
  venv = of venv_identifier;
  penv = of penv_identifier;
}
  where
    of : (n : ℕ) → (span_of n (records_from 8 all)).present ≡ true → WholeAt m n (span_of n (records_from 8 all))
    of n = span-whole n read.front (rw (append-nil (take 8 m)) read.bytes) read.turn

    says : (occurs info_identifier (records_from 8 all) ≡ true)
        × ((occurs song_identifier (records_from 8 all) ≡ true)
        × ((occurs inst_identifier (records_from 8 all) ≡ true)
        × ((occurs patt_identifier (records_from 8 all) ≡ true) × (occurs smpl_identifier (records_from 8 all) ≡ true))))
    says = simp and-says at mandatory

-- For a found outline, the spans are those of whole chunks.
abbrev Says : List ℕ → Result Layout Refusal → Type 0
Says m (Ok l) = SpansWhole m l
Says m (Err r) = Unit {0}

reported : (m : List ℕ) → Says m (outline m)
reported m =
    along-outline m (Says m)
    (record { header = λ r e. tt; chunk = λ before at reached less r e. tt; missing = λ all read lacks. tt; found = places_of })

pub outline-spans : (m : List ℕ) (l : Layout) → outline m ≡ Ok l → SpansWhole m l
outline-spans m l e = subst (Says m) e (reported m)
