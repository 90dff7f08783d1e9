-- A list of bytes is the encoding of at most one description. The header has a fixed length, and every chunk states its own length, so both
-- descriptions have the same chunks as bytes. Then INFO is the same, so both have the same tracks, and the content of each chunk is the
-- same.
use Prim.Native.Nat.{ℕ}
use mathlib.Core.Path.{◌≡◌, refl, sym, ap, subst, ◌∙◌}
use mathlib.Core.List.{List, [], ◌∷◌, map}
use native.Mathlib.Omega.{arith}
use lib.ListN.{length, get_or, length-append}
use Rattle.vocabulary.specs.Lists.{joined, Every, also}
use Rattle.vocabulary.specs.Letters.{info_letters}
use Rattle.vocabulary.proofs.EveryOne.{every_of}
use Rattle.vocabulary.proofs.MappedLists.{every_map}
use Rattle.numbers.specs.Numbers.{number32}
use Rattle.acceptance.specs.Rules.{IsChunk, Covered}
use Rattle.acceptance.proofs.Locating.{number32-front}
use Rattle.format.specs.Description.{Info, Chunk, NAME, INFO, SONG, INST, PATT, SMPL, VENV, PENV, Other, Description}
use Rattle.format.specs.Encoding.{info_bytes, chunk_bytes, header_bytes, encoded}
use Rattle.format.specs.WellFormed.{PatternFits, In, WellFormed}
use Rattle.format.proofs.EncodedModule.{encoded-chunks}
use Rattle.format.proofs.Delimited.{front_same, next16, info-same}
use Rattle.format.proofs.ChunksIn.{every_in, in-every, in-once, in-other, each_same}
use Rattle.format.proofs.ChunkKinds.{counted, held-as, Delimited, Plain, kind-same, parts_same, chunk-same}

-- Whole chunks one after the other: their bytes can be cut in only one way.
chunks-same : (xs ys : List (List ℕ)) → Every IsChunk xs → Every IsChunk ys → joined xs ≡ joined ys → xs ≡ ys
chunks-same [] [] p q e = refl
chunks-same [] (y ∷ ys) p (also q qs) e = absurd (omega (arith, q.size, ap length e, length-append y (joined ys)))
chunks-same (x ∷ xs) [] (also p ps) q e = absurd (omega (arith, p.size, ap length e, length-append x (joined xs)))
chunks-same (x ∷ xs) (y ∷ ys) (also p ps) (also q qs) e =
    let number : number32 x 4 ≡ number32 y 4 =
    sym (number32-front x (joined xs) 4 (omega (arith, p.size)))
    ∙ ap (λ (l : List ℕ). number32 l 4) e
    ∙ number32-front y (joined ys) 4 (omega (arith, q.size)) in
    let first = front_same x y {s = joined xs} {t = joined ys} (omega (arith, p.size, q.size)) e in
    let rest = chunks-same xs ys ps qs first.1 in
    λ i. first.0 i ∷ rest i

-- The chunks of a well-formed description have self-delimiting encodings.
module _ (d : Description) (w : WellFormed d) where
  chunk-delimited : (c : Chunk) → In d.chunks c → Delimited w.info.tracks c
  chunk-delimited (NAME name) i = tt
  chunk-delimited (INFO info) i = tt
  chunk-delimited (SONG list) i =
      let same : w.songs ≡ list = cc (in-once w.once w.songs_there i Covered.song refl) in
      subst (Every (λ s. length s.name ≡ 44)) same (every_of (λ s f. f.name.0) w.lists.songs_fit)
  chunk-delimited (INST list) i =
      let same : w.instruments ≡ list = cc (in-once w.once w.instruments_there i Covered.inst refl) in
      subst (Every (λ s. length s.name ≡ 30)) same (every_of (λ s f. f.name.0) w.lists.instruments_fit)
  chunk-delimited (PATT list) i =
      let same : w.patterns ≡ list = cc (in-once w.once w.patterns_there i Covered.patt refl) in
      subst (Every (PatternFits w.info.tracks)) same w.lists.patterns_fit
  chunk-delimited (SMPL list) i = tt
  chunk-delimited (VENV list) i = every_of (λ e f. f.many) (w.volume_envelopes list i).each
  chunk-delimited (PENV list) i = every_of (λ e f. f.many) (w.panning_envelopes list i).each
  chunk-delimited (Other letters bytes) i = w.others letters bytes i

  whole : Every IsChunk (map chunk_bytes d.chunks)
  whole = (encoded-chunks d w).whole

  plain : Every (Plain w.info.tracks) d.chunks
  plain =
      let each = (every_map chunk_bytes d.chunks).0 whole in
      every_in d.chunks (λ c i. record { delimited = chunk-delimited c i; whole = in-every each i })

module _ (d e : Description) (w : WellFormed d) (v : WellFormed e) (same : encoded d ≡ encoded e) where
  halves : (header_bytes d ≡ header_bytes e) × (joined (map chunk_bytes d.chunks) ≡ joined (map chunk_bytes e.chunks))
  halves = front_same (header_bytes d) (header_bytes e) refl same

  chunks-are : map chunk_bytes d.chunks ≡ map chunk_bytes e.chunks
  chunks-are = chunks-same (map chunk_bytes d.chunks) (map chunk_bytes e.chunks) (whole d w) (whole e v) halves.1

  info-is : w.info ≡ v.info
  info-is =
      let (c, there, bytes) = in-other chunk_bytes w.info_there.before w.info_there.after e.chunks (INFO w.info)
      (ap (map chunk_bytes) (sym w.info_there.splits) ∙ chunks-are) in
      let kind = kind-same (in-every (plain d w) w.info_there) (in-every (plain e v) there) bytes in
      let (info, is) = held-as c counted (sym kind) in
      let once : c ≡ INFO v.info = in-once v.once there v.info_there (rw is Covered.info) (rw is refl) in
      info-same w.info v.info (parts_same info_letters info_letters (info_bytes w.info) (info_bytes v.info) refl (bytes ∙ ap chunk_bytes once)).1

  pub chunks-one : d.chunks ≡ e.chunks
  chunks-one =
      each_same chunk_bytes (chunk-same v.info.tracks) d.chunks e.chunks
      (subst (λ (i : Info). Every (Plain i.tracks) d.chunks) info-is (plain d w)) (plain e v) chunks-are

-- Two well-formed descriptions with the same encoding are equal.
pub described-once : (d e : Description) → WellFormed d → WellFormed e → encoded d ≡ encoded e → d ≡ e
described-once d e w v same =
    let byte : (k : ℕ) → get_or (header_bytes d) k 0 ≡ get_or (header_bytes e) k 0 = λ k. ap (λ (l : List ℕ). get_or l k 0) (halves d e w v same).0 in
    let version : d.version ≡ e.version = byte 4 in
    let revision : d.revision ≡ e.revision = byte 5 in
    let reserved : d.reserved ≡ e.reserved =
    (next16 d.reserved e.reserved {s = []} {t = []}
    (front_same (68 ∷ 66 ∷ 77 ∷ 48 ∷ d.version ∷ d.revision ∷ []) (68 ∷ 66 ∷ 77 ∷ 48 ∷ e.version ∷ e.revision ∷ []) refl
    (halves d e w v same).0).1).0 in
    let chunks : d.chunks ≡ e.chunks = chunks-one d e w v same in
    λ i. record { version = version i; revision = revision i; reserved = reserved i; chunks = chunks i }
