-- A module with some chunks changed is accepted: all its rules follow from the rules of the module and from the blocks of the changed
-- mandatory chunks.
use Prim.Native.Nat.{ℕ, ◌≤◌}
use Rattle.std.specs.Prelude.{Ok}
use mathlib.Core.Path.{◌≡◌, sym, subst}
use mathlib.Core.List.{List, ◌++◌, map}
use mathlib.Core.Bool.{Bool, false}
use lib.ListN.{length, take}
use Rattle.vocabulary.specs.Lists.{joined, Every}
use Rattle.vocabulary.specs.Letters.{info_letters, venv_letters, penv_letters}
use Rattle.vocabulary.proofs.Splits.{only_one}
use Rattle.numbers.specs.Numbers.{byte_at, Bytes, number16}
use Rattle.layout.specs.Chunks.{name_identifier, info_identifier, venv_identifier, penv_identifier}
use Rattle.layout.specs.declared.Layout.{Layout}
use Rattle.module.specs.Verdicts.{opened}
use Rattle.acceptance.specs.Rules.{IsChunk, Among, Covered, InfoRules, Filled, SongRules, InstrumentRules}
use Rattle.acceptance.specs.Rules.{PatternRules, SampleRules, EnvelopesRules, VolumeFits, PanningValueFits, Rules}
use Rattle.acceptance.proofs.Spans.{LayoutOf}
use Rattle.acceptance.proofs.Identifiers.{identifier_of}
use Rattle.acceptance.proofs.Recorded.{among-within}
use Rattle.acceptance.proofs.ChangedChunks.{Change, stays-as, among-changed, left-among, rules-changed}
use Rattle.acceptance.proofs.Acceptance.{rules-open}

-- The blocks of the changed chunks, and their rules: B1 to B5, V1, V2, V6 and V7. The number of instruments is unchanged.
pub record BlocksAfter (f : List ℕ → List ℕ) {m : List ℕ} (r : Rules m) : Type 0 where
  pub songs : List (List ℕ)
  pub instruments : List (List ℕ)
  pub patterns : List (List ℕ)
  pub samples : List (List ℕ)
  pub songs_fill : Filled 8 (f r.song) (number16 (f r.info) 12) songs
  pub instruments_fill : Filled 8 (f r.inst) (number16 (f r.info) 8) instruments
  pub patterns_fill : Filled 8 (f r.patt) (number16 (f r.info) 14) patterns
  pub samples_fill : Filled 8 (f r.smpl) (number16 (f r.info) 10) samples
  pub song_rules : Every (SongRules (length patterns)) songs
  pub instrument_rules : Every (InstrumentRules samples) instruments
  pub pattern_rules : Every (PatternRules (number16 (f r.info) 16)) patterns
  pub sample_rules : Every SampleRules samples
  pub as_many : length r.content.instruments ≡ length instruments

-- NAME and the envelopes do not change.
pub record LeavesRest (changes : ℕ → Bool) : Type 0 where
  pub name : changes name_identifier ≡ false
  pub volume : changes venv_identifier ≡ false
  pub panning : changes penv_identifier ≡ false

module _ {m : List ℕ} (r : Rules m) {changes : ℕ → Bool} {f : List ℕ → List ℕ} (change : Change changes f) where
  abbrev whole : Every IsChunk r.chunks
  whole = r.chunk_rules.whole

  -- The blocks of a chunk that does not change, if INFO does not change either.
  module _ (info : changes info_identifier ≡ false) where
    pub info-stays : f r.info ≡ r.info
    info-stays = stays-as change whole Covered.info info r.info_there

    -- A chunk has as many blocks as the number at this offset of INFO says.
    abbrev FilledBy : List ℕ → List ℕ → ℕ → List (List ℕ) → Type 0
    FilledBy chunk one offset blocks = Filled 8 chunk (number16 one offset) blocks

    module _ {letters : List ℕ} (covers : Covered letters) (left : changes (identifier_of covers) ≡ false) {chunk : List ℕ} where
      pub filled-left : Among r.chunks letters chunk → (offset : ℕ) {blocks : List (List ℕ)}
          → FilledBy chunk r.info offset blocks → FilledBy (f chunk) (f r.info) offset blocks
      filled-left a offset {blocks} filled =
          let counted = subst (λ (one : List ℕ). FilledBy chunk one offset blocks) (sym info-stays) filled in
          subst (λ (one : List ℕ). FilledBy one (f r.info) offset blocks) (sym (stays-as change whole covers left a)) counted

  -- M9 for the changed INFO, whichever chunk with its letters is taken: INFO occurs once.
  info-rules : InfoRules (f r.info) → (info : List ℕ) → Among r.chunks info_letters info → InfoRules (f info)
  info-rules rules info a =
      let once = r.chunk_rules.once info_letters Covered.info in
      let both = only_one (λ (c : List ℕ). take 4 c ≡ info_letters) once (among-within r.info_there) (among-within a) in
      subst (λ (one : List ℕ). InfoRules (f one)) (both r.info_there.named a.named) rules

  module _ (rest : LeavesRest changes) (b : BlocksAfter f r) where
    abbrev values : ℕ → Type 0
    values = PanningValueFits (byte_at r.header 4)

    volume-left : (chunk : List ℕ) → Among (map f r.chunks) venv_letters chunk → EnvelopesRules (length b.instruments) VolumeFits chunk
    volume-left chunk a =
        let old = r.content.volume_envelopes chunk (left-among change whole Covered.venv rest.volume a) in
        subst (λ (many : ℕ). EnvelopesRules many VolumeFits chunk) b.as_many old

    panning-left : (chunk : List ℕ) → Among (map f r.chunks) penv_letters chunk → EnvelopesRules (length b.instruments) values chunk
    panning-left chunk a =
        let old = r.content.panning_envelopes chunk (left-among change whole Covered.penv rest.panning a) in
        subst (λ (many : ℕ). EnvelopesRules many values chunk) b.as_many old

    module _ {n : List ℕ} (bytes : n ≡ r.header ++ joined (map f r.chunks)) (limit : length n ≤ 16777216) (info : InfoRules (f r.info)) where
      pub all_changed : Rules n
      all_changed = record {
        header = r.header;
        chunks = map f r.chunks;
        chunk_rules = rules-changed r.chunk_rules change bytes limit rest.name (info-rules info);
        info = f r.info;
        song = f r.song;
        inst = f r.inst;
        patt = f r.patt;
        smpl = f r.smpl;
        info_there = among-changed change whole r.info_there;
        song_there = among-changed change whole r.song_there;
        inst_there = among-changed change whole r.inst_there;
        patt_there = among-changed change whole r.patt_there;
        smpl_there = among-changed change whole r.smpl_there;
        content = record {
          songs = b.songs;
          instruments = b.instruments;
          patterns = b.patterns;
          samples = b.samples;
          songs_fill = b.songs_fill;
          instruments_fill = b.instruments_fill;
          patterns_fill = b.patterns_fill;
          samples_fill = b.samples_fill;
          song_rules = b.song_rules;
          instrument_rules = b.instrument_rules;
          pattern_rules = b.pattern_rules;
          sample_rules = b.sample_rules;
          volume_envelopes = volume-left;
          panning_envelopes = panning-left;
        };
      }

      -- So the changed module opens, with a layout of the changed chunks.
      pub changed-opens : Bytes n → (l : Layout) × (opened n ≡ Ok l) × LayoutOf n r.header (map f r.chunks) l
      unfolding all_changed
      changed-opens below = rules-open n below all_changed
