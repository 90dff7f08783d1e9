-- Definitions for the contracts of private functions. Of the chunks before a place, the walk knows only the spans of the covered ones.
use Rattle.std.specs.Prelude.{ℕ, zero, suc, ◌+◌, ◌≡◌, List, [], ◌∷◌, Bool, true, cond, not, ◌&&◌, ◌||◌, length, eqb, leb, Result, Ok, Err}
use Rattle.refusal.specs.declared.Refusal.{Refusal}
use Rattle.layout.specs.declared.Layout.{Layout}
use Rattle.refusal.specs.Numbers.{refusal}
use Rattle.refusal.specs.Rules.{Rule, rule}
use Rattle.refusal.specs.declared.Reason.TheVariants.{ChunkCut, Identifier, Repeated, BeforeInfo, Missing, FixedLength}
use Rattle.numbers.specs.Numbers.{number32}
use Rattle.layout.specs.Chunks.{name_identifier, info_identifier, song_identifier, inst_identifier, patt_identifier, smpl_identifier, venv_identifier}
use Rattle.layout.specs.Chunks.{penv_identifier, needs_info, covered, four_letters, info_rules, Walk, complete, stopped}
use Rattle.layout.specs.Outlines.{spans_of, layout_with}
use Rattle.layout.specs.declared.ChunkSpan.{ChunkSpan}
use Rattle.layout.specs.declared.ChunkSpans.{ChunkSpans}

abbrev pub present_in : ChunkSpans → ℕ → Bool
present_in p identifier =
    (eqb identifier name_identifier && p.name.present)
    || ((eqb identifier info_identifier && p.info.present)
    || ((eqb identifier song_identifier && p.song.present)
    || ((eqb identifier inst_identifier && p.inst.present)
    || ((eqb identifier patt_identifier && p.patt.present)
    || ((eqb identifier smpl_identifier && p.smpl.present)
    || ((eqb identifier venv_identifier && p.venv.present)
    || (eqb identifier penv_identifier && p.penv.present)))))))

abbrev pub put_in : ChunkSpans → ℕ → ChunkSpan → ChunkSpans
put_in p identifier span = record {
  name = cond (eqb identifier name_identifier) span p.name;
  info = cond (eqb identifier info_identifier) span p.info;
  song = cond (eqb identifier song_identifier) span p.song;
  inst = cond (eqb identifier inst_identifier) span p.inst;
  patt = cond (eqb identifier patt_identifier) span p.patt;
  smpl = cond (eqb identifier smpl_identifier) span p.smpl;
  venv = cond (eqb identifier venv_identifier) span p.venv;
  penv = cond (eqb identifier penv_identifier) span p.penv;
}

abbrev pub fixed_length_fits : ℕ → ℕ → Bool
fixed_length_fits identifier length = (not (eqb identifier name_identifier) || eqb length 44) && (not (eqb identifier info_identifier) || eqb length 10)

-- The rules of chunk_rules from the fourth on, and all of them, by the spans of the covered chunks before the place.
abbrev pub met_rules : List ℕ → ℕ → ℕ → ℕ → ChunkSpans → List Rule
met_rules m at identifier length p =
    rule (not (present_in p identifier)) Repeated at
    ∷ rule (not (needs_info identifier) || p.info.present) BeforeInfo at
    ∷ rule (fixed_length_fits identifier length) FixedLength at
    ∷ cond (eqb identifier info_identifier) (info_rules m (at + 8)) []

abbrev pub placed_rules : List ℕ → ℕ → ChunkSpans → List Rule
placed_rules m at p =
    rule (leb (at + 8) (length m)) ChunkCut at
    ∷ rule (four_letters m at) Identifier at
    ∷ rule (leb (at + 8 + number32 m (at + 4)) (length m)) ChunkCut at
    ∷ met_rules m at (number32 m at) (number32 m (at + 4)) p

-- Whether a complete chunk that is not covered, document 01's "stepped over", begins at a place; and n such chunks, from one place to
-- another.
abbrev pub is_other : List ℕ → ℕ → Bool
is_other m at = leb (at + 8) (length m) && (leb (at + 8 + number32 m (at + 4)) (length m) && (four_letters m at && not (covered (number32 m at))))

abbrev pub OthersTo : List ℕ → ℕ → ℕ → ℕ → Type 0
OthersTo m zero at end = at ≡ end
OthersTo m (suc n) at end = (is_other m at ≡ true) × OthersTo m n (at + 8 + number32 m (at + 4)) end

-- The result of the walk over the chunks, with spans instead of headers.
abbrev pub walked : Walk → Result ChunkSpans Refusal
walked (complete cs) = Ok (spans_of cs)
walked (stopped r) = Err r

-- Whether the mandatory chunks are present, and the outline after the chunks are read, by the spans of the covered chunks.
abbrev pub all_present : ChunkSpans → Bool
all_present p = p.info.present && (p.song.present && (p.inst.present && (p.patt.present && p.smpl.present)))

abbrev pub outline_with : List ℕ → ChunkSpans → Result Layout Refusal
outline_with m p = cond (all_present p) (Ok (layout_with m p)) (Err (refusal Missing (length m)))
