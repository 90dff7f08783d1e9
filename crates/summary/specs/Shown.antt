-- FORMAT.md, Q3 to Q6 (document 01, "Layout"): version, name and INFO's numbers as they are shown. Each answer begins with the refusal's
-- number and place, 0 and 0 if there is none; on a refusal all other fields are 0.
use Rattle.std.specs.Prelude.{ℕ, ◌+◌, List, cond, replicate, Result, Ok, Err}
use Rattle.refusal.specs.Numbers.{no_refusal, refused_outcome}
use Rattle.refusal.specs.declared.Refusal.{Refusal}
use Rattle.numbers.specs.Numbers.{bytes_from}
use Rattle.layout.specs.declared.Layout.{Layout}
use Rattle.module.specs.Verdicts.{opened}
use Rattle.summary.specs.declared.VersionAnswer.{VersionAnswer}
use Rattle.summary.specs.declared.NameAnswer.{NameAnswer}
use Rattle.summary.specs.declared.InfoAnswer.{InfoAnswer}

abbrev pub no_version : Refusal → VersionAnswer
no_version r = record { outcome = refused_outcome r; version = 0; revision = 0 }

-- Q4: version and revision, both bytes as stored.
abbrev pub shown_version : Layout → VersionAnswer
shown_version l = record { outcome = no_refusal; version = l.version; revision = l.revision }

abbrev pub version_if : Result Layout Refusal → VersionAnswer
version_if (Ok l) = shown_version l
version_if (Err r) = no_version r

-- Q1: the module's own refusal, else the version.
abbrev pub version_answer : List ℕ → VersionAnswer
version_answer m = version_if (opened m)

abbrev pub no_name : Refusal → NameAnswer
no_name r = record { outcome = refused_outcome r; name = replicate 44 0 }

-- Q5: the name: the 44 bytes of NAME's data, or 44 zeros if NAME is missing.
abbrev pub name_of : List ℕ → Layout → List ℕ
name_of m l = cond l.spans.name.present (bytes_from m (l.spans.name.at + 8) 44) (replicate 44 0)

abbrev pub shown_name : List ℕ → Layout → NameAnswer
shown_name m l = record { outcome = no_refusal; name = name_of m l }

abbrev pub name_if : List ℕ → Result Layout Refusal → NameAnswer
name_if m (Ok l) = shown_name m l
name_if m (Err r) = no_name r

abbrev pub name_answer : List ℕ → NameAnswer
name_answer m = name_if m (opened m)

abbrev pub no_info : Refusal → InfoAnswer
no_info r = record { outcome = refused_outcome r; instruments = 0; samples = 0; songs = 0; patterns = 0; tracks = 0 }

-- Q6: INFO's numbers.
abbrev pub shown_info : Layout → InfoAnswer
shown_info l = record {
  outcome = no_refusal;
  instruments = l.instruments;
  samples = l.samples;
  songs = l.songs;
  patterns = l.patterns;
  tracks = l.tracks;
}

abbrev pub info_if : Result Layout Refusal → InfoAnswer
info_if (Ok l) = shown_info l
info_if (Err r) = no_info r

abbrev pub info_answer : List ℕ → InfoAnswer
info_answer m = info_if (opened m)
