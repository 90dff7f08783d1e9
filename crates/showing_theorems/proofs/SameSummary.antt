-- Version, name and INFO's numbers.
use Prim.Native.Nat.{ℕ}
use mathlib.Core.Path.{◌≡◌}
use mathlib.Core.List.{List}
use Rattle.summary.specs.Shown.{version_if, version_answer, name_if, name_answer, info_if, info_answer}
use Rattle.showing_theorems.proofs.Alike.{Alike}
use Rattle.showing_theorems.proofs.AlikeAnswers.{by-opening}

module _ {m n : List ℕ} (a : Alike m n) where
  pub same_version : version_answer n ≡ version_answer m
  same_version = by-opening a version_if version_if (rw (a.version, a.revision))

  pub same_name : name_answer n ≡ name_answer m
  same_name = by-opening a (name_if m) (name_if n) (rw a.name)

  pub same-info : info_answer n ≡ info_answer m
  same-info = by-opening a info_if info_if (rw (a.instruments, a.samples, a.songs, a.patterns, a.tracks))
