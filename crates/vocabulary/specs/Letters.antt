-- FORMAT.md, M6: the identifiers of document 01's "covered" chunks, as lists of their letters: N A M E and so on.
use Rattle.std.specs.Prelude.{ℕ, List, [], ◌∷◌}

abbrev pub name_letters : List ℕ
name_letters = 78 ∷ 65 ∷ 77 ∷ 69 ∷ []

abbrev pub info_letters : List ℕ
info_letters = 73 ∷ 78 ∷ 70 ∷ 79 ∷ []

abbrev pub song_letters : List ℕ
song_letters = 83 ∷ 79 ∷ 78 ∷ 71 ∷ []

abbrev pub inst_letters : List ℕ
inst_letters = 73 ∷ 78 ∷ 83 ∷ 84 ∷ []

abbrev pub patt_letters : List ℕ
patt_letters = 80 ∷ 65 ∷ 84 ∷ 84 ∷ []

abbrev pub smpl_letters : List ℕ
smpl_letters = 83 ∷ 77 ∷ 80 ∷ 76 ∷ []

abbrev pub venv_letters : List ℕ
venv_letters = 86 ∷ 69 ∷ 78 ∷ 86 ∷ []

abbrev pub penv_letters : List ℕ
penv_letters = 80 ∷ 69 ∷ 78 ∷ 86 ∷ []
