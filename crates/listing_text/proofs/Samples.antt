-- Document 01's listing, computed: the module of 58 bytes and its seven lines; and its first 42 bytes, which end after INST, with the line
-- that document 01 gives for a refusal.
use Prim.Native.Nat.{ℕ}
use mathlib.Core.Path.{◌≡◌, refl}
use mathlib.Core.List.{List, [], ◌∷◌, ◌++◌}
use lib.ListN.{length, take}
use Rattle.numbers.specs.Numbers.{byte_at, number16, number32}
use Rattle.layout.specs.Chunks.{chunks, chunks_from}
use Rattle.listing_text.specs.Lines.{ascii, decimal, digits_within, listing}

-- Header, INFO with four zeros and 4 tracks, and empty SONG, INST, PATT and SMPL.
abbrev pub sample : List ℕ
sample =
    ascii "DBM0" ++ (3 ∷ 0 ∷ 0 ∷ 0
    ∷ (ascii "INFO" ++ (0 ∷ 0 ∷ 0 ∷ 10 ∷ 0 ∷ 0 ∷ 0 ∷ 0 ∷ 0 ∷ 0 ∷ 0 ∷ 0 ∷ 0 ∷ 4
    ∷ (ascii "SONG" ++ (0 ∷ 0 ∷ 0 ∷ 0
    ∷ (ascii "INST" ++ (0 ∷ 0 ∷ 0 ∷ 0
    ∷ (ascii "PATT" ++ (0 ∷ 0 ∷ 0 ∷ 0
    ∷ (ascii "SMPL" ++ (0 ∷ 0 ∷ 0 ∷ 0 ∷ [])))))))))))

pub sample-length : length sample ≡ 58
sample-length = refl

pub sample-listing : listing sample ≡ ascii "version 3.00\ninstruments 0\nsamples 0\nsongs 0\npatterns 0\ntracks 4\naccepted 58\n"
unfolding listing decimal digits_within byte_at number16 number32 chunks chunks_from
sample-listing = refl

pub refused-listing : listing (take 42 sample) ≡ ascii "refused 8 at 42\n"
unfolding listing decimal digits_within byte_at number16 number32 chunks chunks_from
refused-listing = refl

-- Numbers of one and of more digits.
pub decimal-0 : decimal 0 ≡ ascii "0"
unfolding decimal digits_within
decimal-0 = refl

pub decimal-10 : decimal 10 ≡ ascii "10"
unfolding decimal digits_within
decimal-10 = refl

pub decimal-65536 : decimal 65536 ≡ ascii "65536"
unfolding decimal digits_within
decimal-65536 = refl
