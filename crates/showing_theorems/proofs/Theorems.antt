-- Modules that show the same. Two modules are alike (`Alike`) if both are accepted, with the same version, revision, name and numbers of
-- INFO and the same number of envelopes of each kind, and if for every record kind and number both give the same refusal or have blocks
-- with the same content. Two modules that are alike show the same (`ShowsSame`): every query gives the same answer for both and leaves the
-- same lent output. The blocks of songs, instruments, samples and envelopes have the same bytes, wherever they are. The blocks of patterns
-- have the same rows, and accepted streams of the same cells, whatever their entries are.
use Prim.Native.Nat.{ℕ}
use mathlib.Core.List.{List}
use Rattle.showing_theorems.specs.Showing.{ShowsSame}
use Rattle.showing_theorems.proofs.Alike.{Alike}
use Rattle.showing_theorems.proofs.SameSummary.{same_version, same_name, same-info}
use Rattle.showing_theorems.proofs.SameSongs.{same-song, same-entry, same-playlist, same-playlist-output}
use Rattle.showing_theorems.proofs.SameInstruments.{same-instrument}
use Rattle.showing_theorems.proofs.SameEnvelopes.{same-envelopes, same-envelope}
use Rattle.showing_theorems.proofs.SamePatterns.{same-rows, same-cell, same-unpacking, same-unpacking-output}
use Rattle.showing_theorems.proofs.SameSamples.{same-sample, same-frames, same-frame, same-all-frames, same-all-frames-output}
use Rattle.showing_theorems.proofs.SameRecords.{same-records, same-records-output}

pub alike-shows : {m n : List ℕ} → Alike m n → ShowsSame m n
alike-shows a = record {
  version = same_version a;
  name = same_name a;
  info = same-info a;
  song = same-song a;
  entry = same-entry a;
  playlist = same-playlist a;
  playlist_written = same-playlist-output a;
  instrument = same-instrument a;
  envelopes = same-envelopes a;
  envelope = same-envelope a;
  rows = same-rows a;
  cell = same-cell a;
  cells = same-unpacking a;
  cells_written = same-unpacking-output a;
  sample = same-sample a;
  frames = same-frames a;
  frame = same-frame a;
  all_frames = same-all-frames a;
  all_frames_written = same-all-frames-output a;
  records = same-records a;
  records_written = same-records-output a;
}
