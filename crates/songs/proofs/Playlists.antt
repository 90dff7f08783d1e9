-- Writing a playlist to a lent output.
use Prim.Native.Nat.{ℕ, ◌+◌, ◌*◌, ◌<◌, ◌≤◌}
use mathlib.Core.Path.{◌≡◌, ap, ◌∙◌}
use mathlib.Core.List.{List, ◌++◌}
use native.Mathlib.Omega.{arith}
use lib.ListN.{length, take, drop}
use lib.Seq.{length-take-le}
use Rattle.refusal.specs.Numbers.{refusal}
use Rattle.refusal.specs.declared.Reason.TheVariants.{Room}
use Rattle.refusal.specs.Lengths.{refused_length, written_length, length_if, output_of}
use Rattle.refusal.proofs.FilledOutputs.{lacking, enough}
use Rattle.numbers.specs.Numbers.{byte_at, bytes_from}
use Rattle.numbers.proofs.Each.{each-length}
use Rattle.blocks.specs.StoredFields.{song_length}
use Rattle.songs.specs.Shown.{playlist_size, playlist_bytes}

module _ (m : List ℕ) (at n : ℕ) (out : List ℕ) (e : n ≡ song_length m at) where
  pub playlist-lacks : length out < 2 * n
      → (refused_length (refusal Room (2 * n)) ≡ length_if (playlist_size m at) (length out)) × (out ≡ output_of (playlist_size m at) (playlist_bytes m at) out)
  playlist-lacks h = rw e (lacking (2 * song_length m at) (playlist_bytes m at) out (omega (arith, e, h)))

  pub playlist-fits : (copied : List ℕ) → copied ≡ bytes_from m (at + 46) (length (take (2 * n) out)) → 2 * n ≤ length out
      → (written_length (2 * n) ≡ length_if (playlist_size m at) (length out))
      × (copied ++ drop (2 * n) out ≡ output_of (playlist_size m at) (playlist_bytes m at) out)
  playlist-fits copied is h =
      let whole : copied ≡ playlist_bytes m at = is ∙ ap (bytes_from m (at + 46)) (length-take-le (2 * n) out h ∙ ap (λ (k : ℕ). 2 * k) e) in
      rw (whole, e) (enough (2 * song_length m at) (playlist_bytes m at) out (each-length (byte_at m) (2 * song_length m at) (at + 46)) (omega (arith, e, h)))
