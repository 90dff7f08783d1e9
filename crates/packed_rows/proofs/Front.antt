-- The length of the front of a stream, by its first two bytes.
use Prim.Native.Nat.{ℕ, suc, ◌+◌, ◌-◌, ◌<◌, ◌≤◌}
use mathlib.Core.Path.{◌≡◌, refl, ◌∙◌}
use mathlib.Core.List.{List, [], ◌∷◌}
use mathlib.Core.Bool.{Bool, true, false, cond, ◌&&◌}
use native.Mathlib.Omega.{arith}
use native.Mathlib.Numerals.{add-one}
use lib.ListN.{length, get_or, take, drop, length-drop, drop_of_length-le}
use lib.Seq.{drop-cons, length-take-le}
use lib.Dec.{eqb, leb}
use borrow.Author.Tests.{leb-true, leb-false, lt-leb, le-leb, eqb-true}
use Rattle.packed_rows.specs.Entries.{fields_named}
use Rattle.packed_rows.specs.Stream.{front}
use Rattle.packed_rows.specs.Steps.{piece_length, front_length}

module _ (tracks track mask : ℕ) (rest : List ℕ) where
  pub front-pair : front_length (front tracks (track ∷ mask ∷ rest))
      ≡ cond (leb track tracks && leb (piece_length track mask) (2 + length rest)) (piece_length track mask) 0
  front-pair = by_end (eqb track 0) refl
    where
      by_size : (b : Bool) → leb (fields_named mask) (length rest) ≡ b → eqb track 0 ≡ false → leb track tracks ≡ true
          → front_length (front tracks (track ∷ mask ∷ rest))
          ≡ cond (leb track tracks && leb (piece_length track mask) (2 + length rest)) (piece_length track mask) 0
      by_size true e z t =
          let l : 2 + fields_named mask ≤ 2 + length rest = omega (arith, leb-true (fields_named mask) (length rest) e) in
          let n : length (take (fields_named mask) rest) ≡ fields_named mask =
          length-take-le (fields_named mask) rest (leb-true (fields_named mask) (length rest) e) in
          simp (z, t, e, le-leb (2 + fields_named mask) (2 + length rest) l, n) (omega arith)
      by_size false e z t =
          let l : 2 + length rest < 2 + fields_named mask = omega (arith, leb-false (fields_named mask) (length rest) e) in
          simp (z, t, e, lt-leb (2 + fields_named mask) (2 + length rest) l)

      by_track : (b : Bool) → leb track tracks ≡ b → eqb track 0 ≡ false
          → front_length (front tracks (track ∷ mask ∷ rest))
          ≡ cond (leb track tracks && leb (piece_length track mask) (2 + length rest)) (piece_length track mask) 0
      by_track true t z = by_size (leb (fields_named mask) (length rest)) refl z t
      by_track false t z = simp (z, t)

      by_end : (b : Bool) → eqb track 0 ≡ b
          → front_length (front tracks (track ∷ mask ∷ rest))
          ≡ cond (leb track tracks && leb (piece_length track mask) (2 + length rest)) (piece_length track mask) 0
      by_end false z = by_track (leb track tracks) refl z
      by_end true z =
          let zero : track ≡ 0 = eqb-true track 0 z in
          simp (z, le-leb track tracks (omega arith), le-leb 1 (2 + length rest) (omega arith))

-- At a place of a stream.
module _ (s : List ℕ) (at tracks : ℕ) where
  pub front-past : length s ≤ at → front_length (front tracks (drop at s)) ≡ 0
  front-past h = simp (drop_of_length-le s h)

  module _ (inside : at < length s) where
    pub front-last : length s - at < 2 → front_length (front tracks (drop at s)) ≡ cond (eqb (get_or s at 0) 0) 1 0
    front-last h = rw (drop-cons s at 0 inside, drop_of_length-le s {i = suc at} (omega arith)) (go (eqb (get_or s at 0) 0) refl)
      where
        go : (b : Bool) → eqb (get_or s at 0) 0 ≡ b → front_length (front tracks (get_or s at 0 ∷ [])) ≡ cond (eqb (get_or s at 0) 0) 1 0
        go true e = simp e
        go false e = simp e

    pub front-two : 2 ≤ length s - at
        → front_length (front tracks (drop at s))
        ≡ cond (leb (get_or s at 0) tracks && leb (piece_length (get_or s at 0) (get_or s (at + 1) 0)) (length s - at))
        (piece_length (get_or s at 0) (get_or s (at + 1) 0)) 0
    front-two h =
        let size : 2 + length (drop (suc (suc at)) s) ≡ length s - at = omega (arith, length-drop (suc (suc at)) s) in
        rw (add-one at, drop-cons s at 0 inside, drop-cons s (suc at) 0 (omega arith), ← size)
        (front-pair tracks (get_or s at 0) (get_or s (suc at) 0) (drop (suc (suc at)) s))

    module _ (two : 2 ≤ length s - at) where
      pub front-high : tracks < get_or s at 0 → front_length (front tracks (drop at s)) ≡ 0
      front-high h = front-two two ∙ simp (lt-leb (get_or s at 0) tracks h)

      module _ (piece : ℕ) (is : piece ≡ piece_length (get_or s at 0) (get_or s (at + 1) 0)) (low : get_or s at 0 ≤ tracks) where
        pub front_cut : length s - at < piece → front_length (front tracks (drop at s)) ≡ 0
        front_cut h = front-two two ∙ rw (← is) (simp (le-leb (get_or s at 0) tracks low, lt-leb piece (length s - at) h))

        pub front_fits : piece ≤ length s - at → front_length (front tracks (drop at s)) ≡ piece
        front_fits h = front-two two ∙ rw (← is) (simp (le-leb (get_or s at 0) tracks low, le-leb piece (length s - at) h))
