-- Listing the differences of two rows by groups of eight tracks, each of which is cleared in both rows. A group that is not marked holds
-- zeros in both.
use Prim.Native.Nat.{ℕ, ◌+◌, ◌-◌, ◌*◌, ◌/◌, ◌≤◌, ◌<◌, min}
use mathlib.Core.Path.{◌≡◌, refl, sym, ap, ◌∙◌}
use mathlib.Core.List.{List, [], ◌++◌, append_assoc, append-nil}
use native.Mathlib.Omega.{arith}
use lib.ListN.{length, get_or, take, drop, set, replicate, length-append, length-drop, length-replicate, length-set, get_or-replicate}
use lib.ListN.{replicate-append-replicate, take-append-drop, drop_of_length-le}
use lib.Seq.{ext_get_or, get_or-take, get_or-drop, get_or-set_other, set-get_or, drop-drop, drop-append-add, take_at, length-take-le}
use Rattle.differences.specs.Differences.{entries_listed}
use Rattle.differences.specs.declared.Difference.{Difference}
use Rattle.differences.proofs.Listing.{Listing, listing-first, listing-turn, listing-last, listing-length, listing-kept}
use Rattle.packed_rows.specs.ComparingSteps.{track_differences, tracks_differences, ZerosBetween, cleared_between, AllMarked}
use Rattle.packed_rows.proofs.EachFrom.{joined-parts, joined-none}
use Rattle.packed_rows.proofs.ListingCells.{tracks-most, tracks-none, tracks-alike, tracks_left}

-- A part of a list that holds only zeros.
pub part-zeros : (bytes : List ℕ) (at n : ℕ) → at + n ≤ length bytes → ((i : ℕ) → at ≤ i → i < at + n → get_or bytes i 0 ≡ 0)
    → take n (drop at bytes) ≡ replicate n 0
part-zeros bytes at n fits zeros =
    let long : length (take n (drop at bytes)) ≡ n = length-take-le n (drop at bytes) (omega (arith, length-drop at bytes)) in
    ext_get_or 0 (take n (drop at bytes)) (replicate n 0) (long ∙ sym (length-replicate n 0)) (λ i less.
    get_or-take n (drop at bytes) i 0 (omega (arith, long)) ∙ get_or-drop at bytes i 0
    ∙ zeros (at + i) (omega arith) (omega (arith, long))
    ∙ sym (get_or-replicate n i 0 0 (omega (arith, long))))

-- One group.
module _ (start end : ℕ) (order : start ≤ end) (row : List ℕ) where
  -- Clearing a part of the row.
  pub cleared-part : (size : ℕ) (part : List ℕ) → end * 6 ≤ length row → size ≡ end * 6 - start * 6
      → part ≡ replicate (length (take size (drop (start * 6) row))) 0
      → take (start * 6) row ++ (part ++ drop size (drop (start * 6) row)) ≡ cleared_between start end row
  cleared-part size part fits is zeros =
      let long : length (take size (drop (start * 6) row)) ≡ (end - start) * 6 =
      length-take-le size (drop (start * 6) row) (omega (arith, length-drop (start * 6) row)) ∙ omega arith in
      let front : part ≡ replicate ((end - start) * 6) 0 = zeros ∙ ap (λ (k : ℕ). replicate k 0) long in
      let back : drop size (drop (start * 6) row) ≡ drop (end * 6) row =
      drop-drop size (start * 6) row ∙ ap (λ (k : ℕ). drop k row) (let e : start * 6 + size ≡ end * 6 = omega arith in e) in
      ap (λ (l : List ℕ). take (start * 6) row ++ (l ++ drop size (drop (start * 6) row))) front
      ∙ ap (λ (l : List ℕ). take (start * 6) row ++ (replicate ((end - start) * 6) 0 ++ l)) back

  -- Clearing zeros changes nothing.
  pub cleared-zeros : end * 6 ≤ length row → ZerosBetween start end row → row ≡ cleared_between start end row
  cleared-zeros fits zeros =
      let size = (end - start) * 6 in
      let part : take size (drop (start * 6) row) ≡ replicate size 0 =
      part-zeros row (start * 6) size (omega arith) (λ i low high. zeros i low (omega arith)) in
      let back : drop size (drop (start * 6) row) ≡ drop (end * 6) row =
      drop-drop size (start * 6) row ∙ ap (λ (k : ℕ). drop k row) (let e : start * 6 + size ≡ end * 6 = omega arith in e) in
      sym (take-append-drop (start * 6) row)
      ∙ ap (take (start * 6) row ++◌) (sym (take-append-drop size (drop (start * 6) row)))
      ∙ ap (λ (l : List ℕ). take (start * 6) row ++ (l ++ drop size (drop (start * 6) row))) part
      ∙ ap (λ (l : List ℕ). take (start * 6) row ++ (replicate size 0 ++ l)) back

-- What a group that is not marked leaves: no entries, and both rows and the marks unchanged.
pub unmarked : (pattern row start end n : ℕ) (a b marks out : List ℕ) → start ≤ end → end * 6 ≤ length a → end * 6 ≤ length b
    → get_or marks (start / 8) 0 ≡ 0 → ZerosBetween start end a → ZerosBetween start end b
    → (0 ≡ length (tracks_differences pattern row a b (start + 1) (end - start))) × (0 ≤ (end - start) * 6)
    × (out ≡ entries_listed (tracks_differences pattern row a b (start + 1) (end - start)) n out)
    × (a ≡ cleared_between start end a) × (b ≡ cleared_between start end b) × (marks ≡ set marks (start / 8) 0)
unmarked pattern row start end n a b marks out order fits fits' unset zeros zeros' =
    let none = tracks-none pattern row a b start end order (λ i low high. zeros i low high ∙ sym (zeros' i low high)) in (
      sym (ap length none),
      omega arith,
      sym (ap (λ (ds : List Difference). entries_listed ds n out) none),
      cleared-zeros start end order a fits zeros,
      cleared-zeros start end order b fits' zeros',
      sym (ap (set marks (start / 8)) (sym unset) ∙ set-get_or marks (start / 8) 0),
    )

-- Rows that are cleared up to a place: from there on they hold what they held before.
module _ (k : ℕ) (row₀ row : List ℕ) (is : row ≡ replicate k 0 ++ drop k row₀) where
  later-drop : (j : ℕ) → k ≤ j → drop j row ≡ drop j row₀
  later-drop j over =
      let sum : length {A = ℕ} (replicate k 0) + (j - k) ≡ j = omega (arith, length-replicate {A = ℕ} k 0) in
      let sum' : k + (j - k) ≡ j = omega arith in
      ap (drop j) is
      ∙ ap (λ (m : ℕ). drop m (replicate k 0 ++ drop k row₀)) (sym sum)
      ∙ drop-append-add (replicate k 0) (drop k row₀) (j - k)
      ∙ drop-drop (j - k) k row₀
      ∙ ap (λ (m : ℕ). drop m row₀) sum'

  later-byte : (i : ℕ) → k ≤ i → get_or row i 0 ≡ get_or row₀ i 0
  later-byte i over =
      let sum : i + 0 ≡ i = omega arith in
      ap (λ (m : ℕ). get_or row m 0) (sym sum) ∙ sym (get_or-drop i row 0 0) ∙ ap (λ (l : List ℕ). get_or l 0 0) (later-drop i over)
      ∙ get_or-drop i row₀ 0 0 ∙ ap (λ (m : ℕ). get_or row₀ m 0) sum

  front_long : k ≤ length row₀ → length row ≡ length row₀
  front_long fits =
      ap length is ∙ length-append (replicate k 0) (drop k row₀) ∙ omega (arith, length-replicate {A = ℕ} k 0, length-drop k row₀)

  front-zeros : take k row ≡ replicate k 0
  front-zeros = ap (take k) is ∙ take_at (replicate k 0) (drop k row₀) k (length-replicate k 0)

-- The same after the next group is cleared.
cleared-next : (start end : ℕ) (row₀ row : List ℕ) → start ≤ end → row ≡ replicate (start * 6) 0 ++ drop (start * 6) row₀
    → cleared_between start end row ≡ replicate (end * 6) 0 ++ drop (end * 6) row₀
cleared-next start end row₀ row order is =
    let more = (end - start) * 6 in
    let sum : start * 6 + more ≡ end * 6 = omega arith in
    ap (λ (l : List ℕ). l ++ (replicate more 0 ++ drop (end * 6) row)) (front-zeros (start * 6) row₀ row is)
    ∙ ap (λ (l : List ℕ). replicate (start * 6) 0 ++ (replicate more 0 ++ l)) (later-drop (start * 6) row₀ row is (end * 6) (omega arith))
    ∙ sym (append_assoc (replicate (start * 6) 0) (replicate more 0) (drop (end * 6) row₀))
    ∙ ap (λ (l : List ℕ). l ++ drop (end * 6) row₀)
    (replicate-append-replicate {A = ℕ} (start * 6) more 0 ∙ ap (λ (m : ℕ). replicate m 0) sum)

-- The loop over the groups: it is at a track that begins a group, both rows are cleared up to it, the marks from it on are as they were,
-- and the differences from it on are left.
pub record ListingGroups (a₀ b₀ marks₀ : List ℕ) (tracks pattern row n : ℕ) (out₀ a b marks out : List ℕ) (count start : ℕ) : Type 0 where
  pub inside : start ≤ tracks
  pub begins : start < tracks → start ≡ start / 8 * 8
  pub first-is : a ≡ replicate (start * 6) 0 ++ drop (start * 6) a₀
  pub second_is : b ≡ replicate (start * 6) 0 ++ drop (start * 6) b₀
  pub marks-long : length marks ≡ 32
  pub marks-kept : (group : ℕ) → start ≤ group * 8 → get_or marks group 0 ≡ get_or marks₀ group 0
  pub listing : Listing (tracks_differences pattern row a₀ b₀ 1 tracks) n out₀ out count
      (tracks_left pattern row a₀ b₀ tracks start)

next-group : (start : ℕ) → start ≡ start / 8 * 8 → start + 8 ≡ (start + 8) / 8 * 8
next-group start e = omega arith

-- No two groups begin at the same place.
other-group : (start end group : ℕ) → start ≡ start / 8 * 8 → start < end → end ≤ group * 8 → group ≡ start / 8 → ⊥
other-group start end group e less over same = omega arith

-- Two rows of zeros: no entries.
pub rows-zeros : (tracks pattern row n : ℕ) (a b out : List ℕ) → a ≡ replicate (tracks * 6) 0 → b ≡ replicate (tracks * 6) 0
    → (0 ≡ length (tracks_differences pattern row a b 1 tracks)) × (0 ≤ tracks * 6)
    × (out ≡ entries_listed (tracks_differences pattern row a b 1 tracks) n out)
    × (a ≡ replicate (tracks * 6) 0) × (b ≡ replicate (tracks * 6) 0)
rows-zeros tracks pattern row n a b out first second =
    let same : a ≡ b = first ∙ sym second in
    let all : tracks - 0 ≡ tracks = omega arith in
    let none : tracks_differences pattern row a b 1 tracks ≡ [] =
    ap (tracks_differences pattern row a b 1) (sym all)
    ∙ tracks-none pattern row a b 0 tracks (omega arith) (λ i low high. ap (λ (l : List ℕ). get_or l i 0) same) in
    (sym (ap length none), omega arith, sym (ap (λ (ds : List Difference). entries_listed ds n out) none), first, second)

module _ {a₀ b₀ marks₀ : List ℕ} {tracks pattern row n : ℕ} {out₀ : List ℕ} where
  pub groups-first : length marks₀ ≡ 32 → ListingGroups a₀ b₀ marks₀ tracks pattern row n out₀ a₀ b₀ marks₀ out₀ 0 0
  groups-first long =
      let whole : tracks - 0 ≡ tracks = omega arith in
      record {
        inside = omega arith;
        begins = λ some. refl;
        first-is = refl;
        second_is = refl;
        marks-long = long;
        marks-kept = λ group low. refl;
        listing = rw whole (listing-first (tracks_differences pattern row a₀ b₀ 1 tracks) n out₀);
      }

  module _ {a b marks out : List ℕ} {count start : ℕ}
      (state : ListingGroups a₀ b₀ marks₀ tracks pattern row n out₀ a b marks out count start) where
    pub groups-count : count ≤ tracks * 6
    groups-count = omega (arith, listing-length state.listing, tracks-most pattern row a₀ b₀ tracks 1)

    module _ (wide : length a₀ ≡ tracks * 6) (wide' : length b₀ ≡ tracks * 6) where
      pub groups-lengths : (length a ≡ length a₀) × (length b ≡ length b₀) × (length out ≡ length out₀)
      groups-lengths = (
        front_long (start * 6) a₀ a state.first-is (omega (arith, state.inside)),
        front_long (start * 6) b₀ b state.second_is (omega (arith, state.inside)),
        listing-kept state.listing,
      )

      pub groups-last : tracks ≤ start
          → (count ≡ length (tracks_differences pattern row a₀ b₀ 1 tracks))
          × (count ≤ tracks * 6)
          × (out ≡ entries_listed (tracks_differences pattern row a₀ b₀ 1 tracks) n out₀)
          × (a ≡ replicate (tracks * 6) 0)
          × (b ≡ replicate (tracks * 6) 0)
      groups-last over =
          let none_left : tracks - start ≡ 0 = omega arith in
          let same : start ≡ tracks = omega (arith, state.inside) in
          let ends = listing-last state.listing (joined-none (track_differences pattern row a₀ b₀) (tracks - start) (start + 1) none_left) in
          (ends.0, groups-count, ends.1, cleared a₀ a wide state.first-is same, cleared b₀ b wide' state.second_is same)
        where
          cleared : (line₀ line : List ℕ) → length line₀ ≡ tracks * 6 → line ≡ replicate (start * 6) 0 ++ drop (start * 6) line₀
              → start ≡ tracks → line ≡ replicate (tracks * 6) 0
          cleared line₀ line long is same =
              is ∙ ap (λ (l : List ℕ). replicate (start * 6) 0 ++ l) (drop_of_length-le line₀ {i = start * 6} (omega arith))
              ∙ append-nil (replicate (start * 6) 0) ∙ ap (λ (k : ℕ). replicate (k * 6) 0) same

    module _ (some : start < tracks) {end : ℕ} (end_is : end ≡ min (start + 8) tracks) where
      -- What is known of the next group.
      pub group-order : start ≤ end
      group-order = omega arith

      pub group-fits : length a₀ ≡ tracks * 6 → length b₀ ≡ tracks * 6 → (end * 6 ≤ length a) × (end * 6 ≤ length b)
      group-fits wide wide' = let lengths = groups-lengths wide wide' in (omega arith, omega arith)

      zeros-there : (line₀ line : List ℕ) → AllMarked marks₀ line₀ → line ≡ replicate (start * 6) 0 ++ drop (start * 6) line₀
          → get_or marks (start / 8) 0 ≡ 0 → ZerosBetween start end line
      zeros-there line₀ line marked is unset i low high =
          let begins = state.begins some in
          let mark : get_or marks₀ (start / 8) 0 ≡ 0 = sym (state.marks-kept (start / 8) (omega (arith, begins))) ∙ unset in
          later-byte (start * 6) line₀ line is i low
          ∙ marked (start / 8) mark i (omega (arith, begins)) (omega (arith, begins))

      pub group-zeros : AllMarked marks₀ a₀ → AllMarked marks₀ b₀ → get_or marks (start / 8) 0 ≡ 0
          → ZerosBetween start end a × ZerosBetween start end b
      group-zeros marked marked' unset = (zeros-there a₀ a marked state.first-is unset, zeros-there b₀ b marked' state.second_is unset)

      pub groups-turn : (a' b' marks' out' : List ℕ) (r : ℕ)
          → r ≡ length (tracks_differences pattern row a b (start + 1) (end - start))
          → out' ≡ entries_listed (tracks_differences pattern row a b (start + 1) (end - start)) (n + count) out
          → a' ≡ cleared_between start end a
          → b' ≡ cleared_between start end b
          → marks' ≡ set marks (start / 8) 0
          → ListingGroups a₀ b₀ marks₀ tracks pattern row n out₀ a' b' marks' out' (count + r) end
      groups-turn a' b' marks' out' r size wrote first second mark =
          let begins = state.begins some in
          let new = tracks_differences pattern row a b (start + 1) (end - start) in
          let old = tracks_differences pattern row a₀ b₀ (start + 1) (end - start) in
          let same : new ≡ old =
          tracks-alike pattern row a b a₀ b₀ (start + 1) (end - start)
          (λ t low high. ap (take 6) (later-drop (start * 6) a₀ a state.first-is ((t - 1) * 6) (omega arith)))
          (λ t low high. ap (take 6) (later-drop (start * 6) b₀ b state.second_is ((t - 1) * 6) (omega arith))) in
          let sum : tracks - start ≡ (end - start) + (tracks - end) = omega arith in
          let place : start + 1 + (end - start) ≡ end + 1 = omega arith in
          let splits : tracks_left pattern row a₀ b₀ tracks start ≡ new ++ tracks_left pattern row a₀ b₀ tracks end =
          ap (tracks_differences pattern row a₀ b₀ (start + 1)) sum
          ∙ joined-parts (track_differences pattern row a₀ b₀) (end - start) (tracks - end) (start + 1)
          ∙ ap (λ (k : ℕ). old ++ tracks_differences pattern row a₀ b₀ k (tracks - end)) place
          ∙ ap (λ (l : List Difference). l ++ tracks_left pattern row a₀ b₀ tracks end) (sym same) in
          record {
            inside = omega arith;
            begins = λ more.
                let eight : end ≡ start + 8 = omega arith in
                eight ∙ next-group start begins ∙ ap (λ (k : ℕ). k / 8 * 8) (sym eight);
            first-is = first ∙ cleared-next start end a₀ a group-order state.first-is;
            second_is = second ∙ cleared-next start end b₀ b group-order state.second_is;
            marks-long = ap length mark ∙ length-set marks (start / 8) 0 ∙ state.marks-long;
            marks-kept = λ group low.
                ap (λ (l : List ℕ). get_or l group 0) mark
                ∙ get_or-set_other marks (start / 8) group 0 0 (other-group start end group begins (omega arith) low)
                ∙ state.marks-kept group (omega arith);
            listing = listing-turn state.listing new (tracks_left pattern row a₀ b₀ tracks end) out' r splits size wrote;
          }
