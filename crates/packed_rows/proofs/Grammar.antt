-- The reader and the stream rules agree. A stream is read whole, as these entries, exactly if it is the given number of rows of them,
-- sound, with their row ends. It is refused at a place exactly if it is sound up to there and broken there. So a stream has one list of
-- entries or one place of its fault, and no accepted stream is a proper beginning of another.
use Prim.Native.Nat.{ℕ, zero, suc, ◌+◌, ◌-◌, ◌<◌}
use mathlib.Core.Path.{◌≡◌, refl, sym, ap, subst, ◌∙◌}
use mathlib.Core.Logic.{◌↔◌}
use mathlib.Core.List.{List, [], ◌∷◌, ◌++◌, map, append_assoc, append-nil}
use mathlib.Core.Bool.{true}
use native.Mathlib.Omega.{arith}
use native.Mathlib.Nat.{zero-add}
use lib.ListN.{length, length-append}
use Rattle.vocabulary.specs.Lists.{joined}
use Rattle.packed_rows.specs.Entries.{Entry, entry_bytes, sound_entry, row_stream, stream_of}
use Rattle.packed_rows.specs.Stream.{Reading, broken_at, whole, new_row, add_entry, reading, read_stream}
use Rattle.packed_rows.specs.Theorems.{every, all_sound, SoundStream, StreamFault, faulty_entry, left_over, row_ends_lack, StreamBroken}
use Rattle.packed_rows.proofs.Reading.{Neither, nothing-neither, and-true, true-and, front-entry, reading-end}
use Rattle.packed_rows.proofs.Reading.{reading-over, reading-row-end, reading-entry, reading-broken, along}

-- The bytes of entries.
abbrev run : List Entry → List ℕ
run es = joined (map entry_bytes es)

-- What a reading from a place says about the stream.
abbrev Says : ℕ → ℕ → ℕ → List ℕ → Reading → Type 0
Says tracks rows at s (broken_at p) = (q : ℕ) × (at + q ≡ p) × StreamBroken rows tracks s q
Says tracks rows at s (whole entries) = SoundStream rows tracks s entries

-- The sound bytes before a broken stream are part of the sound bytes before its fault.
module _ (tracks rows rows' q : ℕ) (head rest : List ℕ) (b : StreamBroken rows tracks rest q) where
  broken-after : (full : List (List Entry)) (unfinished : List Entry) → all_sound tracks full ≡ true
      → every (sound_entry tracks) unfinished ≡ true
      → stream_of full ++ run unfinished ≡ head ++ (stream_of b.full ++ run b.unfinished)
      → (length b.full < rows → length full < rows')
      → (length b.full ≡ rows → b.unfinished ≡ [] → (length full ≡ rows') × (unfinished ≡ []))
      → StreamBroken rows' tracks (head ++ rest) (length head + q)
  broken-after full unfinished s t grown less same = record {
    full = full;
    unfinished = unfinished;
    after = b.after;
    full_sound = s;
    unfinished_sound = t;
    splits = rw (grown, append_assoc) (ap (λ (l : List ℕ). head ++ l) b.splits);
    there = rw (grown, length-append) (ap (λ (n : ℕ). length head + n) b.there);
    why = elim b.why [
      | faulty_entry l some no_row_end no_entry ↦ faulty_entry (less l) some no_row_end no_entry
      | left_over l u some ↦ left_over (same l u).0 (same l u).1 some
      | row_ends_lack l none ↦ row_ends_lack (less l) none
    ];
  }

broken-row-end : (tracks rows q : ℕ) (rest : List ℕ) → StreamBroken rows tracks rest q → StreamBroken (suc rows) tracks (0 ∷ rest) (1 + q)
broken-row-end tracks rows q rest b =
    broken-after tracks rows (suc rows) q (0 ∷ []) rest b ([] ∷ b.full) b.unfinished b.full_sound b.unfinished_sound
    refl (λ l. omega arith) (λ l u. (ap suc l, u))

-- A sound entry before a first row of sound entries.
first-sound : (tracks : ℕ) (e : Entry) (es : List Entry) (rows : List (List Entry)) → sound_entry tracks e ≡ true
    → all_sound tracks (es ∷ rows) ≡ true
    → all_sound tracks ((e ∷ es) ∷ rows) ≡ true
first-sound tracks e es rows h s =
    let u = and-true (every (sound_entry tracks) es) (all_sound tracks rows) s in
    true-and (true-and h u.0) u.1

broken-entry : (tracks rows q : ℕ) (e : Entry) (rest : List ℕ) → sound_entry tracks e ≡ true
    → StreamBroken (suc rows) tracks rest q
    → StreamBroken (suc rows) tracks (entry_bytes e ++ rest) (length (entry_bytes e) + q)
broken-entry tracks rows q e rest h b = go b.full refl
  where
    go : (full : List (List Entry)) → b.full ≡ full → StreamBroken (suc rows) tracks (entry_bytes e ++ rest) (length (entry_bytes e) + q)
    go [] p =
        broken-after tracks (suc rows) (suc rows) q (entry_bytes e) rest b [] (e ∷ b.unfinished) refl
        (true-and h b.unfinished_sound) (rw p) (λ l. omega arith)
        (λ l u. absurd (omega (arith, rw p at l)))
    go (es ∷ full) p =
        broken-after tracks (suc rows) (suc rows) q (entry_bytes e) rest b ((e ∷ es) ∷ full) b.unfinished
        (first-sound tracks e es full h (rw p at b.full_sound)) b.unfinished_sound
        (rw p (simp append_assoc)) (λ l. rw p at l) (λ l u. (rw p at l, u))

-- Broken at its front.
broken-here : (tracks rows : ℕ) (s : List ℕ) → StreamFault rows tracks [] [] s → StreamBroken rows tracks s 0
broken-here tracks rows s why = record {
  full = [];
  unfinished = [];
  after = s;
  full_sound = refl;
  unfinished_sound = refl;
  splits = refl;
  there = refl;
  why = why;
}

some-follow : (b : ℕ) (s : List ℕ) → b ∷ s ≡ [] → ⊥
some-follow b s e = let z : ◌≡◌ {A = ℕ} 0 1 = cc in omega arith

neither-here : (tracks rows : ℕ) (s : List ℕ) → Neither tracks s → StreamFault (suc rows) tracks [] [] s
neither-here tracks rows [] n = row_ends_lack (omega arith) refl
neither-here tracks rows (b ∷ s) n = faulty_entry (omega arith) (some-follow b s) n.0 n.1

-- What a reading says about the stream holds.
reported : (tracks rows at : ℕ) (s : List ℕ) → Says tracks rows at s (reading tracks rows at s)
reported tracks =
    along tracks (Says tracks) (λ at. record { count = refl; sound = refl; bytes = refl })
    (λ at b s. (0, omega arith, broken-here tracks 0 (b ∷ s) (left_over refl refl (some-follow b s))))
    (λ rows at s n. (0, omega arith, broken-here tracks (suc rows) s (neither-here tracks rows s n)))
    row-end-says entry-says
  where
    row-end-says : (rows at : ℕ) (rest : List ℕ) (r : Reading) → Says tracks rows (at + 1) rest r → Says tracks (suc rows) at (0 ∷ rest) (new_row r)
    row-end-says rows at rest (broken_at p) t = (1 + t.0, omega arith, broken-row-end tracks rows t.0 rest t.2)
    row-end-says rows at rest (whole es) t = record { count = ap suc t.count; sound = t.sound; bytes = ap (λ (l : List ℕ). 0 ∷ l) t.bytes }

    entry-says : (rows at : ℕ) (e : Entry) (rest : List ℕ) (r : Reading) → sound_entry tracks e ≡ true
        → Says tracks (suc rows) (at + length (entry_bytes e)) rest r
        → Says tracks (suc rows) at (entry_bytes e ++ rest) (add_entry e r)
    entry-says rows at e rest (broken_at p) h t = (length (entry_bytes e) + t.0, omega arith, broken-entry tracks rows t.0 e rest h t.2)
    entry-says rows at e rest (whole []) h t = absurd (omega (arith, t.count))
    entry-says rows at e rest (whole (es ∷ rows')) h t =
        record { count = t.count; sound = first-sound tracks e es rows' h t.sound; bytes = rw t.bytes (simp append_assoc) }

-- A reading with entries, and with rows of entries, before it.
add_entries : List Entry → Reading → Reading
add_entries [] r = r
add_entries (e ∷ es) r = add_entry e (add_entries es r)

add_rows : List (List Entry) → Reading → Reading
add_rows [] r = r
add_rows (es ∷ rows) r = add_entries es (new_row (add_rows rows r))

entries-broken : (es : List Entry) (p : ℕ) → add_entries es (broken_at p) ≡ broken_at p
unfolding add_entries
entries-broken [] p = refl
entries-broken (e ∷ es) p = rw (entries-broken es p)

rows-broken : (rows : List (List Entry)) (p : ℕ) → add_rows rows (broken_at p) ≡ broken_at p
unfolding add_rows
rows-broken [] p = refl
rows-broken (es ∷ rows) p = rw (rows-broken rows p) (entries-broken es p)

entries-whole : (es : List Entry) (rows : List (List Entry)) → add_entries es (whole ([] ∷ rows)) ≡ whole (es ∷ rows)
unfolding add_entries
entries-whole [] rows = refl
entries-whole (e ∷ es) rows = rw (entries-whole es rows)

rows_whole : (rows : List (List Entry)) → add_rows rows (whole []) ≡ whole rows
unfolding add_rows
rows_whole [] = refl
rows_whole (es ∷ rows) = rw (rows_whole rows) (entries-whole es rows)

-- Reading sound entries, and rows of them, gives them before the reading of the rest.
past-entries : (tracks rows at to : ℕ) (es : List Entry) (s : List ℕ) → every (sound_entry tracks) es ≡ true
    → at + length (run es) ≡ to
    → reading tracks (suc rows) at (run es ++ s) ≡ add_entries es (reading tracks (suc rows) to s)
unfolding add_entries
past-entries tracks rows at to [] s h p = let q : at ≡ to = omega arith in rw q
past-entries tracks rows at to (e ∷ es) s h p =
    let u = and-true (sound_entry tracks e) (every (sound_entry tracks) es) h in
    let ih = past-entries tracks rows (at + length (entry_bytes e)) to es s u.1 (omega (arith, length-append (entry_bytes e) (run es))) in
    rw append_assoc (reading-entry tracks rows at _ e _ (front-entry tracks e (run es ++ s) u.0) ∙ ap (add_entry e) ih)

past-rows : (tracks left rows at to : ℕ) (full : List (List Entry)) (s : List ℕ) → all_sound tracks full ≡ true
    → length full + left ≡ rows → at + length (stream_of full) ≡ to
    → reading tracks rows at (stream_of full ++ s) ≡ add_rows full (reading tracks left to s)
unfolding add_rows
past-rows tracks left rows at to [] s h n p = let q : at ≡ to = omega arith in let m : left ≡ rows = omega arith in rw (q, m)
past-rows tracks left zero at to (es ∷ full) s h n p = absurd (omega arith)
past-rows tracks left (suc rows) at to (es ∷ full) s h n p =
    let u = and-true (every (sound_entry tracks) es) (all_sound tracks full) h in
    let mid : ℕ = at + length (run es) in
    let ih = past-rows tracks left rows (mid + 1) to full s u.1 (omega arith)
    (omega (arith, length-append (row_stream es) (stream_of full), length-append (run es) (0 ∷ []))) in
    simp append_assoc (past-entries tracks rows at mid es (0 ∷ (stream_of full ++ s)) u.0 refl
    ∙ ap (add_entries es) (reading-row-end tracks rows mid _ (stream_of full ++ s) refl ∙ ap new_row ih))

-- A fault after sound rows is the fault of the whole stream.
past-fault : (tracks left rows at p : ℕ) (full : List (List Entry)) (s : List ℕ) → all_sound tracks full ≡ true
    → length full + left ≡ rows → reading tracks left (at + length (stream_of full)) s ≡ broken_at p
    → reading tracks rows at (stream_of full ++ s) ≡ broken_at p
past-fault tracks left rows at p full s h n e = past-rows tracks left rows at _ full s h n refl ∙ ap (add_rows full) e ∙ rows-broken full p

-- Bytes left over after the last row.
reading-left : (tracks at : ℕ) (s : List ℕ) → (s ≡ [] → ⊥) → reading tracks 0 at s ≡ broken_at at
reading-left tracks at [] h = absurd (h refl)
reading-left tracks at (b ∷ s) h = reading-over tracks at b s

-- A reading from any place is whole exactly if the stream is rows of sound entries with their row ends.
pub reads-from : (rows tracks at : ℕ) (stream : List ℕ) (entries : List (List Entry))
    → (reading tracks rows at stream ≡ whole entries) ↔ SoundStream rows tracks stream entries
reads-from rows tracks at stream entries = (λ e. subst (Says tracks rows at stream) e (reported tracks rows at stream), back)
  where
    back : SoundStream rows tracks stream entries → reading tracks rows at stream ≡ whole entries
    back h =
        rw (h.bytes ∙ sym (append-nil (stream_of entries)))
        (past-rows tracks 0 rows at _ entries [] h.sound (omega (arith, h.count)) refl ∙ ap (add_rows entries) (reading-end tracks _) ∙ rows_whole entries)

pub reads-exactly : (rows tracks : ℕ) (stream : List ℕ) (entries : List (List Entry))
    → (read_stream rows tracks stream ≡ whole entries) ↔ SoundStream rows tracks stream entries
reads-exactly rows tracks = reads-from rows tracks 0

pub reads-one : (rows tracks : ℕ) (stream : List ℕ) (entries entries' : List (List Entry))
    → SoundStream rows tracks stream entries → SoundStream rows tracks stream entries'
    → entries ≡ entries'
reads-one rows tracks stream entries entries' h h' = cc ((reads-exactly rows tracks stream entries).1 h, (reads-exactly rows tracks stream entries').1 h')

-- A reading from any place is refused p bytes further on exactly if the stream is broken at p.
pub refused-from : (rows tracks at : ℕ) (stream : List ℕ) (p : ℕ) → (reading tracks rows at stream ≡ broken_at (at + p)) ↔ StreamBroken rows tracks stream p
refused-from rows tracks at stream p = (forth, back)
  where
    forth : reading tracks rows at stream ≡ broken_at (at + p) → StreamBroken rows tracks stream p
    forth e =
        let t : Says tracks rows at stream (broken_at (at + p)) = subst (Says tracks rows at stream) e (reported tracks rows at stream) in
        let q : t.0 ≡ p = omega arith in
        rw q at t.2

    back : StreamBroken rows tracks stream p → reading tracks rows at stream ≡ broken_at (at + p)
    back b =
        rw (b.splits ∙ append_assoc (stream_of b.full) (run b.unfinished) b.after)
        (elim b.why [
          | faulty_entry l some no_row_end no_entry ↦ rows_left l (no_row_end, no_entry)
          | left_over l u some ↦
              past-fault tracks 0 rows at (at + p) b.full (run b.unfinished ++ b.after) b.full_sound (omega (arith, l))
              (let here : to ≡ at + p = omega (arith, rw u at far) in rw (u, here) (reading-left tracks (at + p) b.after some))
          | row_ends_lack l none ↦ rows_left l (rw none (nothing-neither tracks [] refl))
        ])
      where
        to : ℕ
        to = at + length (stream_of b.full)

        far : to + length (run b.unfinished) ≡ at + p
        far = omega (arith, length-append (stream_of b.full) (run b.unfinished), b.there)

        -- Rows are left, and neither a row end nor a sound entry follows.
        rows_left : length b.full < rows → Neither tracks b.after
            → reading tracks rows at (stream_of b.full ++ (run b.unfinished ++ b.after)) ≡ broken_at (at + p)
        rows_left l n =
            let k : ℕ = rows - suc (length b.full) in
            past-fault tracks (suc k) rows at (at + p) b.full (run b.unfinished ++ b.after) b.full_sound (omega (arith, l))
            (past-entries tracks k to (at + p) b.unfinished b.after b.unfinished_sound far
            ∙ ap (add_entries b.unfinished) (reading-broken tracks k (at + p) b.after n)
            ∙ entries-broken b.unfinished (at + p))

pub refused-exactly : (rows tracks : ℕ) (stream : List ℕ) (p : ℕ) → (read_stream rows tracks stream ≡ broken_at p) ↔ StreamBroken rows tracks stream p
refused-exactly rows tracks stream p = rw zero-add at (refused-from rows tracks 0 stream p)

pub one_place : (rows tracks : ℕ) (stream : List ℕ) (p p' : ℕ) → StreamBroken rows tracks stream p → StreamBroken rows tracks stream p' → p ≡ p'
one_place rows tracks stream p p' h h' = cc ((refused-exactly rows tracks stream p).1 h, (refused-exactly rows tracks stream p').1 h')

pub no-proper-beginning : (rows tracks : ℕ) (a b : List ℕ) (es es' : List (List Entry)) → read_stream rows tracks a ≡ whole es
    → read_stream rows tracks (a ++ b) ≡ whole es'
    → b ≡ []
no-proper-beginning rows tracks a [] es es' h h' = refl
no-proper-beginning rows tracks a (x ∷ b) es es' h h' =
    let s = (reads-exactly rows tracks a es).0 h in
    let broken : read_stream rows tracks (a ++ (x ∷ b)) ≡ broken_at (0 + length (stream_of es)) =
    rw s.bytes
    (past-fault tracks 0 rows 0 _ es (x ∷ b) s.sound (omega (arith, s.count)) (reading-over tracks _ x b)) in
    let z : ◌≡◌ {A = ℕ} 0 1 = cc in
    absurd (omega arith)
