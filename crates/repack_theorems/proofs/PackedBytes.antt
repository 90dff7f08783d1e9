-- The packer's stream consists of bytes if the stream that it was read from does: every field of a cell is 0 or was stored by an entry of
-- that stream, tracks are at most 254 and masks are below 64.
use Prim.Native.Nat.{ℕ, ◌+◌, ◌-◌, ◌<◌, ◌≤◌}
use Rattle.std.specs.Prelude.{Ok}
use mathlib.Core.Path.{◌≡◌}
use mathlib.Core.Logic.{◌↔◌}
use mathlib.Core.List.{List, [], ◌∷◌, map}
use mathlib.Core.Bool.{Bool, true, false, cond}
use native.Mathlib.Omega.{arith}
use lib.ListN.{length, get_or, drop}
use lib.Dec.{eqb}
use Rattle.vocabulary.specs.Lists.{joined, Every, none, also}
use Rattle.vocabulary.proofs.EveryOne.{every_first, every_rest, every_of}
use Rattle.vocabulary.proofs.MappedLists.{every_map}
use Rattle.cells.specs.Cells.{Cell, Row, empty_cell, non_zeros}
use Rattle.numbers.specs.Numbers.{Bytes}
use Rattle.numbers.proofs.AllBytes.{bytes-get_or, bytes-nil, bytes-cons, bytes-first, bytes_rest, bytes-append, bytes-front}
use Rattle.numbers.proofs.AllBytes.{bytes_drop, bytes-joined, bytes-replicate}
use Rattle.packed_rows.specs.Entries.{Entry, named, entry_bytes, store, carry_out, carry_all, row_from, rows_from, row_stream, stream_of}
use Rattle.packed_rows.specs.Stream.{read_stream, entries_read}
use Rattle.packed_rows.specs.Packer.{packed_entry, packed_entries, packed_stream}
use Rattle.packed_rows.specs.Answers.{check_answer}
use Rattle.packed_rows.proofs.Sizes.{sizes}
use Rattle.packed_rows.proofs.Shapes.{Each, none as no_cell, one as one_Cell, Blocks, each_set, each-get_or, each-replicate, row-from-shaped}
use Rattle.packed_rows.proofs.PackedRow.{Packs, done, written, passed, packs}
use Rattle.packed_rows.proofs.Soundness.{packed-mask}
use Rattle.packed_rows.proofs.Accepted.{accepted-stream}
use Rattle.acceptance.proofs.BlockStreams.{accepted-sizes, holds}

-- A stream consists of bytes exactly if its entries do.
abbrev pub EntriesBytes : List Entry → Type 0
EntriesBytes es = Every (λ e. Bytes (entry_bytes e)) es

row-stream-bytes : (es : List Entry) → EntriesBytes es ↔ Bytes (row_stream es)
row-stream-bytes es = (
  λ e. bytes-append (joined (map entry_bytes es)) (0 ∷ []) ((bytes-joined (map entry_bytes es)).0 ((every_map entry_bytes es).1 e)) (bytes-replicate 1),
  λ h. (every_map entry_bytes es).0 ((bytes-joined (map entry_bytes es)).1 (bytes-front (joined (map entry_bytes es)) (0 ∷ []) h)),
)

pub stream-bytes : (rows : List (List Entry)) → Every EntriesBytes rows ↔ Bytes (stream_of rows)
stream-bytes rows = (
  λ e. (bytes-joined (map row_stream rows)).0 ((every_map row_stream rows).1 (every_of (λ es. (row-stream-bytes es).0) e)),
  λ h. every_of (λ es. (row-stream-bytes es).1) ((every_map row_stream rows).0 ((bytes-joined (map row_stream rows)).1 h)),
)

-- Entries of bytes leave bytes in the cells.
store_bytes : (ns : List Bool) (values : List ℕ) (cell : Cell) → Bytes values → Bytes cell → Bytes (store ns values cell)
store_bytes [] values cell v c = c
store_bytes (n ∷ ns) values [] v c = bytes-nil
store_bytes (true ∷ ns) values (f ∷ cell) v c =
    bytes-cons (get_or values 0 0) (store ns (drop 1 values) cell) (bytes-get_or values 0 v)
    (store_bytes ns (drop 1 values) cell (bytes_drop 1 values v) (bytes_rest f cell c))
store_bytes (false ∷ ns) values (f ∷ cell) v c = bytes-cons f (store ns values cell) (bytes-first f cell c) (store_bytes ns values cell v (bytes_rest f cell c))

carry-bytes : {n : ℕ} (es : List Entry) (row : Row) → EntriesBytes es → Each Bytes n row → Each Bytes n (carry_all es row)
carry-bytes [] row h b = b
carry-bytes (e ∷ es) row h b =
    let fields : Bytes e.fields = bytes_rest e.mask e.fields (bytes_rest e.track (e.mask ∷ e.fields) (every_first h)) in
    let old : Cell = get_or row (e.track - 1) empty_cell in
    let stored : Bytes (store (named e.mask) e.fields old) =
    store_bytes (named e.mask) e.fields old fields (each-get_or (e.track - 1) empty_cell (bytes-replicate 6) b) in
    carry-bytes es (carry_out e row) (every_rest h) (each_set (e.track - 1) _ stored b)

row-from-bytes : (tracks : ℕ) (es : List Entry) → EntriesBytes es → Each Bytes tracks (row_from tracks es)
row-from-bytes tracks es h = carry-bytes es _ h (each-replicate tracks empty_cell (bytes-replicate 6))

-- The packer's entries for such cells consist of bytes.
non-zeros-bytes : (fs : List ℕ) → Bytes fs → Bytes (non_zeros fs)
non-zeros-bytes [] h = bytes-nil
non-zeros-bytes (f ∷ fs) h = go (eqb f 0) (non-zeros-bytes fs (bytes_rest f fs h))
  where
    go : (b : Bool) → Bytes (non_zeros fs) → Bytes (cond b (non_zeros fs) (f ∷ non_zeros fs))
    go true ih = ih
    go false ih = bytes-cons f (non_zeros fs) (bytes-first f fs h) ih

packed-entry-bytes : (track : ℕ) (cell : Cell) → track < 256 → length cell ≡ 6 → Bytes cell → Bytes (entry_bytes (packed_entry track cell))
packed-entry-bytes track cell high l c =
    let e = packed_entry track cell in
    bytes-cons track (e.mask ∷ e.fields) high (bytes-cons e.mask e.fields (omega (arith, packed-mask track cell l)) (non-zeros-bytes cell c))

entries-bytes : {track n : ℕ} {row : Row} {es : List Entry} → Packs track row es → Blocks n 6 row → Each Bytes n row
    → track + n ≤ 256
    → EntriesBytes es
entries-bytes done no_cell no_cell fits = none
entries-bytes (written {track = track} {cell = cell} q p) (one_Cell l b) (one_Cell c cs) fits =
    also (packed-entry-bytes track cell (omega arith) l c) (entries-bytes p b cs (omega arith))
entries-bytes (passed q p) (one_Cell l b) (one_Cell c cs) fits = entries-bytes p b cs (omega arith)

pub repacked-bytes : (tracks : ℕ) → tracks ≤ 254 → (entries : List (List Entry)) → Every EntriesBytes entries
    → Every EntriesBytes (map packed_entries (rows_from tracks entries))
repacked-bytes tracks few entries h =
    (every_map packed_entries (rows_from tracks entries)).1
    ((every_map (row_from tracks) entries).1
    (every_of (λ es e. entries-bytes (packs 1 (row_from tracks es)) (row-from-shaped tracks es) (row-from-bytes tracks es e) (omega arith)) h))

-- The packer's stream of an accepted stream of bytes consists of bytes.
pub packed-bytes : (rows tracks : ℕ) (stream : List ℕ) → check_answer stream rows tracks ≡ Ok tt → Bytes stream
    → Bytes (packed_stream (rows_from tracks (entries_read (read_stream rows tracks stream))))
packed-bytes rows tracks stream ok h =
    let accepted = holds stream rows tracks ok in
    let few : tracks ≤ 254 = (sizes rows tracks (accepted-sizes stream rows tracks ok)).few-tracks in
    let entries = (stream-bytes accepted.entries).1 (rw (accepted-stream accepted).bytes at h) in
    rw accepted.read ((stream-bytes _).0 (repacked-bytes tracks few accepted.entries entries))
