-- The front of a stream, in both directions: a front that was found is there, and one that is there is found. The laws of `reading`,
-- without its bound on the steps, and induction over a reading.
use Prim.Native.Nat.{ℕ, zero, suc, ◌+◌, ◌≤◌, ◌<◌}
use mathlib.Core.Path.{◌≡◌, refl, sym, ap, subst, ◌∙◌}
use mathlib.Core.List.{List, [], ◌∷◌, ◌++◌}
use mathlib.Core.Bool.{Bool, true, false, cond, ◌&&◌}
use native.Mathlib.Omega.{arith}
use lib.ListN.{length, take, drop, length-append, take-append-drop}
use lib.Dec.{eqb, leb}
use lib.Seq.{length-take-le, take_at, drop_at}
use borrow.Author.Tests.{leb-true, eqb-true, eqb-false, le-leb, eq-eqb, ne_eqb}
use Rattle.packed_rows.specs.Entries.{Entry, fields_named, entry_bytes, sound_entry}
use Rattle.packed_rows.specs.Stream.{Front, nothing, row_end, entry, fault, front_entry, front, Reading, broken_at, whole}
use Rattle.packed_rows.specs.Stream.{new_row, add_entry, read_on, read_from, reading}

pub and-true : (a b : Bool) → a && b ≡ true → (a ≡ true) × (b ≡ true)
and-true true b h = (refl, h)
and-true false b h = let z : ◌≡◌ {A = ℕ} 0 1 = cc in absurd (omega arith)

pub true-and : {a b : Bool} → a ≡ true → b ≡ true → a && b ≡ true
true-and p q = rw (p, q)

-- What a front says about the stream.
abbrev pub FrontSays : ℕ → List ℕ → Front → Type 0
FrontSays tracks s nothing = s ≡ []
FrontSays tracks s (row_end rest) = s ≡ 0 ∷ rest
FrontSays tracks s (entry e rest) = (sound_entry tracks e ≡ true) × (s ≡ entry_bytes e ++ rest)
FrontSays tracks s fault = Unit {0}

front_entry-says : (tracks b : ℕ) (s : List ℕ) → 1 ≤ b → FrontSays tracks (b ∷ s) (front_entry tracks b s)
front_entry-says tracks b [] h = tt
front_entry-says tracks b (mask ∷ s) h = go (leb b tracks && leb (fields_named mask) (length s)) refl
  where
    n : ℕ
    n = fields_named mask

    go : (t : Bool) → leb b tracks && leb n (length s) ≡ t
        → FrontSays tracks (b ∷ mask ∷ s) (cond t (entry (record { track = b; mask = mask; fields = take n s }) (drop n s)) fault)
    go false e = tt
    go true e =
        let u = and-true (leb b tracks) (leb n (length s)) e in
        let l = eq-eqb (length (take n s)) n (length-take-le n s (leb-true n (length s) u.1)) in
        (true-and (le-leb 1 b h) (true-and u.0 l), simp take-append-drop)

pub front-says : (tracks : ℕ) (s : List ℕ) → FrontSays tracks s (front tracks s)
front-says tracks [] = refl
front-says tracks (b ∷ s) = go (eqb b 0) refl
  where
    go : (t : Bool) → eqb b 0 ≡ t → FrontSays tracks (b ∷ s) (cond t (row_end s) (front_entry tracks b s))
    go true e = rw (eqb-true b 0 e)
    go false e = let ne : b ≡ 0 → ⊥ = eqb-false b 0 e in front_entry-says tracks b s (omega arith)

-- A front that was found is there.
pub front-of : (tracks : ℕ) (s : List ℕ) {f : Front} → front tracks s ≡ f → FrontSays tracks s f
front-of tracks s e = subst (FrontSays tracks s) e (front-says tracks s)

pub row-end-length : (tracks : ℕ) (s rest : List ℕ) → front tracks s ≡ row_end rest → length s ≡ suc (length rest)
row-end-length tracks s rest e = ap length (front-of tracks s e)

pub entry-length : (tracks : ℕ) (s rest : List ℕ) (e : Entry) → front tracks s ≡ entry e rest → length s ≡ length (entry_bytes e) + length rest
entry-length tracks s rest e p = rw (front-of tracks s p).1 (length-append (entry_bytes e) rest)

-- A front that is there is found.
pub front-row-end : (tracks : ℕ) (rest : List ℕ) → front tracks (0 ∷ rest) ≡ row_end rest
front-row-end tracks rest = refl

pub front-entry : (tracks : ℕ) (e : Entry) (rest : List ℕ) → sound_entry tracks e ≡ true → front tracks (entry_bytes e ++ rest) ≡ entry e rest
front-entry tracks e rest h =
    let u = and-true (leb 1 e.track) (leb e.track tracks && eqb (length e.fields) n) h in
    let v = and-true (leb e.track tracks) (eqb (length e.fields) n) u.1 in
    let l : length e.fields ≡ n = eqb-true (length e.fields) n v.1 in
    let some : 1 ≤ e.track = leb-true 1 e.track u.0 in
    simp (
      ne_eqb e.track 0 (omega arith),
      true-and v.0 (le-leb n (length (e.fields ++ rest)) (simp length-append (omega arith))),
      take_at e.fields rest n l,
      drop_at e.fields rest n l,
    )
  where
    n : ℕ
    n = fields_named e.mask

-- The rest of a reading depends only on streams shorter than this one.
go_on-same : (tracks at : ℕ) (s : List ℕ) (f f' : List ℕ → Reading) (g g' : Entry → List ℕ → Reading)
    → ((rest : List ℕ) → length rest < length s → f rest ≡ f' rest)
    → ((e : Entry) (rest : List ℕ) → length rest < length s → g e rest ≡ g' e rest)
    → read_on (front tracks s) at f g ≡ read_on (front tracks s) at f' g'
go_on-same tracks at s f f' g g' p q = go (front tracks s) refl
  where
    go : (x : Front) → front tracks s ≡ x → read_on x at f g ≡ read_on x at f' g'
    go nothing e = refl
    go (row_end rest) e = p rest (omega (arith, row-end-length tracks s rest e))
    go (entry en rest) e = q en rest (omega (arith, entry-length tracks s rest en e))
    go fault e = refl

-- As many steps as there are bytes are enough; more steps change nothing.
pub steps-enough : (k k' tracks rows at : ℕ) (s : List ℕ) → length s < k → length s < k' → read_from k tracks rows at s ≡ read_from k' tracks rows at s
unfolding read_from
steps-enough zero k' tracks rows at s h h' = absurd (omega arith)
steps-enough (suc k) zero tracks rows at s h h' = absurd (omega arith)
steps-enough (suc k) (suc k') tracks zero at [] h h' = refl
steps-enough (suc k) (suc k') tracks zero at (b ∷ s) h h' = refl
steps-enough (suc k) (suc k') tracks (suc rows) at s h h' =
    go_on-same tracks at s _ _ _ _
    (λ rest l. ap new_row (steps-enough k k' tracks rows (at + 1) rest (omega arith) (omega arith)))
    (λ e rest l. ap (add_entry e) (steps-enough k k' tracks (suc rows) (at + length (entry_bytes e)) rest (omega arith) (omega arith)))

pub reading-end : (tracks at : ℕ) → reading tracks 0 at [] ≡ whole []
unfolding reading read_from
reading-end tracks at = refl

pub reading-over : (tracks at b : ℕ) (s : List ℕ) → reading tracks 0 at (b ∷ s) ≡ broken_at at
unfolding reading read_from
reading-over tracks at b s = refl

pub reading-next : (tracks rows at : ℕ) (s : List ℕ)
    → reading tracks (suc rows) at s
    ≡ read_on (front tracks s) at (λ rest. new_row (reading tracks rows (at + 1) rest))
    (λ e rest. add_entry e (reading tracks (suc rows) (at + length (entry_bytes e)) rest))
unfolding reading read_from
reading-next tracks rows at s =
    go_on-same tracks at s _ _ _ _
    (λ rest l. ap new_row (steps-enough (length s) (suc (length rest)) tracks rows (at + 1) rest l (omega arith)))
    (λ e rest l. ap (add_entry e) (steps-enough (length s) (suc (length rest)) tracks (suc rows) (at + length (entry_bytes e)) rest l (omega arith)))

-- The same, by the front.
module _ (tracks rows at : ℕ) (s : List ℕ) where
  pub reading-nothing : front tracks s ≡ nothing → reading tracks (suc rows) at s ≡ broken_at at
  reading-nothing e = rw (reading-next, e)

  pub reading-fault : front tracks s ≡ fault → reading tracks (suc rows) at s ≡ broken_at at
  reading-fault e = rw (reading-next, e)

  pub reading-row-end : (rest : List ℕ) → front tracks s ≡ row_end rest → reading tracks (suc rows) at s ≡ new_row (reading tracks rows (at + 1) rest)
  reading-row-end rest e = rw (reading-next, e)

  pub reading-entry : (e : Entry) (rest : List ℕ) → front tracks s ≡ entry e rest
      → reading tracks (suc rows) at s ≡ add_entry e (reading tracks (suc rows) (at + length (entry_bytes e)) rest)
  reading-entry e rest p = rw (reading-next tracks rows at s, p)

-- The front is neither a row end nor a sound entry.
abbrev pub Neither : ℕ → List ℕ → Type 0
Neither tracks s = ((rest : List ℕ) → s ≡ 0 ∷ rest → ⊥) × ((e : Entry) (rest : List ℕ) → sound_entry tracks e ≡ true → s ≡ entry_bytes e ++ rest → ⊥)

front-neither : (tracks : ℕ) (s : List ℕ) (f : Front) → ((rest : List ℕ) → f ≡ row_end rest → ◌≡◌ {A = ℕ} 0 1)
    → ((e : Entry) (rest : List ℕ) → f ≡ entry e rest → ◌≡◌ {A = ℕ} 0 1) → front tracks s ≡ f
    → Neither tracks s
front-neither tracks s f p q h = (
  λ rest e. omega (arith, p rest (sym h ∙ rw e (front-row-end tracks rest))),
  λ en rest sound e. omega (arith, q en rest (sym h ∙ rw e (front-entry tracks en rest sound))),
)

pub nothing-neither : (tracks : ℕ) (s : List ℕ) → front tracks s ≡ nothing → Neither tracks s
nothing-neither tracks s = front-neither tracks s nothing (λ rest e. cc) (λ en rest e. cc)

pub fault-neither : (tracks : ℕ) (s : List ℕ) → front tracks s ≡ fault → Neither tracks s
fault-neither tracks s = front-neither tracks s fault (λ rest e. cc) (λ en rest e. cc)

pub reading-broken : (tracks rows at : ℕ) (s : List ℕ) → Neither tracks s → reading tracks (suc rows) at s ≡ broken_at at
reading-broken tracks rows at s n = go (front tracks s) refl
  where
    go : (f : Front) → front tracks s ≡ f → reading tracks (suc rows) at s ≡ broken_at at
    go nothing e = reading-nothing tracks rows at s e
    go (row_end rest) e = absurd (n.0 rest (front-of tracks s e))
    go (entry en rest) e = absurd (n.1 en rest (front-of tracks s e).0 (front-of tracks s e).1)
    go fault e = reading-fault tracks rows at s e

-- Induction over a reading: a property that holds where it ends, and for a row end or an entry before a reading that has it, holds for
-- every reading.
module _ (tracks : ℕ) (P : ℕ → ℕ → List ℕ → Reading → Type 0) (ends : (at : ℕ) → P 0 at [] (whole []))
    (leaves : (at b : ℕ) (s : List ℕ) → P 0 at (b ∷ s) (broken_at at))
    (breaks : (rows at : ℕ) (s : List ℕ) → Neither tracks s → P (suc rows) at s (broken_at at))
    (ends-row : (rows at : ℕ) (rest : List ℕ) (r : Reading) → P rows (at + 1) rest r → P (suc rows) at (0 ∷ rest) (new_row r))
    (takes : (rows at : ℕ) (e : Entry) (rest : List ℕ) (r : Reading) → sound_entry tracks e ≡ true
    → P (suc rows) (at + length (entry_bytes e)) rest r
    → P (suc rows) at (entry_bytes e ++ rest) (add_entry e r)) where
  along-steps : (k rows at : ℕ) (s : List ℕ) → length s < k → P rows at s (read_from k tracks rows at s)
  unfolding read_from
  along-steps zero rows at s h = absurd (omega arith)
  along-steps (suc k) zero at [] h = ends at
  along-steps (suc k) zero at (b ∷ s) h = leaves at b s
  along-steps (suc k) (suc rows) at s h = go (front tracks s) refl (along-steps k)
    where
      go : (f : Front) → front tracks s ≡ f
          → ((rows at : ℕ) (s : List ℕ) → length s < k → P rows at s (read_from k tracks rows at s))
          → P (suc rows) at s (read_on f at (λ rest. new_row (read_from k tracks rows (at + 1) rest))
          (λ e rest. add_entry e (read_from k tracks (suc rows) (at + length (entry_bytes e)) rest)))
      go nothing e ih = breaks rows at s (nothing-neither tracks s e)
      go (row_end rest) e ih =
          rw (front-of tracks s e) (ends-row rows at rest _ (ih rows (at + 1) rest (omega (arith, row-end-length tracks s rest e))))
      go (entry en rest) e ih =
          rw (front-of tracks s e).1
          (takes rows at en rest _ (front-of tracks s e).0 (ih (suc rows) (at + length (entry_bytes en)) rest (omega (arith, entry-length tracks s rest en e))))
      go fault e ih = breaks rows at s (fault-neither tracks s e)

  pub along : (rows at : ℕ) (s : List ℕ) → P rows at s (reading tracks rows at s)
  unfolding reading
  along rows at s = along-steps (suc (length s)) rows at s (omega arith)
