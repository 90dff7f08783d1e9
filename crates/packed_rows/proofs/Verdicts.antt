-- The answers of the check and of packing, by the reading and the packed length.
use Prim.Native.Nat.{ℕ}
use Rattle.std.specs.Prelude.{Result, Ok, Err}
use mathlib.Core.Logic.{◌↔◌}
use mathlib.Core.Path.{◌≡◌, sym, ap, ◌∙◌}
use mathlib.Core.List.{List}
use mathlib.Core.Bool.{Bool, true, false, cond, not, ◌&&◌}
use native.Mathlib.Omega.{arith}
use lib.ListN.{length}
use lib.Dec.{eqb, ltb}
use Rattle.refusal.specs.Numbers.{refusal}
use Rattle.refusal.specs.declared.Reason.TheVariants.{Stream, Sizes, Room}
use Rattle.refusal.specs.declared.Refusal.{Refusal}
use Rattle.cells.specs.Cells.{sizes_fit, cell_bytes, rows_of}
use Rattle.packed_rows.specs.Entries.{Entry}
use Rattle.packed_rows.specs.Stream.{Reading, read_stream, broken_at}
use Rattle.packed_rows.specs.Packer.{packed_length}
use Rattle.packed_rows.specs.Answers.{verdict_of_reading, check_answer, pack_answer}
use Rattle.packed_rows.specs.Theorems.{SoundStream, StreamBroken}
use Rattle.packed_rows.proofs.ByVerdict.{accepted-reading, refused-reading}
use Rattle.packed_rows.proofs.Grammar.{reads-exactly, refused-exactly}

refused-at : (r : Reading) (place : ℕ) → (verdict_of_reading r ≡ Err (refusal Stream place)) ↔ (r ≡ broken_at place)
refused-at r place = (
  λ h. (let broken = refused-reading r (refusal Stream place) h in broken.1 ∙ ap broken_at (sym (ap (λ (why : Refusal). why.place) broken.2))),
  λ h. ap (λ (q : Reading). verdict_of_reading q) h,
)

number_in : Result ℕ Refusal → ℕ
number_in (Ok n) = 0
number_in (Err r) = r.number

span_of : Result ℕ Refusal → ℕ
span_of (Ok n) = 0
span_of (Err r) = r.place

module _ (rows tracks : ℕ) where
  module _ (stream : List ℕ) where
    checked : sizes_fit rows tracks ≡ true → check_answer stream rows tracks ≡ verdict_of_reading (read_stream rows tracks stream)
    checked fits = rw fits

    pub accepts-exactly : sizes_fit rows tracks ≡ true
        → (check_answer stream rows tracks ≡ Ok tt) ↔ ((entries : List (List Entry)) × SoundStream rows tracks stream entries)
    accepts-exactly fits = (
      λ h.
          (let read = (accepted-reading (read_stream rows tracks stream)).0 (sym (checked fits) ∙ h) in
          (read.0, (reads-exactly rows tracks stream read.0).0 read.1)),
      λ h. checked fits ∙ (accepted-reading (read_stream rows tracks stream)).1 (h.0, (reads-exactly rows tracks stream h.0).1 h.1),
    )

    pub refuses-exactly : (place : ℕ) → sizes_fit rows tracks ≡ true
        → (check_answer stream rows tracks ≡ Err (refusal Stream place)) ↔ StreamBroken rows tracks stream place
    refuses-exactly place fits = (
      λ h. (refused-exactly rows tracks stream place).0 ((refused-at (read_stream rows tracks stream) place).0 (sym (checked fits) ∙ h)),
      λ h. checked fits ∙ (refused-at (read_stream rows tracks stream) place).1 ((refused-exactly rows tracks stream place).1 h),
    )

  -- The answer of packing, by its two tests.
  module _ (cells : List ℕ) (room n : ℕ) where
    pub pack-answers : pack_answer cells rows tracks room ≡ Ok n → n ≡ packed_length (rows_of rows tracks cells)
    pack-answers = sized (not (sizes_fit rows tracks && eqb (length cells) (cell_bytes rows tracks))) (ltb room (packed_length (rows_of rows tracks cells)))
      where
        sized : (b d : Bool)
            → cond b (Err (refusal Sizes 0))
            (cond d (Err (refusal Room (packed_length (rows_of rows tracks cells)))) (Ok (packed_length (rows_of rows tracks cells))))
            ≡ Ok n
            → n ≡ packed_length (rows_of rows tracks cells)
        sized true d e = absurd (let z : ◌≡◌ {A = ℕ} 0 1 = cc in omega arith)
        sized false true e = absurd (let z : ◌≡◌ {A = ℕ} 0 1 = cc in omega arith)
        sized false false e = cc

    pub pack-needs : pack_answer cells rows tracks room ≡ Err (refusal Room n) → n ≡ packed_length (rows_of rows tracks cells)
    unfolding span_of number_in
    pack-needs = sized (not (sizes_fit rows tracks && eqb (length cells) (cell_bytes rows tracks))) (ltb room (packed_length (rows_of rows tracks cells)))
      where
        sized : (b d : Bool)
            → cond b (Err (refusal Sizes 0))
            (cond d (Err (refusal Room (packed_length (rows_of rows tracks cells)))) (Ok (packed_length (rows_of rows tracks cells))))
            ≡ Err (refusal Room n)
            → n ≡ packed_length (rows_of rows tracks cells)
        sized true d e = absurd (let z : ◌≡◌ {A = ℕ} 16 17 = ap number_in e in omega arith)
        sized false true e = sym (ap span_of e)
        sized false false e = absurd (let z : ◌≡◌ {A = ℕ} 0 1 = cc in omega arith)
