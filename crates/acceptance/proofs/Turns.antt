-- Chunks that fit in order, and the rules of M5 to M9 about all chunks: the two are equivalent.
use Prim.Native.Nat.{ℕ}
use mathlib.Core.Path.{◌≡◌, refl, ap, ◌∙◌}
use mathlib.Core.List.{List, [], ◌∷◌, ◌++◌, append_assoc, append-nil}
use native.Mathlib.Omega.{arith}
use lib.ListN.{length}
use Rattle.vocabulary.specs.Lists.{Every}
use Rattle.vocabulary.specs.Letters.{name_letters, info_letters}
use Rattle.vocabulary.proofs.EveryOne.{every_first, every_append}
use Rattle.acceptance.specs.Rules.{IsChunk, Among, AtMostOnce, Covered, NeedsInfo, AfterInfo, InfoRules}
use Rattle.acceptance.proofs.Fitting.{ChunkFits}
use Rattle.acceptance.proofs.Chunking.{InTurn, done, next, turn-bytes}

-- Each chunk fits after those before it.
abbrev EachFits : List (List ℕ) → List (List ℕ) → Type 0
EachFits first chunks = (before after : List (List ℕ)) (chunk : List ℕ) → chunks ≡ before ++ (chunk ∷ after) → ChunkFits (first ++ before) chunk

turn-each : {first chunks : List (List ℕ)} → InTurn first chunks → EachFits first chunks
turn-each done [] after chunk e = let z : ◌≡◌ {A = ℕ} 0 1 = cc in absurd (omega arith)
turn-each done (b ∷ before) after chunk e = let z : ◌≡◌ {A = ℕ} 0 1 = cc in absurd (omega arith)
turn-each (next {chunk = here} fits turn) [] after chunk e = let same : here ≡ chunk = cc in rw append-nil (rw same at fits)
turn-each (next {chunk = here} {rest = rest} fits turn) (b ∷ before) after chunk e =
    let same : here ≡ b = cc in
    let further : rest ≡ before ++ (chunk ∷ after) = cc in
    rw (← same) (rw append_assoc at (turn-each turn before after chunk further))

each_turn : (first chunks : List (List ℕ)) → EachFits first chunks → InTurn first chunks
each_turn first [] h = done
each_turn first (chunk ∷ chunks) h =
    next (rw append-nil at (h [] chunks chunk refl))
    (each_turn (first ++ (chunk ∷ [])) chunks (λ before after c e. rw append_assoc (h (chunk ∷ before) after c (ap (λ (l : List (List ℕ)). chunk ∷ l) e))))

-- M5 to M9, for all chunks.
pub record ChunksFit (chunks : List (List ℕ)) : Type 0 where
  pub whole : Every IsChunk chunks
  pub once : (letters : List ℕ) → Covered letters → AtMostOnce chunks letters
  pub after_info : (letters : List ℕ) → NeedsInfo letters → AfterInfo chunks letters
  pub name : (chunk : List ℕ) → Among chunks name_letters chunk → length chunk ≡ 52
  pub info : (chunk : List ℕ) → Among chunks info_letters chunk → InfoRules chunk

pub turn-fits : {chunks : List (List ℕ)} → InTurn [] chunks → ChunksFit chunks
turn-fits {chunks} turn = record {
  whole = turn-bytes turn;
  once = λ letters covers before between after one two e named named'.
      (each (before ++ (one ∷ between)) after two (rw append_assoc e)).once letters covers named'
      (one, record { before = before; after = between; splits = refl; named = named });
  after_info = λ letters needs before after chunk e named. (each before after chunk e).after_info letters needs named;
  name = λ chunk a. (each a.before a.after chunk a.splits).name a.named;
  info = λ chunk a. (each a.before a.after chunk a.splits).info a.named;
}
  where
    each : EachFits [] chunks
    each = turn-each turn

pub fits-turn : {chunks : List (List ℕ)} → ChunksFit chunks → InTurn [] chunks
fits-turn {chunks} fits = each_turn [] chunks (λ before after chunk e. record {
  bytes = every_first ((every_append before (chunk ∷ after)).0 (rw e at fits.whole)).1;
  once = λ letters covers named (other, a).
      fits.once letters covers a.before a.after after other chunk
      (e ∙ rw a.splits (append_assoc a.before (other ∷ a.after) (chunk ∷ after))) a.named named;
  after_info = λ letters needs named. fits.after_info letters needs before after chunk e named;
  name = λ named. fits.name chunk (record { before = before; after = after; splits = e; named = named });
  info = λ named. fits.info chunk (record { before = before; after = after; splits = e; named = named });
})
