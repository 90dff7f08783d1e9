-- Theorem 8, assembled: the check accepts exactly if the outline is found, which is the rules of the chunks, and all rules for the content
-- hold, which is the rest of the rules.
use Prim.Native.Nat.{ℕ}
use Rattle.std.specs.Prelude.{⊤, Result, Ok, Err}
use Rattle.refusal.specs.declared.Refusal.{Refusal}
use mathlib.Core.Path.{◌≡◌, refl, ap}
use mathlib.Core.Logic.{◌↔◌}
use mathlib.Core.List.{List}
use native.Mathlib.Omega.{arith}
use Rattle.vocabulary.specs.Letters.{info_letters}
use Rattle.refusal.specs.Rules.{first_broken}
use Rattle.numbers.specs.Numbers.{Bytes}
use Rattle.layout.specs.Outlines.{outline_if, outline}
use Rattle.layout.specs.declared.Layout.{Layout}
use Rattle.module.specs.Verdicts.{content_rules, content_if, opened, verdict_of_outline, module_verdict}
use Rattle.acceptance.specs.Rules.{Rules}
use Rattle.acceptance.proofs.Spans.{LayoutOf}
use Rattle.acceptance.proofs.Recorded.{There}
use Rattle.acceptance.proofs.ChunkHalf.{Outlined, outline-chunks, chunks-outline}
use Rattle.acceptance.proofs.ContentHalf.{content-exactly}

-- The verdict after a layout that was found.
pub verdict-found : (l : Layout) (v : Result ⊤ Refusal) → verdict_of_outline (outline_if v (Ok l)) ≡ v
verdict-found l (Ok _) = refl
verdict-found l (Err r) = refl

module _ (m : List ℕ) (bytes : Bytes m) where
  rules-follow : (l : Layout) → Outlined m l → first_broken (content_rules m l) ≡ Ok tt → Rules m
  rules-follow l o e = record {
    header = o.header;
    chunks = o.chunks;
    chunk_rules = o.rules;
    info = info.0;
    song = o.mandatory.song.0;
    inst = o.mandatory.inst.0;
    patt = o.mandatory.patt.0;
    smpl = o.mandatory.smpl.0;
    info_there = info.1;
    song_there = o.mandatory.song.1;
    inst_there = o.mandatory.inst.1;
    patt_there = o.mandatory.patt.1;
    smpl_there = o.mandatory.smpl.1;
    content = (content-exactly o.layout o.rules.version info.1 o.mandatory.song.1 o.mandatory.inst.1
        o.mandatory.patt.1 o.mandatory.smpl.1 (o.rules.info info.0 info.1).tracks bytes).0 e;
  }
    where
      info : There o.chunks info_letters
      info = o.mandatory.info

  accepted-follows : module_verdict m ≡ Ok tt → Rules m
  accepted-follows = go (outline m) refl
    where
      go : (o : Result Layout Refusal) → outline m ≡ o → verdict_of_outline (content_if m o) ≡ Ok tt → Rules m
      go (Ok l) h e = rules-follow l (outline-chunks m l bytes h) (rw (verdict-found l (first_broken (content_rules m l))) at e)
      go (Err r) h e = let z : ◌≡◌ {A = ℕ} 0 1 = cc in absurd (omega arith)

  -- A module for which the rules hold opens, with a layout of its chunks.
  pub rules-open : (r : Rules m) → (l : Layout) × (opened m ≡ Ok l) × LayoutOf m r.header r.chunks l
  rules-open r =
      let found = chunks-outline m r.header r.chunks r.chunk_rules
      (record {
        info = (r.info, r.info_there);
        song = (r.song, r.song_there);
        inst = (r.inst, r.inst_there);
        patt = (r.patt, r.patt_there);
        smpl = (r.smpl, r.smpl_there);
      }) in
      let accepted = (content-exactly found.2 r.chunk_rules.version r.info_there r.song_there r.inst_there
      r.patt_there r.smpl_there (r.chunk_rules.info r.info r.info_there).tracks bytes).1 r.content in
      (found.0, rw (found.1, accepted) refl, found.2)

  rules-accepted : Rules m → module_verdict m ≡ Ok tt
  rules-accepted r = ap verdict_of_outline (rules-open r).1

  pub accepted-exactly : (module_verdict m ≡ Ok tt) ↔ Rules m
  accepted-exactly = (accepted-follows, rules-accepted)
