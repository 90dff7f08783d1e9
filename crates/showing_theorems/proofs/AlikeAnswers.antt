-- Answers for modules that are alike. An answer depends on the result of opening the module, or on what is found for a number. So it is the
-- same for both modules if both open, or if it is the same for blocks with the same content.
use Prim.Native.Nat.{ℕ}
use Rattle.std.specs.Prelude.{Result, Ok, Err}
use Rattle.layout.specs.declared.Layout.{Layout}
use mathlib.Core.Path.{◌≡◌, refl, sym, ap, ◌∙◌}
use mathlib.Core.List.{List}
use Rattle.refusal.specs.declared.Refusal.{Refusal}
use Rattle.blocks.specs.declared.RecordKind.{RecordKind}
use Rattle.module.specs.Verdicts.{opened}
use Rattle.queries.specs.Finding.{found}
use Rattle.queries.specs.declared.Block.{Block}
use Rattle.showing_theorems.proofs.Alike.{SameRecord, FoundAlike, neither, both, Alike}

module _ {m n : List ℕ} (a : Alike m n) {A : Type 0} where
  pub by-opening : (f g : Result Layout Refusal → A) → g (Ok a.other) ≡ f (Ok a.layout) → g (opened n) ≡ f (opened m)
  by-opening f g e = ap g a.other_opens ∙ e ∙ sym (ap f a.opens)

  module _ (kind : RecordKind) (number : ℕ) (f g : Result Block Refusal → A) (refused : (r : Refusal) → g (Err r) ≡ f (Err r)) where
    pub by-finding : ((b c : Block) → found m kind number ≡ Ok b → c.version ≡ b.version → c.tracks ≡ b.tracks
        → SameRecord kind b.tracks m n b.at c.at
        → g (Ok c) ≡ f (Ok b))
        → g (found n kind number) ≡ f (found m kind number)
    by-finding same = go refl (a.found kind number)
      where
        go : {x y : Result Block Refusal} → found m kind number ≡ x → FoundAlike kind m n x y → g y ≡ f x
        go e (neither r) = refused r
        go e (both b c version tracks s) = same b c e version tracks s
