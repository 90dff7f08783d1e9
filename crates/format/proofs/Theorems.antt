-- The theorem about modules as descriptions.
--
--  9. The encoding of every well-formed description is a list of bytes, and the check accepts it. Every list of bytes that the check
--     accepts is the encoding of a well-formed description, and of only one. So a module is accepted exactly if it is the encoding of a
--     well-formed description. This states acceptance without any reader.
--     What the queries show of the encoding of a well-formed description is what the description says (`Shows`).
--     Repacking the encoding of a well-formed description gives the encoding of the same description with the packer's entries and zeros
--     for fillers, which is well formed too.
--
-- The check is `module_verdict` and the repacked module is `repacked`. The contracts cite these two, and also the answers in `Shows`.
use Prim.Native.Nat.{ℕ}
use Rattle.std.specs.Prelude.{Ok}
use mathlib.Core.Path.{◌≡◌, ap, sym, ◌∙◌}
use mathlib.Core.Logic.{◌↔◌}
use mathlib.Core.List.{List}
use Rattle.numbers.specs.Numbers.{Bytes}
use Rattle.module.specs.Verdicts.{module_verdict}
use Rattle.repack.specs.Repacked.{repacked}
use Rattle.format.specs.Description.{Description}
use Rattle.format.specs.Encoding.{encoded}
use Rattle.format.specs.WellFormed.{WellFormed}
use Rattle.format.specs.Shown.{Shows}
use Rattle.format.specs.Repacked.{repacked_description}
use Rattle.format.proofs.EncodedModule as EncodedModule
use Rattle.format.proofs.DescribedModule as DescribedModule
use Rattle.format.proofs.Unique as Unique
use Rattle.format.proofs.ShownModule as ShownModule
use Rattle.format.proofs.RepackedModule as RepackedModule

-- Theorem 9.
module _ (d : Description) (w : WellFormed d) where
  pub encoding-bytes : Bytes (encoded d)
  encoding-bytes = EncodedModule.encoded-bytes d w

  pub encoding-accepted : module_verdict (encoded d) ≡ Ok tt
  encoding-accepted = EncodedModule.encoded-accepted d w

  pub encoding-shows : Shows (encoded d) d
  encoding-shows = ShownModule.encoding-shows d w

  pub encoding-repacked : repacked (encoded d) ≡ encoded (repacked_description w.info.tracks d)
  encoding-repacked = RepackedModule.repacked-encoded d w

  pub repacked-well-formed : WellFormed (repacked_description w.info.tracks d)
  repacked-well-formed = RepackedModule.repacked-well-formed d w

pub accepted-encoded : (m : List ℕ) → Bytes m → module_verdict m ≡ Ok tt → (d : Description) × WellFormed d × (encoded d ≡ m)
accepted-encoded = DescribedModule.accepted-described

pub one-description : (d e : Description) → WellFormed d → WellFormed e → encoded d ≡ encoded e → d ≡ e
one-description = Unique.described-once

pub accepted-exactly-encodings : (m : List ℕ) → Bytes m → (module_verdict m ≡ Ok tt) ↔ ((d : Description) × WellFormed d × (encoded d ≡ m))
accepted-exactly-encodings m bytes = (accepted-encoded m bytes, λ h. sym (ap module_verdict h.2) ∙ encoding-accepted h.0 h.1)
