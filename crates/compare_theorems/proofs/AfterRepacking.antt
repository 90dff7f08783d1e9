-- Two modules that show the same do not differ, so a module does not differ from its repacked module.
use Prim.Native.Nat.{ℕ}
use Rattle.std.specs.Prelude.{Ok}
use mathlib.Core.Path.{◌≡◌, sym}
use mathlib.Core.List.{List, []}
use Rattle.samples.specs.Shown.{frames_part}
use Rattle.numbers.specs.Numbers.{Bytes}
use Rattle.module.specs.Verdicts.{module_verdict}
use Rattle.repack.specs.Repacked.{repacked}
use Rattle.showing_theorems.specs.Showing.{ShowsSame}
use Rattle.repack_theorems.proofs.Theorems.{repacked-bytes, repacked-accepted, repacked-shows-same}
use Rattle.compare.specs.Compared.{module_differences}
use Rattle.compare_theorems.proofs.Agreeing.{differences-none}
use Rattle.compare_theorems.specs.Differs.{AnswersAgree}

pub shown-agree : {m k : List ℕ} → ShowsSame m k → AnswersAgree m k
shown-agree {m} {k} s = record {
  name = sym s.name;
  info = sym s.info;
  song = λ number. record { song = sym (s.song number); entry = λ entry. sym (s.entry number entry) };
  instrument = λ number. sym (s.instrument number);
  envelopes = λ kind. sym (s.envelopes kind);
  envelope = λ kind number. sym (s.envelope kind number);
  sample = λ number.
      let parts : frames_part m number ≡ frames_part k number = sym (s.frames number).bytes in
      record { sample = sym (s.sample number); frames = (cc) };
  rows = λ number. sym (s.rows number);
  cells = λ number out. sym (s.cells_written number out);
}

pub differences-repacked : (m : List ℕ) → Bytes m → module_verdict m ≡ Ok tt → module_differences m (repacked m) ≡ []
differences-repacked m bytes accepted =
    (differences-none m (repacked m) bytes (repacked-bytes m bytes accepted) accepted (repacked-accepted m bytes accepted)).1
    (shown-agree (repacked-shows-same m bytes accepted))
