-- What is added to a buffer step by step is added to it whole.
-- Assumes nothing.
use Rattle.std.specs.Prelude.{◌≡◌, List, ◌++◌, ℕ, length}
use Rattle.std.proofs.Common.{◌∙◌, append_assoc, arith, length-append}
use Rattle.lines.specs.declared.Buffer.{Buffer}
use Rattle.lines.specs.Lines.{Added, Appends}

-- one after the other
pub added : {l m p s t : List ℕ} {at i r : ℕ} → length m ≡ length l → Added l at s m i → Added m i t p r → Added l at (s ++ t) p r
added {l} {m} {p} {s} {t} {at} {i} {r} e a b =
    record {
      end = λ h. let n = length-append s t in let x = a.end (omega arith) in omega (arith, b.end (omega arith));
      text = λ h. let n = length-append s t in let x = a.end (omega arith) in rw (b.text (omega arith), a.text (omega arith), append_assoc);
    }

pub appended : {b c d : Buffer} {s t : List ℕ} → Appends b s c → Appends c t d → Appends b (s ++ t) d
appended x y =
    record { added = added x.as_long x.added y.added; as_long = y.as_long ∙ x.as_long; same_reference = y.same_reference ∙ x.same_reference }
