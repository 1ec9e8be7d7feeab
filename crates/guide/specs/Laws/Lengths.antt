-- How long an answer can be.
-- Assumes nothing.
use Rattle.std.specs.Prelude.{◌≡◌, refl, true, ℕ, min, ◌≤◌, leb, length, get_or}
use Rattle.std.proofs.Common.{arith, leb-true, length-append}
use Rattle.lists.specs.Lists.{every}
use Rattle.lists.specs.Laws.All.{all_at}
use Rattle.lists.specs.Laws.Finds.{every_true}
use Rattle.script.specs.Script.{bytes}
use Rattle.lines.specs.Laws.Lengths.{decimal_length}
use Rattle.guide.specs.Guide.{help_line, help, reasons, last_reason, why_of}

pub help_length : length help ≤ 1024
unfolding bytes help_line help
help_length = leb-true (length help) 1024 refl

-- each reason has 130 bytes at most
reasons_short : every (λ t. leb (length (bytes t)) 130) reasons ≡ true
unfolding bytes
reasons_short = refl

pub why_length : (n : ℕ) → length (why_of n) ≤ 256
unfolding bytes why_of
why_length n =
    let t = get_or reasons (min n last_reason) "" in
    let h : length (bytes t) ≤ 130 = leb-true _ _ (all_at (λ t. leb (length (bytes t)) 130 ≡ true) reasons (min n last_reason) "" (every_true (λ t. leb (length (bytes t)) 130) reasons reasons_short) refl) in
    simp length-append (omega (arith, decimal_length n))
