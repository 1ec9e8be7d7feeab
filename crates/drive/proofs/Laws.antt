-- A chunk that is fed part by part is fed whole.
-- Assumes nothing.
use mathlib.Core.Path.{◌≡◌, sym, ap, subst, ◌∙◌}
use mathlib.Core.List.{List, ◌++◌}
use Prim.Native.Nat.{ℕ, ◌+◌, ◌-◌}
use lib.ListN.{length, take, drop, length-drop}
use lib.Seq.{take-add, take-length}
use Rattle.feed.specs.Scripted.{Talk, Scripted}
use Rattle.feed.specs.Laws.Cuts.{scripted_both}

rest : (chunk : List ℕ) (from : ℕ) → take (length chunk - from) (drop from chunk) ≡ drop from chunk
rest chunk from = rw (← length-drop from chunk) (take-length (drop from chunk))

pub fed_more : (t u v : Talk) (chunk : List ℕ) (from at : ℕ) (o p : List ℕ) → Scripted t (take from chunk) o u → Scripted u (take at (take (length chunk - from) (drop from chunk))) p v
    → Scripted t (take (from + at) chunk) (o ++ p) v
fed_more t u v chunk from at o p a b =
    subst (λ x. Scripted t x (o ++ p) v) (sym (take-add from at chunk ∙ ap (λ y. take from chunk ++ take at y) (sym (rest chunk from)))) (scripted_both a b)
