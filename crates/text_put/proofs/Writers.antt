-- Texts put one after another.
use Prim.Native.Nat.{ℕ}
use native.Mathlib.Nat.{add_assoc, add-zero}
use mathlib.Core.List.{List, [], ◌++◌}
use mathlib.Core.Path.{◌≡◌}
use lib.ListN.{length-append}
use Rattle.text.proofs.Writes.{sets_append}
use Rattle.text_put.specs.Writers.{wrote}
use Rattle.text_put.specs.declared.TextWriter.{TextWriter}

-- two texts are one of both
pub wrote_both : (s t : List ℕ) (w : TextWriter) → wrote t (wrote s w) ≡ wrote (s ++ t) w
unfolding wrote
wrote_both s t w = simp (length-append, sets_append, add_assoc)

pub wrote_nothing : (w : TextWriter) → wrote [] w ≡ w
unfolding wrote
wrote_nothing w = rw (add-zero w.at)
