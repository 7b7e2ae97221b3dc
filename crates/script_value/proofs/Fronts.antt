-- From what a writer put to the text at the front of the buffer.
use Prim.Native.Nat.{ℕ, ◌≤◌, ◌<◌}
use mathlib.Core.List.{List}
use mathlib.Core.Path.{◌≡◌, ap, ◌∙◌}
use native.Mathlib.Omega.{arith}
use lib.ListN.{length}
use lib.Seq.{sets}
use borrow.Author.Tests.{lt-ltb, le-ltb}
use Rattle.std.specs.Prelude.{None, Some}
use Rattle.text.proofs.Writes.{sets_front}
use Rattle.text_put.specs.Writers.{Puts, wrote}
use Rattle.text_put.specs.declared.TextWriter.{TextWriter}
use Rattle.script_value.specs.Buffers.{AtFront, buffer_after, written}

module _ (room : ℕ) (text : List ℕ) where
  pub too_short : (l : List ℕ) → length l < room → AtFront room l l text None
  unfolding written buffer_after
  too_short l h = record { result = rw (lt-ltb (length l) room h); bytes = rw (lt-ltb (length l) room h) }

  -- `l` and `after` are the caller's names of the buffer's bytes
  pub at_front : (old new : TextWriter) (l after : List ℕ) {most : ℕ} → Puts old new most text → old.at ≡ 0 → l ≡ old.buf.now → after ≡ new.buf.now → room ≤ length l → most ≤ room
      → AtFront room l after text (Some new.at)
  unfolding written buffer_after wrote
  at_front old new l after p start before now h m =
      let here : new.at ≡ length text = omega (arith, ap (λ (w : TextWriter). w.at) p.wrote) in
      let bytes : after ≡ sets l 0 text = now ∙ rw (before, ← start) (ap (λ (w : TextWriter). w.buf.now) p.wrote) in
      record {
        result = rw (le-ltb (length l) room h, here);
        bytes = rw (le-ltb (length l) room h) (bytes ∙ sets_front l text (omega (arith, p.place)));
      }
