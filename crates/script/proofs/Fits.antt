-- What was written lies within the buffer.
use Prim.Native.Nat.{ℕ, ◌+◌, ◌≤◌}
use native.Mathlib.Omega.{arith}
use mathlib.Core.List.{List}
use mathlib.Core.Path.{◌≡◌, ap, sym, ◌∙◌}
use lib.ListN.{length, take, drop, length-append}
use lib.Seq.{length-sets, length-take-le}
use Rattle.head_driver.specs.declared.Driver.{Driver}
use Rattle.script.specs.Feeds.{Reading, TakesSome}
use Rattle.script.specs.Parts.{Prints, at_front}
use Rattle.script.specs.declared.Fed.{Fed}
use Rattle.script.specs.declared.Printed.{Printed}

pub printed_fits : (text : List ℕ) (left : Driver) (old new : List ℕ) (r : Printed) → Prints text left old new r → r.written ≤ length new
unfolding at_front
printed_fits text left old new r prints =
    let e : length new ≡ length text + length (drop (length text) old) = (ap length prints.bytes ∙ length-append text (drop (length text) old)) in
    let n = prints.count in
    omega arith

pub printed_count : (text : List ℕ) (left : Driver) (old new : List ℕ) (r : Printed) → Prints text left old new r → r.written ≡ length (take r.written new)
printed_count text left old new r prints = sym (length-take-le r.written new (printed_fits text left old new r prints))

pub fed_fits : (s t : Reading) (input old new : List ℕ) (r : Fed) → TakesSome s t input old new r → r.written ≤ length new
fed_fits s t input old new r takes = rw (takes.feeds.writes.bytes, length-sets) takes.fits

pub fed_count : (s t : Reading) (input old new : List ℕ) (r : Fed) → TakesSome s t input old new r → r.written ≡ length (take r.written new)
fed_count s t input old new r takes = sym (length-take-le r.written new (fed_fits s t input old new r takes))
