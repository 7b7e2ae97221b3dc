-- What a part of a buffer is left with, as part of the buffer.
use Prim.Native.Nat.{ℕ, ◌+◌, ◌-◌, ◌^◌, ◌≤◌, ◌<◌}
use native.Mathlib.Omega.{arith}
use mathlib.Core.List.{List, ◌++◌, append_assoc, append-nil}
use mathlib.Core.Path.{◌≡◌, ap, sym, ◌∙◌}
use lib.ListN.{length, take, drop, length-append, length-drop, drop_of_length-le}
use mir.Syntax.{w64}
use mir.Val.{Fits}
use lib.Seq.{drop-drop, sets-eq, take_all}
use Rattle.script_call.specs.Calls.{call}
use Rattle.script.specs.Parts.{Prints, at_front}
use Rattle.script.specs.Prints.{leaves, prints}
use Rattle.text.specs.Writes.{Wrote}
use Rattle.head_driver.specs.declared.Driver.{Driver}
use Rattle.script.specs.declared.Printed.{Printed}
use Rattle.script.specs.Feeds.{AnswersHeld}
use Rattle.script.specs.declared.Fed.{Fed}

module _ (out : List ℕ) (at : ℕ) (room : at + 4096 ≤ length out) where
  -- the part of a buffer from a place on is all that follows
  all : take (length out - at) (drop at out) ≡ drop at out
  all = take_all (length out - at) (drop at out) (rw length-drop (omega arith))

  pub part_room : 4096 ≤ length (take (length out - at) (drop at out))
  part_room = rw (all, length-drop) (omega arith)

  -- a text at the front of the part stands in the buffer from that place on
  module _ (text : List ℕ) (left : Driver) (new : List ℕ) (p : Printed) (same : length new ≡ length (take (length out - at) (drop at out)))
      (printed : Prints text left (take (length out - at) (drop at out)) new p) where
    bytes : new ≡ text ++ drop (length text) (drop at out)
    unfolding at_front
    bytes = rw all at printed.bytes

    fits : at + length text ≤ length out
    fits =
        let long : length new ≡ length text + (length out - at - length text) = (ap length bytes ∙ rw (length-append, length-drop, length-drop)) in
        let n : length new ≡ length out - at = (rw (all, length-drop) at same) in
        omega arith

    pub end_fits : at + p.written ≤ length out
    end_fits = rw printed.count fits

    pub sum_fits : length out < 2 ^ 64 → Fits w64 (at + p.written)
    sum_fits h = let f = end_fits in record { fits = omega arith }

    pub writes_at : Wrote out (take at out ++ (new ++ drop (length out - at) (drop at out))) at (at + p.written) text
    writes_at = record {
      bytes =
          ap (λ (l : List ℕ). take at out ++ (l ++ drop (length out - at) (drop at out))) bytes
          ∙ rw (drop_of_length-le (drop at out) {i = length out - at} (rw length-drop (omega arith)), append-nil, drop-drop, ← append_assoc) (sym (sets-eq text out at fits));
      after = rw printed.count;
    }

-- what is held is answered
pub answers_held : (fed : Fed) (pending out new : List ℕ) (p : Printed) → fed.written + 4096 ≤ length out
    → length new ≡ length (take (length out - fed.written) (drop fed.written out))
    → Prints (prints fed.driver (call (take fed.held pending))) (leaves fed.driver (call (take fed.held pending)))
    (take (length out - fed.written) (drop fed.written out)) new p
    → AnswersHeld fed pending out (take fed.written out ++ (new ++ drop (length out - fed.written) (drop fed.written out)))
    (record { driver = p.driver; held = 0; taken = fed.taken; written = fed.written + p.written })
answers_held fed pending out new p room same printed = record {
  stands = rw printed.driver;
  writes = writes_at out fed.written room _ _ new p same printed;
  fits = end_fits out fed.written room _ _ new p same printed;
}
