-- An input byte by byte. The bytes of the line that has not ended are kept, at most 513 of them, at the front of a buffer.
use Rattle.std.specs.Prelude.{ℕ, ◌+◌, ◌≤◌, ◌<◌, Bool, false, true, List, [], ◌∷◌, ◌++◌, ◌⊎◌, ◌≡◌, eqb, leb, length, take, cond, ◌&&◌}
use Rattle.pending.specs.Kept.{Part, part, keep_byte, line_so_far}
use Rattle.script_call.specs.Calls.{call}
use Rattle.script.specs.Parts.{Prints}
use Rattle.script.specs.Prints.{leaves, prints}
use Rattle.text.specs.Writes.{Wrote}
use Rattle.head_driver.specs.declared.Driver.{Driver}
use Rattle.script.specs.declared.Fed.{Fed}
use Rattle.script.specs.declared.Printed.{Printed}

-- where the reading of an input stands
pub record Reading : Type 0 where
  pub driver : Driver
  pub kept : Part

abbrev pub reading : Driver → List ℕ → ℕ → Reading
reading d buffer held = record { driver = d; kept = part buffer held }

-- ---- one byte: a line feed ends the line, any other byte is kept

unfoldable pub line_ends : Reading → Reading
line_ends s = reading (leaves s.driver (call (line_so_far s.kept))) s.kept.buffer 0

unfoldable pub byte_taken : Reading → ℕ → Reading
byte_taken s b = cond (eqb b 10) (line_ends s) (record { driver = s.driver; kept = keep_byte s.kept b })

unfoldable pub byte_prints : Reading → ℕ → List ℕ
byte_prints s b = cond (eqb b 10) (prints s.driver (call (line_so_far s.kept))) []

-- ---- many bytes

unfoldable pub all_taken : Reading → List ℕ → Reading
all_taken s [] = s
all_taken s (b ∷ input) = all_taken (byte_taken s b) input

unfoldable pub all_prints : Reading → List ℕ → List ℕ
all_prints s [] = []
all_prints s (b ∷ input) = byte_prints s b ++ all_prints (byte_taken s b) input

-- what a part of the input does: where the reading stands after it, and what it writes into the buffer from a place on
pub record Feeds (s : Reading) (bytes : List ℕ) (t : Reading) (old new : List ℕ) (at next : ℕ) : Type 0 where
  pub stands : t ≡ all_taken s bytes
  pub writes : Wrote old new at next (all_prints s bytes)

-- ---- the end of the input: a last line without its line feed

abbrev pub last_of : Driver → List ℕ → List ℕ
last_of d [] = []
last_of d (b ∷ line) = prints d (call (b ∷ line))

unfoldable pub last_prints : Reading → List ℕ
last_prints s = last_of s.driver (line_so_far s.kept)

abbrev pub last_left : Driver → List ℕ → Driver
last_left d [] = d
last_left d (b ∷ line) = leaves d (call (b ∷ line))

unfoldable pub last_leaves : Reading → Driver
last_leaves s = last_left s.driver (line_so_far s.kept)

-- ---- what is held, answered

-- what is promised of what is held, answered as a line from a place of a buffer on
pub record AnswersHeld (fed : Fed) (pending old new : List ℕ) (r : Fed) : Type 0 where
  pub stands : r ≡ record { driver = leaves fed.driver (call (take fed.held pending)); held = 0; taken = fed.taken; written = r.written }
  pub writes : Wrote old new fed.written r.written (prints fed.driver (call (take fed.held pending)))
  pub fits : r.written ≤ length old

-- ---- what a host lends

-- room for 513 bytes of a line, no more of them held, and room for 4,096 bytes of answers
unfoldable pub usable : ℕ → ℕ → ℕ → Bool
usable pending held out = leb 513 pending && (leb held 513 && leb 4096 out)

abbrev pub lent : Reading → List ℕ → Bool
lent s out = usable (length s.kept.buffer) s.kept.held (length out)

-- what is promised of `finish`: the last line's answer, where the host's buffers can be used
abbrev pub Finishes : Reading → List ℕ → List ℕ → Printed → Type 0
Finishes s old new r = Prints (cond (lent s old) (last_prints s) []) (cond (lent s old) (last_leaves s) s.driver) old new r

-- nothing is taken and nothing written: the driver, the count of what is held and every byte of both buffers stay
pub record TakesNothing (s t : Reading) (old new : List ℕ) (r : Fed) : Type 0 where
  pub stays : t ≡ s
  pub bytes : new ≡ old
  pub taken : r.taken ≡ 0
  pub written : r.written ≡ 0

-- What is promised of `feed`. Of what it takes everything is told. Where the host's buffers cannot be used it takes nothing. Where they can, how much
-- it takes is left open, since it stops where the room for answers ends: all of the input, or what leaves less than 4,096 bytes of room.
pub record TakesSome (s t : Reading) (input old new : List ℕ) (r : Fed) : Type 0 where
  pub within : r.taken ≤ length input
  pub feeds : Feeds s (take r.taken input) t old new 0 r.written
  pub fits : r.written ≤ length old
  pub unusable : lent s old ≡ false → TakesNothing s t old new r
  pub stops : lent s old ≡ true → (r.taken ≡ length input) ⊎ (length old < r.written + 4096)
