-- Added: a host that hands the same buffers on, call after call, gets the driver. No counter is bounded, and a line may have any bytes.
use Rattle.std.specs.Prelude.{ℕ, ◌≤◌, List, [], ◌∷◌, ◌↔◌, ◌≡◌, length, All}
use Rattle.driver.specs.Turns.{turn_of}
use Rattle.head_driver.specs.New.{new}
use Rattle.head_driver.specs.declared.Driver.{Driver}
use Rattle.rebuild.specs.Rebuilds.{Taken}
use Rattle.rules.specs.Brought.{Brought}
use Rattle.script_call.specs.Calls.{call}
use Rattle.script_sheet.specs.Sheets.{sheet_text}
use Rattle.temsroi.specs.Calls.{Begins, Calls, Left, sheet_in, turn_left}

-- what a host brings to a call beside the sheet buffer: the line, and an answer buffer, be it the last one as that call left it or another
pub record Brings : Type 0 where
  pub line : List ℕ
  pub answer : List ℕ

-- what calls leave, one after another, each handed the sheet buffer as the one before it left it
pub data HandedOn : List ℕ → List Brings → List Left → Type 0 where
  none : {sheet : List ℕ} → HandedOn sheet [] []
  next : {sheet : List ℕ} {b : Brings} {bs : List Brings} {l : Left} {later : List Left}
      → Calls b.line sheet b.answer l → HandedOn l.sheet bs later → HandedOn sheet (b ∷ bs) (l ∷ later)

-- what a driver gives that takes the same lines one after another, as the contract of `take_line` has it: after each 0, its sheet followed
-- by zero bytes, and its answer's line, with `(done)` for `(sheet)`
unfoldable pub driver_gives : Driver → List ℕ → List Brings → List Left
driver_gives d sheet [] = []
driver_gives d sheet (b ∷ bs) =
    let t = turn_of d (call b.line) sheet in
    let l = turn_left t sheet b.answer in
    l ∷ driver_gives t.driver l.sheet bs

-- the buffers have the lengths
abbrev pub Long : List ℕ → List Brings → Type 0
Long sheet bs = (4096 ≤ length sheet) × All (λ b. 512 ≤ length b.answer) bs

-- ---- the statements

-- Where the sheet in the buffer is that of a driver which lines and rebuilds brought about, the calls leave what that driver gives, and
-- nothing else.
abbrev pub HostGetsDriver : Type 0
HostGetsDriver = (d : Driver) → Brought d → (sheet : List ℕ) → sheet_in sheet ≡ sheet_text d → (bs : List Brings) → Long sheet bs
    → (got : List Left) → HandedOn sheet bs got ↔ (got ≡ driver_gives d sheet bs)

-- So from what `temsroi_new` wrote it is a new driver;
abbrev pub FromNew : Type 0
FromNew = (buffer sheet : List ℕ) → Begins buffer 0 sheet → (bs : List Brings) → Long sheet bs
    → (got : List Left) → HandedOn sheet bs got ↔ (got ≡ driver_gives new sheet bs)

-- and from any sheet that is taken, whatever stands behind its zero byte, the driver that it shows.
abbrev pub FromSheet : Type 0
FromSheet = (sheet : List ℕ) (x : Driver) → Taken (sheet_in sheet) x → (bs : List Brings) → Long sheet bs
    → (got : List Left) → HandedOn sheet bs got ↔ (got ≡ driver_gives x sheet bs)

-- the call returned 0, and the sheet that it left is taken
abbrev pub Answered : Left → Type 0
Answered l = (x : Driver) × (l.number ≡ 0) × Taken (sheet_in l.sheet) x

-- No call of such a list returns 4 or 5: every sheet that a call wrote is taken,
abbrev pub NeverFourOrFive : Type 0
NeverFourOrFive = (sheet : List ℕ) (x : Driver) → Taken (sheet_in sheet) x → (bs : List Brings) → Long sheet bs
    → (got : List Left) → HandedOn sheet bs got → All Answered got

-- and so is the one that `temsroi_new` wrote.
abbrev pub BegunIsTaken : Type 0
BegunIsTaken = (buffer sheet : List ℕ) → Begins buffer 0 sheet → (x : Driver) × (4096 ≤ length sheet) × Taken (sheet_in sheet) x

-- ---- a host that keeps one answer buffer too

-- what it brings: the lines, each with the answer buffer as the call before left it
unfoldable pub same_buffer : List ℕ → List (List ℕ) → List Left → List Brings
same_buffer answer [] got = []
same_buffer answer (line ∷ lines) [] = record { line = line; answer = answer } ∷ same_buffer answer lines []
same_buffer answer (line ∷ lines) (l ∷ later) = record { line = line; answer = answer } ∷ same_buffer l.answer lines later

-- Where the two buffers have the lengths at the start, all of that holds of it: of no later one a length is asked (`LengthsStay`).
abbrev pub SameBuffers : Type 0
SameBuffers = (sheet answer : List ℕ) (x : Driver) → Taken (sheet_in sheet) x → 4096 ≤ length sheet → 512 ≤ length answer
    → (lines : List (List ℕ)) (got : List Left) → HandedOn sheet (same_buffer answer lines got) got
    → (got ≡ driver_gives x sheet (same_buffer answer lines got)) × All Answered got
