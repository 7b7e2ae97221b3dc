-- What is proved of a call from C.
use Rattle.std.specs.Prelude.{ℕ, ◌≤◌, List, ◌≡◌, None, length, replicate}
use Rattle.rules.specs.Runs.{OneLine}
use Rattle.script_call.specs.Calls.{call}
use Rattle.temsroi.specs.Calls.{Begins, Calls, Left, left}

-- What is promised of a call settles it: of the same line and buffers no two leave different things.
abbrev pub OneOutcome : Type 0
OneOutcome = (line sheet answer : List ℕ) (l m : Left) → Calls line sheet answer l → Calls line sheet answer m → l ≡ m

-- So too of a beginning.
abbrev pub OneBeginning : Type 0
OneBeginning = (sheet : List ℕ) (n m : ℕ) (s t : List ℕ) → Begins sheet n s → Begins sheet m t → (n ≡ m) × (s ≡ t)

-- No call changes the length of a buffer: what it writes fits.
abbrev pub LengthsStay : Type 0
LengthsStay = (line sheet answer : List ℕ) (l : Left) → Calls line sheet answer l
    → (length l.sheet ≡ length sheet) × (length l.answer ≡ length answer)

-- Zero bytes alone are no sheet: 5.
abbrev pub ZerosNotTaken : Type 0
ZerosNotTaken = (n : ℕ) (line answer : List ℕ) (l : Left) → 4096 ≤ n → 512 ≤ length answer → Calls line (replicate n 0) answer l
    → l ≡ left 5 (replicate n 0) answer

-- A line comes "without its line feed": one with a line feed anywhere is no call, as one with any other byte that no call has.
abbrev pub LineFeedIsNoCall : Type 0
LineFeedIsNoCall = (line : List ℕ) → ¬ OneLine line → call line ≡ None
