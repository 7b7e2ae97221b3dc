-- A host that hands the same buffers on gets the driver.
use Prim.Native.Nat.{ℕ, ◌≤◌}
use native.Mathlib.Omega.{arith}
use mathlib.Core.List.{List, [], ◌∷◌}
use mathlib.Core.Logic.{inl, inr}
use mathlib.Core.Path.{◌≡◌, refl, ap₂, sym, subst}
use lib.ListN.{length}
use Rattle.std.proofs.lemmas.List.Elements.{All-cons, All-head, All-nil, All-tail}
use Rattle.std.specs.Prelude.{All, ◌↔◌}
use Rattle.alike.specs.Canon.{canon}
use Rattle.driver.specs.Turns.{turn, turn_of}
use Rattle.head_driver.specs.New.{new}
use Rattle.head_driver.specs.declared.Answer.{Answer}
use Rattle.head_driver.specs.declared.Driver.{Driver}
use Rattle.rebuild.specs.Rebuilds.{Taken, done}
use Rattle.rules.proofs.Brought.{brought_keep, every_sheet_taken, writes_same_sheet}
use Rattle.rules.specs.Brought.{Brought, a_new, by_line, by_rebuild}
use Rattle.script_answer.specs.declared.LineAnswer.{LineAnswer}
use Rattle.script_call.specs.Calls.{call}
use Rattle.script_answer.specs.Answers.{line_text}
use Rattle.script_lengths.proofs.Answers.{answer_room}
use Rattle.script_lengths.proofs.Sheets.{sheet_room}
use Rattle.script_sheet.specs.Sheets.{sheet_text}
use Rattle.sheet_back.proofs.Bytes.{no_zeros}
use Rattle.temsroi.specs.Calls.{Begins, Calls, Left, answer_here, answer_left, sheet_in, sheet_left, turn_left, too_short, not_taken, made, written}
use Rattle.temsroi.specs.Hosts.{Answered, BegunIsTaken, Brings, FromNew, FromSheet, HandedOn, HostGetsDriver, Long, NeverFourOrFive, SameBuffers}
use Rattle.temsroi.specs.Hosts.{driver_gives, next, none, same_buffer}
use Rattle.temsroi.specs.Statements.{LengthsStay}
use Rattle.temsroi.proofs.Alike.{same_left}
use Rattle.temsroi.proofs.LentBuffers.{answer_fits, sheet_fits, sheet_stays}

-- an answer buffer has its length
abbrev Room : Brings → Type 0
Room b = 512 ≤ length b.answer

-- ---- a driver's sheet, left in a buffer

module _ (d : Driver) (b : Brought d) (buffer : List ℕ) (long : 4096 ≤ length buffer) where
  is_read : sheet_in (sheet_left (sheet_text d) buffer) ≡ sheet_text d
  is_read = sheet_stays (sheet_text d) buffer (no_zeros (sheet_text d) (canon d) (every_sheet_taken d b).0)

  is_taken : Taken (sheet_in (sheet_left (sheet_text d) buffer)) (canon d)
  is_taken = rw is_read (every_sheet_taken d b)

  still_long : 4096 ≤ length (sheet_left (sheet_text d) buffer)
  still_long =
      let room = sheet_room d (brought_keep d b) in
      let same = sheet_fits (sheet_text d) buffer (omega arith) in
      omega arith

-- ---- one call, of a driver whose sheet stands in the buffer

module _ (d : Driver) (b : Brought d) (sheet : List ℕ) (shows : sheet_in sheet ≡ sheet_text d) (long : 4096 ≤ length sheet)
    (line answer : List ℕ) (room : 512 ≤ length answer) where
  taken_here : Taken (sheet_in sheet) (canon d)
  taken_here = rw shows (every_sheet_taken d b)

  one_only : (l : Left) → Calls line sheet answer l → l ≡ turn_left (turn_of d (call line) sheet) sheet answer
  one_only _ (too_short (inl h)) = absurd (omega arith)
  one_only _ (too_short (inr h)) = absurd (omega arith)
  one_only _ (not_taken p q f) = absurd (f (canon d) taken_here)
  one_only _ (made p q x t) = same_left d x b (subst (λ s. Taken s x) shows t) line sheet answer

  one_made : Calls line sheet answer (turn_left (turn_of d (call line) sheet) sheet answer)
  one_made =
      subst (Calls line sheet answer) (same_left d (canon d) b (every_sheet_taken d b) line sheet answer)
      (made long room (canon d) taken_here)

-- ---- lists of calls

-- the driver that a line leaves, and the sheet buffer
abbrev left_by : Driver → List ℕ → List ℕ → Driver
left_by d line sheet = (turn_of d (call line) sheet).driver

abbrev sheet_by : Driver → List ℕ → List ℕ → List ℕ
sheet_by d line sheet = sheet_left (sheet_text (left_by d line sheet)) sheet

brought_by : (d : Driver) (line sheet : List ℕ) → Brought d → Brought (left_by d line sheet)
brought_by d line sheet b = by_line b (record { line = line; buffer = sheet })

module _ (d : Driver) (c : Brings) (bs : List Brings) (sheet : List ℕ) (b : Brought d) (long : Long sheet (c ∷ bs)) where
  later_read : sheet_in (sheet_by d c.line sheet) ≡ sheet_text (left_by d c.line sheet)
  later_read = is_read (left_by d c.line sheet) (brought_by d c.line sheet b) sheet long.0

  later_long : Long (sheet_by d c.line sheet) bs
  later_long = (still_long (left_by d c.line sheet) (brought_by d c.line sheet b) sheet long.0, All-tail Room c bs long.1)

handed : (bs : List Brings) (d : Driver) → Brought d → (sheet : List ℕ) → sheet_in sheet ≡ sheet_text d → Long sheet bs
    → HandedOn sheet bs (driver_gives d sheet bs)
unfolding driver_gives
handed [] d b sheet shows long = none
handed (c ∷ bs) d b sheet shows long =
    next (one_made d b sheet shows long.0 c.line c.answer (All-head Room c bs long.1))
    (handed bs (left_by d c.line sheet) (brought_by d c.line sheet b) (sheet_by d c.line sheet)
    (later_read d c bs sheet b long) (later_long d c bs sheet b long))

gives : (bs : List Brings) (d : Driver) → Brought d → (sheet : List ℕ) → sheet_in sheet ≡ sheet_text d → Long sheet bs
    → (got : List Left) → HandedOn sheet bs got → got ≡ driver_gives d sheet bs
unfolding driver_gives
gives [] d b sheet shows long _ none = refl
gives (c ∷ bs) d b sheet shows long _ (next {l = l} {later = later} p h) =
    let e = one_only d b sheet shows long.0 c.line c.answer (All-head Room c bs long.1) l p in
    ap₂ ◌∷◌ e
    (gives bs (left_by d c.line sheet) (brought_by d c.line sheet b) (sheet_by d c.line sheet)
    (later_read d c bs sheet b long) (later_long d c bs sheet b long) later
    (subst (λ m. HandedOn m.sheet bs later) e h))

pub host_gets_driver : HostGetsDriver
host_gets_driver d b sheet shows bs long got =
    (gives bs d b sheet shows long got, λ e. rw e (handed bs d b sheet shows long))

answered : (bs : List Brings) (d : Driver) → Brought d → (sheet : List ℕ) → Long sheet bs → All Answered (driver_gives d sheet bs)
unfolding driver_gives
answered [] d b sheet long = All-nil Answered
answered (c ∷ bs) d b sheet long =
    let after = brought_by d c.line sheet b in
    All-cons Answered _ _
    (canon (left_by d c.line sheet), refl, is_taken (left_by d c.line sheet) after sheet long.0)
    (answered bs (left_by d c.line sheet) after (sheet_by d c.line sheet) (later_long d c bs sheet b long))

-- ---- how a list begins

begun : (buffer sheet : List ℕ) (n : ℕ) → Begins buffer n sheet → n ≡ 0
    → (sheet ≡ sheet_left (sheet_text new) buffer) × (4096 ≤ length buffer)
begun buffer _ _ (too_short h) e = absurd (omega arith)
begun buffer _ _ (written h) e = (refl, h)

pub from_new : FromNew
from_new buffer sheet begins =
    let s = begun buffer sheet 0 begins refl in
    host_gets_driver new a_new sheet (rw s.0 (is_read new a_new buffer s.1))

pub begun_is_taken : BegunIsTaken
begun_is_taken buffer sheet begins =
    let s = begun buffer sheet 0 begins refl in
    (canon new, rw s.0 (still_long new a_new buffer s.1), rw s.0 (is_taken new a_new buffer s.1))

-- a sheet that is taken brings its driver about
module _ (sheet : List ℕ) (x : Driver) (t : Taken (sheet_in sheet) x) where
  shown : Brought x
  shown = by_rebuild a_new (sheet_in sheet) (turn x (LineAnswer.Said Answer.Done)) (done x t)

  pub from_shown : (bs : List Brings) → Long sheet bs → (got : List Left) → HandedOn sheet bs got ↔ (got ≡ driver_gives x sheet bs)
  from_shown = host_gets_driver x shown sheet (sym (writes_same_sheet (sheet_in sheet) x t))

  pub answered_shown : (bs : List Brings) → Long sheet bs → (got : List Left) → HandedOn sheet bs got → All Answered got
  answered_shown bs long got h = rw ((from_shown bs long got).0 h) (answered bs x shown sheet long)

pub from_sheet : FromSheet
from_sheet = from_shown

pub never_four_or_five : NeverFourOrFive
never_four_or_five = answered_shown

-- ---- the lengths of the buffers

line_room : (a : LineAnswer) → length (line_text (answer_here a)) ≤ 512
unfolding answer_here line_text
line_room (LineAnswer.Said a) = answer_room a
line_room LineAnswer.NoCall = omega arith
line_room LineAnswer.SheetTooShort = omega arith
line_room LineAnswer.SheetNotTaken = omega arith
line_room (LineAnswer.Sheet n) = answer_room Answer.Done

module _ (line sheet answer : List ℕ) (x : Driver) (t : Taken (sheet_in sheet) x)
    (long : 4096 ≤ length sheet) (room : 512 ≤ length answer) where
  sheet_length : length (sheet_by x line sheet) ≡ length sheet
  sheet_length =
      let most = sheet_room (left_by x line sheet) (brought_keep (left_by x line sheet) (brought_by x line sheet (shown sheet x t))) in
      sheet_fits (sheet_text (left_by x line sheet)) sheet (omega arith)

  answer_length : length (answer_left (line_text (answer_here (turn_of x (call line) sheet).answer)) answer) ≡ length answer
  answer_length =
      let most = line_room (turn_of x (call line) sheet).answer in
      answer_fits (line_text (answer_here (turn_of x (call line) sheet).answer)) answer (omega arith)

pub lengths_stay : LengthsStay
lengths_stay line sheet answer _ (too_short h) = (refl, refl)
lengths_stay line sheet answer _ (not_taken p q f) = (refl, refl)
lengths_stay line sheet answer _ (made p q x t) = (sheet_length line sheet answer x t p q, answer_length line sheet answer x t p q)

same_room : (lines : List (List ℕ)) (sheet answer : List ℕ) → 512 ≤ length answer → (got : List Left)
    → HandedOn sheet (same_buffer answer lines got) got → All Room (same_buffer answer lines got)
unfolding same_buffer
same_room [] sheet answer room got h = All-nil Room
same_room (line ∷ lines) sheet answer room [] h = nothing_left h
  where
    nothing_left : {b : Brings} {bs : List Brings} {X : Type 0} → HandedOn sheet (b ∷ bs) [] → X
    nothing_left k = elim k [ ]
same_room (line ∷ lines) sheet answer room (l ∷ later) (next p h) =
    let stay = (lengths_stay line sheet answer l p).1 in
    All-cons Room _ _ room (same_room lines l.sheet l.answer (omega arith) later h)

pub same_buffers : SameBuffers
same_buffers sheet answer x t long room lines got h =
    let bs = same_buffer answer lines got in
    let rooms : Long sheet bs = (long, same_room lines sheet answer room got h) in
    ((from_shown sheet x t bs rooms got).0 h, answered_shown sheet x t bs rooms got h)
