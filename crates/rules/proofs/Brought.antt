-- Drivers that lines and sheets bring about.
use Prim.Native.Nat.{ℕ, ◌≤◌}
use mathlib.Core.List.{List, [], ◌∷◌}
use mathlib.Core.Path.{◌≡◌, refl, ap, sym, subst, ◌∙◌}
use lib.ListN.{length}
use Rattle.alike.proofs.Canons.{canon_kept, canon_twice}
use Rattle.alike.proofs.Kept.{holds_of_new}
use Rattle.alike.specs.Canon.{canon}
use Rattle.alike.specs.Invariant.{Invariant}
use Rattle.head_driver.specs.New.{new}
use Rattle.head_driver.specs.declared.Driver.{Driver}
use Rattle.alike.proofs.Shown.{shows_on}
use Rattle.driver.specs.Turns.{made, turn, turn_of}
use Rattle.driver.specs.declared.Turn.{Turn}
use Rattle.head_driver.specs.declared.Answer.{Answer}
use Rattle.rebuild.specs.Rebuilds.{Rebuilds, Taken, done, not_taken}
use Rattle.script_answer.specs.declared.LineAnswer.{LineAnswer}
use Rattle.script_call.specs.Calls.{call}
use Rattle.script_call.specs.declared.LineCall.{LineCall}
use Rattle.sheet_back.proofs.Sheets.{equal_sheets}
use Rattle.std.specs.Prelude.{Option, Some, None}
use Rattle.script_sheet.specs.Sheets.{lines_of, sheet_text}
use Rattle.sheet_rules.proofs.Kept.{keeps_meets, meets_keeps, shows_self}
use Rattle.rules.specs.Brought.{Brought, BroughtKeep, BroughtRule, EverySheetTaken, RebuiltAnswersAlike, WritesSameSheet, PutBack, PutBackAs, RebuiltSheetsAlike, a_new, by_line, by_rebuild}
use Rattle.rules.specs.Runs.{Entry, after, turn_at}
use Rattle.rules.specs.Sheets.{sheet_into}
use Rattle.rules.specs.Statements.{AnswersTellSheets, SameAnswers, SheetRule, SheetsTellAnswers, TellingBelow}
use Rattle.rules.proofs.LineFeeds.{sheet_is_text}
use Rattle.rules.proofs.Lines.{lines_keep}
use Rattle.rules.proofs.Rule.{kept_answers_tell_sheets, kept_sheets_tell_answers, telling}

pub taken_keeps : (sheet : List ℕ) (x : Driver) → Taken sheet x → Invariant x
taken_keeps sheet x t = meets_keeps x t.0.0 t.1

-- a rebuild gives what the bytes show, or the driver at hand
rebuild_keeps : (d : Driver) (bytes : List ℕ) (got : Turn) → Rebuilds d bytes got → Invariant d → Invariant got.driver
rebuild_keeps d bytes _ (done x t) v = taken_keeps bytes x t
rebuild_keeps d bytes _ (not_taken f) v = v

pub brought_keep : BroughtKeep
unfolding after
brought_keep d a_new = holds_of_new
brought_keep d (by_line {d = c} b e) = lines_keep c (e ∷ []) (brought_keep c b)
brought_keep d (by_rebuild {d = c} b bytes got r) = rebuild_keeps c bytes got r (brought_keep c b)

pub every_sheet_taken : EverySheetTaken
unfolding sheet_text
every_sheet_taken d b =
    let k = keeps_meets (canon d) (canon_kept d (brought_keep d b)) (canon_twice d) in
    ((k.0, refl), k.1)

pub writes_same_sheet : WritesSameSheet
unfolding sheet_text
writes_same_sheet sheet x t = ap lines_of (shows_self x t.0.0 t.1) ∙ sym t.0.1

pub rebuilt_answers_alike : RebuiltAnswersAlike
rebuilt_answers_alike d x b t =
    kept_sheets_tell_answers d x (brought_keep d b) (taken_keeps (sheet_text d) x t) (sym (writes_same_sheet (sheet_text d) x t))

line_shows : (d₁ d₂ : Driver) → Invariant d₁ → Invariant d₂ → canon d₁ ≡ canon d₂ → (q : Option LineCall) (buffer : List ℕ)
    → canon (turn_of d₁ q buffer).driver ≡ canon (turn_of d₂ q buffer).driver
unfolding turn_of made
line_shows d₁ d₂ v₁ v₂ e None buffer = e
line_shows d₁ d₂ v₁ v₂ e (Some LineCall.Sheet) buffer = e
line_shows d₁ d₂ v₁ v₂ e (Some (LineCall.Make c)) buffer = shows_on d₁ d₂ v₁ v₂ e c

lines_show : (d₁ d₂ : Driver) → Invariant d₁ → Invariant d₂ → canon d₁ ≡ canon d₂ → (es : List Entry)
    → canon (after d₁ es) ≡ canon (after d₂ es)
unfolding after
lines_show d₁ d₂ v₁ v₂ q [] = q
lines_show d₁ d₂ v₁ v₂ q (e ∷ es) =
    lines_show (turn_at d₁ e).driver (turn_at d₂ e).driver
    (lines_keep d₁ (e ∷ []) v₁) (lines_keep d₂ (e ∷ []) v₂) (line_shows d₁ d₂ v₁ v₂ q (call e.line) e.buffer) es

pub rebuilt_sheets_alike : RebuiltSheetsAlike
unfolding sheet_text
rebuilt_sheets_alike d x b t es =
    let v = brought_keep d b in
    let w = taken_keeps (sheet_text d) x t in
    ap lines_of (lines_show d x v w ((equal_sheets d x v w).0 (sym (writes_same_sheet (sheet_text d) x t))) es)

put_back_as : (d x : Driver) → Brought d → Taken (sheet_text d) x → PutBackAs d (turn x (LineAnswer.Said Answer.Done))
put_back_as d x b t = record {
  done = refl;
  same_sheet = writes_same_sheet (sheet_text d) x t;
  same_answers = rebuilt_answers_alike d x b t;
  same_later = rebuilt_sheets_alike d x b t;
}

pub put_back : PutBack
put_back d hand b buffer h got r = go got (subst (λ s. Rebuilds hand s got) (sheet_is_text d buffer h) r)
  where
    go : (u : Turn) → Rebuilds hand (sheet_text d) u → PutBackAs d u
    go _ (done x t) = put_back_as d x b t
    go _ (not_taken f) = absurd (f (canon d) (every_sheet_taken d b))

-- ---- the sheet rule and its halves

module _ (d₁ d₂ : Driver) (b₁ : Brought d₁) (b₂ : Brought d₂)
    (buffer₁ buffer₂ : List ℕ) (h₁ : 4096 ≤ length buffer₁) (h₂ : 4096 ≤ length buffer₂) where
  v₁ : Invariant d₁
  v₁ = brought_keep d₁ b₁

  v₂ : Invariant d₂
  v₂ = brought_keep d₂ b₂

  s₁ : sheet_into buffer₁ d₁ ≡ sheet_text d₁
  s₁ = sheet_is_text d₁ buffer₁ h₁

  s₂ : sheet_into buffer₂ d₂ ≡ sheet_text d₂
  s₂ = sheet_is_text d₂ buffer₂ h₂

  sheets_tell : sheet_into buffer₁ d₁ ≡ sheet_into buffer₂ d₂ → SameAnswers d₁ d₂
  sheets_tell e = kept_sheets_tell_answers d₁ d₂ v₁ v₂ (sym s₁ ∙ e ∙ s₂)

  answers_tell : TellingBelow d₁ → TellingBelow d₂ → SameAnswers d₁ d₂ → sheet_into buffer₁ d₁ ≡ sheet_into buffer₂ d₂
  answers_tell c₁ c₂ s = s₁ ∙ kept_answers_tell_sheets d₁ d₂ v₁ v₂ c₁ c₂ s ∙ sym s₂

pub brought_rule : BroughtRule
brought_rule d₁ d₂ b₁ b₂ buffer₁ buffer₂ h₁ h₂ c₁ c₂ =
    (sheets_tell d₁ d₂ b₁ b₂ buffer₁ buffer₂ h₁ h₂, answers_tell d₁ d₂ b₁ b₂ buffer₁ buffer₂ h₁ h₂ (telling c₁) (telling c₂))

-- ---- the former statements: lines alone bring a driver about too

lines_bring : (d : Driver) (es : List Entry) → Brought d → Brought (after d es)
unfolding after
lines_bring d [] b = b
lines_bring d (e ∷ es) b = lines_bring (turn_at d e).driver es (by_line b e)

by_lines : (es : List Entry) → Brought (after new es)
by_lines es = lines_bring new es a_new

pub sheets_tell_answers : SheetsTellAnswers
sheets_tell_answers first second = sheets_tell (after new first) (after new second) (by_lines first) (by_lines second)

pub answers_tell_sheets : AnswersTellSheets
answers_tell_sheets first second = answers_tell (after new first) (after new second) (by_lines first) (by_lines second)

pub sheet_rule : SheetRule
sheet_rule first second = brought_rule (after new first) (after new second) (by_lines first) (by_lines second)
