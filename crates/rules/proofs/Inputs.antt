-- The sheet rule over whole inputs.
use Prim.Native.Nat.{ℕ}
use mathlib.Core.Bool.{Bool, true, false}
use mathlib.Core.List.{List, [], ◌∷◌, ◌++◌, append_assoc, append-nil, map}
use mathlib.Core.Path.{◌≡◌, refl, ap, sym, ◌∙◌}
use lib.Dec.{eqb}
use lib.ListN.{length, drop}
use lib.Seq.{drop-append_seam}
use Rattle.std.specs.Prelude.{Some, cond}
use Rattle.alike.proofs.Kept.{holds_of_new}
use Rattle.alike.specs.Invariant.{Invariant}
use Rattle.head_driver.specs.New.{new}
use Rattle.script.specs.Scripts.{answered, lines, lines_after, script}
use Rattle.script_call.specs.Calls.{call}
use Rattle.script_call.specs.Texts.{sheet_call_text}
use Rattle.script_call.proofs.Back.{sheet_back}
use Rattle.script.specs.Prints.{leaves, prints}
use Rattle.script_sheet.specs.Sheets.{sheet_text}
use Rattle.text.specs.Ascii.{ascii}
use Rattle.head_driver.specs.declared.Driver.{Driver}
use Rattle.script_call.specs.declared.LineCall.{LineCall}
use Rattle.rules.specs.Inputs.{EndsInFeed, InputsRule, alone, empty, ended, last_sheet, driver_left_by}
use Rattle.rules.specs.Runs.{after}
use Rattle.rules.proofs.Lines.{lines_keep}
use Rattle.rules.proofs.Rule.{kept_answers_tell_sheets, kept_sheets_tell_answers, telling}

-- ---- lines one after another

lines_ended : (x y line : List ℕ) → lines_after line ((x ++ (10 ∷ [])) ++ y) ≡ lines_after line (x ++ (10 ∷ [])) ++ lines_after [] y
unfolding lines_after
lines_ended [] y line = refl
lines_ended (b ∷ x) y line = go (eqb b 10) (lines_ended x y)
  where
    go : (t : Bool) → ((line : List ℕ) → lines_after line ((x ++ (10 ∷ [])) ++ y) ≡ lines_after line (x ++ (10 ∷ [])) ++ lines_after [] y)
        → cond t (line ∷ lines_after [] ((x ++ (10 ∷ [])) ++ y)) (lines_after (line ++ (b ∷ [])) ((x ++ (10 ∷ [])) ++ y))
        ≡ cond t (line ∷ lines_after [] (x ++ (10 ∷ []))) (lines_after (line ++ (b ∷ [])) (x ++ (10 ∷ []))) ++ lines_after [] y
    go true more = ap (λ (r : List (List ℕ)). line ∷ r) (more [])
    go false more = more (line ++ (b ∷ []))

lines_append : (x y : List ℕ) → EndsInFeed x → lines (x ++ y) ≡ lines x ++ lines y
unfolding lines lines_after
lines_append x y empty = refl
lines_append x y (ended input) = lines_ended input y []

answered_append : (d : Driver) (x y : List (List ℕ)) → answered d (x ++ y) ≡ answered d x ++ answered (after d (map alone x)) y
unfolding answered after leaves
answered_append d [] y = refl
answered_append d (line ∷ x) y = ap (λ (r : List ℕ). prints d (call line) ++ r) (answered_append (leaves d (call line)) x y) ∙ sym (append_assoc (prints d (call line)) _ _)

-- ---- the last sheet

sheet_line : lines (ascii "(sheet)\n") ≡ ascii "(sheet)" ∷ []
unfolding lines lines_after
sheet_line = refl

sheet_is : call (ascii "(sheet)") ≡ Some LineCall.Sheet
unfolding sheet_call_text
sheet_is = sheet_back

prints_sheet : (d : Driver) → answered d (ascii "(sheet)" ∷ []) ≡ sheet_text d
unfolding answered prints
prints_sheet d = rw (sheet_is, append-nil)

pub last_sheet_lem : (input : List ℕ) → EndsInFeed input → last_sheet input ≡ sheet_text (driver_left_by input)
unfolding script
last_sheet_lem input e =
    let whole : answered new (lines (input ++ ascii "(sheet)\n")) ≡ answered new (lines input) ++ sheet_text (driver_left_by input)
    = (ap (answered new) (lines_append input (ascii "(sheet)\n") e ∙ ap (λ (r : List (List ℕ)). lines input ++ r) sheet_line)
    ∙ answered_append new (lines input) (ascii "(sheet)" ∷ [])
    ∙ ap (λ (r : List ℕ). answered new (lines input) ++ r) (prints_sheet (driver_left_by input))) in
    ap (drop (length (answered new (lines input)))) whole ∙ drop-append_seam (answered new (lines input)) (sheet_text (driver_left_by input))

-- ---- the rule

brought : (input : List ℕ) → Invariant (driver_left_by input)
brought input = lines_keep new (map alone (lines input)) holds_of_new

pub inputs_rule : InputsRule
inputs_rule first second e₁ e₂ b₁ b₂ = (
  λ s. kept_sheets_tell_answers (driver_left_by first) (driver_left_by second) (brought first) (brought second) (sym (last_sheet_lem first e₁) ∙ s ∙ last_sheet_lem second e₂),
  λ a. last_sheet_lem first e₁ ∙ kept_answers_tell_sheets (driver_left_by first) (driver_left_by second) (brought first) (brought second) (telling b₁) (telling b₂) a ∙ sym (last_sheet_lem second e₂),
)
