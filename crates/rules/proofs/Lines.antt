-- Lines against the calls that they write: every line keeps the invariant; drivers that answer every call alike answer every line alike, and the other way round.
use Prim.Native.Nat.{ℕ}
use mathlib.Core.List.{List, [], ◌∷◌}
use mathlib.Core.Path.{◌≡◌, refl, ap, ap₂, sym, ◌∙◌}
use Rattle.std.specs.Prelude.{Option, Some, None}
use Rattle.head_call.specs.Ranges.{Writable}
use Rattle.alike.proofs.Kept.{kept}
use Rattle.alike.specs.Invariant.{Invariant}
use Rattle.alike.specs.Runs as R
use Rattle.alike.specs.Statements as C
use Rattle.answer_back.proofs.Answers.{answer_injective}
use Rattle.driver.specs.Turns.{made, turn_of}
use Rattle.head_step.specs.Steps.{step}
use Rattle.script_answer.specs.Answers.{answer_line, line_text}
use Rattle.script_call.proofs.Back.{call_back, sheet_back}
use Rattle.script_call.proofs.Only.{sheet_only}
use Rattle.script_call.proofs.Ranges.{call_range}
use Rattle.script_call.specs.Calls.{call}
use Rattle.script_call.specs.Ranges.{LineWritable}
use Rattle.script_call.specs.Texts.{call_text, sheet_call_text}
use Rattle.head_driver.specs.declared.Answer.{Answer}
use Rattle.head_driver.specs.declared.Driver.{Driver}
use Rattle.head_call.specs.declared.Call.{Call}
use Rattle.script_call.specs.declared.LineCall.{LineCall}
use Rattle.rules.specs.Runs.{Bytes, Entry, Further, after, answers, turn_at}
use Rattle.rules.specs.Statements.{LinesKeep, SameAnswers}
use Rattle.rules.proofs.Bytes.{bytes_call, one_line_call}
use Rattle.rules.proofs.Fits.{answer_fits}

-- ---- the invariant

turn_keeps : (d : Driver) (q : Option LineCall) (buffer : List ℕ) → LineWritable q → Invariant d → Invariant (turn_of d q buffer).driver
unfolding turn_of made
turn_keeps d None buffer r v = v
turn_keeps d (Some LineCall.Sheet) buffer r v = v
turn_keeps d (Some (LineCall.Make c)) buffer r v = kept d c v r

pub lines_keep : LinesKeep
unfolding after
lines_keep d [] v = v
lines_keep d (e ∷ es) v = lines_keep (turn_at d e).driver es (turn_keeps d (call e.line) e.buffer (call_range e.line) v)

-- ---- lists of answers

abbrev first_or : {A : Type 0} → A → List A → A
first_or a [] = a
first_or a (x ∷ xs) = x

abbrev rest : {A : Type 0} → List A → List A
rest [] = []
rest (x ∷ xs) = xs

-- ---- from calls to lines

-- what is asked for is no sheet
abbrev NoSheet : Option LineCall → Type 0
NoSheet None = Unit {0}
NoSheet (Some LineCall.Sheet) = ⊥
NoSheet (Some (LineCall.Make c)) = Unit {0}

no_sheet : (l : List ℕ) → ¬ (l ≡ sheet_call_text) → NoSheet (call l)
no_sheet l n = go (call l) refl
  where
    go : (q : Option LineCall) → call l ≡ q → NoSheet q
    go None e = tt
    go (Some LineCall.Sheet) e = n (sheet_only l e)
    go (Some (LineCall.Make c)) e = tt

-- the answer's line is the same, and so is whatever follows
record Alike (d₁ d₂ : Driver) (q : Option LineCall) (b : List ℕ) : Type 0 where
  answer : line_text (turn_of d₁ q b).answer ≡ line_text (turn_of d₂ q b).answer
  later : C.SameAnswers (turn_of d₁ q b).driver (turn_of d₂ q b).driver

turn_alike : (d₁ d₂ : Driver) → C.SameAnswers d₁ d₂ → (q : Option LineCall) (b : List ℕ) → LineWritable q → NoSheet q → Alike d₁ d₂ q b
unfolding turn_of made line_text R.answers
turn_alike d₁ d₂ s None b r n = record { answer = refl; later = s }
turn_alike d₁ d₂ s (Some LineCall.Sheet) b r n = absurd n
turn_alike d₁ d₂ s (Some (LineCall.Make c)) b r n =
    let w = r in
    record { answer = ap answer_line (ap (first_or Answer.Done) (s (c ∷ []) (w, tt))); later = λ cs ws. ap rest (s (c ∷ cs) (w, ws)) }

pub lines_alike : (d₁ d₂ : Driver) → C.SameAnswers d₁ d₂ → SameAnswers d₁ d₂
unfolding answers sheet_call_text
lines_alike d₁ d₂ s [] n = refl
lines_alike d₁ d₂ s (e ∷ es) n =
    let z = turn_alike d₁ d₂ s (call e.line) e.buffer (call_range e.line) (no_sheet e.line n.3) in
    ap₂ ◌∷◌ z.answer (lines_alike (turn_at d₁ e).driver (turn_at d₂ e).driver z.later es n.4)

-- ---- from lines to calls

-- a call's own line, with no buffer beside it
abbrev line_of : Call → Entry
line_of c = record { line = call_text c; buffer = [] }

made_sheet : {c : Call} → Some (LineCall.Make c) ≡ Some LineCall.Sheet → ⊥
made_sheet p = cc

not_sheet : (c : Call) → Writable c → ¬ (call_text c ≡ sheet_call_text)
not_sheet c r e = made_sheet (sym (call_back c r) ∙ ap call e ∙ sheet_back)

pub calls_alike : (d₁ d₂ : Driver) → Invariant d₁ → Invariant d₂ → SameAnswers d₁ d₂ → C.SameAnswers d₁ d₂
unfolding R.answers answers turn_of made line_text sheet_call_text Bytes
calls_alike d₁ d₂ v₁ v₂ s [] r = refl
calls_alike d₁ d₂ v₁ v₂ s (c ∷ cs) r =
    let q = call_back c r.0 in
    let h : (es : List Entry) → Further es → (answer_line (step d₁ c).answer ∷ answers (step d₁ c).driver es) ≡ (answer_line (step d₂ c).answer ∷ answers (step d₂ c).driver es)
    = λ es n. rw q at (s (line_of c ∷ es) (bytes_call c, one_line_call c, tt, not_sheet c r.0, n)) in
    ap₂ ◌∷◌
    (answer_injective _ _ (answer_fits d₁ c v₁.fits r.0) (answer_fits d₂ c v₂.fits r.0) (ap (first_or []) (h [] tt)))
    (calls_alike (step d₁ c).driver (step d₂ c).driver (kept d₁ c v₁ r.0) (kept d₂ c v₂ r.0) (λ es n. ap rest (h es n)) cs r.1)
