-- Every answer is read back.
use Rattle.std.specs.Prelude.{Option}
use Rattle.head_current.specs.declared.DeltaReport.{DeltaReport}
use Prim.Native.Nat.{ℕ}
use native.Mathlib.Omega.{arith}
use mathlib.Core.List.{List, [], ◌++◌}
use mathlib.Core.Path.{◌≡◌, refl, ap, sym, ◌∙◌}
use Rattle.head_driver.specs.Answers.{said, stats_values}
use Rattle.head_ready.specs.Said.{outcome_said}
use Rattle.script_back.proofs.Counters.{spaced_back, spaced_run, stats_back}
use Rattle.script_back.proofs.Outcomes.{end_back, link_back, outcome_back, readiness_back, report_back, source_back, settle_number_back}
use Rattle.value_text.proofs.Back.{sheet_anchor_back, sheet_slot_back}
use Rattle.head_values.specs.Ranges.{AnchorFits, OutcomeFits, SlotFits}
use Rattle.hash.specs.Ranges.{Fits}
use Rattle.head_ready.specs.Ranges.{ReadinessFits, SourceFits}
use Rattle.script_answer.proofs.Views.{view_values}
use Rattle.head_current.specs.Ranges.{ReportFits}
use Rattle.head_count.specs.Ranges.{StatsFit}
use Rattle.value_text.specs.Reads.{got, map, then}
use Rattle.script_value.specs.Lines.{refusal_on}
use Rattle.script_outcome.specs.Texts.{end_text, outcome_text, readiness_text, report_text, settle_number_text, source_text}
use Rattle.script_value.specs.Texts.{spaced_text, stats_text}
use Rattle.value_text.specs.Texts.{anchor_text, link_text, slot_text}
use Rattle.value_text.proofs.Rows.{values_then}
use Rattle.value_text.specs.Values.{value_text, values_on}
use Rattle.value_text.specs.Words.{word_text}
use Rattle.text.specs.Ascii.{ascii}
use Rattle.text.specs.Rests.{Took, after, at, after_byte}
use Rattle.text.specs.Same.{same_text}
use Rattle.text.specs.Words.{in_word, run}
use Rattle.head_values.specs.declared.CarryOutcome.{CarryOutcome}
use Rattle.head_values.specs.declared.Link.{Link}
use Rattle.head_values.specs.declared.ReadAnchor.{ReadAnchor}
use Rattle.head_attempt.specs.declared.HeadCompletion.{HeadCompletion}
use Rattle.head_count.specs.declared.HeadStats.{HeadStats}
use Rattle.head_driver.specs.declared.Answer.{Answer}
use Rattle.head_ready.specs.declared.HeadOutcome.{HeadOutcome}
use Rattle.head_ready.specs.declared.HeadView.{HeadView}
use Rattle.head_ready.specs.declared.Source.{Source}
use Rattle.answer_back.specs.Ranges.{AnswerFits, HeadOutcomeFits}
use Rattle.answer_back.specs.Reads.{answer_named, read_answer, read_foreign, read_heads, read_refused, read_view, refused_by}
use Rattle.answer_back.specs.Statements.{Injective, ReadBack}
use Rattle.answer_back.proofs.Forms.{line_form, named}

-- what follows a word is read to the line's end
abbrev Reads : List ℕ → List ℕ → Answer → Type 0
Reads w t a = then (ascii ")\n") (answer_named w (at t)) ≡ got a (at [])

-- ---- accepted

ticket_back : (n : ℕ) → Fits n → Reads (ascii "ticket") (spaced_text n ++ ascii ")\n") (Answer.Ticket (record { 0 = n }))
unfolding answer_named same_text word_text then map after after_byte run in_word
ticket_back n f = simp spaced_back

claimed_back : (n : ℕ) → Fits n → Reads (ascii "claimed") (spaced_text n ++ ascii ")\n") (Answer.Claimed (record { 0 = n }))
unfolding answer_named same_text word_text then map after after_byte run in_word
claimed_back n f = simp spaced_back

done_back : Reads (ascii "done") (ascii ")\n") Answer.Done
unfolding answer_named same_text word_text then after after_byte
done_back = refl

settled_back : (o : CarryOutcome) → OutcomeFits o → Reads (ascii "settled") (ascii " " ++ (outcome_text o ++ ascii ")\n")) (Answer.Outcome (HeadOutcome.Settled o))
unfolding answer_named same_text word_text then map after after_byte
settled_back o f = simp (outcome_back, f)

-- what follows a view's word
abbrev view_rest : HeadView → List ℕ
view_rest v =
    ascii " " ++ (source_text v.source ++ (spaced_text v.handle
    ++ (settle_number_text v.source ++ (ascii " " ++ (readiness_text v.readiness ++ ascii ")\n")))))

-- a number or a space ends the handle
settle_number_run : (s : Source) (t : List ℕ) → run t ≡ 0 → run (settle_number_text s ++ t) ≡ 0
unfolding settle_number_text run in_word
settle_number_run (Source.Installed n) t z = refl
settle_number_run Source.Provisional t z = z
settle_number_run (Source.Previous n) t z = refl
settle_number_run Source.Spare t z = z

view_back : (v : HeadView) → SourceFits v.source → Fits v.handle → ReadinessFits v.readiness
    → Reads (ascii "view") (view_rest v) (Answer.View v)
unfolding answer_named read_view same_text word_text then after after_byte run in_word
view_back v s f g = simp (source_back, spaced_back, spaced_run, settle_number_run, settle_number_back, readiness_back, s, g)

parked_back : Reads (ascii "parked") (ascii ")\n") Answer.Parked
unfolding answer_named same_text word_text then after after_byte
parked_back = refl

completion_back : (end : HeadCompletion) → Reads (ascii "completion") (ascii " " ++ (end_text end ++ ascii ")\n")) (Answer.Completion end)
unfolding answer_named same_text word_text then map after after_byte run in_word
completion_back end = simp end_back

link_line_back : (link : Link) → Reads (ascii "link") (ascii " " ++ (link_text link ++ ascii ")\n")) (Answer.Link link)
unfolding answer_named same_text word_text then map after after_byte run in_word
link_line_back link = simp link_back

report_line_back : (r : Option DeltaReport) → ReportFits r → Reads (ascii "report") (ascii " " ++ (report_text r ++ ascii ")\n")) (Answer.Report r)
unfolding answer_named same_text word_text then map after after_byte run in_word
report_line_back r f = simp (report_back, f)

stats_line_back : (s : HeadStats) → StatsFit s → Reads (ascii "stats") (stats_text s ++ ascii ")\n") (Answer.Stats s)
unfolding answer_named same_text word_text then map after after_byte run in_word
stats_line_back s f = simp stats_back

heads_back : (c i p : Option ReadAnchor) → SlotFits c → SlotFits i → SlotFits p
    → Reads (ascii "heads") (ascii " " ++ (slot_text c ++ (ascii " " ++ (slot_text i ++ (ascii " " ++ (slot_text p ++ ascii ")\n")))))) (Answer.Heads c i p)
unfolding answer_named read_heads same_text word_text then after after_byte run in_word
heads_back c i p f g h = simp (sheet_slot_back, f, g, h)

-- ---- refused

-- after the number
abbrev Refused : ℕ → List ℕ → Answer → Type 0
Refused n t a = then (ascii ")\n") (refused_by n (at t)) ≡ got a (at [])

refused_back : (n : ℕ) (t : List ℕ) (a : Answer) → Fits n → run t ≡ 0 → Refused n t a → Reads (ascii "refused") (spaced_text n ++ t) a
unfolding answer_named same_text word_text read_refused
refused_back n t a f z e = rw (spaced_back n t f z) e

superseded_back : (a : ReadAnchor) → AnchorFits a → Refused 11 (ascii " " ++ (anchor_text a ++ ascii ")\n")) (Answer.Outcome (HeadOutcome.Superseded a))
unfolding refused_by then map after after_byte
superseded_back a f = simp sheet_anchor_back

foreign_back : (list held : ReadAnchor) → AnchorFits list → AnchorFits held
    → Refused 12 (ascii " " ++ (anchor_text list ++ (ascii " " ++ (anchor_text held ++ ascii ")\n")))) (Answer.Outcome (HeadOutcome.Foreign list held))
unfolding refused_by read_foreign then after after_byte
foreign_back list held f g = simp sheet_anchor_back

-- ---- lines

-- a line from its word and what follows
abbrev Line : List ℕ → List ℕ → Answer → Type 0
Line w t a = read_answer (at (ascii "(" ++ (w ++ t))) ≡ got a (at [])

number_refused : (n : ℕ) (t : List ℕ) (a : Answer) → Fits n → run t ≡ 0 → Refused n t a → Line (ascii "refused") (spaced_text n ++ t) a
unfolding run in_word
number_refused n t a f z e = named (ascii "refused") (spaced_text n ++ t) refl (spaced_run n t) ∙ refused_back n t a f z e

outcome_line : (o : HeadOutcome) → HeadOutcomeFits o → Line (word_text (outcome_said o).word) (refusal_on (outcome_said o).number (values_on (outcome_said o).values (ascii ")\n"))) (Answer.Outcome o)
unfolding outcome_said word_text refusal_on values_on value_text spaced_text anchor_text outcome_text refused_by then after after_byte run in_word
outcome_line (HeadOutcome.Settled o) f = named (ascii "settled") (ascii " " ++ (outcome_text o ++ ascii ")\n")) refl refl ∙ settled_back o f
outcome_line HeadOutcome.AlreadySettled f = number_refused 13 (ascii ")\n") _ (omega arith) refl refl
outcome_line HeadOutcome.InFlight f = number_refused 14 (ascii ")\n") _ (omega arith) refl refl
outcome_line (HeadOutcome.Superseded a) f = number_refused 11 (ascii " " ++ (anchor_text a ++ ascii ")\n")) _ (omega arith) refl (superseded_back a f)
outcome_line (HeadOutcome.Foreign list held) f = number_refused 12 (ascii " " ++ (anchor_text list ++ (ascii " " ++ (anchor_text held ++ ascii ")\n")))) _ (omega arith) refl (foreign_back list held f.0 f.1)

stats_said : (s : HeadStats) → StatsFit s → Line (ascii "stats") (values_on (stats_values s) (ascii ")\n")) (Answer.Stats s)
unfolding stats_text stats_values values_on run in_word
stats_said s f =
    ap (λ (t : List ℕ). read_answer (at (ascii "(" ++ (ascii "stats" ++ t)))) (sym (values_then (stats_values s) (ascii ")\n")))
    ∙ named (ascii "stats") (stats_text s ++ ascii ")\n") refl refl
    ∙ stats_line_back s f

said_back : (a : Answer) → AnswerFits a → Line (word_text (said a).word) (refusal_on (said a).number (values_on (said a).values (ascii ")\n"))) a
unfolding said word_text refusal_on values_on value_text spaced_text slot_text source_text readiness_text end_text link_text report_text refused_by then after after_byte run in_word
said_back (Answer.Ticket n) f = named (ascii "ticket") (spaced_text n.0 ++ ascii ")\n") refl refl ∙ ticket_back n.0 f
said_back (Answer.Claimed e) f = named (ascii "claimed") (spaced_text e.0 ++ ascii ")\n") refl refl ∙ claimed_back e.0 f
said_back Answer.Done f = named (ascii "done") (ascii ")\n") refl refl ∙ done_back
said_back (Answer.Outcome o) f = outcome_line o f
said_back (Answer.View v) f =
    ap (λ (t : List ℕ). read_answer (at (ascii "(" ++ (ascii "view" ++ t)))) (view_values v (ascii ")\n"))
    ∙ named (ascii "view") (view_rest v) refl refl
    ∙ view_back v f.0 f.1 f.2
said_back Answer.Parked f = named (ascii "parked") (ascii ")\n") refl refl ∙ parked_back
said_back (Answer.Completion end) f = named (ascii "completion") (ascii " " ++ (end_text end ++ ascii ")\n")) refl refl ∙ completion_back end
said_back (Answer.Link link) f = named (ascii "link") (ascii " " ++ (link_text link ++ ascii ")\n")) refl refl ∙ link_line_back link
said_back (Answer.Report r) f = named (ascii "report") (ascii " " ++ (report_text r ++ ascii ")\n")) refl refl ∙ report_line_back r f
said_back (Answer.Stats s) f = stats_said s f
said_back (Answer.Heads c i p) f =
    named (ascii "heads") (ascii " " ++ (slot_text c ++ (ascii " " ++ (slot_text i ++ (ascii " " ++ (slot_text p ++ ascii ")\n")))))) refl refl
    ∙ heads_back c i p f.0 f.1 f.2
said_back Answer.ListDisagrees f = number_refused 2 (ascii ")\n") _ (omega arith) refl refl
said_back Answer.WaiterAbove15 f = number_refused 3 (ascii ")\n") _ (omega arith) refl refl
said_back Answer.WaiterNotFree f = number_refused 15 (ascii ")\n") _ (omega arith) refl refl
said_back Answer.WaiterFree f = number_refused 16 (ascii ")\n") _ (omega arith) refl refl

pub answer_back : ReadBack
answer_back a f = ap (λ (s : List ℕ). read_answer (at s)) (line_form a) ∙ said_back a f

pub answer_injective : Injective
answer_injective x y f g e = ap (λ (t : Took Answer). t.value) (sym (answer_back x f) ∙ ap (λ (s : List ℕ). read_answer (at s)) e ∙ answer_back y g)
