-- How long an answer's line can be.
use Rattle.std.specs.Prelude.{Option}
use Rattle.head_current.specs.declared.DeltaReport.{DeltaReport}
use Prim.Native.Nat.{ℕ, ◌≤◌}
use native.Mathlib.Omega.{arith}
use mathlib.Core.List.{◌++◌}
use mathlib.Core.Path.{◌≡◌, refl}
use lib.ListN.{length, length-append}
use Rattle.head_driver.specs.Answers.{said}
use Rattle.head_ready.specs.Said.{outcome_said}
use Rattle.script_answer.proofs.Views.{view_form}
use Rattle.script_answer.specs.Answers.{answer_line}
use Rattle.script_value.specs.Lines.{answer_text, refusal_on, said_text}
use Rattle.script_outcome.specs.Texts.{end_text, outcome_text, report_text}
use Rattle.value_text.proofs.Rows.{values_then}
use Rattle.script_value.specs.Texts.{spaced_text, stats_text}
use Rattle.value_text.specs.Texts.{anchor_text, link_text, slot_text}
use Rattle.value_text.specs.Values.{value_text, values_on}
use Rattle.value_text.specs.Words.{word_text}
use Rattle.text.specs.Ascii.{ascii}
use Rattle.text.specs.Decimals.{decimal, decimal_on}
use Rattle.head_values.specs.declared.CarryOutcome.{CarryOutcome}
use Rattle.head_values.specs.declared.Link.{Link}
use Rattle.head_values.specs.declared.ReadAnchor.{ReadAnchor}
use Rattle.head_attempt.specs.declared.HeadCompletion.{HeadCompletion}
use Rattle.head_count.specs.declared.HeadStats.{HeadStats}
use Rattle.head_driver.specs.declared.Answer.{Answer}
use Rattle.head_ready.specs.declared.HeadOutcome.{HeadOutcome}
use Rattle.head_ready.specs.declared.HeadView.{HeadView}
use Rattle.script_lengths.specs.Statements.{AnswerLength, AnswerRoom}
use Rattle.value_text.proofs.Lengths.{anchor_most, slot_most}
use Rattle.script_lengths.proofs.Values.{end_most, link_most, outcome_most, readiness_most, report_most, source_most, spaced_most, stats_most, settle_number_most}

-- an answer's text is at most 277 bytes
abbrev Short : Answer → Type 0
Short a = length (answer_text a) ≤ 277

-- the texts, as they are put together

completion_form : (e : HeadCompletion) → answer_text (Answer.Completion e) ≡ ascii "(completion " ++ (end_text e ++ ascii ")")
unfolding answer_text said_text said refusal_on values_on value_text word_text end_text
completion_form e = refl

link_form : (k : Link) → answer_text (Answer.Link k) ≡ ascii "(link " ++ (link_text k ++ ascii ")")
unfolding answer_text said_text said refusal_on values_on value_text word_text link_text
link_form k = refl

report_form : (r : Option DeltaReport) → answer_text (Answer.Report r) ≡ ascii "(report " ++ (report_text r ++ ascii ")")
unfolding answer_text said_text said refusal_on values_on value_text word_text report_text
report_form r = refl

stats_form : (s : HeadStats) → answer_text (Answer.Stats s) ≡ ascii "(stats" ++ (stats_text s ++ ascii ")")
unfolding answer_text said_text said refusal_on word_text stats_text
stats_form s = rw values_then

heads_form : (c i p : Option ReadAnchor) → answer_text (Answer.Heads c i p) ≡ ascii "(heads " ++ (slot_text c ++ (ascii " " ++ (slot_text i ++ (ascii " " ++ (slot_text p ++ ascii ")")))))
unfolding answer_text said_text said refusal_on values_on value_text word_text slot_text
heads_form c i p = refl

settled_form : (o : CarryOutcome) → answer_text (Answer.Outcome (HeadOutcome.Settled o)) ≡ ascii "(settled " ++ (outcome_text o ++ ascii ")")
unfolding answer_text said_text said outcome_said refusal_on values_on value_text word_text outcome_text
settled_form o = refl

superseded_form : (a : ReadAnchor) → answer_text (Answer.Outcome (HeadOutcome.Superseded a)) ≡ ascii "(refused 11 " ++ (anchor_text a ++ ascii ")")
unfolding answer_text said_text said outcome_said refusal_on values_on value_text word_text anchor_text decimal decimal_on
superseded_form a = refl

foreign_form : (a b : ReadAnchor) → answer_text (Answer.Outcome (HeadOutcome.Foreign a b)) ≡ ascii "(refused 12 " ++ (anchor_text a ++ (ascii " " ++ (anchor_text b ++ ascii ")")))
unfolding answer_text said_text said outcome_said refusal_on values_on value_text word_text anchor_text decimal decimal_on
foreign_form a b = refl

ticket_form : (n : ℕ) → answer_text (Answer.Ticket (record { 0 = n })) ≡ ascii "(ticket" ++ (spaced_text n ++ ascii ")")
unfolding answer_text said_text said refusal_on values_on value_text word_text spaced_text
ticket_form n = refl

claimed_form : (n : ℕ) → answer_text (Answer.Claimed (record { 0 = n })) ≡ ascii "(claimed" ++ (spaced_text n ++ ascii ")")
unfolding answer_text said_text said refusal_on values_on value_text word_text spaced_text
claimed_form n = refl

-- and their lengths

settled_short : (o : CarryOutcome) → Short (Answer.Outcome (HeadOutcome.Settled o))
settled_short o = rw (settled_form o) (simp length-append (omega (arith, outcome_most o)))

superseded_short : (a : ReadAnchor) → Short (Answer.Outcome (HeadOutcome.Superseded a))
superseded_short a = rw (superseded_form a) (simp length-append (omega (arith, anchor_most a)))

foreign_short : (a b : ReadAnchor) → Short (Answer.Outcome (HeadOutcome.Foreign a b))
foreign_short a b = rw (foreign_form a b) (simp length-append (omega (arith, anchor_most a, anchor_most b)))

outcome_short : (o : HeadOutcome) → Short (Answer.Outcome o)
unfolding answer_text said_text said outcome_said refusal_on values_on word_text decimal decimal_on
outcome_short (HeadOutcome.Settled o) = settled_short o
outcome_short HeadOutcome.AlreadySettled = omega arith
outcome_short HeadOutcome.InFlight = omega arith
outcome_short (HeadOutcome.Superseded a) = superseded_short a
outcome_short (HeadOutcome.Foreign a b) = foreign_short a b

ticket_short : (n : ℕ) → Short (Answer.Ticket (record { 0 = n }))
ticket_short n = rw (ticket_form n) (simp length-append (omega (arith, spaced_most n)))

claimed_short : (n : ℕ) → Short (Answer.Claimed (record { 0 = n }))
claimed_short n = rw (claimed_form n) (simp length-append (omega (arith, spaced_most n)))

view_short : (v : HeadView) → Short (Answer.View v)
view_short v =
    rw (view_form v) (simp length-append
    (omega (arith, source_most v.source, spaced_most v.handle, settle_number_most v.source, readiness_most v.readiness)))

completion_short : (e : HeadCompletion) → Short (Answer.Completion e)
completion_short e = rw (completion_form e) (simp length-append (omega (arith, end_most e)))

link_short : (k : Link) → Short (Answer.Link k)
link_short k = rw (link_form k) (simp length-append (omega (arith, link_most k)))

report_short : (r : Option DeltaReport) → Short (Answer.Report r)
report_short r = rw (report_form r) (simp length-append (omega (arith, report_most r)))

stats_short : (s : HeadStats) → Short (Answer.Stats s)
stats_short s = rw (stats_form s) (simp length-append (omega (arith, stats_most s)))

heads_short : (c i p : Option ReadAnchor) → Short (Answer.Heads c i p)
heads_short c i p = rw (heads_form c i p) (simp length-append (omega (arith, slot_most c, slot_most i, slot_most p)))

text_short : (a : Answer) → Short a
unfolding answer_text said_text said refusal_on values_on word_text decimal decimal_on
text_short (Answer.Ticket n) = ticket_short n.0
text_short (Answer.Claimed e) = claimed_short e.0
text_short Answer.Done = omega arith
text_short (Answer.Outcome o) = outcome_short o
text_short (Answer.View v) = view_short v
text_short Answer.Parked = omega arith
text_short (Answer.Completion e) = completion_short e
text_short (Answer.Link k) = link_short k
text_short (Answer.Report r) = report_short r
text_short (Answer.Stats s) = stats_short s
text_short (Answer.Heads c i p) = heads_short c i p
text_short Answer.ListDisagrees = omega arith
text_short Answer.WaiterAbove15 = omega arith
text_short Answer.WaiterNotFree = omega arith
text_short Answer.WaiterFree = omega arith

pub answer_length : AnswerLength
unfolding answer_line
answer_length a = simp length-append (omega (arith, text_short a))

pub answer_room : AnswerRoom
answer_room a = omega (arith, answer_length a)
