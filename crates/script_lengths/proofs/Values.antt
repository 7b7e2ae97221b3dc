-- How long the text of a value of answers and sheets can be.
use Rattle.std.specs.Prelude.{Option, None, Some}
use Rattle.head_current.specs.declared.DeltaReport.{DeltaReport}
use Prim.Native.Nat.{ℕ, ◌≤◌}
use native.Mathlib.Omega.{arith}
use mathlib.Core.List.{◌++◌}
use mathlib.Core.Path.{◌≡◌, refl}
use lib.ListN.{length, length-append}
use Rattle.head_values.specs.Values.{fault_value, link_value, outcome_value}
use Rattle.head_attempt.specs.Said.{end_value}
use Rattle.head_ready.specs.Said.{readiness_value, source_value}
use Rattle.head_current.specs.Said.{report_value}
use Rattle.value_text.proofs.Lengths.{skip_most}
use Rattle.script_outcome.specs.Texts.{cold_text, end_text, outcome_text, readiness_text, report_text, settle_number_text, source_text}
use Rattle.value_text.specs.Texts.{skip_text, link_text, fault_text}
use Rattle.script_value.proofs.Halves.{stats_split}
use Rattle.script_value.specs.Texts.{four_text, spaced_text, stats_text}
use Rattle.value_text.specs.Values.{value_text}
use Rattle.value_text.specs.Words.{word_text}
use Rattle.text.proofs.Back.{length-decimal}
use Rattle.text.specs.Ascii.{ascii}
use Rattle.text.specs.Decimals.{decimal}
use Rattle.head_values.specs.declared.BalSkip.{BalSkip}
use Rattle.head_values.specs.declared.CarryOutcome.{CarryOutcome}
use Rattle.head_values.specs.declared.Link.{Link}
use Rattle.head_attempt.specs.declared.HeadCompletion.{HeadCompletion}
use Rattle.head_count.specs.declared.HeadStats.{HeadStats}
use Rattle.head_ready.specs.declared.HeadCold.{HeadCold}
use Rattle.head_ready.specs.declared.HeadReadiness.{HeadReadiness}
use Rattle.head_ready.specs.declared.Source.{Source}
use Rattle.head_current.specs.Parts.{report_of}

-- ---- counters

pub spaced_most : (n : ℕ) → length (spaced_text n) ≤ 21
unfolding spaced_text
spaced_most n = omega (arith, length-decimal n)

four_most : (a b c d : ℕ) → length (four_text a b c d) ≤ 84
unfolding four_text
four_most a b c d = simp length-append (omega (arith, spaced_most a, spaced_most b, spaced_most c, spaced_most d))

pub stats_most : (s : HeadStats) → length (stats_text s) ≤ 168
stats_most s =
    rw (← stats_split s)
    (simp length-append
    (omega (arith, four_most s.delivered s.repeated s.superseded s.settled, four_most s.already_current s.discarded s.ready_views s.cold_views)))

-- ---- links, outcomes, reports, readiness, sources, settle numbers and ends

pub link_most : (k : Link) → length (link_text k) ≤ 15
unfolding link_text link_value value_text word_text
link_most Link.Linked = omega arith
link_most Link.NoParent = omega arith
link_most Link.NotConsecutive = omega arith
link_most Link.HashUnknown = omega arith
link_most Link.HashMismatch = omega arith

fault_most : (k : Link) → length (fault_text k) ≤ 15
unfolding fault_text fault_value value_text word_text
fault_most Link.Linked = omega arith
fault_most Link.NoParent = omega arith
fault_most Link.NotConsecutive = omega arith
fault_most Link.HashUnknown = omega arith
fault_most Link.HashMismatch = omega arith

cold_form : (k : Link) (x : BalSkip) → cold_text k x ≡ ascii "(cold " ++ (fault_text k ++ (ascii " " ++ (skip_text x ++ ascii ")")))
unfolding cold_text fault_text skip_text value_text word_text
cold_form k x = refl

cold_most : (k : Link) (x : BalSkip) → length (cold_text k x) ≤ 52
cold_most k x = rw (cold_form k x) (simp length-append (omega (arith, fault_most k, skip_most x)))

pub outcome_most : (o : CarryOutcome) → length (outcome_text o) ≤ 52
unfolding outcome_text outcome_value cold_text value_text word_text
outcome_most (CarryOutcome.Carried n) = simp length-append (omega (arith, length-decimal n))
outcome_most (CarryOutcome.Cold k x) = cold_most k x

made_form : (o : CarryOutcome) (n : ℕ) → report_text (Some (report_of o n)) ≡ ascii "(" ++ (outcome_text o ++ (ascii " " ++ (decimal n ++ ascii ")")))
unfolding report_text report_value outcome_text value_text
made_form o n = refl

made_most : (o : CarryOutcome) (n : ℕ) → length (report_text (Some (report_of o n))) ≤ 75
made_most o n = rw (made_form o n) (simp length-append (omega (arith, outcome_most o, length-decimal n)))

pub report_most : (r : Option DeltaReport) → length (report_text r) ≤ 75
unfolding report_text report_value value_text word_text
report_most None = omega arith
report_most (Some r) = made_most r.outcome r.number

pub readiness_most : (r : HeadReadiness) → length (readiness_text r) ≤ 52
unfolding readiness_text readiness_value cold_text value_text word_text
readiness_most HeadReadiness.Ready = omega arith
readiness_most (HeadReadiness.Cold HeadCold.Unprepared) = omega arith
readiness_most (HeadReadiness.Cold HeadCold.Superseded) = omega arith
readiness_most (HeadReadiness.Cold HeadCold.Undelivered) = omega arith
readiness_most (HeadReadiness.Cold HeadCold.Abandoned) = omega arith
readiness_most (HeadReadiness.Cold (HeadCold.Settled k x)) = cold_most k x

pub source_most : (s : Source) → length (source_text s) ≤ 11
unfolding source_text source_value value_text word_text
source_most (Source.Installed n) = omega arith
source_most Source.Provisional = omega arith
source_most (Source.Previous n) = omega arith
source_most Source.Spare = omega arith

pub settle_number_most : (s : Source) → length (settle_number_text s) ≤ 21
unfolding settle_number_text
settle_number_most (Source.Installed n) = omega (arith, length-decimal n.0)
settle_number_most Source.Provisional = omega arith
settle_number_most (Source.Previous n) = omega (arith, length-decimal n.0)
settle_number_most Source.Spare = omega arith

pub end_most : (e : HeadCompletion) → length (end_text e) ≤ 10
unfolding end_text end_value value_text word_text
end_most HeadCompletion.Open = omega arith
end_most HeadCompletion.Settled = omega arith
end_most HeadCompletion.Superseded = omega arith
end_most HeadCompletion.Abandoned = omega arith
