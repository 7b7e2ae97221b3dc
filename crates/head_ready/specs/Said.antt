-- Document 01, "Calls and answers", "Turned away by the state"; document 02, Job 1: what is said of a view, and of the
-- outcome of a claim or an apply.
use Rattle.std.specs.Prelude.{List, [], ◌∷◌}
use Rattle.head_values.specs.Said.{Said, accepted, settled_said, turned_away, within}
use Rattle.head_values.specs.Values.{Value, anchor_value, fault_value, skip_value}
use Rattle.head_values.specs.Words.{Word}
use Rattle.head_ready.specs.declared.HeadCold.{HeadCold}
use Rattle.head_ready.specs.declared.HeadOutcome.{HeadOutcome}
use Rattle.head_ready.specs.declared.HeadReadiness.{HeadReadiness}
use Rattle.head_ready.specs.declared.HeadView.{HeadView}
use Rattle.head_ready.specs.declared.Source.{Source}

-- READINESS: `ready`, `unprepared`, `superseded`, `undelivered`, `abandoned` or `(cold LINK SKIP)`
unfoldable pub readiness_value : HeadReadiness → Value
readiness_value HeadReadiness.Ready = Value.word Word.ready
readiness_value (HeadReadiness.Cold HeadCold.Unprepared) = Value.word Word.unprepared
readiness_value (HeadReadiness.Cold HeadCold.Superseded) = Value.word Word.superseded
readiness_value (HeadReadiness.Cold HeadCold.Undelivered) = Value.word Word.undelivered
readiness_value (HeadReadiness.Cold HeadCold.Abandoned) = Value.word Word.abandoned
readiness_value (HeadReadiness.Cold (HeadCold.Settled link skip)) = Value.three (Value.word Word.cold) (fault_value link) (skip_value skip)

-- SOURCE: `installed`, `provisional`, `previous` or `spare`
unfoldable pub source_value : Source → Value
source_value (Source.Installed seq) = Value.word Word.installed
source_value Source.Provisional = Value.word Word.provisional
source_value (Source.Previous seq) = Value.word Word.previous
source_value Source.Spare = Value.word Word.spare

-- Job 1: "the delivery number under which they settled. Views from these two sources show it": in front of what follows it
unfoldable pub settled_under : Source → List Value → List Value
settled_under (Source.Installed seq) values = Value.number seq.0 ∷ values
settled_under Source.Provisional values = values
settled_under (Source.Previous seq) values = Value.number seq.0 ∷ values
settled_under Source.Spare values = values

-- `(view SOURCE H READINESS)`; Job 1, "after the handle": `(view installed H N READINESS)`, `(view previous H N READINESS)`
abbrev pub view_said : HeadView → Said HeadView
view_said v =
    accepted v Word.view
    (source_value v.source ∷ (Value.number v.handle ∷ settled_under v.source (readiness_value v.readiness ∷ [])))

-- `(settled OUTCOME)`; "11 superseded: .. (names the ticket's anchor) .. (names the
-- current anchor)"; "12 foreign: .. names both"; "13 already settled"; "14 in flight"
unfoldable pub outcome_said : HeadOutcome → Said HeadOutcome
outcome_said (HeadOutcome.Settled o) = within HeadOutcome.Settled (settled_said o)
outcome_said (HeadOutcome.Superseded a) = turned_away (HeadOutcome.Superseded a) 11 (anchor_value a ∷ [])
outcome_said (HeadOutcome.Foreign list held) = turned_away (HeadOutcome.Foreign list held) 12 (anchor_value list ∷ (anchor_value held ∷ []))
outcome_said HeadOutcome.AlreadySettled = turned_away HeadOutcome.AlreadySettled 13 []
outcome_said HeadOutcome.InFlight = turned_away HeadOutcome.InFlight 14 []
