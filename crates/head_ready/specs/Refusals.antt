-- Document 01, "Turned away by the state": what the state says of a ticket, a
-- claim or a list that it rejects. The Rust: `HeadOutcome`, of head_lifecycle.rs.
use Rattle.head_values.specs.declared.ReadAnchor.{ReadAnchor}
use Rattle.head_ready.specs.declared.HeadOutcome.{HeadOutcome}

-- "11 superseded: no current head (names the ticket's anchor), or ticket's
-- anchor or seq is not the current head's (names the current anchor)."
abbrev pub refused_11 : ReadAnchor → HeadOutcome
refused_11 a = HeadOutcome.Superseded a

-- "12 foreign: the list's anchor is not the head's; names both."
abbrev pub refused_12 : ReadAnchor → ReadAnchor → HeadOutcome
refused_12 list held = HeadOutcome.Foreign list held

-- "13 already settled: the head is installed."
abbrev pub refused_13 : HeadOutcome
refused_13 = HeadOutcome.AlreadySettled

-- "14 in flight: preparing."
abbrev pub refused_14 : HeadOutcome
refused_14 = HeadOutcome.InFlight
