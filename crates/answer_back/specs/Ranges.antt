-- Every number of an answer is one of 64 bits, and so is every word of its hashes.
use Rattle.head_values.specs.Ranges.{AnchorFits, OutcomeFits, SlotFits}
use Rattle.hash.specs.Ranges.{Fits}
use Rattle.head_ready.specs.Ranges.{ReadinessFits, SourceFits}
use Rattle.head_current.specs.Ranges.{ReportFits}
use Rattle.head_count.specs.Ranges.{StatsFit}
use Rattle.head_driver.specs.declared.Answer.{Answer}
use Rattle.head_ready.specs.declared.HeadOutcome.{HeadOutcome}

abbrev pub HeadOutcomeFits : HeadOutcome → Type 0
HeadOutcomeFits (HeadOutcome.Settled o) = OutcomeFits o
HeadOutcomeFits HeadOutcome.AlreadySettled = Unit {0}
HeadOutcomeFits HeadOutcome.InFlight = Unit {0}
HeadOutcomeFits (HeadOutcome.Superseded a) = AnchorFits a
HeadOutcomeFits (HeadOutcome.Foreign list held) = AnchorFits list × AnchorFits held

abbrev pub AnswerFits : Answer → Type 0
AnswerFits (Answer.Ticket n) = Fits n.0
AnswerFits (Answer.Claimed e) = Fits e.0
AnswerFits Answer.Done = Unit {0}
AnswerFits (Answer.Outcome o) = HeadOutcomeFits o
AnswerFits (Answer.View v) = SourceFits v.source × Fits v.handle × ReadinessFits v.readiness
AnswerFits Answer.Parked = Unit {0}
AnswerFits (Answer.Completion end) = Unit {0}
AnswerFits (Answer.Link link) = Unit {0}
AnswerFits (Answer.Report r) = ReportFits r
AnswerFits (Answer.Stats s) = StatsFit s
AnswerFits (Answer.Heads current installed previous) = SlotFits current × SlotFits installed × SlotFits previous
AnswerFits Answer.ListDisagrees = Unit {0}
AnswerFits Answer.WaiterAbove15 = Unit {0}
AnswerFits Answer.WaiterNotFree = Unit {0}
AnswerFits Answer.WaiterFree = Unit {0}
