-- A call that a line can write: each of its numbers, and each word of its hashes, is below 2^64.
use Rattle.hash.specs.Ranges.{Fits, HashFits}
use Rattle.head_values.specs.Ranges.{AnchorFits, SkipFits, SlotFits}
use Rattle.head_call.specs.declared.Call.{Call}

abbrev pub Writable : Call → Type 0
Writable (Call.Deliver a p cold) = AnchorFits a × HashFits p × Fits cold
Writable (Call.Claim ticket) = AnchorFits ticket.anchor × Fits ticket.seq.0
Writable (Call.Release owner) = Fits owner.seq.0 × Fits owner.epoch.0
Writable (Call.Apply ticket list handle carried report) =
    AnchorFits ticket.anchor × Fits ticket.seq.0 × AnchorFits list.anchor × SkipFits list.skip × Fits handle
    × Fits carried × Fits report
Writable (Call.Snapshot a spare) = AnchorFits a × Fits spare
Writable (Call.Wait n a spare) = Fits n × AnchorFits a × Fits spare
Writable (Call.Resume n spare) = Fits n × Fits spare
Writable (Call.Completion a) = AnchorFits a
Writable (Call.Link parent child parent_hash) = SlotFits parent × AnchorFits child × HashFits parent_hash
Writable Call.Report = Unit {0}
Writable Call.Stats = Unit {0}
Writable Call.Heads = Unit {0}
