-- Every number of a value is one of 64 bits. The types of a theorem do not say so: there a number has no limit.
use Rattle.hash.specs.Ranges.{Fits}
use Rattle.head_count.specs.declared.HeadStats.{HeadStats}

-- the eight counters, in document 01's order
abbrev pub StatsFit : HeadStats → Type 0
StatsFit s = Fits s.delivered × Fits s.repeated × Fits s.superseded × Fits s.settled
    × Fits s.already_current × Fits s.discarded × Fits s.ready_views × Fits s.cold_views
