-- Every number of a value is one of 64 bits. The types of a theorem do not say so: there a number has no limit.
use Rattle.std.specs.Prelude.{Option, None, Some}
use Rattle.hash.specs.Ranges.{Fits}
use Rattle.head_values.specs.Ranges.{AnchorFits, SkipFits}
use Rattle.head_count.specs.declared.Seq.{Seq}
use Rattle.head_ready.specs.declared.Generation.{Generation}
use Rattle.head_ready.specs.declared.HeadCold.{HeadCold}
use Rattle.head_ready.specs.declared.HeadReadiness.{HeadReadiness}
use Rattle.head_ready.specs.declared.Source.{Source}

abbrev pub ColdFits : HeadCold → Type 0
ColdFits HeadCold.Unprepared = Unit {0}
ColdFits HeadCold.Superseded = Unit {0}
ColdFits HeadCold.Undelivered = Unit {0}
ColdFits HeadCold.Abandoned = Unit {0}
ColdFits (HeadCold.Settled link skip) = SkipFits skip

abbrev pub ReadinessFits : HeadReadiness → Type 0
ReadinessFits HeadReadiness.Ready = Unit {0}
ReadinessFits (HeadReadiness.Cold reason) = ColdFits reason

pub record GenerationFits (g : Generation) : Type 0 where
  pub anchor : AnchorFits g.anchor
  pub handle : Fits g.handle
  pub seq : Fits g.seq.0
  pub readiness : ReadinessFits g.readiness

abbrev pub GenerationSlotFits : Option Generation → Type 0
GenerationSlotFits None = Unit {0}
GenerationSlotFits (Some g) = GenerationFits g

-- a fact of the number under which a generation settled, where the source has one
abbrev pub WhenNumbered : Source → (Seq → Type 0) → Type 0
WhenNumbered (Source.Installed seq) P = P seq
WhenNumbered Source.Provisional P = Unit {0}
WhenNumbered (Source.Previous seq) P = P seq
WhenNumbered Source.Spare P = Unit {0}

abbrev pub SourceFits : Source → Type 0
SourceFits source = WhenNumbered source (λ seq. Fits seq.0)
