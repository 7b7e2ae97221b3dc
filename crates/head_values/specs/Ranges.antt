-- Every number of a value is one of 64 bits. The types of a theorem do not say so: there a number has no limit.
use Rattle.std.specs.Prelude.{Option, None, Some}
use Rattle.hash.specs.declared.Hash.{Hash}
use Rattle.hash.specs.Ranges.{Fits, HashFits}
use Rattle.head_values.specs.declared.BalSkip.{BalSkip}
use Rattle.head_values.specs.declared.CarryOutcome.{CarryOutcome}
use Rattle.head_values.specs.declared.ReadAnchor.{ReadAnchor}

abbrev pub BlockHashFits : Option Hash → Type 0
BlockHashFits None = Unit {0}
BlockHashFits (Some h) = HashFits h

pub record AnchorFits (a : ReadAnchor) : Type 0 where
  pub number : Fits a.number
  pub hash : BlockHashFits a.hash

abbrev pub SlotFits : Option ReadAnchor → Type 0
SlotFits None = Unit {0}
SlotFits (Some a) = AnchorFits a

abbrev pub SkipFits : BalSkip → Type 0
SkipFits BalSkip.Nothing = Unit {0}
SkipFits BalSkip.NoHash = Unit {0}
SkipFits (BalSkip.Rpc n) = Fits n
SkipFits (BalSkip.Decode n) = Fits n

abbrev pub OutcomeFits : CarryOutcome → Type 0
OutcomeFits (CarryOutcome.Carried n) = Fits n
OutcomeFits (CarryOutcome.Cold link skip) = SkipFits skip
