-- What a sheet shows of the superseded anchor is in range where the anchor is.
use Rattle.std.specs.Prelude.{Option, None, Some, cond}
use Rattle.head_ready.specs.declared.Generation.{Generation}
use mathlib.Core.Bool.{Bool, true, false}
use Rattle.alike.specs.Canon.{mask_by, masked, shown_superseded}
use Rattle.head_values.specs.declared.ReadAnchor.{ReadAnchor}
use Rattle.head_current.specs.declared.CurrentHead.{CurrentHead}
use Rattle.head_values.specs.Ranges.{AnchorFits, SlotFits}

if_fits : (b : Bool) (a : ReadAnchor) → AnchorFits a → SlotFits (cond b None (Some a))
if_fits true a f = tt
if_fits false a f = f

pub superseded_range : (c : CurrentHead) (previous : Option Generation) (s : Option ReadAnchor) → SlotFits s → SlotFits (shown_superseded c previous s)
unfolding shown_superseded mask_by
superseded_range c previous None f = tt
superseded_range c previous (Some a) f = if_fits (masked c previous a) a f
