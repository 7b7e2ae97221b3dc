-- What is read from a line is below 2^64, whatever the line (`value_text/proofs/Ranges`). Each value after one space.
use Rattle.text.specs.Rests.{Rest}
use Rattle.hash.specs.Ranges.{HashFits}
use Rattle.head_values.specs.Ranges.{AnchorFits, SlotFits, SkipFits}
use Rattle.value_text.proofs.Ranges.{anchor_range, hash_range, skip_range, slot_range}
use Rattle.value_text.specs.declared.page.Page.{Page}
use Rattle.script_call.specs.Values.{spaced_hash, spaced_anchor, spaced_slot, spaced_skip}

-- ---- each after one space

pub spaced_hash_range : (r : Rest) → HashFits (spaced_hash r).value
unfolding spaced_hash
spaced_hash_range r = hash_range Page.Line _

pub spaced_anchor_range : (r : Rest) → AnchorFits (spaced_anchor r).value
unfolding spaced_anchor
spaced_anchor_range r = anchor_range Page.Line _

pub spaced_slot_range : (r : Rest) → SlotFits (spaced_slot r).value
unfolding spaced_slot
spaced_slot_range r = slot_range Page.Line _

pub spaced_skip_range : (r : Rest) → SkipFits (spaced_skip r).value
unfolding spaced_skip
spaced_skip_range r = skip_range _
