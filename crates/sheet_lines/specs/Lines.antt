-- Document 01, "The sheet", and document 02, Job 1: its lines, in its order. Every one ends with a line feed; an absent part is `none` in its brackets.
use Rattle.head_values.specs.declared.ReadAnchor.{ReadAnchor}
use Rattle.head_ready.specs.declared.Generation.{Generation}
use Rattle.std.specs.Prelude.{ℕ, suc, List, [], ◌∷◌, ◌++◌, Option, None, Some}
use Rattle.script_outcome.specs.Texts.{readiness_text, report_text}
use Rattle.script_value.specs.Texts.{spaced_text, stats_text}
use Rattle.value_text.specs.Texts.{anchor_text, slot_text}
use Rattle.hash_text.specs.Texts.{hash_text}
use Rattle.text.specs.Ascii.{ascii}
use Rattle.text.specs.Decimals.{decimal}
use Rattle.head_count.specs.declared.Epoch.{Epoch}
use Rattle.head_attempt.specs.declared.HeadCompletion.{HeadCompletion}
use Rattle.head_count.specs.declared.HeadStats.{HeadStats}
use Rattle.head_attempt.specs.declared.Waiter.{Waiter}
use Rattle.head_attempt.specs.declared.WaiterSlot.{WaiterSlot}
use Rattle.head_current.specs.declared.CurrentHead.{CurrentHead}
use Rattle.head_current.specs.declared.HeadDelivery.{HeadDelivery}
use Rattle.head_current.specs.declared.UnsettledHead.{UnsettledHead}

-- count: eight counters, then epoch
unfoldable pub count_line : HeadStats → Epoch → List ℕ
count_line s e = ascii "(count" ++ (stats_text s ++ (spaced_text e.0 ++ ascii ")\n"))

-- `open` (or `abandoned`): how an unclaimed head's attempt stands. It has no other end (I4); such a value would be written `open`.
unfoldable pub unclaimed_end_text : HeadCompletion → List ℕ
unclaimed_end_text HeadCompletion.Open = ascii "open"
unclaimed_end_text HeadCompletion.Settled = ascii "open"
unclaimed_end_text HeadCompletion.Superseded = ascii "open"
unclaimed_end_text HeadCompletion.Abandoned = ascii "abandoned"

-- `A P`
unfoldable pub delivery_text : HeadDelivery → List ℕ
delivery_text held = anchor_text held.anchor ++ (ascii " " ++ hash_text held.parent_hash)

-- `A P H`
unfoldable pub unsettled_text : UnsettledHead → List ℕ
unsettled_text u = delivery_text u.delivery ++ spaced_text u.provisional

-- `(current unclaimed A P H open)` (or `abandoned`), `(current preparing A P H)`, `(current settled A P R)`
unfoldable pub current_line : CurrentHead → List ℕ
current_line CurrentHead.Absent = ascii "(current none)\n"
current_line (CurrentHead.Unclaimed u) = ascii "(current unclaimed " ++ (unsettled_text u ++ (ascii " " ++ (unclaimed_end_text u.attempt.end ++ ascii ")\n")))
current_line (CurrentHead.Preparing u) = ascii "(current preparing " ++ (unsettled_text u ++ ascii ")\n")
current_line (CurrentHead.Settled s) = ascii "(current settled " ++ (delivery_text s.delivery ++ (ascii " " ++ (report_text s.report ++ ascii ")\n")))

-- `(superseded A)`
unfoldable pub superseded_line : Option ReadAnchor → List ℕ
superseded_line s = ascii "(superseded " ++ (slot_text s ++ ascii ")\n")

-- `A H READINESS`; document 02, Job 1, "in the same place", after the handle: `A H N READINESS`
unfoldable pub generation_text : Option Generation → List ℕ
generation_text None = ascii "none"
generation_text (Some g) =
    anchor_text g.anchor
    ++ (spaced_text g.handle ++ (spaced_text g.seq.0 ++ (ascii " " ++ readiness_text g.readiness)))

-- `(installed A H N READINESS)` and `(previous A H N READINESS)`
unfoldable pub installed_line : Option Generation → List ℕ
installed_line g = ascii "(installed " ++ (generation_text g ++ ascii ")\n")

unfoldable pub previous_line : Option Generation → List ℕ
previous_line g = ascii "(previous " ++ (generation_text g ++ ascii ")\n")

-- `(wait N parked)`, `(wait N abandoned A)` or `(wait N ended A)`, for a waiter that is not free
unfoldable pub waiter_line : ℕ → Waiter → List ℕ
waiter_line n Waiter.Free = []
waiter_line n Waiter.Parked = ascii "(wait " ++ (decimal n ++ ascii " parked)\n")
waiter_line n (Waiter.Abandoned a) = ascii "(wait " ++ (decimal n ++ (ascii " abandoned " ++ (anchor_text a ++ ascii ")\n")))
waiter_line n (Waiter.Ended a) = ascii "(wait " ++ (decimal n ++ (ascii " ended " ++ (anchor_text a ++ ascii ")\n")))

-- each waiter not free, ascending, from number n on
unfoldable pub waiter_lines : ℕ → List WaiterSlot → List ℕ
waiter_lines n [] = []
waiter_lines n (s ∷ ss) = waiter_line n s.waiter ++ waiter_lines (suc n) ss
