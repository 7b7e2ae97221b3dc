-- How long a sheet can be.
use Rattle.std.specs.Prelude.{Option, None, Some}
use Rattle.head_ready.specs.declared.Generation.{Generation}
use Prim.Native.Nat.{ℕ, zero, suc, ◌+◌, ◌≤◌}
use native.Mathlib.Omega.{arith}
use mathlib.Core.List.{List, [], ◌∷◌}
use mathlib.Core.Path.{◌≡◌, refl, ap, sym, ◌∙◌, subst}
use lib.ListN.{length, length-append}
use Rattle.alike.specs.Canon.{shown_life}
use Rattle.script_sheet.proofs.Shown.{sheet_shown}
use Rattle.script_sheet.specs.Sheets.{life_lines, lines_of, sheet_text}
use Rattle.sheet_lines.specs.Lines.{count_line, current_line, delivery_text, generation_text, installed_line, unclaimed_end_text, previous_line, superseded_line, unsettled_text, waiter_line, waiter_lines}
use Rattle.text.specs.Decimals.{decimal, decimal_on}
use Rattle.head_count.specs.declared.Epoch.{Epoch}
use Rattle.head_attempt.specs.declared.HeadCompletion.{HeadCompletion}
use Rattle.head_count.specs.declared.HeadStats.{HeadStats}
use Rattle.head_attempt.specs.declared.Waiter.{Waiter}
use Rattle.head_attempt.specs.declared.WaiterSlot.{WaiterSlot}
use Rattle.head_current.specs.declared.CurrentHead.{CurrentHead}
use Rattle.head_current.specs.declared.HeadDelivery.{HeadDelivery}
use Rattle.head_current.specs.declared.UnsettledHead.{UnsettledHead}
use Rattle.head_life.specs.declared.HeadLifecycle.{HeadLifecycle}
use Rattle.sheet_rules.proofs.Kept.{shows_self}
use Rattle.script_lengths.specs.Statements.{SheetLength, SheetRoom, TakenLength}
use Rattle.value_text.proofs.Lengths.{anchor_most, slot_most}
use Rattle.hash_text.proofs.Back.{length_hash}
use Rattle.script_lengths.proofs.Values.{readiness_most, report_most, spaced_most, stats_most}

count_most : (s : HeadStats) (e : Epoch) → length (count_line s e) ≤ 197
unfolding count_line
count_most s e = simp length-append (omega (arith, stats_most s, spaced_most e.0))

unclaimed_end_most : (e : HeadCompletion) → length (unclaimed_end_text e) ≤ 9
unfolding unclaimed_end_text
unclaimed_end_most HeadCompletion.Open = omega arith
unclaimed_end_most HeadCompletion.Settled = omega arith
unclaimed_end_most HeadCompletion.Superseded = omega arith
unclaimed_end_most HeadCompletion.Abandoned = omega arith

delivery_most : (held : HeadDelivery) → length (delivery_text held) ≤ 156
unfolding delivery_text
delivery_most held = simp length-append (omega (arith, anchor_most held.anchor, length_hash held.parent_hash))

unsettled_most : (u : UnsettledHead) → length (unsettled_text u) ≤ 177
unfolding unsettled_text
unsettled_most u = simp length-append (omega (arith, delivery_most u.delivery, spaced_most u.provisional))

current_most : (c : CurrentHead) → length (current_line c) ≤ 251
unfolding current_line
current_most CurrentHead.Absent = omega arith
current_most (CurrentHead.Unclaimed u) = simp length-append (omega (arith, unsettled_most u, unclaimed_end_most u.attempt.end))
current_most (CurrentHead.Preparing u) = simp length-append (omega (arith, unsettled_most u))
current_most (CurrentHead.Settled s) = simp length-append (omega (arith, delivery_most s.delivery, report_most s.report))

generation_most : (g : Option Generation) → length (generation_text g) ≤ 184
unfolding generation_text
generation_most None = omega arith
generation_most (Some g) =
    simp length-append
    (omega (arith, anchor_most g.anchor, spaced_most g.handle, spaced_most g.seq.0, readiness_most g.readiness))

life_most : (l : HeadLifecycle) → length (life_lines l) ≤ 944
unfolding life_lines superseded_line installed_line previous_line
life_most l = simp length-append (omega (arith, count_most l.stats l.claim_epoch, current_most l.current, slot_most l.superseded, generation_most l.installed, generation_most l.previous))

-- ---- waiters: beside its number a line has at most 108 bytes

waiter_most : (n : ℕ) (w : Waiter) → length (waiter_line n w) ≤ 108 + length (decimal n)
unfolding waiter_line
waiter_most n Waiter.Free = omega arith
waiter_most n Waiter.Parked = simp length-append (omega arith)
waiter_most n (Waiter.Abandoned a) = simp length-append (omega (arith, anchor_most a))
waiter_most n (Waiter.Ended a) = simp length-append (omega (arith, anchor_most a))

-- k lines from number n on
unfoldable most : ℕ → ℕ → ℕ
most n zero = 0
most n (suc k) = 108 + length (decimal n) + most (suc n) k

waiters_most : (n : ℕ) (ws : List WaiterSlot) → length (waiter_lines n ws) ≤ most n (length ws)
unfolding waiter_lines most
waiters_most n [] = omega arith
waiters_most n (w ∷ ws) = simp length-append (omega (arith, waiter_most n w.waiter, waiters_most (suc n) ws))

sixteen : most 0 16 ≡ 1750
unfolding most decimal decimal_on
sixteen = refl

pub sheet_length : SheetLength
sheet_length d e =
    let w : length (waiter_lines 0 d.waiters) ≤ 1750 = rw (e, sixteen) at (waiters_most 0 d.waiters) in
    rw (← sheet_shown d) (simp length-append (omega (arith, life_most (shown_life d.life))))

pub sheet_room : SheetRoom
sheet_room d v = omega (arith, sheet_length d v.fits.sixteen)

pub taken_length : TakenLength
unfolding sheet_text
taken_length text d f m = subst (λ t. length t ≤ 2694) (ap lines_of (shows_self d f.0 m) ∙ sym f.1) (sheet_length d f.0.fits.sixteen)
