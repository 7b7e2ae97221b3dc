-- What is not shown is nowhere written.
use Prim.Native.Nat.{ℕ, suc}
use mathlib.Core.List.{List, [], ◌∷◌, ◌++◌, append_assoc}
use mathlib.Core.Path.{◌≡◌, refl}
use Rattle.alike.specs.Canon.{canon, shown_head, shown_life, shown_superseded, shown_waiter, shown_waiters}
use Rattle.sheet_lines.specs.Lines.{count_line, current_line, delivery_text, installed_line, previous_line, superseded_line, unsettled_text, waiter_line, waiter_lines}
use Rattle.head_count.specs.declared.Epoch.{Epoch}
use Rattle.head_attempt.specs.declared.Waiter.{Waiter}
use Rattle.head_attempt.specs.declared.WaiterSlot.{WaiterSlot}
use Rattle.head_current.specs.declared.CurrentHead.{CurrentHead}
use Rattle.head_driver.specs.declared.Driver.{Driver}
use Rattle.head_life.specs.declared.HeadLifecycle.{HeadLifecycle}
use Rattle.script_sheet.specs.Sheets.{life_lines, lines_of, sheet_text}

pub current_shown : (n : ℕ) (e : Epoch) (c : CurrentHead) → current_line (shown_head n e c) ≡ current_line c
unfolding current_line shown_head unsettled_text delivery_text
current_shown n e CurrentHead.Absent = refl
current_shown n e (CurrentHead.Unclaimed u) = refl
current_shown n e (CurrentHead.Preparing u) = refl
current_shown n e (CurrentHead.Settled s) = refl

pub life_shown : (l : HeadLifecycle) → (count_line l.stats l.claim_epoch ++ (current_line l.current ++ superseded_line (shown_superseded l.current l.previous l.superseded))) ++ (installed_line l.installed ++ previous_line l.previous) ≡ life_lines (shown_life l)
unfolding life_lines shown_life
life_shown l = rw (append_assoc, append_assoc, current_shown l.stats.delivered l.claim_epoch l.current)

waiter_shown : (n : ℕ) (w : Waiter) → waiter_line n (shown_waiter w) ≡ waiter_line n w
unfolding shown_waiter
waiter_shown n Waiter.Free = refl
waiter_shown n Waiter.Parked = refl
waiter_shown n (Waiter.Abandoned a) = refl
waiter_shown n (Waiter.Ended a) = refl

pub waiters_shown : (n : ℕ) (ws : List WaiterSlot) → waiter_lines n (shown_waiters ws) ≡ waiter_lines n ws
unfolding waiter_lines shown_waiters
waiters_shown n [] = refl
waiters_shown n (w ∷ ws) = rw (waiter_shown n w.waiter, waiters_shown (suc n) ws)

pub sheet_shown : (d : Driver) → life_lines (shown_life d.life) ++ waiter_lines 0 d.waiters ≡ sheet_text d
unfolding sheet_text lines_of canon
sheet_shown d = rw (waiters_shown 0 d.waiters)
