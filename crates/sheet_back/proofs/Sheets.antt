-- What a sheet shows is read back from it.
use Prim.Native.Nat.{ℕ}
use mathlib.Core.List.{List, [], ◌∷◌, ◌++◌, append_assoc}
use mathlib.Core.Path.{◌≡◌, refl, ap, sym, ◌∙◌}
use Rattle.alike.specs.Canon.{canon, shown_life, shown_superseded, shown_waiters, shown_waiter}
use Rattle.std.specs.Prelude.{Option, None, Some}
use Rattle.alike.specs.Invariant.{FromApply, Invariant, WhenGeneration}
use Rattle.head_ready.specs.declared.Generation.{Generation}
use Rattle.head_ready.specs.declared.HeadCold.{HeadCold}
use Rattle.head_ready.specs.declared.HeadReadiness.{HeadReadiness}
use Rattle.sheet_rules.specs.Form.{KeptReadiness}
use Rattle.head_attempt.specs.declared.Waiter.{Waiter}
use Rattle.head_attempt.specs.declared.WaiterSlot.{WaiterSlot}
use Rattle.script_sheet.proofs.Shown.{life_shown, sheet_shown}
use Rattle.script_sheet.specs.Sheets.{sheet_text}
use Rattle.sheet_lines.specs.Lines.{count_line, current_line, installed_line, previous_line, superseded_line, waiter_lines}
use Rattle.text.specs.Rests.{at_end}
use Rattle.head_driver.specs.declared.Driver.{Driver}
use Rattle.sheet_read.specs.Reads.{read_sheet, whole}
use Rattle.sheet_back.specs.Statements.{EqualSheets, ReadBack}
use Rattle.sheet_back.proofs.Lines.{count_back, current_back, installed_back, previous_back, superseded_back}
use Rattle.sheet_back.proofs.Ranges.{superseded_range}
use Rattle.sheet_back.proofs.Waiters.{sixteen_back}

-- the sheet, line by line, from the driver's own parts
unfoldable lines : Driver → List ℕ
lines d =
    let l = d.life in
    count_line l.stats l.claim_epoch
    ++ (current_line l.current
    ++ (superseded_line (shown_superseded l.current l.previous l.superseded)
    ++ (installed_line l.installed
    ++ (previous_line l.previous
    ++ waiter_lines 0 d.waiters))))

five : (a b c d e t : List ℕ) → ((a ++ (b ++ c)) ++ (d ++ e)) ++ t ≡ a ++ (b ++ (c ++ (d ++ (e ++ t))))
five a b c d e t = simp append_assoc

sheet_lines : (d : Driver) → sheet_text d ≡ lines d
unfolding lines
sheet_lines d =
    let l = d.life in
    sym (sheet_shown d)
    ∙ ap (λ (s : List ℕ). s ++ waiter_lines 0 d.waiters) (sym (life_shown l))
    ∙ five
    (count_line l.stats l.claim_epoch) (current_line l.current) (superseded_line (shown_superseded l.current l.previous l.superseded))
    (installed_line l.installed) (previous_line l.previous) (waiter_lines 0 d.waiters)

slot_shown : (w : Waiter) → shown_waiter w ≡ w
unfolding shown_waiter
slot_shown Waiter.Free = refl
slot_shown Waiter.Parked = refl
slot_shown (Waiter.Abandoned a) = refl
slot_shown (Waiter.Ended a) = refl

slots_shown : (ws : List WaiterSlot) → shown_waiters ws ≡ ws
unfolding shown_waiters
slots_shown [] = refl
slots_shown (w ∷ ws) = rw (slot_shown w.waiter, slots_shown ws)

-- as an apply gave it is as a sheet has it
kept : (r : HeadReadiness) → FromApply r → KeptReadiness r
kept HeadReadiness.Ready f = tt
kept (HeadReadiness.Cold HeadCold.Unprepared) f = absurd f
kept (HeadReadiness.Cold HeadCold.Superseded) f = absurd f
kept (HeadReadiness.Cold HeadCold.Undelivered) f = absurd f
kept (HeadReadiness.Cold HeadCold.Abandoned) f = absurd f
kept (HeadReadiness.Cold (HeadCold.Settled link skip)) f = tt

slot_kept : (g : Option Generation) → WhenGeneration g (λ g. FromApply g.readiness) → WhenGeneration g (λ g. KeptReadiness g.readiness)
slot_kept None f = tt
slot_kept (Some g) f = kept g.readiness f

lines_back : (d : Driver) → Invariant d → read_sheet (lines d) ≡ Some (canon d)
unfolding read_sheet lines whole at_end canon shown_life
lines_back d v =
    let l = d.life in
    let f = v.fits.life in
    let fs = f.stats in
    let fe = f.epoch in
    let fc = f.current in
    let fo = v.ordered.unclaimed_end in
    let fu = superseded_range l.current l.previous l.superseded f.superseded in
    let ki = slot_kept l.installed v.ordered.installed_readiness in
    let kp = slot_kept l.previous v.ordered.previous_readiness in
    let fi = f.installed in
    let fp = f.previous in
    let fw = v.fits.waiters in
    let sixteen = v.fits.sixteen in
    simp (slots_shown, count_back, current_back, superseded_back, installed_back, previous_back, sixteen_back)

pub sheet_back : ReadBack
sheet_back d v = rw (sheet_lines d) (lines_back d v)

shows_one : (x y : Driver) → Some x ≡ Some y → x ≡ y
shows_one x y e = cc

same_shown : (x y : Driver) → canon x ≡ canon y → sheet_text x ≡ sheet_text y
unfolding sheet_text
same_shown x y e = rw e

pub equal_sheets : EqualSheets
equal_sheets x y v w = (
  (λ e. shows_one (canon x) (canon y) (sym (sheet_back x v) ∙ ap read_sheet e ∙ sheet_back y w)),
  same_shown x y,
)
