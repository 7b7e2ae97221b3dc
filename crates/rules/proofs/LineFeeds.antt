-- What `(sheet)` writes into 4,096 bytes or more, up to its last line feed, is the sheet's text, which ends with a line feed.
use Rattle.head_ready.specs.declared.Generation.{Generation}
use Prim.Native.Nat.{ℕ, suc, ◌≤◌}
use mathlib.Core.List.{List, [], ◌∷◌, ◌++◌, append_assoc, append-nil}
use mathlib.Core.Path.{◌≡◌, refl, ap, sym, ◌∙◌}
use lib.ListN.{drop, length, take}
use borrow.Author.Tests.{le-ltb}
use Rattle.std.specs.Prelude.{Some, Option}
use Rattle.alike.specs.Canon.{canon}
use Rattle.driver.specs.Turns.{sheet_after, sheet_answer, turn_of}
use Rattle.head_attempt.specs.declared.Waiter.{Waiter}
use Rattle.head_attempt.specs.declared.WaiterSlot.{WaiterSlot}
use Rattle.script_call.proofs.Back.{sheet_back}
use Rattle.script_call.specs.Texts.{sheet_call_text}
use Rattle.script_sheet.specs.Sheets.{life_lines, lines_of, sheet_text}
use Rattle.script_value.specs.Buffers.{buffer_after, written}
use Rattle.value_text.specs.Texts.{anchor_text}
use Rattle.sheet_lines.specs.Lines.{count_line, current_line, generation_text, installed_line, previous_line, superseded_line, waiter_line, waiter_lines}
use Rattle.text.specs.Ascii.{ascii}
use Rattle.text.specs.Decimals.{decimal}
use Rattle.head_values.specs.declared.ReadAnchor.{ReadAnchor}
use Rattle.head_driver.specs.declared.Driver.{Driver}
use Rattle.head_life.specs.declared.HeadLifecycle.{HeadLifecycle}
use Rattle.script_call.specs.declared.LineCall.{LineCall}
use Rattle.rules.specs.Sheets.{onto, sheet_into, to_last_line_feed, wrote_of}
use Rattle.rules.specs.Statements.{SheetIsText}

-- ---- texts that end with a line feed

record Fed (s : List ℕ) : Type 0 where
  before : List ℕ
  is : s ≡ before ++ ascii "\n"

fed : (s : List ℕ) → Fed (s ++ ascii "\n")
fed s = record { before = s; is = refl }

fed_after : (s t : List ℕ) → Fed t → Fed (s ++ t)
fed_after s t f = record { before = s ++ f.before; is = ap (λ (u : List ℕ). s ++ u) f.is ∙ sym (append_assoc s f.before (ascii "\n")) }

-- such a text ends at its last line feed
onto_feed : (b : ℕ) (s : List ℕ) → onto b (s ++ ascii "\n") ≡ b ∷ (s ++ ascii "\n")
unfolding onto
onto_feed b [] = refl
onto_feed b (c ∷ s) = refl

to_feed : (s : List ℕ) → to_last_line_feed (s ++ ascii "\n") ≡ s ++ ascii "\n"
unfolding to_last_line_feed onto
to_feed [] = refl
to_feed (b ∷ s) = ap (onto b) (to_feed s) ∙ onto_feed b s

whole : (s : List ℕ) → Fed s → to_last_line_feed s ≡ s
whole s f = rw f.is (to_feed f.before)

-- ---- the sheet ends with a line feed

previous_fed : (g : Option Generation) → Fed (previous_line g)
unfolding previous_line
previous_fed g = fed_after (ascii "(previous ") (generation_text g ++ ascii ")\n") (fed_after (generation_text g) (ascii ")\n") (fed (ascii ")")))

life_fed : (l : HeadLifecycle) → Fed (life_lines l)
unfolding life_lines
life_fed l =
    fed_after (count_line l.stats l.claim_epoch) _
    (fed_after (current_line l.current) _
    (fed_after (superseded_line l.superseded) _
    (fed_after (installed_line l.installed) _ (previous_fed l.previous))))

anchor_fed : (a : ReadAnchor) → Fed (anchor_text a ++ ascii ")\n")
anchor_fed a = fed_after (anchor_text a) (ascii ")\n") (fed (ascii ")"))

waiter_fed : (n : ℕ) (w : Waiter) (s : List ℕ) → Fed s → Fed (s ++ waiter_line n w)
unfolding waiter_line
waiter_fed n Waiter.Free s f = rw (append-nil s) f
waiter_fed n Waiter.Parked s f = fed_after s _ (fed_after (ascii "(wait ") _ (fed_after (decimal n) (ascii " parked)\n") (fed (ascii " parked)"))))
waiter_fed n (Waiter.Abandoned a) s f = fed_after s _ (fed_after (ascii "(wait ") _ (fed_after (decimal n) _ (fed_after (ascii " abandoned ") _ (anchor_fed a))))
waiter_fed n (Waiter.Ended a) s f = fed_after s _ (fed_after (ascii "(wait ") _ (fed_after (decimal n) _ (fed_after (ascii " ended ") _ (anchor_fed a))))

waiters_fed : (n : ℕ) (ws : List WaiterSlot) (s : List ℕ) → Fed s → Fed (s ++ waiter_lines n ws)
unfolding waiter_lines
waiters_fed n [] s f = rw (append-nil s) f
waiters_fed n (w ∷ ws) s f = rw (← (append_assoc s (waiter_line n w.waiter) (waiter_lines (suc n) ws))) (waiters_fed (suc n) ws (s ++ waiter_line n w.waiter) (waiter_fed n w.waiter s f))

sheet_fed : (d : Driver) → Fed (sheet_text d)
unfolding sheet_text lines_of
sheet_fed d = waiters_fed 0 (canon d).waiters (life_lines (canon d).life) (life_fed (canon d).life)

-- ---- what is written

taken : (s t : List ℕ) → take (length s) (s ++ t) ≡ s
taken [] t = refl
taken (b ∷ s) t = ap (λ (u : List ℕ). b ∷ u) (taken s t)

wrote : (d : Driver) (buffer : List ℕ) → 4096 ≤ length buffer → wrote_of (turn_of d (Some LineCall.Sheet) buffer).answer (sheet_after d (Some LineCall.Sheet) buffer) ≡ sheet_text d
unfolding turn_of sheet_after sheet_answer written buffer_after wrote_of
wrote d buffer h = rw (le-ltb (length buffer) 4096 h) (taken (sheet_text d) (drop (length (sheet_text d)) buffer))

pub sheet_wrote : (d : Driver) (buffer : List ℕ) → 4096 ≤ length buffer → to_last_line_feed (wrote_of (turn_of d (Some LineCall.Sheet) buffer).answer (sheet_after d (Some LineCall.Sheet) buffer)) ≡ sheet_text d
sheet_wrote d buffer h = rw (wrote d buffer h) (whole (sheet_text d) (sheet_fed d))

pub sheet_is_text : SheetIsText
unfolding sheet_into sheet_call_text
sheet_is_text d buffer h = rw sheet_back (sheet_wrote d buffer h)
