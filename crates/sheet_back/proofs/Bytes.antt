-- A sheet in sheet form has no capital and no zero byte: its lines are words, decimals and hashes, and none of these has one.
use Prim.Native.Nat.{ℕ, suc, ◌+◌, ◌<◌}
use native.Mathlib.Omega.{arith}
use mathlib.Core.Bool.{Bool, false, ◌||◌}
use mathlib.Core.List.{List, [], ◌∷◌}
use mathlib.Core.Path.{◌≡◌, refl, ap, ◌∙◌}
use lib.Dec.{eqb}
use borrow.Author.Tests.{le-leb, lt-leb}
use Rattle.std.proofs.lemmas.Bool.{ne_eqb, or_parts}
use Rattle.std.proofs.lemmas.List.Folds.{list_any-append}
use Rattle.std.specs.Char.{is_ascii_uppercase}
use Rattle.std.specs.List.{list_any}
use Rattle.std.specs.Prelude.{Option, None, Some}
use Rattle.head_values.specs.Values.{Value, anchor_value, slot_value}
use Rattle.head_values.specs.Words.{Word}
use Rattle.head_values.specs.declared.ReadAnchor.{ReadAnchor}
use Rattle.head_count.specs.declared.Epoch.{Epoch}
use Rattle.head_count.specs.declared.HeadStats.{HeadStats}
use Rattle.head_attempt.specs.declared.HeadCompletion.{HeadCompletion}
use Rattle.head_attempt.specs.declared.Waiter.{Waiter}
use Rattle.head_attempt.specs.declared.WaiterSlot.{WaiterSlot}
use Rattle.head_ready.specs.Said.{readiness_value}
use Rattle.head_ready.specs.declared.Generation.{Generation}
use Rattle.head_ready.specs.declared.HeadReadiness.{HeadReadiness}
use Rattle.head_current.specs.Said.{report_value}
use Rattle.head_current.specs.declared.CurrentHead.{CurrentHead}
use Rattle.head_current.specs.declared.DeltaReport.{DeltaReport}
use Rattle.head_current.specs.declared.HeadDelivery.{HeadDelivery}
use Rattle.head_current.specs.declared.UnsettledHead.{UnsettledHead}
use Rattle.head_life.specs.declared.HeadLifecycle.{HeadLifecycle}
use Rattle.head_driver.specs.Answers.{stats_values}
use Rattle.head_driver.specs.declared.Driver.{Driver}
use Rattle.text.specs.Decimals.{decimal}
use Rattle.text.proofs.DecimalRead.{decimal_none}
use Rattle.hash.specs.declared.Hash.{Hash}
use Rattle.hash_text.specs.Hex.{glyph}
use Rattle.hash_text.specs.Texts.{hash_prefix, hash_text}
use Rattle.hash_text.proofs.HexRead.{glyph_test, hex_text_none}
use Rattle.value_text.specs.Texts.{anchor_text, slot_text}
use Rattle.value_text.specs.Values.{value_text, values_on}
use Rattle.value_text.specs.Words.{word_text}
use Rattle.script_value.specs.Texts.{spaced_text, stats_text}
use Rattle.script_outcome.specs.Texts.{readiness_text, report_text}
use Rattle.sheet_lines.specs.Lines.{count_line, current_line, delivery_text, generation_text, installed_line, previous_line}
use Rattle.sheet_lines.specs.Lines.{superseded_line, unclaimed_end_text, unsettled_text, waiter_line, waiter_lines}
use Rattle.script_sheet.specs.Sheets.{life_lines, lines_of}
use Rattle.sheet_rules.specs.Form.{SheetForm}
use Rattle.sheet_back.specs.Statements.{NoCapitals, NoZeros}

-- a capital or a zero byte
abbrev capital_or_zero : ℕ → Bool
capital_or_zero b = is_ascii_uppercase b || eqb b 0

-- without them
abbrev Plain : List ℕ → Type 0
Plain s = list_any capital_or_zero s ≡ false

-- ---- words, decimals and hashes, and the values that are made of them

word_plain : (w : Word) → Plain (word_text w)
unfolding word_text
word_plain Word.ticket = refl
word_plain Word.claimed = refl
word_plain Word.done = refl
word_plain Word.settled = refl
word_plain Word.view = refl
word_plain Word.parked = refl
word_plain Word.completion = refl
word_plain Word.link = refl
word_plain Word.report = refl
word_plain Word.stats = refl
word_plain Word.heads = refl
word_plain Word.refused = refl
word_plain Word.installed = refl
word_plain Word.provisional = refl
word_plain Word.previous = refl
word_plain Word.spare = refl
word_plain Word.ready = refl
word_plain Word.unprepared = refl
word_plain Word.superseded = refl
word_plain Word.undelivered = refl
word_plain Word.abandoned = refl
word_plain Word.cold = refl
word_plain Word.carried = refl
word_plain Word.linked = refl
word_plain Word.no_parent = refl
word_plain Word.not_consecutive = refl
word_plain Word.hash_unknown = refl
word_plain Word.hash_mismatch = refl
word_plain Word.no_hash = refl
word_plain Word.rpc = refl
word_plain Word.decode = refl
word_plain Word.none = refl

-- digits stand above zero and below the capitals, and small letters above these
below_plain : (b : ℕ) → 0 < b → b < 65 → capital_or_zero b ≡ false
below_plain b p q = rw (lt-leb 65 b q, ne_eqb b 0 (λ e. omega arith)) refl

above_plain : (b : ℕ) → 90 < b → capital_or_zero b ≡ false
above_plain b p = rw (le-leb 65 b (omega arith), lt-leb b 90 p, ne_eqb b 0 (λ e. omega arith)) refl

decimal_plain : (n : ℕ) → Plain (decimal n)
decimal_plain n = decimal_none capital_or_zero (λ d h. below_plain (48 + d) (omega arith) (omega arith)) n

glyph_plain : (d : ℕ) → d < 16 → capital_or_zero (glyph d) ≡ false
glyph_plain =
    glyph_test (λ b. capital_or_zero b ≡ false)
    (λ b p q. below_plain b (omega arith) (omega arith))
    (λ b p q. above_plain b (omega arith))

hash_plain : (h : Hash) → Plain (hash_text h)
unfolding hash_text hash_prefix
hash_plain h = hex_text_none capital_or_zero glyph_plain h

value_plain : (v : Value) → Plain (value_text v)
unfolding value_text
value_plain (Value.word w) = word_plain w
value_plain (Value.number n) = decimal_plain n
value_plain (Value.hash h) = hash_plain h
value_plain (Value.two a b) = simp (list_any-append, value_plain a, value_plain b)
value_plain (Value.three a b c) = simp (list_any-append, value_plain a, value_plain b, value_plain c)

values_plain : (vs : List Value) → Plain (values_on vs [])
unfolding values_on
values_plain [] = refl
values_plain (v ∷ vs) = simp (list_any-append, value_plain v, values_plain vs)

-- ---- the parts of a line: each is the text of a value, or of several

spaced_plain : (n : ℕ) → Plain (spaced_text n)
unfolding spaced_text
spaced_plain n = decimal_plain n

stats_plain : (s : HeadStats) → Plain (stats_text s)
unfolding stats_text
stats_plain s = values_plain (stats_values s)

anchor_plain : (a : ReadAnchor) → Plain (anchor_text a)
unfolding anchor_text
anchor_plain a = value_plain (anchor_value a)

slot_plain : (s : Option ReadAnchor) → Plain (slot_text s)
unfolding slot_text
slot_plain s = value_plain (slot_value s)

report_plain : (r : Option DeltaReport) → Plain (report_text r)
unfolding report_text
report_plain r = value_plain (report_value r)

readiness_plain : (r : HeadReadiness) → Plain (readiness_text r)
unfolding readiness_text
readiness_plain r = value_plain (readiness_value r)

delivery_plain : (held : HeadDelivery) → Plain (delivery_text held)
unfolding delivery_text
delivery_plain held = simp (list_any-append, anchor_plain, hash_plain)

unsettled_plain : (u : UnsettledHead) → Plain (unsettled_text u)
unfolding unsettled_text
unsettled_plain u = simp (list_any-append, delivery_plain, spaced_plain)

unclaimed_end_plain : (e : HeadCompletion) → Plain (unclaimed_end_text e)
unfolding unclaimed_end_text
unclaimed_end_plain HeadCompletion.Open = refl
unclaimed_end_plain HeadCompletion.Settled = refl
unclaimed_end_plain HeadCompletion.Superseded = refl
unclaimed_end_plain HeadCompletion.Abandoned = refl

generation_plain : (g : Option Generation) → Plain (generation_text g)
unfolding generation_text
generation_plain None = refl
generation_plain (Some g) = simp (list_any-append, anchor_plain, spaced_plain, readiness_plain)

-- ---- the lines

count_plain : (s : HeadStats) (e : Epoch) → Plain (count_line s e)
unfolding count_line
count_plain s e = simp (list_any-append, stats_plain, spaced_plain)

current_plain : (c : CurrentHead) → Plain (current_line c)
unfolding current_line
current_plain CurrentHead.Absent = refl
current_plain (CurrentHead.Unclaimed u) = simp (list_any-append, unsettled_plain, unclaimed_end_plain)
current_plain (CurrentHead.Preparing u) = simp (list_any-append, unsettled_plain)
current_plain (CurrentHead.Settled s) = simp (list_any-append, delivery_plain, report_plain)

life_plain : (l : HeadLifecycle) → Plain (life_lines l)
unfolding life_lines superseded_line installed_line previous_line
life_plain l = simp (list_any-append, count_plain, current_plain, slot_plain, generation_plain)

waiter_plain : (n : ℕ) (w : Waiter) → Plain (waiter_line n w)
unfolding waiter_line
waiter_plain n Waiter.Free = refl
waiter_plain n Waiter.Parked = simp (list_any-append, decimal_plain)
waiter_plain n (Waiter.Abandoned a) = simp (list_any-append, decimal_plain, anchor_plain)
waiter_plain n (Waiter.Ended a) = simp (list_any-append, decimal_plain, anchor_plain)

waiters_plain : (n : ℕ) (ws : List WaiterSlot) → Plain (waiter_lines n ws)
unfolding waiter_lines
waiters_plain n [] = refl
waiters_plain n (w ∷ ws) = simp (list_any-append, waiter_plain, waiters_plain (suc n) ws)

-- ---- the sheet

lines_plain : (d : Driver) → Plain (lines_of d)
unfolding lines_of
lines_plain d = simp (list_any-append, life_plain, waiters_plain)

-- a text in sheet form is a driver's lines
form_plain : (text : List ℕ) (d : Driver) → SheetForm text d → Plain text
form_plain text d f = ap (list_any capital_or_zero) f.1 ∙ lines_plain d

-- each of two tests passes nowhere, where either does
neither : (p q : ℕ → Bool) (s : List ℕ) → list_any (λ b. p b || q b) s ≡ false → (list_any p s ≡ false) × (list_any q s ≡ false)
neither p q [] e = (refl, refl)
neither p q (b ∷ s) e =
    let h = or_parts (p b || q b) (list_any (λ c. p c || q c) s) e in
    let here = or_parts (p b) (q b) h.0 in
    let later = neither p q s h.1 in
    (rw (here.0, later.0) refl, rw (here.1, later.1) refl)

pub no_capitals : NoCapitals
no_capitals text d f = (neither is_ascii_uppercase (λ b. eqb b 0) text (form_plain text d f)).0

pub no_zeros : NoZeros
no_zeros text d f = (neither is_ascii_uppercase (λ b. eqb b 0) text (form_plain text d f)).1
