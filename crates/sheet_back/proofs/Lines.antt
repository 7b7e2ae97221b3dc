-- The lines of the lifecycle are read back.
use Rattle.std.specs.Prelude.{Option, None, Some}
use Rattle.head_values.specs.declared.ReadAnchor.{ReadAnchor}
use Prim.Native.Nat.{ℕ}
use mathlib.Core.List.{List, ◌++◌, append_assoc}
use mathlib.Core.Path.{◌≡◌, refl, ◌∙◌}
use lib.ListN.{length}
use Rattle.head_ready.specs.Ranges.{GenerationFits, GenerationSlotFits, ReadinessFits}
use Rattle.head_ready.specs.Said.{readiness_value}
use Rattle.head_ready.specs.declared.HeadCold.{HeadCold}
use Rattle.head_ready.specs.declared.HeadReadiness.{HeadReadiness}
use Rattle.sheet_rules.specs.Form.{KeptReadiness}
use Rattle.head_current.specs.Ranges.{DeliveryFits, HeadFits, SettledFits, UnsettledFits}
use Rattle.alike.specs.Canon.{shown_head}
use Rattle.alike.specs.Invariant.{OpenOrAbandoned, WhenGeneration, WhenUnclaimed}
use Rattle.head_count.specs.Counters.{seq_of}
use Rattle.head_current.specs.Parts.{delivery_of}
use Rattle.value_text.proofs.Back.{anchor_form, sheet_anchor_back, sheet_hash_back, sheet_slot_back}
use Rattle.value_text.proofs.Keywords.{open_miss, word_hit, word_miss}
use Rattle.script_back.proofs.Counters.{spaced_back, spaced_run, stats_back}
use Rattle.script_back.proofs.Outcomes.{cold_kept, report_back}
use Rattle.head_values.specs.Ranges.{SlotFits}
use Rattle.hash.specs.Ranges.{Fits}
use Rattle.head_count.specs.Ranges.{StatsFit}
use Rattle.value_text.specs.Reads.{got, map, then}
use Rattle.script_outcome.specs.Texts.{cold_text, readiness_text, report_text}
use Rattle.script_value.specs.Texts.{spaced_text, stats_text}
use Rattle.value_text.specs.Texts.{anchor_text}
use Rattle.value_text.specs.Values.{value_text}
use Rattle.value_text.specs.Words.{word_text}
use Rattle.sheet_lines.specs.Lines.{count_line, current_line, delivery_text, generation_text, installed_line, unclaimed_end_text, previous_line, superseded_line, unsettled_text}
use Rattle.text.proofs.Back.{past_back, word_back}
use Rattle.text.specs.Ascii.{ascii}
use Rattle.text.specs.Rests.{after, at, after_byte}
use Rattle.text.specs.Same.{same_text}
use Rattle.text.specs.Words.{in_word, run}
use Rattle.head_count.specs.declared.Epoch.{Epoch}
use Rattle.head_attempt.specs.declared.HeadCompletion.{HeadCompletion}
use Rattle.head_count.specs.declared.HeadStats.{HeadStats}
use Rattle.head_current.specs.declared.CurrentHead.{CurrentHead}
use Rattle.head_current.specs.declared.HeadDelivery.{HeadDelivery}
use Rattle.head_current.specs.declared.SettledHead.{SettledHead}
use Rattle.head_current.specs.declared.UnsettledHead.{UnsettledHead}
use Rattle.head_ready.specs.declared.Generation.{Generation}
use Rattle.sheet_read.specs.Heads.{head_named, read_count, read_current, read_delivery, read_generation, read_held, read_installed, read_kept_readiness, read_unclaimed_end, read_preparing, read_previous, read_settled, read_superseded, read_unclaimed}

-- ---- count

count_form : (s : HeadStats) (e : Epoch) (t : List ℕ) → count_line s e ++ t ≡ ascii "(count" ++ (stats_text s ++ (spaced_text e.0 ++ (ascii ")\n" ++ t)))
unfolding count_line
count_form s e t = simp append_assoc

pub count_back : (s : HeadStats) (e : Epoch) (t : List ℕ) → StatsFit s → Fits e.0 → read_count (at (count_line s e ++ t)) ≡ got (record { stats = s; epoch = e }) (at t)
unfolding read_count after after_byte run in_word
count_back s e t f g = rw (count_form s e t) (simp (stats_back, spaced_run, spaced_back))

-- ---- current

delivery_back : (n : ℕ) (held : HeadDelivery) (t : List ℕ) → DeliveryFits held → run t ≡ 0 → read_delivery n (at (delivery_text held ++ t)) ≡ got (delivery_of held.anchor held.parent_hash (seq_of n)) (at t)
unfolding read_delivery delivery_text after after_byte
delivery_back n held t f z =
    let fa = f.anchor in
    let fh = f.parent_hash in
    simp (append_assoc, sheet_anchor_back, sheet_hash_back)

unclaimed_end_back : (end : HeadCompletion) (t : List ℕ) → OpenOrAbandoned end → run t ≡ 0 → read_unclaimed_end (at (unclaimed_end_text end ++ t)) ≡ got end (at t)
unfolding read_unclaimed_end unclaimed_end_text same_text run in_word
unclaimed_end_back HeadCompletion.Open t f z = word_hit _ _ t z (ascii "open") refl
unclaimed_end_back HeadCompletion.Settled t f z = absurd f
unclaimed_end_back HeadCompletion.Superseded t f z = absurd f
unclaimed_end_back HeadCompletion.Abandoned t f z = word_miss _ _ t z (ascii "open") (ascii "abandoned") refl refl ∙ word_hit _ _ t z (ascii "abandoned") refl

module _ (n : ℕ) (e : Epoch) where
  named : (w t : List ℕ) → run w ≡ length w → run t ≡ 0 → read_current n e (at (ascii "(current " ++ (w ++ t))) ≡ then (ascii ")\n") (head_named n e w (at t))
  unfolding read_current after after_byte
  named w t h z = rw (word_back w t h z, past_back w t h z)

  -- a line from its word and what follows
  abbrev Line : List ℕ → List ℕ → CurrentHead → List ℕ → Type 0
  Line w s c t = read_current n e (at (ascii "(current " ++ (w ++ s))) ≡ got c (at t)

  module _ (u : UnsettledHead) (t : List ℕ) (f : UnsettledFits u) where
    unclaimed_form : current_line (CurrentHead.Unclaimed u) ++ t ≡ ascii "(current " ++ (ascii "unclaimed" ++ (ascii " " ++ (delivery_text u.delivery ++ (spaced_text u.provisional ++ (ascii " " ++ (unclaimed_end_text u.attempt.end ++ (ascii ")\n" ++ t)))))))
    unfolding current_line unsettled_text
    unclaimed_form = simp append_assoc

    unclaimed_named : OpenOrAbandoned u.attempt.end
        → then (ascii ")\n") (head_named n e (ascii "unclaimed") (at (ascii " " ++ (delivery_text u.delivery ++ (spaced_text u.provisional ++ (ascii " " ++ (unclaimed_end_text u.attempt.end ++ (ascii ")\n" ++ t)))))))) ≡ got (shown_head n e (CurrentHead.Unclaimed u)) (at t)
    unfolding head_named read_unclaimed shown_head same_text then after after_byte run in_word
    unclaimed_named h =
        let fd = f.delivery in
        let fp = f.provisional in
        simp (delivery_back, spaced_run, spaced_back, unclaimed_end_back)

    unclaimed_back : OpenOrAbandoned u.attempt.end → read_current n e (at (current_line (CurrentHead.Unclaimed u) ++ t)) ≡ got (shown_head n e (CurrentHead.Unclaimed u)) (at t)
    unfolding run in_word
    unclaimed_back h = rw unclaimed_form (named (ascii "unclaimed") _ refl refl ∙ unclaimed_named h)

    preparing_form : current_line (CurrentHead.Preparing u) ++ t ≡ ascii "(current " ++ (ascii "preparing" ++ (ascii " " ++ (delivery_text u.delivery ++ (spaced_text u.provisional ++ (ascii ")\n" ++ t)))))
    unfolding current_line unsettled_text
    preparing_form = simp append_assoc

    preparing_named : then (ascii ")\n") (head_named n e (ascii "preparing") (at (ascii " " ++ (delivery_text u.delivery ++ (spaced_text u.provisional ++ (ascii ")\n" ++ t)))))) ≡ got (shown_head n e (CurrentHead.Preparing u)) (at t)
    unfolding head_named read_preparing shown_head same_text then after after_byte run in_word
    preparing_named =
        let fd = f.delivery in
        let fp = f.provisional in
        simp (delivery_back, spaced_run, spaced_back)

    preparing_back : read_current n e (at (current_line (CurrentHead.Preparing u) ++ t)) ≡ got (shown_head n e (CurrentHead.Preparing u)) (at t)
    unfolding run in_word
    preparing_back = rw preparing_form (named (ascii "preparing") _ refl refl ∙ preparing_named)

  module _ (s : SettledHead) (t : List ℕ) (f : SettledFits s) where
    settled_form : current_line (CurrentHead.Settled s) ++ t ≡ ascii "(current " ++ (ascii "settled" ++ (ascii " " ++ (delivery_text s.delivery ++ (ascii " " ++ (report_text s.report ++ (ascii ")\n" ++ t))))))
    unfolding current_line
    settled_form = simp append_assoc

    settled_named : then (ascii ")\n") (head_named n e (ascii "settled") (at (ascii " " ++ (delivery_text s.delivery ++ (ascii " " ++ (report_text s.report ++ (ascii ")\n" ++ t))))))) ≡ got (shown_head n e (CurrentHead.Settled s)) (at t)
    unfolding head_named read_settled shown_head same_text then after after_byte run in_word
    settled_named =
        let fd = f.delivery in
        let fr = f.report in
        simp (delivery_back, report_back)

    settled_back : read_current n e (at (current_line (CurrentHead.Settled s) ++ t)) ≡ got (shown_head n e (CurrentHead.Settled s)) (at t)
    unfolding run in_word
    settled_back = rw settled_form (named (ascii "settled") _ refl refl ∙ settled_named)

  absent_back : (t : List ℕ) → read_current n e (at (current_line CurrentHead.Absent ++ t)) ≡ got (shown_head n e CurrentHead.Absent) (at t)
  unfolding current_line head_named shown_head same_text then after after_byte run in_word
  absent_back t = named (ascii "none") (ascii ")\n" ++ t) refl refl

  pub current_back : (c : CurrentHead) (t : List ℕ) → HeadFits c → WhenUnclaimed c (λ u. OpenOrAbandoned u.attempt.end) → read_current n e (at (current_line c ++ t)) ≡ got (shown_head n e c) (at t)
  current_back CurrentHead.Absent t f h = absent_back t
  current_back (CurrentHead.Unclaimed u) t f h = unclaimed_back u t f h
  current_back (CurrentHead.Preparing u) t f h = preparing_back u t f
  current_back (CurrentHead.Settled s) t f h = settled_back s t f

-- ---- superseded

pub superseded_back : (s : Option ReadAnchor) (t : List ℕ) → SlotFits s → read_superseded (at (superseded_line s ++ t)) ≡ got s (at t)
unfolding read_superseded superseded_line then after after_byte run in_word
superseded_back s t f = simp (append_assoc, sheet_slot_back)

-- ---- installed and previous

held_form : (g : Generation) (t : List ℕ)
    → generation_text (Some g) ++ t
    ≡ anchor_text g.anchor ++ (spaced_text g.handle ++ (spaced_text g.seq.0 ++ (ascii " " ++ (readiness_text g.readiness ++ t))))
unfolding generation_text
held_form g t = simp append_assoc

-- `ready` or `(cold LINK SKIP)`
kept_back : (r : HeadReadiness) (t : List ℕ) → KeptReadiness r → ReadinessFits r → run t ≡ 0
    → read_kept_readiness (at (readiness_text r ++ t)) ≡ got r (at t)
unfolding read_kept_readiness readiness_text readiness_value cold_text value_text word_text run in_word map
kept_back HeadReadiness.Ready t k f z = word_hit _ _ t z (ascii "ready") refl
kept_back (HeadReadiness.Cold HeadCold.Unprepared) t k f z = absurd k
kept_back (HeadReadiness.Cold HeadCold.Superseded) t k f z = absurd k
kept_back (HeadReadiness.Cold HeadCold.Undelivered) t k f z = absurd k
kept_back (HeadReadiness.Cold HeadCold.Abandoned) t k f z = absurd k
kept_back (HeadReadiness.Cold (HeadCold.Settled link skip)) t k f z = cold_kept link skip t f

held_back : (g : Generation) (t : List ℕ) → KeptReadiness g.readiness → GenerationFits g → run t ≡ 0
    → read_held (at (generation_text (Some g) ++ t)) ≡ got (Some g) (at t)
unfolding read_held after after_byte run in_word
held_back g t k f z =
    let fa = f.anchor in
    let fh = f.handle in
    let fn = f.seq in
    let fr = f.readiness in
    rw (held_form g t) (simp (sheet_anchor_back, spaced_run, spaced_back, kept_back))

generation_back : (g : Option Generation) (t : List ℕ) → WhenGeneration g (λ g. KeptReadiness g.readiness) → GenerationSlotFits g
    → run t ≡ 0 → read_generation (at (generation_text g ++ t)) ≡ got g (at t)
unfolding read_generation generation_text word_text run in_word
generation_back None t k f z = word_hit _ _ t z (ascii "none") refl
generation_back (Some g) t k f z = held_open g t ∙ held_back g t k f z
  where
    held_open : (g : Generation) (t : List ℕ) → read_generation (at (generation_text (Some g) ++ t)) ≡ read_held (at (generation_text (Some g) ++ t))
    held_open g t = rw (held_form g t, anchor_form g.anchor) (open_miss _ _ _ _ _)

pub installed_back : (g : Option Generation) (t : List ℕ) → WhenGeneration g (λ g. KeptReadiness g.readiness) → GenerationSlotFits g
    → read_installed (at (installed_line g ++ t)) ≡ got g (at t)
unfolding read_installed installed_line then after after_byte run in_word
installed_back g t k f = simp (append_assoc, generation_back)

pub previous_back : (g : Option Generation) (t : List ℕ) → WhenGeneration g (λ g. KeptReadiness g.readiness) → GenerationSlotFits g
    → read_previous (at (previous_line g ++ t)) ≡ got g (at t)
unfolding read_previous previous_line then after after_byte run in_word
previous_back g t k f = simp (append_assoc, generation_back)
