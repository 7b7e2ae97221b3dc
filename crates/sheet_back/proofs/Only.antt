-- Nothing else is read: where reading goes on after a part of a sheet, that part's own text stood there.
use Prim.Native.Nat.{ℕ}
use mathlib.Core.Bool.{Bool, true, false}
use mathlib.Core.List.{List, ◌++◌, append_assoc}
use mathlib.Core.Path.{◌≡◌, refl, ap, sym, ◌∙◌}
use Rattle.std.specs.Prelude.{cond}
use Rattle.head_values.specs.Values.{fault_value, outcome_value}
use Rattle.head_values.specs.Words.{Word}
use Rattle.head_count.specs.declared.Epoch.{Epoch}
use Rattle.head_ready.specs.Said.{readiness_value}
use Rattle.head_current.specs.Said.{report_value}
use Rattle.head_current.specs.declared.CurrentHead.{CurrentHead}
use Rattle.text.specs.Ascii.{ascii}
use Rattle.text.specs.Rests.{Rest, Took, after, at, past_word, says, word_here}
use Rattle.text.specs.Same.{same_text}
use Rattle.text.proofs.Same.{same_eq}
use Rattle.value_text.proofs.Only.{after_only, chosen_only, past_only, says_only, sheet_anchor_read, sheet_hash_read, sheet_slot_read, skip_read, spaced_number_only}
use Rattle.value_text.specs.Reads.{got, map, or_word, spaced_number, then}
use Rattle.value_text.specs.Texts.{fault_text}
use Rattle.value_text.specs.Values.{value_text}
use Rattle.value_text.specs.Words.{word_text}
use Rattle.script_value.specs.Texts.{spaced_text, stats_text}
use Rattle.script_outcome.specs.Texts.{cold_text, outcome_text, readiness_text, report_text}
use Rattle.script_back.proofs.Counters.{stats_form}
use Rattle.script_back.proofs.Outcomes.{carried_form, cold_form, made_form}
use Rattle.sheet_lines.specs.Lines.{count_line, current_line, delivery_text, generation_text, installed_line, previous_line, superseded_line, unclaimed_end_text, unsettled_text}
use Rattle.sheet_read.specs.Heads.{head_named, read_count, read_current, read_delivery, read_generation, read_held, read_installed, read_kept_readiness, read_preparing, read_previous, read_settled, read_superseded, read_unclaimed, read_unclaimed_end}
use Rattle.sheet_read.specs.Values.{read_cold, read_fault, read_faulty, read_made, read_outcome, read_report, read_stats}

-- ---- counters

number_only : (r : Rest) (t : List ℕ) → (spaced_number r).next ≡ at t → r ≡ at (spaced_text (spaced_number r).value ++ t)
unfolding spaced_text
number_only r t e = spaced_number_only r t e

stats_only : (r : Rest) (t : List ℕ) → (read_stats r).next ≡ at t → r ≡ at (stats_text (read_stats r).value ++ t)
unfolding read_stats
stats_only r t e =
    number_only _ _ (number_only _ _ (number_only _ _ (number_only _ _
    (number_only _ _ (number_only _ _ (number_only _ _ (number_only _ _ e)))))))
    ∙ ap at (sym (stats_form _ t))

pub count_only : (r : Rest) (t : List ℕ) → (read_count r).next ≡ at t
    → r ≡ at (count_line (read_count r).value.stats (read_count r).value.epoch ++ t)
unfolding read_count count_line
count_only r t e =
    after_only (ascii "(count") _ _ (stats_only _ _ (number_only _ _ (after_only (ascii ")\n") _ t e)))
    ∙ simp append_assoc

-- ---- outcomes and reports

fault_only : (r : Rest) (t : List ℕ) → (read_fault r).next ≡ at t → r ≡ at (fault_text (read_fault r).value ++ t)
unfolding read_fault read_faulty or_word fault_text fault_value value_text word_text
fault_only r t =
    chosen_only fault_text r t (says (ascii "none") r) _ _ (says_only (ascii "none") r t)
    (chosen_only fault_text r t (says (ascii "no-parent") r) _ _ (says_only (ascii "no-parent") r t)
    (chosen_only fault_text r t (says (ascii "not-consecutive") r) _ _ (says_only (ascii "not-consecutive") r t)
    (chosen_only fault_text r t (says (ascii "hash-unknown") r) _ _ (says_only (ascii "hash-unknown") r t)
    (chosen_only fault_text r t (says (ascii "hash-mismatch") r) _ _ (says_only (ascii "hash-mismatch") r t)
    (λ e. cc)))))

cold_only : (r : Rest) (t : List ℕ) → (read_cold r).next ≡ at t → r ≡ at (cold_text (read_cold r).value.link (read_cold r).value.skip ++ t)
unfolding read_cold
cold_only r t e =
    after_only (ascii "(cold ") _ _ (fault_only _ _ (after_only (ascii " ") _ _ (skip_read _ _ (after_only (ascii ")") _ t e))))
    ∙ ap at (sym (cold_form _ _ t))

outcome_only : (r : Rest) (t : List ℕ) → (read_outcome r).next ≡ at t → r ≡ at (outcome_text (read_outcome r).value ++ t)
unfolding read_outcome map then word_text
outcome_only r t =
    let s = after (ascii "(") r in
    chosen_only outcome_text r t (says (ascii "carried") s) _ _
    (λ f e. after_only (ascii "(") r _ (says_only (ascii "carried") s _ f (number_only _ _ (after_only (ascii ")") _ t e)))
    ∙ ap at (sym (carried_form _ t)))
    (λ e. unfold outcome_text outcome_value cold_text in cold_only r t e)

made_only : (r : Rest) (t : List ℕ) → (read_made r).next ≡ at t → r ≡ at (report_text (read_made r).value ++ t)
unfolding read_made
made_only r t e =
    after_only (ascii "(") _ _ (outcome_only _ _ (number_only _ _ (after_only (ascii ")") _ t e)))
    ∙ ap at (sym (made_form _ _ t))

report_only : (r : Rest) (t : List ℕ) → (read_report r).next ≡ at t → r ≡ at (report_text (read_report r).value ++ t)
unfolding read_report or_word
report_only r t =
    chosen_only report_text r t (says (word_text Word.none) r) _ _
    (λ f e. unfold report_text report_value value_text in says_only (word_text Word.none) r t f e)
    (made_only r t)

-- ---- current and superseded

delivery_only : (n : ℕ) (r : Rest) (t : List ℕ) → (read_delivery n r).next ≡ at t → r ≡ at (delivery_text (read_delivery n r).value ++ t)
unfolding read_delivery delivery_text
delivery_only n r t e =
    sheet_anchor_read _ _ (after_only (ascii " ") _ _ (sheet_hash_read _ t e)) ∙ simp append_assoc

end_only : (r : Rest) (t : List ℕ) → (read_unclaimed_end r).next ≡ at t → r ≡ at (unclaimed_end_text (read_unclaimed_end r).value ++ t)
unfolding read_unclaimed_end or_word unclaimed_end_text
end_only r t =
    chosen_only unclaimed_end_text r t (says (ascii "open") r) _ _ (says_only (ascii "open") r t)
    (chosen_only unclaimed_end_text r t (says (ascii "abandoned") r) _ _ (says_only (ascii "abandoned") r t)
    (λ e. cc))

-- what follows `(current `: the word w and what is read after it are a head's own text
Named : List ℕ → Rest → List ℕ → Took CurrentHead → Type 0
Named w r t k = k.next ≡ at (ascii ")\n" ++ t) → (s : List ℕ) × (r ≡ at s) × (ascii "(current " ++ (w ++ s) ≡ current_line k.value ++ t)

module _ (n : ℕ) (e : Epoch) (r : Rest) (t : List ℕ) where
  unclaimed_only : Named (ascii "unclaimed") r t (read_unclaimed n r)
  unfolding Named read_unclaimed current_line unsettled_text
  unclaimed_only h =
      let e = after_only (ascii " ") _ _ (end_only _ _ h) in
      (_, after_only (ascii " ") _ _ (delivery_only n _ _ (number_only _ _ e)), simp append_assoc)

  preparing_only : Named (ascii "preparing") r t (read_preparing n e r)
  unfolding Named read_preparing current_line unsettled_text
  preparing_only h = (_, after_only (ascii " ") _ _ (delivery_only n _ _ (number_only _ _ h)), simp append_assoc)

  settled_only : Named (ascii "settled") r t (read_settled n r)
  unfolding Named read_settled current_line
  settled_only h = (_, after_only (ascii " ") _ _ (delivery_only n _ _ (after_only (ascii " ") _ _ (report_only _ _ h))), simp append_assoc)

  absent_only : Named (ascii "none") r t (got CurrentHead.Absent r)
  unfolding Named current_line
  absent_only h = (_, h, refl)

  by_name : (w k : List ℕ) (x y : Took CurrentHead) → Named k r t x → Named w r t y → Named w r t (cond (same_text w k) x y)
  unfolding Named
  by_name w k x y f g = go (same_text w k) refl
    where
      go : (b : Bool) → same_text w k ≡ b → Named w r t (cond b x y)
      go true q = rw (same_eq w k q) f
      go false q = g

  named_only : (w : List ℕ) → Named w r t (head_named n e w r)
  unfolding head_named Named
  named_only w =
      by_name w (ascii "none") _ _ absent_only
      (by_name w (ascii "unclaimed") _ _ unclaimed_only
      (by_name w (ascii "preparing") _ _ preparing_only
      (by_name w (ascii "settled") _ _ settled_only
      (λ h. cc))))

pub current_only : (n : ℕ) (e : Epoch) (r : Rest) (t : List ℕ) → (read_current n e r).next ≡ at t
    → r ≡ at (current_line (read_current n e r).value ++ t)
unfolding read_current then Named
current_only n e r t h =
    let s = after (ascii "(current ") r in
    let k = named_only n e (past_word s) t (word_here s) (after_only (ascii ")\n") _ t h) in
    after_only (ascii "(current ") r _ (past_only s k.0 k.1) ∙ ap at k.2

pub superseded_only : (r : Rest) (t : List ℕ) → (read_superseded r).next ≡ at t → r ≡ at (superseded_line (read_superseded r).value ++ t)
unfolding read_superseded then superseded_line
superseded_only r t e =
    after_only (ascii "(superseded ") r _ (sheet_slot_read _ _ (after_only (ascii ")\n") _ t e)) ∙ simp append_assoc

-- ---- installed and previous

kept_only : (r : Rest) (t : List ℕ) → (read_kept_readiness r).next ≡ at t → r ≡ at (readiness_text (read_kept_readiness r).value ++ t)
unfolding read_kept_readiness or_word map
kept_only r t =
    chosen_only readiness_text r t (says (word_text Word.ready) r) _ _
    (λ f e. unfold readiness_text readiness_value value_text in says_only (word_text Word.ready) r t f e)
    (λ e. unfold readiness_text readiness_value cold_text in cold_only r t e)

held_only : (r : Rest) (t : List ℕ) → (read_held r).next ≡ at t → r ≡ at (generation_text (read_held r).value ++ t)
unfolding read_held generation_text
held_only r t e =
    sheet_anchor_read _ _ (number_only _ _ (number_only _ _ (after_only (ascii " ") _ _ (kept_only _ t e)))) ∙ simp append_assoc

generation_only : (r : Rest) (t : List ℕ) → (read_generation r).next ≡ at t → r ≡ at (generation_text (read_generation r).value ++ t)
unfolding read_generation or_word
generation_only r t =
    chosen_only generation_text r t (says (word_text Word.none) r) _ _
    (λ f e. unfold generation_text word_text in says_only (ascii "none") r t f e)
    (held_only r t)

pub installed_only : (r : Rest) (t : List ℕ) → (read_installed r).next ≡ at t → r ≡ at (installed_line (read_installed r).value ++ t)
unfolding read_installed then installed_line
installed_only r t e =
    after_only (ascii "(installed ") r _ (generation_only _ _ (after_only (ascii ")\n") _ t e)) ∙ simp append_assoc

pub previous_only : (r : Rest) (t : List ℕ) → (read_previous r).next ≡ at t → r ≡ at (previous_line (read_previous r).value ++ t)
unfolding read_previous then previous_line
previous_only r t e =
    after_only (ascii "(previous ") r _ (generation_only _ _ (after_only (ascii ")\n") _ t e)) ∙ simp append_assoc
