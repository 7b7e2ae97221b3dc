-- Links, outcomes, reports, readiness, sources with their settle numbers, and ends are read back.
use Rattle.std.specs.Prelude.{Option, None, Some}
use Rattle.head_current.specs.declared.DeltaReport.{DeltaReport}
use Prim.Native.Nat.{ℕ}
use mathlib.Core.Bool.{false}
use mathlib.Core.List.{List, ◌++◌, append_assoc}
use mathlib.Core.Path.{◌≡◌, refl, ◌∙◌}
use Rattle.head_values.specs.Values.{fault_value, link_value, outcome_value}
use Rattle.head_values.specs.Words.{Word}
use Rattle.head_count.specs.Counters.{seq_of}
use Rattle.head_attempt.specs.Said.{end_value}
use Rattle.head_ready.specs.Said.{readiness_value, source_value}
use Rattle.head_current.specs.Said.{report_value}
use Rattle.script_outcome.specs.Texts.{cold_text, end_text, outcome_text, readiness_text, report_text, settle_number_text, source_text}
use Rattle.value_text.proofs.Back.{skip_back}
use Rattle.value_text.proofs.Keywords.{open_miss, word_hit, word_miss}
use Rattle.value_text.specs.Reads.{got, map, or_word, then}
use Rattle.sheet_read.specs.Values as S
use Rattle.value_text.specs.Texts.{fault_text, link_text, skip_text}
use Rattle.script_value.specs.Texts.{spaced_text}
use Rattle.value_text.specs.Values.{value_text}
use Rattle.value_text.specs.Words.{word_text}
use Rattle.text.proofs.Back.{past_back, says_back}
use Rattle.text.specs.Ascii.{ascii}
use Rattle.text.specs.Rests.{after, at, says, after_byte}
use Rattle.text.specs.Same.{same_text}
use Rattle.text.specs.Words.{in_word, run}
use Rattle.head_values.specs.declared.BalSkip.{BalSkip}
use Rattle.head_values.specs.declared.CarryOutcome.{CarryOutcome}
use Rattle.head_values.specs.declared.Link.{Link}
use Rattle.head_attempt.specs.declared.HeadCompletion.{HeadCompletion}
use Rattle.head_ready.specs.declared.HeadCold.{HeadCold}
use Rattle.head_ready.specs.declared.HeadReadiness.{HeadReadiness}
use Rattle.head_ready.specs.declared.Source.{Source}
use Rattle.script_back.specs.Outcomes.{read_end, read_link, read_readiness, read_settle_number, read_source}
use Rattle.sheet_read.specs.Values.{read_cold, read_fault, read_faulty, read_made, read_outcome, read_report}
use Rattle.hash.specs.Ranges.{Fits}
use Rattle.head_values.specs.Ranges.{OutcomeFits, SkipFits}
use Rattle.head_ready.specs.Ranges.{ReadinessFits, SourceFits}
use Rattle.head_current.specs.Ranges.{ReportFits}
use Rattle.script_back.proofs.Counters.{spaced_back, spaced_run}
use Rattle.head_current.specs.Parts.{report_of}

-- a source as its word tells it
abbrev pub unnumbered : Source → Source
unnumbered (Source.Installed n) = Source.Installed (seq_of 0)
unnumbered Source.Provisional = Source.Provisional
unnumbered (Source.Previous n) = Source.Previous (seq_of 0)
unnumbered Source.Spare = Source.Spare

module _ (t : List ℕ) (z : run t ≡ 0) where
  -- ---- words

  no_parent_back : read_faulty (at (ascii "no-parent" ++ t)) ≡ got Link.NoParent (at t)
  unfolding read_faulty word_text same_text run in_word
  no_parent_back = word_hit _ _ t z (ascii "no-parent") refl

  not_consecutive_back : read_faulty (at (ascii "not-consecutive" ++ t)) ≡ got Link.NotConsecutive (at t)
  unfolding read_faulty word_text same_text run in_word
  not_consecutive_back = word_miss _ _ t z (ascii "no-parent") (ascii "not-consecutive") refl refl ∙ word_hit _ _ t z (ascii "not-consecutive") refl

  hash_unknown_back : read_faulty (at (ascii "hash-unknown" ++ t)) ≡ got Link.HashUnknown (at t)
  unfolding read_faulty word_text same_text run in_word
  hash_unknown_back = word_miss _ _ t z (ascii "no-parent") (ascii "hash-unknown") refl refl ∙ word_miss _ _ t z (ascii "not-consecutive") (ascii "hash-unknown") refl refl ∙ word_hit _ _ t z (ascii "hash-unknown") refl

  hash_mismatch_back : read_faulty (at (ascii "hash-mismatch" ++ t)) ≡ got Link.HashMismatch (at t)
  unfolding read_faulty word_text same_text run in_word
  hash_mismatch_back = word_miss _ _ t z (ascii "no-parent") (ascii "hash-mismatch") refl refl ∙ word_miss _ _ t z (ascii "not-consecutive") (ascii "hash-mismatch") refl refl ∙ word_miss _ _ t z (ascii "hash-unknown") (ascii "hash-mismatch") refl refl ∙ word_hit _ _ t z (ascii "hash-mismatch") refl

  pub link_back : (link : Link) → read_link (at (link_text link ++ t)) ≡ got link (at t)
  unfolding read_link link_text link_value value_text word_text same_text run in_word
  link_back Link.Linked = word_hit _ _ t z (ascii "linked") refl
  link_back Link.NoParent = word_miss _ _ t z (ascii "linked") (ascii "no-parent") refl refl ∙ no_parent_back
  link_back Link.NotConsecutive = word_miss _ _ t z (ascii "linked") (ascii "not-consecutive") refl refl ∙ not_consecutive_back
  link_back Link.HashUnknown = word_miss _ _ t z (ascii "linked") (ascii "hash-unknown") refl refl ∙ hash_unknown_back
  link_back Link.HashMismatch = word_miss _ _ t z (ascii "linked") (ascii "hash-mismatch") refl refl ∙ hash_mismatch_back

  fault_back : (link : Link) → read_fault (at (fault_text link ++ t)) ≡ got link (at t)
  unfolding read_fault fault_text fault_value value_text word_text same_text run in_word
  fault_back Link.Linked = word_hit _ _ t z (ascii "none") refl
  fault_back Link.NoParent = word_miss _ _ t z (ascii "none") (ascii "no-parent") refl refl ∙ no_parent_back
  fault_back Link.NotConsecutive = word_miss _ _ t z (ascii "none") (ascii "not-consecutive") refl refl ∙ not_consecutive_back
  fault_back Link.HashUnknown = word_miss _ _ t z (ascii "none") (ascii "hash-unknown") refl refl ∙ hash_unknown_back
  fault_back Link.HashMismatch = word_miss _ _ t z (ascii "none") (ascii "hash-mismatch") refl refl ∙ hash_mismatch_back

  pub source_back : (source : Source) → read_source (at (source_text source ++ t)) ≡ got (unnumbered source) (at t)
  unfolding read_source source_text source_value value_text word_text same_text run in_word
  source_back (Source.Installed n) = word_hit _ _ t z (ascii "installed") refl
  source_back Source.Provisional = word_miss _ _ t z (ascii "installed") (ascii "provisional") refl refl ∙ word_hit _ _ t z (ascii "provisional") refl
  source_back (Source.Previous n) =
      word_miss _ _ t z (ascii "installed") (ascii "previous") refl refl
      ∙ word_miss _ _ t z (ascii "provisional") (ascii "previous") refl refl
      ∙ word_hit _ _ t z (ascii "previous") refl
  source_back Source.Spare = word_miss _ _ t z (ascii "installed") (ascii "spare") refl refl ∙ word_miss _ _ t z (ascii "provisional") (ascii "spare") refl refl ∙ word_miss _ _ t z (ascii "previous") (ascii "spare") refl refl ∙ word_hit _ _ t z (ascii "spare") refl

  pub settle_number_back : (source : Source) → SourceFits source
      → read_settle_number (unnumbered source) (at (settle_number_text source ++ t)) ≡ got source (at t)
  unfolding read_settle_number settle_number_text spaced_text map
  settle_number_back (Source.Installed n) f = rw (spaced_back n.0 t f z) refl
  settle_number_back Source.Provisional f = refl
  settle_number_back (Source.Previous n) f = rw (spaced_back n.0 t f z) refl
  settle_number_back Source.Spare f = refl

  pub end_back : (end : HeadCompletion) → read_end (at (end_text end ++ t)) ≡ got end (at t)
  unfolding read_end end_text end_value value_text word_text same_text run in_word
  end_back HeadCompletion.Open = word_hit _ _ t z (ascii "none") refl
  end_back HeadCompletion.Settled = word_miss _ _ t z (ascii "none") (ascii "settled") refl refl ∙ word_hit _ _ t z (ascii "settled") refl
  end_back HeadCompletion.Superseded = word_miss _ _ t z (ascii "none") (ascii "superseded") refl refl ∙ word_miss _ _ t z (ascii "settled") (ascii "superseded") refl refl ∙ word_hit _ _ t z (ascii "superseded") refl
  end_back HeadCompletion.Abandoned = word_miss _ _ t z (ascii "none") (ascii "abandoned") refl refl ∙ word_miss _ _ t z (ascii "settled") (ascii "abandoned") refl refl ∙ word_miss _ _ t z (ascii "superseded") (ascii "abandoned") refl refl ∙ word_hit _ _ t z (ascii "abandoned") refl

module _ (link : Link) (skip : BalSkip) (t : List ℕ) where
  -- ---- `(cold LINK SKIP)`

  pub cold_form : cold_text link skip ++ t ≡ ascii "(cold " ++ (fault_text link ++ (ascii " " ++ (skip_text skip ++ (ascii ")" ++ t))))
  unfolding cold_text fault_text skip_text value_text word_text
  cold_form = simp append_assoc

  cold_back : SkipFits skip → read_cold (at (cold_text link skip ++ t)) ≡ got (record { link = link; skip = skip }) (at t)
  unfolding read_cold after after_byte run in_word
  cold_back f = rw cold_form (simp (fault_back, skip_back))

  cold_says : says (word_text Word.carried) (after (ascii "(") (at (cold_text link skip ++ t))) ≡ false
  unfolding after after_byte word_text same_text run in_word
  cold_says = rw cold_form (says_back (ascii "cold") (ascii " " ++ (fault_text link ++ (ascii " " ++ (skip_text skip ++ (ascii ")" ++ t))))) refl refl (ascii "carried"))

  cold_outcome : SkipFits skip → read_outcome (at (cold_text link skip ++ t)) ≡ got (CarryOutcome.Cold link skip) (at t)
  unfolding read_outcome map
  cold_outcome f = rw (cold_says, cold_back f)

  cold_readiness : SkipFits skip → read_readiness (at (cold_text link skip ++ t)) ≡ got (HeadReadiness.Cold (HeadCold.Settled link skip)) (at t)
  unfolding read_readiness word_text map
  cold_readiness f = rw (cold_back f) (rw cold_form (open_miss _ _ _ _ _ ∙ open_miss _ _ _ _ _ ∙ open_miss _ _ _ _ _ ∙ open_miss _ _ _ _ _ ∙ open_miss _ _ _ _ _))

  -- of a generation, which has no other words than `ready`
  pub cold_kept : SkipFits skip
      → or_word (word_text Word.ready) HeadReadiness.Ready (at (cold_text link skip ++ t))
      (map S.cold_readiness (read_cold (at (cold_text link skip ++ t))))
      ≡ got (HeadReadiness.Cold (HeadCold.Settled link skip)) (at t)
  unfolding word_text map
  cold_kept f = rw (cold_back f) (rw cold_form (open_miss _ _ _ _ _))

-- ---- outcomes and reports

module _ (n : ℕ) (t : List ℕ) where
  pub carried_form : outcome_text (CarryOutcome.Carried n) ++ t ≡ ascii "(carried" ++ (spaced_text n ++ (ascii ")" ++ t))
  unfolding outcome_text outcome_value value_text word_text spaced_text
  carried_form = simp append_assoc

  carried_back : Fits n → read_outcome (at (outcome_text (CarryOutcome.Carried n) ++ t)) ≡ got (CarryOutcome.Carried n) (at t)
  unfolding read_outcome word_text same_text then map after after_byte run in_word
  carried_back f = rw carried_form (simp (says_back (ascii "carried") (spaced_text n ++ (ascii ")" ++ t)) refl (spaced_run n (ascii ")" ++ t)), past_back (ascii "carried") (spaced_text n ++ (ascii ")" ++ t)) refl (spaced_run n (ascii ")" ++ t)), spaced_back))

pub outcome_back : (o : CarryOutcome) (t : List ℕ) → OutcomeFits o → read_outcome (at (outcome_text o ++ t)) ≡ got o (at t)
unfolding outcome_text outcome_value cold_text
outcome_back (CarryOutcome.Carried n) t f = carried_back n t f
outcome_back (CarryOutcome.Cold link skip) t f = cold_outcome link skip t f

module _ (o : CarryOutcome) (n : ℕ) (t : List ℕ) where
  pub made_form : report_text (Some (report_of o n)) ++ t ≡ ascii "(" ++ (outcome_text o ++ (spaced_text n ++ (ascii ")" ++ t)))
  unfolding report_text report_value outcome_text value_text spaced_text
  made_form = simp append_assoc

  made_back : OutcomeFits o → Fits n → read_report (at (report_text (Some (report_of o n)) ++ t)) ≡ got (Some (report_of o n)) (at t)
  unfolding read_report read_made word_text after after_byte run in_word
  made_back f g = rw made_form (open_miss _ _ _ _ _ ∙ simp (outcome_back, spaced_back, f))

pub report_back : (report : Option DeltaReport) (t : List ℕ) → ReportFits report → run t ≡ 0 → read_report (at (report_text report ++ t)) ≡ got report (at t)
unfolding read_report report_text report_value value_text word_text run in_word
report_back None t f z = word_hit _ _ t z (ascii "none") refl
report_back (Some r) t f z = made_back r.outcome r.number t f.0 f.1

-- ---- readiness

pub readiness_back : (r : HeadReadiness) (t : List ℕ) → ReadinessFits r → run t ≡ 0 → read_readiness (at (readiness_text r ++ t)) ≡ got r (at t)
unfolding read_readiness readiness_text readiness_value cold_text value_text word_text same_text run in_word
readiness_back HeadReadiness.Ready t f z = word_hit _ _ t z (ascii "ready") refl
readiness_back (HeadReadiness.Cold HeadCold.Unprepared) t f z = word_miss _ _ t z (ascii "ready") (ascii "unprepared") refl refl ∙ word_hit _ _ t z (ascii "unprepared") refl
readiness_back (HeadReadiness.Cold HeadCold.Superseded) t f z = word_miss _ _ t z (ascii "ready") (ascii "superseded") refl refl ∙ word_miss _ _ t z (ascii "unprepared") (ascii "superseded") refl refl ∙ word_hit _ _ t z (ascii "superseded") refl
readiness_back (HeadReadiness.Cold HeadCold.Undelivered) t f z = word_miss _ _ t z (ascii "ready") (ascii "undelivered") refl refl ∙ word_miss _ _ t z (ascii "unprepared") (ascii "undelivered") refl refl ∙ word_miss _ _ t z (ascii "superseded") (ascii "undelivered") refl refl ∙ word_hit _ _ t z (ascii "undelivered") refl
readiness_back (HeadReadiness.Cold HeadCold.Abandoned) t f z = word_miss _ _ t z (ascii "ready") (ascii "abandoned") refl refl ∙ word_miss _ _ t z (ascii "unprepared") (ascii "abandoned") refl refl ∙ word_miss _ _ t z (ascii "superseded") (ascii "abandoned") refl refl ∙ word_miss _ _ t z (ascii "undelivered") (ascii "abandoned") refl refl ∙ word_hit _ _ t z (ascii "abandoned") refl
readiness_back (HeadReadiness.Cold (HeadCold.Settled link skip)) t f z = cold_readiness link skip t f
