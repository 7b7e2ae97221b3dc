-- What is read of a sheet holds just what a sheet shows, whatever the text.
use Prim.Native.Nat.{ℕ, suc, zero}
use mathlib.Core.List.{List}
use mathlib.Core.Path.{◌≡◌, refl, ap}
use lib.Dec.{lit<}
use lib.ListN.{length}
use Rattle.std.specs.Prelude.{Option}
use Rattle.hash.specs.Ranges.{Fits}
use Rattle.head_values.specs.Ranges.{OutcomeFits, SkipFits, SlotFits}
use Rattle.head_values.specs.declared.CarryOutcome.{CarryOutcome}
use Rattle.head_attempt.specs.Attempts.{minted, settled}
use Rattle.head_attempt.specs.declared.HeadCompletion.{HeadCompletion}
use Rattle.head_attempt.specs.declared.Waiter.{Waiter}
use Rattle.head_count.specs.Ranges.{StatsFit}
use Rattle.head_count.specs.declared.Epoch.{Epoch}
use Rattle.head_ready.specs.Ranges.{GenerationSlotFits, ReadinessFits}
use Rattle.head_ready.specs.declared.Generation.{Generation}
use Rattle.head_ready.specs.declared.HeadReadiness.{HeadReadiness}
use Rattle.head_current.specs.Ranges.{DeliveryFits, HeadFits, ReportFits}
use Rattle.head_current.specs.declared.CurrentHead.{CurrentHead}
use Rattle.head_current.specs.declared.DeltaReport.{DeltaReport}
use Rattle.alike.specs.Canon.{shown_head}
use Rattle.alike.specs.Invariant.{OpenOrAbandoned, WhenGeneration, WhenUnclaimed}
use Rattle.alike.specs.Ranges.{WaiterFits, WaitersFit}
use Rattle.text.specs.Ascii.{ascii}
use Rattle.text.specs.Rests.{Rest, Took, after, says, word_here}
use Rattle.text.specs.Same.{same_text}
use Rattle.value_text.proofs.Ranges.{anchor_range, chosen, hash_range, skip_range, slot_range, spaced_number_range}
use Rattle.value_text.specs.Reads.{map, or_word, then}
use Rattle.value_text.specs.Words.{word_text}
use Rattle.value_text.specs.declared.page.Page.{Page}
use Rattle.sheet_read.specs.Heads.{head_named, read_count, read_current, read_delivery, read_generation, read_held, read_installed, read_kept_readiness, read_preparing, read_previous, read_settled, read_superseded, read_unclaimed, read_unclaimed_end}
use Rattle.sheet_read.specs.Values.{read_cold, read_made, read_outcome, read_report, read_stats}
use Rattle.sheet_read.specs.Waiters.{names, read_waiter, read_waiter_at, read_waiters, waiter_named}
use Rattle.sheet_rules.specs.Form.{KeptReadiness}

-- ---- counters

stats_range : (r : Rest) → StatsFit (read_stats r).value
unfolding read_stats
stats_range r = (
  spaced_number_range _,
  spaced_number_range _,
  spaced_number_range _,
  spaced_number_range _,
  spaced_number_range _,
  spaced_number_range _,
  spaced_number_range _,
  spaced_number_range _,
)

pub count_range : (r : Rest) → StatsFit (read_count r).value.stats × Fits (read_count r).value.epoch.0
unfolding read_count
count_range r = (stats_range _, spaced_number_range _)

-- ---- outcomes and reports

cold_range : (r : Rest) → SkipFits (read_cold r).value.skip
unfolding read_cold
cold_range r = skip_range _

outcome_range : (r : Rest) → OutcomeFits (read_outcome r).value
unfolding read_outcome map then word_text
outcome_range r =
    chosen (λ (k : Took CarryOutcome). OutcomeFits k.value) (says (ascii "carried") (after (ascii "(") r))
    _ _ (spaced_number_range _) (cold_range r)

made_range : (r : Rest) → ReportFits (read_made r).value
unfolding read_made
made_range r = (outcome_range _, spaced_number_range _)

report_range : (r : Rest) → ReportFits (read_report r).value
unfolding read_report or_word word_text
report_range r = chosen (λ (k : Took (Option DeltaReport)). ReportFits k.value) (says (ascii "none") r) _ _ tt (made_range r)

-- ---- the current head, under a delivered count and an epoch that fit

-- it is the head that a sheet shows, and an unclaimed one is open or abandoned
pub record Shows (n : ℕ) (e : Epoch) (c : CurrentHead) : Type 0 where
  pub fits : HeadFits c
  pub shown : shown_head n e c ≡ c
  pub end : WhenUnclaimed c (λ u. OpenOrAbandoned u.attempt.end)

end_kept : (r : Rest) → OpenOrAbandoned (read_unclaimed_end r).value
unfolding read_unclaimed_end or_word
end_kept r =
    let P : Took HeadCompletion → Type 0 = λ k. OpenOrAbandoned k.value in
    chosen P (says (ascii "open") r) _ _ tt (chosen P (says (ascii "abandoned") r) _ _ tt tt)

module _ (n : ℕ) (e : Epoch) (f : Fits n) (g : Fits e.0) where
  delivery_range : (r : Rest) → DeliveryFits (read_delivery n r).value
  unfolding read_delivery
  delivery_range r = record { anchor = anchor_range Page.Sheet _; parent_hash = hash_range Page.Sheet _; seq = f }

  unclaimed_shows : (r : Rest) → Shows n e (read_unclaimed n r).value
  unfolding read_unclaimed shown_head read_delivery
  unclaimed_shows r = record {
    fits = record { delivery = delivery_range _; provisional = spaced_number_range _; epoch = lit< tt };
    shown = refl;
    end = end_kept _;
  }

  preparing_shows : (r : Rest) → Shows n e (read_preparing n e r).value
  unfolding read_preparing shown_head read_delivery minted
  preparing_shows r = record {
    fits = record { delivery = delivery_range _; provisional = spaced_number_range _; epoch = g };
    shown = refl;
    end = tt;
  }

  settled_shows : (r : Rest) → Shows n e (read_settled n r).value
  unfolding read_settled shown_head read_delivery settled
  settled_shows r = record {
    fits = record { delivery = delivery_range _; report = report_range _; epoch = lit< tt };
    shown = refl;
    end = tt;
  }

  absent_shows : Shows n e CurrentHead.Absent
  unfolding shown_head
  absent_shows = record { fits = tt; shown = refl; end = tt }

  pub current_shows : (r : Rest) → Shows n e (read_current n e r).value
  unfolding read_current then head_named
  current_shows r =
      let s = after (ascii "(current ") r in
      let w = word_here s in
      let P : Took CurrentHead → Type 0 = λ k. Shows n e k.value in
      chosen P (same_text w (ascii "none")) _ _ absent_shows
      (chosen P (same_text w (ascii "unclaimed")) _ _ (unclaimed_shows _)
      (chosen P (same_text w (ascii "preparing")) _ _ (preparing_shows _)
      (chosen P (same_text w (ascii "settled")) _ _ (settled_shows _) absent_shows)))

-- ---- superseded, installed and previous

pub superseded_shape : (r : Rest) → SlotFits (read_superseded r).value
unfolding read_superseded then
superseded_shape r = slot_range Page.Sheet _

-- it fits, and is ready or cold with a link and a skip
abbrev pub ShowsSlot : Option Generation → Type 0
ShowsSlot slot = GenerationSlotFits slot × WhenGeneration slot (λ g. KeptReadiness g.readiness)

kept_shape : (r : Rest) → ReadinessFits (read_kept_readiness r).value × KeptReadiness (read_kept_readiness r).value
unfolding read_kept_readiness or_word map word_text
kept_shape r = chosen (λ (k : Took HeadReadiness). ReadinessFits k.value × KeptReadiness k.value) (says (ascii "ready") r) _ _ (
  tt,
  tt,
) (cold_range r, tt)

held_shape : (r : Rest) → ShowsSlot (read_held r).value
unfolding read_held
held_shape r =
    let k = kept_shape _ in
    (record { anchor = anchor_range Page.Sheet _; handle = spaced_number_range _; seq = spaced_number_range _; readiness = k.0 }, k.1)

generation_shape : (r : Rest) → ShowsSlot (read_generation r).value
unfolding read_generation or_word word_text
generation_shape r = chosen (λ (k : Took (Option Generation)). ShowsSlot k.value) (says (ascii "none") r) _ _ (tt, tt) (held_shape r)

pub installed_shape : (r : Rest) → ShowsSlot (read_installed r).value
unfolding read_installed then
installed_shape r = generation_shape _

pub previous_shape : (r : Rest) → ShowsSlot (read_previous r).value
unfolding read_previous then
previous_shape r = generation_shape _

-- ---- waiters

named_shape : (w : List ℕ) (r : Rest) → WaiterFits (waiter_named w r).value
unfolding waiter_named map
named_shape w r =
    let P : Took Waiter → Type 0 = λ k. WaiterFits k.value in
    chosen P (same_text w (ascii "parked")) _ _ tt
    (chosen P (same_text w (ascii "abandoned")) _ _ (anchor_range Page.Sheet _)
    (chosen P (same_text w (ascii "ended")) _ _ (anchor_range Page.Sheet _) tt))

at_shape : (n : ℕ) (r : Rest) (k : Took ℕ) → WaiterFits (read_waiter_at n r k).value
unfolding read_waiter_at read_waiter then
at_shape n r k = chosen (λ (w : Took Waiter). WaiterFits w.value) (names n k) _ _ (named_shape _ _) tt

pub waiters_shape : (k n : ℕ) (r : Rest) → WaitersFit (read_waiters k n r).value × (length (read_waiters k n r).value ≡ k)
unfolding read_waiters
waiters_shape zero n r = (tt, refl)
waiters_shape (suc k) n r =
    let ws = waiters_shape k (suc n) _ in
    ((at_shape n r _, ws.0), ap suc ws.1)
