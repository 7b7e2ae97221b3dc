-- The invariant holds of a new driver and is kept by every call that a line can write, so by every list of them.
use mathlib.Core.List.{List, [], ◌∷◌}
use mathlib.Core.Path.{refl, ap}
use lib.Dec.{lit<}
use Rattle.head_count.specs.Counters.{none_counted}
use Rattle.head_current.specs.Heads.{delivery, current_report}
use Rattle.head_life.specs.State.{no_head}
use Rattle.head_driver.specs.New.{new}
use Rattle.head_step.specs.Steps.{step}
use Rattle.head_driver.specs.declared.Driver.{Driver}
use Rattle.head_call.specs.declared.Call.{Call}
use Rattle.alike.proofs.KeptOrder.{ordered_step}
use Rattle.alike.proofs.KeptParks.{parks_step}
use Rattle.alike.proofs.KeptRanges.{fits_step}
use Rattle.alike.proofs.Waking.{free_fits, free_none}
use Rattle.alike.specs.Invariant.{Invariant}
use Rattle.alike.specs.Runs.{AllWritable, after}
use Rattle.alike.specs.Statements.{HoldsOfNew, Kept, SeqIsDelivered}

pub holds_of_new : HoldsOfNew
unfolding new no_head none_counted delivery current_report
holds_of_new = record {
  ordered = record {
    seq_delivered = refl;
    seq_current = tt;
    preparing_attempt = tt;
    settled_end = tt;
    settled_installed = tt;
    unsettled_elsewhere = tt;
    unclaimed_end = tt;
    absent_rest = (refl, refl, refl);
    previous_below = tt;
    installed_readiness = tt;
    previous_readiness = tt;
    report_readiness = tt;
    report_installed = tt;
    preparing_epoch = tt;
    abandoned_epoch = tt;
    installed_number = tt;
    previous_number = tt;
  };
  parks = free_none 16;
  fits = record {
    life = record {
      current = tt;
      superseded = tt;
      installed = tt;
      previous = tt;
      seq = lit< tt;
      epoch = lit< tt;
      stats = (lit< tt, lit< tt, lit< tt, lit< tt, lit< tt, lit< tt, lit< tt, lit< tt);
    };
    waiters = free_fits 16;
    sixteen = refl;
  };
}

pub kept : Kept
kept d c v r = record { ordered = ordered_step d c v.ordered; parks = parks_step d c v.parks; fits = fits_step d c r v.fits }

pub seq_is_delivered : SeqIsDelivered
seq_is_delivered d v = ap (λ n. n.0) v.ordered.seq_delivered

pub kept_after : (d : Driver) → Invariant d → (cs : List Call) → AllWritable cs → Invariant (after d cs)
unfolding after
kept_after d v [] r = v
kept_after d v (c ∷ cs) r = kept_after (step d c).driver (kept d c v r.0) cs r.1
