-- What the calls leave, named: each is the part of a call's definition that one outcome of its tests picks.
use Rattle.std.specs.Prelude.{Bool, ℕ, Option, Result}
use mathlib.Core.Bool.{true}
use mathlib.Core.Path.{◌≡◌, refl}
use Rattle.std.specs.Option.{option_or}
use Rattle.hash.specs.declared.Hash.{Hash}
use Rattle.head_values.specs.declared.ReadAnchor.{ReadAnchor}
use Rattle.head_count.specs.Counters.{next_epoch, next_seq, raise, raise_if}
use Rattle.head_count.specs.declared.Counter.{Counter}
use Rattle.head_count.specs.declared.Epoch.{Epoch}
use Rattle.head_count.specs.declared.HeadStats.{HeadStats}
use Rattle.head_count.specs.declared.Seq.{Seq}
use Rattle.head_attempt.specs.Attempts.{publish}
use Rattle.head_attempt.specs.declared.HeadCompletion.{HeadCompletion}
use Rattle.head_ready.specs.declared.HeadOutcome.{HeadOutcome}
use Rattle.head_current.specs.Heads.{anchor_of, delivery, is_unsettled}
use Rattle.head_current.specs.Moves.{claimed_head, owned_by, released_head}
use Rattle.head_current.specs.Parts.{delivery_of, with_attempt}
use Rattle.head_current.specs.declared.CurrentHead.{CurrentHead}
use Rattle.head_current.specs.declared.PrepareClaim.{PrepareClaim}
use Rattle.head_current.specs.declared.UnsettledHead.{UnsettledHead}
use Rattle.head_life.specs.Deliver.{new_head}
use Rattle.head_life.specs.declared.HeadLifecycle.{HeadLifecycle}
use Rattle.head_driver.specs.Moved.{moved}
use Rattle.head_driver.specs.Parts.{reply_of, with_life}
use Rattle.head_driver.specs.declared.Answer.{Answer}
use Rattle.head_driver.specs.declared.Driver.{Driver}
use Rattle.head_driver.specs.declared.Reply.{Reply}
use Rattle.head_calls.specs.Claim.{claim_answer}
use Rattle.alike.proofs.Tests.{by_test}

-- deliver: the reply, by what becomes of the lifecycle; the counters, and the lifecycle after a delivery that repeats none

abbrev pub deliver_reply : Driver → HeadLifecycle × Seq → Reply
deliver_reply d r = reply_of (moved d r.0 HeadCompletion.Superseded) (Answer.Ticket r.1)

abbrev pub count_delivery : Bool → Bool → HeadStats → HeadStats
count_delivery installed unsettled s = raise_if installed Counter.AlreadyCurrent (raise Counter.Delivered (raise_if unsettled Counter.Superseded s))

abbrev pub replaced : Option ReadAnchor → Option ReadAnchor → Option ReadAnchor
replaced current superseded = option_or current superseded

abbrev pub delivered_at : Bool → HeadLifecycle → ReadAnchor → Hash → ℕ → HeadLifecycle
delivered_at installed l a p cold = record {
  current = new_head installed (delivery_of a p (next_seq l.seq)) cold;
  superseded = replaced (anchor_of (delivery l.current)) l.superseded;
  installed = l.installed;
  previous = l.previous;
  seq = next_seq l.seq;
  claim_epoch = l.claim_epoch;
  stats = count_delivery installed (is_unsettled l.current) l.stats;
}

-- claim

abbrev pub claim_reply : Driver → HeadLifecycle × Result Epoch HeadOutcome → Reply
claim_reply d r = reply_of (with_life d r.0) (claim_answer r.1)

abbrev pub claimed_at : HeadLifecycle → HeadLifecycle
claimed_at l = record {
  current = claimed_head l.current (next_epoch l.claim_epoch);
  superseded = l.superseded;
  installed = l.installed;
  previous = l.previous;
  seq = l.seq;
  claim_epoch = next_epoch l.claim_epoch;
  stats = l.stats;
}

-- release of a preparation

abbrev pub abandoned_head : UnsettledHead → CurrentHead
abandoned_head u = CurrentHead.Unclaimed (with_attempt u (publish u.attempt HeadCompletion.Abandoned))

abbrev pub released_at : HeadLifecycle → UnsettledHead → HeadLifecycle
released_at l u = record {
  current = abandoned_head u;
  superseded = l.superseded;
  installed = l.installed;
  previous = l.previous;
  seq = l.seq;
  claim_epoch = l.claim_epoch;
  stats = l.stats;
}

-- a release leaves the head as it is, or gives up the preparation that it owns
pub data Released (head : CurrentHead) (owner : PrepareClaim) : Type 0 where
  kept : released_head head owner ≡ head → Released head owner
  given_up : (u : UnsettledHead) → head ≡ CurrentHead.Preparing u → owned_by u owner ≡ true → released_head head owner ≡ abandoned_head u → Released head owner

pub released_either : (head : CurrentHead) (owner : PrepareClaim) → Released head owner
unfolding released_head
released_either CurrentHead.Absent owner = kept refl
released_either (CurrentHead.Unclaimed u) owner = kept refl
released_either (CurrentHead.Preparing u) owner = by_test (owned_by u owner) (λ e. given_up u refl e (rw e refl)) (λ e. kept (rw e refl))
released_either (CurrentHead.Settled s) owner = kept refl
