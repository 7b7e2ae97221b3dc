-- Every call keeps I7: a waiter is parked only while the head is preparing.
use Prim.Native.Nat.{ℕ}
use mathlib.Core.Bool.{true}
use mathlib.Core.List.{List}
use mathlib.Core.Path.{◌≡◌, refl}
use lib.ListN.{set}
use Rattle.head_attempt.specs.Waiters.{slot_of}
use Rattle.head_current.specs.Heads.{preparing_at}
use Rattle.head_waits.specs.Parts.{put}
use Rattle.head_current.specs.Moves.{claimed_head}
use Rattle.head_driver.specs.Moved.{moved}
use Rattle.head_driver.specs.Parts.{with_life}
use Rattle.head_life.specs.Apply.{record_settle}
use Rattle.head_life.specs.State.{counted}
use Rattle.head_step.specs.Steps.{step}
use Rattle.head_values.specs.declared.ReadAnchor.{ReadAnchor}
use Rattle.head_attempt.specs.declared.HeadCompletion.{HeadCompletion}
use Rattle.head_attempt.specs.declared.Waiter.{Waiter}
use Rattle.head_attempt.specs.declared.WaiterSlot.{WaiterSlot}
use Rattle.head_current.specs.declared.CurrentHead.{CurrentHead}
use Rattle.head_driver.specs.declared.Driver.{Driver}
use Rattle.head_life.specs.declared.HeadLifecycle.{HeadLifecycle}
use Rattle.head_call.specs.declared.Call.{Call}
use Rattle.alike.proofs.Moves.{Move, step_move}
use Rattle.alike.proofs.Tests.{true_false}
use Rattle.alike.proofs.Waking.{Ends, set_none, woken_parks}
use Rattle.alike.specs.Invariant.{NotParked, Parks}
use Rattle.alike.proofs.Nexts.{delivered_at, released_at}

set_parks : (c : CurrentHead) (ws : List WaiterSlot) (n : ℕ) (w : Waiter) → NotParked w → Parks c ws → Parks c (set ws n (slot_of w))
set_parks CurrentHead.Absent ws n w f g = set_none ws n w f g
set_parks (CurrentHead.Unclaimed u) ws n w f g = set_none ws n w f g
set_parks (CurrentHead.Preparing u) ws n w f g = tt
set_parks (CurrentHead.Settled s) ws n w f g = set_none ws n w f g

preparing_parks : (c : CurrentHead) (a : ReadAnchor) (ws : List WaiterSlot) → preparing_at c a ≡ true → Parks c ws
unfolding preparing_at
preparing_parks CurrentHead.Absent a ws e = true_false e refl
preparing_parks (CurrentHead.Unclaimed u) a ws e = true_false e refl
preparing_parks (CurrentHead.Preparing u) a ws e = tt
preparing_parks (CurrentHead.Settled s) a ws e = true_false e refl

moved_parks : (d : Driver) (l : HeadLifecycle) (t : HeadCompletion) → Ends t → Parks d.life.current d.waiters → Parks l.current (moved d l t).waiters
unfolding moved
moved_parks d l t h k = woken_parks t d.life.current l.current d.waiters h k

parks_move : {d e : Driver} {c : Call} → Move d c e → Parks d.life.current d.waiters → Parks e.life.current e.waiters
unfolding with_life counted put claimed_head moved
parks_move Move.none k = k
parks_move (Move.counts j e) k = k
parks_move (Move.frees {e = e} n m) k = set_parks e.life.current e.waiters n Waiter.Free tt (parks_move m k)
parks_move {d} (Move.parks n a e) k = preparing_parks d.life.current a (set d.waiters n (slot_of Waiter.Parked)) e
parks_move {d} (Move.delivers a p cold) k = moved_parks d (delivered_at _ d.life a p cold) HeadCompletion.Superseded tt k
parks_move (Move.claims u q) k = rw q tt
parks_move {d} (Move.releases u q) k = moved_parks d (released_at d.life u) HeadCompletion.Abandoned tt k
parks_move {d} (Move.settles ticket list handle carried report held q e) k = moved_parks d (record_settle d.life _ _ handle report) HeadCompletion.Settled tt k

pub parks_step : (d : Driver) (c : Call) → Parks d.life.current d.waiters → Parks (step d c).driver.life.current (step d c).driver.waiters
parks_step d c k = parks_move (step_move d c) k
