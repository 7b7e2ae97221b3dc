-- No call has more than 301 bytes, and so no line of a call is too long.
use Prim.Native.Nat.{◌≤◌}
use native.Mathlib.Omega.{arith}
use lib.ListN.{length, length-append}
use Rattle.head_call.specs.declared.Call.{Call}
use Rattle.text.proofs.Back.{length-decimal}
use Rattle.hash_text.proofs.Back.{length_hash}
use Rattle.value_text.proofs.Lengths.{anchor_most, slot_most, skip_most}
use Rattle.script_call.specs.Texts.{call_text}

pub length-call : (c : Call) → length (call_text c) ≤ 301
unfolding call_text
length-call (Call.Deliver a p h) = simp length-append (omega (arith, anchor_most a, length_hash p, length-decimal h))
length-call (Call.Claim ticket) = simp length-append (omega (arith, anchor_most ticket.anchor, length-decimal ticket.seq.0))
length-call (Call.Release owner) = simp length-append (omega (arith, length-decimal owner.seq.0, length-decimal owner.epoch.0))
length-call (Call.Apply ticket list h c report) = simp length-append (omega (arith, anchor_most ticket.anchor, length-decimal ticket.seq.0, anchor_most list.anchor, skip_most list.skip, length-decimal h, length-decimal c, length-decimal report))
length-call (Call.Snapshot a h) = simp length-append (omega (arith, anchor_most a, length-decimal h))
length-call (Call.Wait n a h) = simp length-append (omega (arith, length-decimal n, anchor_most a, length-decimal h))
length-call (Call.Resume n h) = simp length-append (omega (arith, length-decimal n, length-decimal h))
length-call (Call.Completion a) = simp length-append (omega (arith, anchor_most a))
length-call (Call.Link parent a p) = simp length-append (omega (arith, slot_most parent, anchor_most a, length_hash p))
length-call Call.Report = omega arith
length-call Call.Stats = omega arith
length-call Call.Heads = omega arith
