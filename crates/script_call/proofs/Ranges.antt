-- Whatever the line, each number of its call, and each word of its hashes, is below 2^64.
use Prim.Native.Nat.{ℕ}
use mathlib.Core.Bool.{Bool}
use mathlib.Core.List.{List}
use lib.ListN.{length}
use lib.Dec.{eqb, ltb}
use Rattle.std.specs.Prelude.{Option, cond}
use Rattle.head_call.specs.declared.Call.{Call}
use Rattle.text.specs.Ascii.{ascii}
use Rattle.text.specs.Same.{same_text}
use Rattle.text.specs.Rests.{Rest, at, after, word_here, past_word}
use Rattle.value_text.proofs.Ranges.{chosen, spaced_number_range}
use Rattle.script_call.proofs.ValuesRanges.{spaced_hash_range, spaced_anchor_range, spaced_slot_range, spaced_skip_range}
use Rattle.script_call.specs.Calls.{ends, closed, spaced_ticket, spaced_list, deliver_call, claim_call, release_call, apply_call, snapshot_call, wait_call, resume_call, completion_call, link_call, report_call, stats_call, heads_call, sheet_call, call_named, later_named, call_here, call}
use Rattle.head_call.specs.Ranges.{Writable}
use Rattle.script_call.specs.Ranges.{LineWritable}
use Rattle.script_call.specs.declared.LineCall.{LineCall}

either : (b : Bool) (x y : Option LineCall) → LineWritable x → LineWritable y → LineWritable (cond b x y)
either = chosen LineWritable

closed_range : (r : Rest) (c : Call) → Writable c → LineWritable (closed r c)
unfolding closed
closed_range r c f = either (ends r) _ _ f tt

later_range : (w : List ℕ) (r : Rest) → LineWritable (later_named w r)
unfolding later_named completion_call link_call report_call stats_call heads_call sheet_call
later_range w r =
    either (same_text w (ascii "completion")) _ _ (closed_range _ _ (spaced_anchor_range _))
    (either (same_text w (ascii "link")) _ _ (closed_range _ _ (spaced_slot_range _, spaced_anchor_range _, spaced_hash_range _))
    (either (same_text w (ascii "report")) _ _ (closed_range _ Call.Report tt)
    (either (same_text w (ascii "stats")) _ _ (closed_range _ Call.Stats tt)
    (either (same_text w (ascii "heads")) _ _ (closed_range _ Call.Heads tt)
    (either (same_text w (ascii "sheet")) _ _ (either (ends r) _ _ tt tt)
    tt)))))

named_range : (w : List ℕ) (r : Rest) → LineWritable (call_named w r)
unfolding call_named spaced_ticket spaced_list deliver_call claim_call release_call apply_call snapshot_call wait_call resume_call
named_range w r =
    either (same_text w (ascii "deliver")) _ _ (closed_range _ _ (spaced_anchor_range _, spaced_hash_range _, spaced_number_range _))
    (either (same_text w (ascii "claim")) _ _ (closed_range _ _ (spaced_anchor_range _, spaced_number_range _))
    (either (same_text w (ascii "release")) _ _ (closed_range _ _ (spaced_number_range _, spaced_number_range _))
    (either (same_text w (ascii "apply")) _ _ (closed_range _ _ (spaced_anchor_range _, spaced_number_range _, spaced_anchor_range _, spaced_skip_range _, spaced_number_range _, spaced_number_range _, spaced_number_range _))
    (either (same_text w (ascii "snapshot")) _ _ (closed_range _ _ (spaced_anchor_range _, spaced_number_range _))
    (either (same_text w (ascii "wait")) _ _ (closed_range _ _ (spaced_number_range _, spaced_anchor_range _, spaced_number_range _))
    (either (same_text w (ascii "resume")) _ _ (closed_range _ _ (spaced_number_range _, spaced_number_range _))
    (later_range w r)))))))

pub call_range : (l : List ℕ) → LineWritable (call l)
unfolding call call_here
call_range l =
    let r = after (ascii "(") (at l) in
    either (eqb (length l) 0) _ _ tt (either (ltb 512 (length l)) _ _ tt (named_range (word_here r) (past_word r)))
