-- Document 01, "Lines": the calls, in its order. Each is one pair of brackets around a keyword and its values, with single spaces between them, and ends the line.
use Rattle.std.specs.Prelude.{ℕ, Bool, List, length, eqb, ltb, Option, Some, None, cond}
use Rattle.head_values.specs.declared.PreparedBal.{PreparedBal}
use Rattle.head_current.specs.declared.HeadTicket.{HeadTicket}
use Rattle.head_call.specs.declared.Call.{Call}
use Rattle.text.specs.Ascii.{ascii}
use Rattle.text.specs.Same.{same_text}
use Rattle.text.specs.Rests.{Rest, at, Took, after, word_here, past_word, at_end}
use Rattle.value_text.specs.Reads.{spaced_number}
use Rattle.script_call.specs.Values.{spaced_hash, spaced_anchor, spaced_slot, spaced_skip}
use Rattle.script_call.specs.declared.LineCall.{LineCall}

-- `)` is all that is left of the line
unfoldable pub ends : Rest → Bool
ends r = at_end (after (ascii ")") r)

-- the call, where the line ends with it
unfoldable pub closed : Rest → Call → Option LineCall
closed r c = cond (ends r) (Some (LineCall.Make c)) None

-- ` A SEQ`
unfoldable pub spaced_ticket : Rest → Took HeadTicket
spaced_ticket r =
    let a = spaced_anchor r in
    let n = spaced_number a.next in
    record { value = record { anchor = a.value; seq = record { 0 = n.value } }; next = n.next }

-- ` A X`
unfoldable pub spaced_list : Rest → Took PreparedBal
spaced_list r =
    let a = spaced_anchor r in
    let x = spaced_skip a.next in
    record { value = record { anchor = a.value; skip = x.value }; next = x.next }

-- ---- each call, after its keyword

-- `(deliver A P H)`
unfoldable pub deliver_call : Rest → Option LineCall
deliver_call r =
    let a = spaced_anchor r in
    let p = spaced_hash a.next in
    let h = spaced_number p.next in
    closed h.next (Call.Deliver a.value p.value h.value)

-- `(claim A SEQ)`
unfoldable pub claim_call : Rest → Option LineCall
claim_call r =
    let ticket = spaced_ticket r in
    closed ticket.next (Call.Claim ticket.value)

-- `(release SEQ EPOCH)`
unfoldable pub release_call : Rest → Option LineCall
release_call r =
    let n = spaced_number r in
    let e = spaced_number n.next in
    closed e.next (Call.Release (record { seq = record { 0 = n.value }; epoch = record { 0 = e.value } }))

-- `(apply A SEQ A X H C REPORT)`, its second A the list's
unfoldable pub apply_call : Rest → Option LineCall
apply_call r =
    let ticket = spaced_ticket r in
    let list = spaced_list ticket.next in
    let h = spaced_number list.next in
    let c = spaced_number h.next in
    let report = spaced_number c.next in
    closed report.next (Call.Apply ticket.value list.value h.value c.value report.value)

-- `(snapshot A H)`
unfoldable pub snapshot_call : Rest → Option LineCall
snapshot_call r =
    let a = spaced_anchor r in
    let h = spaced_number a.next in
    closed h.next (Call.Snapshot a.value h.value)

-- `(wait N A H)`
unfoldable pub wait_call : Rest → Option LineCall
wait_call r =
    let n = spaced_number r in
    let a = spaced_anchor n.next in
    let h = spaced_number a.next in
    closed h.next (Call.Wait n.value a.value h.value)

-- `(resume N H)`
unfoldable pub resume_call : Rest → Option LineCall
resume_call r =
    let n = spaced_number r in
    let h = spaced_number n.next in
    closed h.next (Call.Resume n.value h.value)

-- `(completion A)`
unfoldable pub completion_call : Rest → Option LineCall
completion_call r =
    let a = spaced_anchor r in
    closed a.next (Call.Completion a.value)

-- `(link A A P)` or `(link none A P)`
unfoldable pub link_call : Rest → Option LineCall
link_call r =
    let parent = spaced_slot r in
    let a = spaced_anchor parent.next in
    let p = spaced_hash a.next in
    closed p.next (Call.Link parent.value a.value p.value)

-- `(report)`
unfoldable pub report_call : Rest → Option LineCall
report_call r = closed r Call.Report

-- `(stats)`
unfoldable pub stats_call : Rest → Option LineCall
stats_call r = closed r Call.Stats

-- `(heads)`
unfoldable pub heads_call : Rest → Option LineCall
heads_call r = closed r Call.Heads

-- `(sheet)`
unfoldable pub sheet_call : Rest → Option LineCall
sheet_call r = cond (ends r) (Some LineCall.Sheet) None

-- ---- the call that a word names, with the rest after the word

-- the last six
unfoldable pub later_named : List ℕ → Rest → Option LineCall
later_named w r =
    cond (same_text w (ascii "completion")) (completion_call r)
    (cond (same_text w (ascii "link")) (link_call r)
    (cond (same_text w (ascii "report")) (report_call r)
    (cond (same_text w (ascii "stats")) (stats_call r)
    (cond (same_text w (ascii "heads")) (heads_call r)
    (cond (same_text w (ascii "sheet")) (sheet_call r)
    None)))))

-- the first seven, and then those
unfoldable pub call_named : List ℕ → Rest → Option LineCall
call_named w r =
    cond (same_text w (ascii "deliver")) (deliver_call r)
    (cond (same_text w (ascii "claim")) (claim_call r)
    (cond (same_text w (ascii "release")) (release_call r)
    (cond (same_text w (ascii "apply")) (apply_call r)
    (cond (same_text w (ascii "snapshot")) (snapshot_call r)
    (cond (same_text w (ascii "wait")) (wait_call r)
    (cond (same_text w (ascii "resume")) (resume_call r)
    (later_named w r)))))))

-- ---- lines

-- the call after the outermost bracket
unfoldable pub call_here : Rest → Option LineCall
call_here r = call_named (word_here r) (past_word r)

-- A line is at most 512 bytes: a longer one, and an empty one, is no call. (No call has more than 301.)
unfoldable pub call : List ℕ → Option LineCall
call l =
    cond (eqb (length l) 0) None
    (cond (ltb 512 (length l)) None
    (call_here (after (ascii "(") (at l))))
