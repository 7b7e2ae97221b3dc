-- Document 01, "The sheet": counters, links that failed, outcomes and reports, read from the front of a text, with a failure that stays.
-- All but reports stand in answers too.
use Rattle.std.specs.Prelude.{Option, None, Some, cond}
use Rattle.head_values.specs.Words.{Word}
use Rattle.head_values.specs.declared.CarryOutcome.{CarryOutcome}
use Rattle.head_values.specs.declared.Link.{Link}
use Rattle.head_count.specs.declared.HeadStats.{HeadStats}
use Rattle.head_ready.specs.declared.HeadCold.{HeadCold}
use Rattle.head_ready.specs.declared.HeadReadiness.{HeadReadiness}
use Rattle.head_current.specs.Parts.{report_of}
use Rattle.head_current.specs.declared.DeltaReport.{DeltaReport}
use Rattle.text.specs.Ascii.{ascii}
use Rattle.text.specs.Rests.{Rest, Took, after, past_word, says, stopped}
use Rattle.value_text.specs.Reads.{got, map, or_word, read_skip, spaced_number, then}
use Rattle.value_text.specs.Words.{word_text}
use Rattle.sheet_read.specs.declared.outcome.Cold.{Cold}

-- ---- counters

unfoldable pub read_stats : Rest → Took HeadStats
read_stats r =
    let a = spaced_number r in
    let b = spaced_number a.next in
    let c = spaced_number b.next in
    let d = spaced_number c.next in
    let e = spaced_number d.next in
    let f = spaced_number e.next in
    let g = spaced_number f.next in
    let h = spaced_number g.next in
    got
    (record {
      delivered = a.value;
      repeated = b.value;
      superseded = c.value;
      settled = d.value;
      already_current = e.value;
      discarded = f.value;
      ready_views = g.value;
      cold_views = h.value;
    })
    h.next

-- ---- links that failed

-- what may be wrong with a link
unfoldable pub read_faulty : Rest → Took Link
read_faulty r =
    or_word (word_text Word.no_parent) Link.NoParent r
    (or_word (word_text Word.not_consecutive) Link.NotConsecutive r
    (or_word (word_text Word.hash_unknown) Link.HashUnknown r
    (or_word (word_text Word.hash_mismatch) Link.HashMismatch r
    (got Link.Linked stopped))))

unfoldable pub read_fault : Rest → Took Link
read_fault r = or_word (word_text Word.none) Link.Linked r (read_faulty r)

-- ---- `(cold LINK SKIP)`

unfoldable pub read_cold : Rest → Took Cold
read_cold r =
    let link = read_fault (after (ascii "(cold ") r) in
    let skip = read_skip (after (ascii " ") link.next) in
    got (record { link = link.value; skip = skip.value }) (after (ascii ")") skip.next)

abbrev pub cold_outcome : Cold → CarryOutcome
cold_outcome c = CarryOutcome.Cold c.link c.skip

abbrev pub cold_readiness : Cold → HeadReadiness
cold_readiness c = HeadReadiness.Cold (HeadCold.Settled c.link c.skip)

-- ---- outcomes and reports

unfoldable pub read_outcome : Rest → Took CarryOutcome
read_outcome r =
    cond (says (word_text Word.carried) (after (ascii "(") r))
    (then (ascii ")") (map CarryOutcome.Carried (spaced_number (past_word (after (ascii "(") r)))))
    (map cold_outcome (read_cold r))

-- `(OUTCOME REPORT)`
unfoldable pub read_made : Rest → Took (Option DeltaReport)
read_made r =
    let o = read_outcome (after (ascii "(") r) in
    let n = spaced_number o.next in
    got (Some (report_of o.value n.value)) (after (ascii ")") n.next)

unfoldable pub read_report : Rest → Took (Option DeltaReport)
read_report r = or_word (word_text Word.none) None r (read_made r)
