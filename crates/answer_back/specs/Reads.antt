-- Reading an answer's line. Its hashes are written as a sheet's are, and so read as strictly.
use Rattle.std.specs.Prelude.{ℕ, List, eqb, cond}
use Rattle.head_values.specs.Words.{Word}
use Rattle.head_count.specs.Counters.{epoch_of, seq_of}
use Rattle.script_back.specs.Outcomes.{read_end, read_link, read_readiness, read_settle_number, read_source}
use Rattle.sheet_read.specs.Values.{read_outcome, read_report, read_stats}
use Rattle.value_text.specs.Reads.{got, map, read_anchor, read_slot, spaced_number, then}
use Rattle.value_text.specs.Words.{word_text}
use Rattle.text.specs.Ascii.{ascii}
use Rattle.text.specs.Rests.{Rest, Took, after, past_word, stopped, word_here}
use Rattle.text.specs.Same.{same_text}
use Rattle.head_values.specs.declared.CarryOutcome.{CarryOutcome}
use Rattle.head_values.specs.declared.ReadAnchor.{ReadAnchor}
use Rattle.head_driver.specs.declared.Answer.{Answer}
use Rattle.head_ready.specs.declared.HeadOutcome.{HeadOutcome}
use Rattle.value_text.specs.declared.page.Page.{Page}

-- ---- values, each after a space

unfoldable pub read_view : Rest → Took Answer
read_view r =
    let source = read_source (after (ascii " ") r) in
    let handle = spaced_number source.next in
    let under = read_settle_number source.value handle.next in
    let readiness = read_readiness (after (ascii " ") under.next) in
    got (Answer.View (record { source = under.value; handle = handle.value; readiness = readiness.value })) readiness.next

unfoldable pub read_heads : Rest → Took Answer
read_heads r =
    let current = read_slot Page.Sheet (after (ascii " ") r) in
    let installed = read_slot Page.Sheet (after (ascii " ") current.next) in
    let previous = read_slot Page.Sheet (after (ascii " ") installed.next) in
    got (Answer.Heads current.value installed.value previous.value) previous.next

unfoldable pub read_foreign : Rest → Took Answer
read_foreign r =
    let list = read_anchor Page.Sheet (after (ascii " ") r) in
    let held = read_anchor Page.Sheet (after (ascii " ") list.next) in
    got (Answer.Outcome (HeadOutcome.Foreign list.value held.value)) held.next

abbrev pub superseded_by : ReadAnchor → Answer
superseded_by a = Answer.Outcome (HeadOutcome.Superseded a)

abbrev pub settled_by : CarryOutcome → Answer
settled_by o = Answer.Outcome (HeadOutcome.Settled o)

-- ---- refusals, by their number

unfoldable pub refused_by : ℕ → Rest → Took Answer
refused_by n r =
    cond (eqb n 2) (got Answer.ListDisagrees r)
    (cond (eqb n 3) (got Answer.WaiterAbove15 r)
    (cond (eqb n 11) (map superseded_by (read_anchor Page.Sheet (after (ascii " ") r)))
    (cond (eqb n 12) (read_foreign r)
    (cond (eqb n 13) (got (Answer.Outcome HeadOutcome.AlreadySettled) r)
    (cond (eqb n 14) (got (Answer.Outcome HeadOutcome.InFlight) r)
    (cond (eqb n 15) (got Answer.WaiterNotFree r)
    (cond (eqb n 16) (got Answer.WaiterFree r)
    (got Answer.Done stopped))))))))

unfoldable pub read_refused : Rest → Took Answer
read_refused r =
    let n = spaced_number r in
    refused_by n.value n.next

-- ---- the answer that a word names, with the rest after the word

unfoldable pub answer_named : List ℕ → Rest → Took Answer
answer_named w r =
    cond (same_text w (word_text Word.ticket)) (map (λ n. Answer.Ticket (seq_of n)) (spaced_number r))
    (cond (same_text w (word_text Word.claimed)) (map (λ n. Answer.Claimed (epoch_of n)) (spaced_number r))
    (cond (same_text w (word_text Word.done)) (got Answer.Done r)
    (cond (same_text w (word_text Word.settled)) (map settled_by (read_outcome (after (ascii " ") r)))
    (cond (same_text w (word_text Word.view)) (read_view r)
    (cond (same_text w (word_text Word.parked)) (got Answer.Parked r)
    (cond (same_text w (word_text Word.completion)) (map Answer.Completion (read_end (after (ascii " ") r)))
    (cond (same_text w (word_text Word.link)) (map Answer.Link (read_link (after (ascii " ") r)))
    (cond (same_text w (word_text Word.report)) (map Answer.Report (read_report (after (ascii " ") r)))
    (cond (same_text w (word_text Word.stats)) (map Answer.Stats (read_stats r))
    (cond (same_text w (word_text Word.heads)) (read_heads r)
    (cond (same_text w (word_text Word.refused)) (read_refused r)
    (got Answer.Done stopped))))))))))))

-- a whole line, and what stands after its line feed
unfoldable pub read_answer : Rest → Took Answer
read_answer r = then (ascii ")\n") (answer_named (word_here (after (ascii "(") r)) (past_word (after (ascii "(") r)))
