-- Reading the lines of the lifecycle, in document 01's order.
use Rattle.head_values.specs.declared.ReadAnchor.{ReadAnchor}
use Rattle.head_ready.specs.declared.Generation.{Generation}
use Rattle.std.specs.Prelude.{ℕ, List, Option, None, Some, cond}
use Rattle.head_values.specs.Words.{Word}
use Rattle.head_attempt.specs.Attempts.{minted, settled}
use Rattle.head_count.specs.Counters.{epoch_of, seq_of}
use Rattle.head_current.specs.Parts.{delivery_of}
use Rattle.sheet_read.specs.Values.{cold_readiness, read_cold, read_report, read_stats}
use Rattle.sheet_read.specs.declared.counts.Counts.{Counts}
use Rattle.head_ready.specs.declared.HeadReadiness.{HeadReadiness}
use Rattle.value_text.specs.Reads.{got, map, or_word, read_anchor, read_hash, read_slot, spaced_number, then}
use Rattle.value_text.specs.Words.{word_text}
use Rattle.text.specs.Ascii.{ascii}
use Rattle.text.specs.Rests.{Rest, Took, after, past_word, stopped, word_here}
use Rattle.text.specs.Same.{same_text}
use Rattle.head_count.specs.declared.Epoch.{Epoch}
use Rattle.head_attempt.specs.declared.HeadCompletion.{HeadCompletion}
use Rattle.head_current.specs.declared.CurrentHead.{CurrentHead}
use Rattle.head_current.specs.declared.HeadDelivery.{HeadDelivery}
use Rattle.value_text.specs.declared.page.Page.{Page}

-- ---- count

unfoldable pub read_count : Rest → Took Counts
read_count r =
    let stats = read_stats (after (ascii "(count") r) in
    let epoch = spaced_number stats.next in
    got (record { stats = stats.value; epoch = epoch_of epoch.value }) (after (ascii ")\n") epoch.next)

-- ---- current: its seq is delivered; a preparing head's attempt has the epoch of the count line, and no other epoch is written

-- `A P`
unfoldable pub read_delivery : ℕ → Rest → Took HeadDelivery
read_delivery delivered r =
    let anchor = read_anchor Page.Sheet r in
    let parent = read_hash Page.Sheet (after (ascii " ") anchor.next) in
    got (delivery_of anchor.value parent.value (seq_of delivered)) parent.next

unfoldable pub read_unclaimed_end : Rest → Took HeadCompletion
read_unclaimed_end r = or_word (ascii "open") HeadCompletion.Open r (or_word (ascii "abandoned") HeadCompletion.Abandoned r (got HeadCompletion.Open stopped))

-- ` A P H open` or ` A P H abandoned`
unfoldable pub read_unclaimed : ℕ → Rest → Took CurrentHead
read_unclaimed delivered r =
    let held = read_delivery delivered (after (ascii " ") r) in
    let handle = spaced_number held.next in
    let end = read_unclaimed_end (after (ascii " ") handle.next) in
    got (CurrentHead.Unclaimed (record { delivery = held.value; provisional = handle.value; attempt = record { epoch = epoch_of 0; end = end.value } })) end.next

-- ` A P H`
unfoldable pub read_preparing : ℕ → Epoch → Rest → Took CurrentHead
read_preparing delivered epoch r =
    let held = read_delivery delivered (after (ascii " ") r) in
    let handle = spaced_number held.next in
    got (CurrentHead.Preparing (record { delivery = held.value; provisional = handle.value; attempt = minted epoch })) handle.next

-- ` A P R`
unfoldable pub read_settled : ℕ → Rest → Took CurrentHead
read_settled delivered r =
    let held = read_delivery delivered (after (ascii " ") r) in
    let report = read_report (after (ascii " ") held.next) in
    got (CurrentHead.Settled (record { delivery = held.value; report = report.value; attempt = settled (epoch_of 0) })) report.next

-- the head that a word names, with the rest after the word
unfoldable pub head_named : ℕ → Epoch → List ℕ → Rest → Took CurrentHead
head_named delivered epoch w r =
    cond (same_text w (ascii "none")) (got CurrentHead.Absent r)
    (cond (same_text w (ascii "unclaimed")) (read_unclaimed delivered r)
    (cond (same_text w (ascii "preparing")) (read_preparing delivered epoch r)
    (cond (same_text w (ascii "settled")) (read_settled delivered r)
    (got CurrentHead.Absent stopped))))

unfoldable pub read_current : ℕ → Epoch → Rest → Took CurrentHead
read_current delivered epoch r = then (ascii ")\n") (head_named delivered epoch (word_here (after (ascii "(current ") r)) (past_word (after (ascii "(current ") r)))

-- ---- superseded

unfoldable pub read_superseded : Rest → Took (Option ReadAnchor)
read_superseded r = then (ascii ")\n") (read_slot Page.Sheet (after (ascii "(superseded ") r))

-- ---- installed and previous

-- "an installed or previous generation has only the first or the last": `ready` or `(cold LINK SKIP)`
unfoldable pub read_kept_readiness : Rest → Took HeadReadiness
read_kept_readiness r = or_word (word_text Word.ready) HeadReadiness.Ready r (map cold_readiness (read_cold r))

-- `A H N READINESS`
unfoldable pub read_held : Rest → Took (Option Generation)
read_held r =
    let anchor = read_anchor Page.Sheet r in
    let handle = spaced_number anchor.next in
    let seq = spaced_number handle.next in
    let readiness = read_kept_readiness (after (ascii " ") seq.next) in
    got (Some (record { anchor = anchor.value; handle = handle.value; seq = seq_of seq.value; readiness = readiness.value })) readiness.next

unfoldable pub read_generation : Rest → Took (Option Generation)
read_generation r = or_word (word_text Word.none) None r (read_held r)

unfoldable pub read_installed : Rest → Took (Option Generation)
read_installed r = then (ascii ")\n") (read_generation (after (ascii "(installed ") r))

unfoldable pub read_previous : Rest → Took (Option Generation)
read_previous r = then (ascii ")\n") (read_generation (after (ascii "(previous ") r))
