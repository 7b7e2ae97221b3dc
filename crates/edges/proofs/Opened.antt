-- One name that opens every definition on the way from the bytes of a line to the bytes of its answer, for claims by computation.
use Rattle.hash.specs.Hashes
use Rattle.head_values.specs.Anchors
use Rattle.head_values.specs.Links
use Rattle.head_values.specs.Lists
use Rattle.head_values.specs.Values as AnchorValues
use Rattle.head_count.specs.Counters
use Rattle.head_attempt.specs.Attempts
use Rattle.head_attempt.specs.Waiters
use Rattle.head_ready.specs.Generations
use Rattle.head_current.specs.Heads
use Rattle.head_current.specs.Moves as HeadMoves
use Rattle.head_life.specs.State
use Rattle.head_life.specs.Deliver as DeliverLife
use Rattle.head_life.specs.Claim as ClaimLife
use Rattle.head_life.specs.Release as ReleaseLife
use Rattle.head_life.specs.Apply as ApplyLife
use Rattle.head_life.specs.Views
use Rattle.head_life.specs.Completion
use Rattle.head_attempt.specs.Said as EndSaid
use Rattle.head_ready.specs.Said as ReadySaid
use Rattle.head_current.specs.Said as ReportSaid
use Rattle.head_driver.specs.Answers as Said
use Rattle.head_driver.specs.Moved
use Rattle.head_driver.specs.New
use Rattle.head_driver.specs.Parts as DriverParts
use Rattle.head_calls.specs.Deliver
use Rattle.head_calls.specs.Claim
use Rattle.head_calls.specs.Release
use Rattle.head_calls.specs.Apply
use Rattle.head_waits.specs.Parts as WaiterParts
use Rattle.head_waits.specs.Snapshot
use Rattle.head_waits.specs.Waits
use Rattle.head_asks.specs.Asks
use Rattle.head_step.specs.Steps
use Rattle.text.specs.Decimals
use Rattle.text.specs.Digits
use Rattle.text.specs.Rests
use Rattle.text.specs.Same
use Rattle.text.specs.Words
use Rattle.hash_text.specs.Hex
use Rattle.hash_text.specs.LineHashes
use Rattle.hash_text.specs.SheetHashes
use Rattle.hash_text.specs.Texts as HashTexts
use Rattle.script_call.specs.Values as CallValues
use Rattle.script_call.specs.Calls as CallLines
use Rattle.value_text.specs.Reads as ValueReads
use Rattle.value_text.specs.Texts as ValueTexts
use Rattle.value_text.specs.Values as ValueForms
use Rattle.value_text.specs.Words as WordTexts
use Rattle.script_value.specs.Texts as CounterTexts
use Rattle.script_outcome.specs.Texts as OutcomeTexts
use Rattle.script_value.specs.Lines as AnswerTexts
use Rattle.script_answer.specs.Answers as AnswerLines
use Rattle.alike.specs.Canon
use Rattle.sheet_lines.specs.Lines as SheetLines
use Rattle.script_sheet.specs.Sheets

-- anchors, links and lists
unfoldable anchors : Unit {0}
unfolding Hashes.same_hash Anchors.same_anchor Anchors.holds Links.follows Links.link_by_hash Links.classify_link Lists.is_no_hash
    Lists.as_prepared Lists.is_linked Lists.is_decoded Lists.outcome Lists.apply_prepared AnchorValues.block_hash_value AnchorValues.anchor_value AnchorValues.slot_value
    AnchorValues.link_value AnchorValues.fault_value AnchorValues.skip_value AnchorValues.outcome_value
anchors = tt

-- counters, attempts, waiters and the current head
unfoldable heads : Unit {0}
unfolding Counters.up Counters.next_seq Counters.next_epoch Counters.same_seq Counters.same_epoch Counters.none_counted Counters.raise Counters.raise_if
    Counters.record_view Attempts.minted Attempts.settled Attempts.first_end Attempts.publish Waiters.woken Waiters.wake Heads.delivery Heads.anchor_of
    Heads.has_ticket Heads.is_unsettled Heads.is_preparing Heads.is_settled Heads.preparing_at Heads.published Heads.current_report HeadMoves.claimed_head
    HeadMoves.owned_by HeadMoves.released_head HeadMoves.is_abandoned HeadMoves.published_abandonment HeadMoves.settled_head
heads = tt

-- the lifecycle and what is read of it
unfoldable life : Unit {0}
unfolding Generations.slot_anchor Generations.is_ready State.no_head State.counted State.view_counted DeliverLife.repeats DeliverLife.old_seq DeliverLife.new_head
    DeliverLife.deliver_life ClaimLife.claim_held ClaimLife.claim_life ReleaseLife.release_life ApplyLife.plan_held ApplyLife.plan_apply ApplyLife.previous_after
    ApplyLife.settled_readiness ApplyLife.settling_epoch ApplyLife.record_settle Views.generation_view Views.provisional_view Views.current_view Views.spare_view
    Views.view Completion.completion_at
life = tt

-- the calls
unfoldable calls : Unit {0}
unfolding ReadySaid.readiness_value ReadySaid.source_value ReadySaid.settled_under
    EndSaid.end_value ReportSaid.report_value ReadySaid.outcome_said Said.stats_values Said.said Moved.woken_waiters Moved.moved New.new
    DriverParts.with_life Deliver.deliver Claim.claim_answer Claim.claim Release.release Apply.apply_settled Apply.apply_planned Apply.apply Snapshot.viewed
    Snapshot.snapshot WaiterParts.waiter_at WaiterParts.put Waits.readiness_by_wait Waits.shown_by_wait Waits.view_frees Waits.waits_anew Waits.abandoned_view
    Waits.wait_as Waits.wait Waits.resume_as Waits.resume Asks.completion Asks.link Asks.last_report Asks.stats Asks.heads Steps.step
calls = tt

-- words, decimals and hashes
unfoldable words : Unit {0}
unfolding Decimals.decimal_on Decimals.decimal Decimals.digit Decimals.more Decimals.number Digits.read_on Rests.after_byte Rests.after Rests.word_here Rests.says Rests.past
    Rests.past_word Rests.at_end Rests.number_got Rests.read_number Same.same_text Words.in_word Words.run Words.word Hex.glyph Hex.hex_on Hex.hex Hex.hex_text
    Hex.digit_value Hex.join_digit Hex.hex_more Hex.hex_number Hex.joined Hex.hex_hash HashTexts.hash_prefix HashTexts.hash_text
    LineHashes.line_hash SheetHashes.sheet_hash
words = tt

-- call lines
unfoldable lines : Unit {0}
unfolding ValueReads.or_word ValueReads.map ValueReads.then ValueReads.hash_said ValueReads.hash_got ValueReads.read_hash
    ValueReads.read_block_hash ValueReads.read_anchor ValueReads.read_slot ValueReads.spaced_number ValueReads.read_failure ValueReads.read_skip CallValues.spaced_hash CallValues.spaced_anchor CallValues.spaced_slot
    CallValues.spaced_skip CallLines.ends CallLines.closed CallLines.spaced_ticket CallLines.spaced_list CallLines.deliver_call CallLines.claim_call
    CallLines.release_call CallLines.apply_call CallLines.snapshot_call CallLines.wait_call CallLines.resume_call CallLines.completion_call CallLines.link_call
    CallLines.report_call CallLines.stats_call CallLines.heads_call CallLines.sheet_call CallLines.later_named CallLines.call_named CallLines.call_here CallLines.call
lines = tt

-- answer lines
unfoldable answers : Unit {0}
unfolding ValueTexts.block_hash_text ValueTexts.anchor_text ValueTexts.slot_text CounterTexts.spaced_text CounterTexts.four_text
    CounterTexts.stats_text ValueForms.value_text ValueForms.values_on WordTexts.word_text ValueTexts.link_text ValueTexts.fault_text ValueTexts.skip_text OutcomeTexts.cold_text
    OutcomeTexts.outcome_text OutcomeTexts.report_text OutcomeTexts.reason_text
    OutcomeTexts.readiness_text OutcomeTexts.source_text OutcomeTexts.settle_number_text OutcomeTexts.end_text
    AnswerTexts.refusal_on AnswerTexts.said_text AnswerTexts.answer_text AnswerLines.answer_line
answers = tt

-- what a sheet shows, and its lines
unfoldable sheets : Unit {0}
unfolding Canon.masked Canon.mask_by Canon.shown_superseded Canon.shown_head Canon.shown_waiter Canon.shown_waiters Canon.shown_life Canon.canon SheetLines.count_line
    SheetLines.unclaimed_end_text SheetLines.delivery_text SheetLines.unsettled_text SheetLines.current_line SheetLines.superseded_line SheetLines.generation_text
    SheetLines.installed_line SheetLines.previous_line SheetLines.waiter_line SheetLines.waiter_lines Sheets.life_lines Sheets.lines_of Sheets.sheet_text
sheets = tt

-- all of them
unfoldable pub opened : Unit {0}
unfolding anchors heads life calls words lines answers sheets
opened = tt
