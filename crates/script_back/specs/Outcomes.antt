-- Reading links, readiness, sources with their settle numbers, and ends from the front of an answer, with a failure that stays. What stands
-- on a sheet too is read as there (`sheet_read/specs/Values`).
use Rattle.head_values.specs.Words.{Word}
use Rattle.head_count.specs.Counters.{seq_of}
use Rattle.value_text.specs.Reads.{got, map, or_word, spaced_number}
use Rattle.value_text.specs.Words.{word_text}
use Rattle.text.specs.Rests.{Rest, Took, stopped}
use Rattle.head_values.specs.declared.Link.{Link}
use Rattle.head_attempt.specs.declared.HeadCompletion.{HeadCompletion}
use Rattle.head_ready.specs.declared.HeadCold.{HeadCold}
use Rattle.head_ready.specs.declared.HeadReadiness.{HeadReadiness}
use Rattle.head_ready.specs.declared.Source.{Source}
use Rattle.sheet_read.specs.Values.{cold_readiness, read_cold, read_faulty}

unfoldable pub read_link : Rest → Took Link
read_link r = or_word (word_text Word.linked) Link.Linked r (read_faulty r)

unfoldable pub read_readiness : Rest → Took HeadReadiness
read_readiness r =
    or_word (word_text Word.ready) HeadReadiness.Ready r
    (or_word (word_text Word.unprepared) (HeadReadiness.Cold HeadCold.Unprepared) r
    (or_word (word_text Word.superseded) (HeadReadiness.Cold HeadCold.Superseded) r
    (or_word (word_text Word.undelivered) (HeadReadiness.Cold HeadCold.Undelivered) r
    (or_word (word_text Word.abandoned) (HeadReadiness.Cold HeadCold.Abandoned) r
    (map cold_readiness (read_cold r))))))

-- the source of a word; the number of a generation's stands behind the handle, so it is 0 here
unfoldable pub read_source : Rest → Took Source
read_source r =
    or_word (word_text Word.installed) (Source.Installed (seq_of 0)) r
    (or_word (word_text Word.provisional) Source.Provisional r
    (or_word (word_text Word.previous) (Source.Previous (seq_of 0)) r
    (or_word (word_text Word.spare) Source.Spare r
    (got Source.Spare stopped))))

-- that source with the number that stands behind the handle, where it has one
unfoldable pub read_settle_number : Source → Rest → Took Source
read_settle_number (Source.Installed seq) r = map (λ n. Source.Installed (seq_of n)) (spaced_number r)
read_settle_number Source.Provisional r = got Source.Provisional r
read_settle_number (Source.Previous seq) r = map (λ n. Source.Previous (seq_of n)) (spaced_number r)
read_settle_number Source.Spare r = got Source.Spare r

unfoldable pub read_end : Rest → Took HeadCompletion
read_end r =
    or_word (word_text Word.none) HeadCompletion.Open r
    (or_word (word_text Word.settled) HeadCompletion.Settled r
    (or_word (word_text Word.superseded) HeadCompletion.Superseded r
    (or_word (word_text Word.abandoned) HeadCompletion.Abandoned r
    (got HeadCompletion.Open stopped))))
