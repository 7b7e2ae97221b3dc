-- A recording's lines: a run begins, an answer's line is collected, a call is made and its answer compared.
use Rattle.std.specs.Prelude.{ℕ, ◌+◌, ◌-◌, ◌≤◌, ◌<◌, Bool, List, [], ◌∷◌, ◌++◌, ◌≡◌, eqb, leb, length, take, drop, None, cond, replicate, ◌&&◌}
use Rattle.head_attempt.specs.Waiters.{slot_of}
use Rattle.head_count.specs.Counters.{epoch_of, seq_of, stats_of, up}
use Rattle.script.specs.Feeds.{last_leaves, last_prints, lent, reading}
use Rattle.text.specs.Rests.{at, read_number}
use Rattle.text.specs.Same.{same_text}
use Rattle.text.specs.Writes.{Wrote}
use Rattle.head_attempt.specs.declared.Waiter.{Waiter}
use Rattle.head_current.specs.declared.CurrentHead.{CurrentHead}
use Rattle.head_driver.specs.declared.Driver.{Driver}
use Rattle.replay.specs.Numbers.{struck}
use Rattle.replay.specs.declared.Replay.{Replay}
use Rattle.replay.specs.declared.Standing.{Standing}
use Rattle.replay.specs.declared.Tally.{Tally}

-- one more run; one more answer, and one more difference unless it is the recorded one
unfoldable pub begun : Tally → Tally
begun t = record { runs = up t.runs; answers = t.answers; differences = t.differences }

unfoldable pub compared : Tally → Bool → Tally
compared t equal = record { runs = t.runs; answers = up t.answers; differences = cond equal t.differences (up t.differences) }

-- the comparison: the first bytes of two buffers are there, and are the same text
unfoldable pub same_front : List ℕ → ℕ → List ℕ → ℕ → Bool
same_front a m b n = leb m (length a) && (leb n (length b) && same_text (take m a) (take n b))

-- a new driver but for its nine counters, and seq, which is delivered
unfoldable pub started : ℕ → Driver
started n = record {
  life = record {
    current = CurrentHead.Absent;
    superseded = None;
    installed = None;
    previous = None;
    seq = seq_of n;
    claim_epoch = epoch_of n;
    stats = stats_of n n n n n n n n;
  };
  waiters = replicate 16 (slot_of Waiter.Free);
}

-- a line is the first bytes of a buffer: its first byte is the mark, and a number may stand behind it
unfoldable pub mark_of : List ℕ → ℕ → ℕ
mark_of [] held = 0
mark_of (b ∷ line) held = cond (eqb held 0) 0 b

unfoldable pub number_of : List ℕ → ℕ → ℕ
number_of line held = cond (leb held (length line)) (read_number (at (drop 1 (take held line)))).value 0

unfoldable pub at_run : Standing → Standing
at_run s = record { tally = begun s.tally; wanted = 0; held = 0 }

unfoldable pub run_begun : Standing → ℕ → Replay
run_begun s n = record { driver = started n; standing = at_run s }

-- a line of an answer goes behind those before it, with its line feed; where it finds no room nothing changes
pub record Collects (wanted : ℕ) (line old new : List ℕ) (r : ℕ) : Type 0 where
  pub put : wanted + length line < length old → Wrote old new wanted r (line ++ (10 ∷ []))
  pub full : length old ≤ wanted + length line → new ≡ old
  pub stays : length old ≤ wanted + length line → r ≡ wanted

-- the recorded text is there and is that text
unfoldable pub recorded : List ℕ → ℕ → List ℕ → Bool
recorded want wanted text = leb wanted (length want) && same_text (take wanted want) text

unfoldable pub after_answer : Standing → ℕ → Standing
after_answer s wanted = record { tally = s.tally; wanted = wanted; held = 0 }

unfoldable pub after_call : Standing → Bool → Standing
after_call s equal = record { tally = compared s.tally equal; wanted = 0; held = 0 }

-- the call is made, as the last line of an input is answered, and its answer, without its settle numbers, is compared with what was collected
unfoldable pub call_compared : Driver → Standing → List ℕ → ℕ → List ℕ → List ℕ → Replay
call_compared d s call held want out = record {
  driver = cond (lent (reading d call held) out) (last_leaves (reading d call held)) d;
  standing = after_call s (recorded want s.wanted (struck (cond (lent (reading d call held) out) (last_prints (reading d call held)) [])));
}

-- a line marked `<`, in the first bytes of a buffer, is collected; any other is not
pub record TakesAnswer (mark wanted : ℕ) (line : List ℕ) (held : ℕ) (old new : List ℕ) (r : ℕ) : Type 0 where
  pub collects : mark ≡ 60 → 0 < held → held ≤ length line → Collects wanted (take (held - 1) (drop 1 line)) old new r
  pub keeps : (mark ≡ 60 → ⊥) → new ≡ old
  pub stays : (mark ≡ 60 → ⊥) → r ≡ wanted

-- a line of a recording: `>` is a call, which is made and compared; `#` begins a run; any other line leaves the driver and the counts, and `<` is collected
pub record TakesRecord (d : Driver) (s : Standing) (line want want' out : List ℕ) (r : Replay) : Type 0 where
  pub call : mark_of line s.held ≡ 62 → r ≡ call_compared d s (drop 1 line) (s.held - 1) want out
  pub run : mark_of line s.held ≡ 35 → r ≡ run_begun s (number_of line s.held)
  pub other : (mark_of line s.held ≡ 62 → ⊥) → (mark_of line s.held ≡ 35 → ⊥) → r ≡ record { driver = d; standing = after_answer s r.standing.wanted }
  pub answer : mark_of line s.held ≡ 60 → TakesAnswer 60 s.wanted line s.held want want' r.standing.wanted

-- before the first line
unfoldable pub fresh : Replay
fresh = record { driver = started 0; standing = record { tally = record { runs = 0; answers = 0; differences = 0 }; wanted = 0; held = 0 } }

-- how the counts move, whatever lines come: none falls, and there are never more differences than answers
pub record Counts (t r : Tally) : Type 0 where
  pub runs : t.runs ≤ r.runs
  pub answers : t.answers ≤ r.answers
  pub differences : t.differences ≤ r.differences
  pub fewer : t.differences ≤ t.answers → r.differences ≤ r.answers
