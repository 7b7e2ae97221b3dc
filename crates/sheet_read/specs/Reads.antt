-- Reading a sheet: its lines in order, and nothing after them.
use Rattle.std.specs.Prelude.{ℕ, List, Option, Some, None, cond}
use Rattle.head_count.specs.Counters.{seq_of}
use Rattle.text.specs.Rests.{Rest, at, at_end}
use Rattle.head_driver.specs.declared.Driver.{Driver}
use Rattle.sheet_read.specs.Heads.{read_count, read_current, read_installed, read_previous, read_superseded}
use Rattle.sheet_read.specs.Waiters.{read_waiters}

-- nothing stands after it
unfoldable pub whole : Rest → Driver → Option Driver
whole r d = cond (at_end r) (Some d) None

-- the driver that a sheet shows, or that the text is no sheet
unfoldable pub read_sheet : List ℕ → Option Driver
read_sheet s =
    let counts = read_count (at s) in
    let current = read_current counts.value.stats.delivered counts.value.epoch counts.next in
    let superseded = read_superseded current.next in
    let installed = read_installed superseded.next in
    let previous = read_previous installed.next in
    let waiters = read_waiters 16 0 previous.next in
    whole waiters.next (record {
      life = record {
        current = current.value;
        superseded = superseded.value;
        installed = installed.value;
        previous = previous.value;
        seq = seq_of counts.value.stats.delivered;
        claim_epoch = counts.value.epoch;
        stats = counts.value.stats;
      };
      waiters = waiters.value;
    })
