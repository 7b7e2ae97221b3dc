-- The words that were passed stay, and the word behind the others is still to go.
use Rattle.std.proofs.Common.{◌++◌, ◌≡◌, ◌≤◌, ◌-◌, drop, length, take}
use Rattle.replay.specs.Numbers.{strike_number}
use Rattle.replay.proofs.numbers.after_words.Given as goal

abbrev pub invariant-loop : goal.invariant-loop
invariant-loop l =
    (strike_number l.count l.line ≡ take l.at l.line ++ strike_number (l.count - l.counter) (drop l.at l.line)) × (l.at ≤ length l.line)
