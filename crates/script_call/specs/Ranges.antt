-- The calls that a line can write: each of their numbers, and each word of their hashes, is below 2^64.
use Rattle.std.specs.Prelude.{Option, Some, None}
use Rattle.script_call.specs.declared.LineCall.{LineCall}
use Rattle.head_call.specs.Ranges.{Writable}

-- of what a line asks for
abbrev pub LineWritable : Option LineCall → Type 0
LineWritable None = Unit {0}
LineWritable (Some LineCall.Sheet) = Unit {0}
LineWritable (Some (LineCall.Make c)) = Writable c
