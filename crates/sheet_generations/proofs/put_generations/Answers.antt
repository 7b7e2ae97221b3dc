-- The two lines, the first one's name longer than a search reads.
use Rattle.std.proofs.Common.{arith}
use Rattle.text_put.proofs.Writers.{wrote_both}
use Rattle.sheet_lines.specs.Lines.{installed_line, previous_line}
use Rattle.sheet_generations.proofs.put_generations.Goals as goal

pub returns : goal.returns
unfolding installed_line previous_line
returns c = record { wrote = simp (c.put_line-2.ensures.wrote, c.put_line.ensures.wrote, wrote_both); place = omega arith; room = omega arith }
