-- What the digits so far say, and the rest, is what the word says.
use Rattle.std.specs.Prelude.{Some}
use Rattle.std.proofs.Common.{◌≡◌, drop}
use Rattle.text.specs.Digits.{read_on}
use Rattle.text.specs.Decimals.{more, number}
use Rattle.text_decimal.proofs.read_decimal.Given as goal

abbrev pub invariant-loop-b : goal.invariant-loop-b
invariant-loop-b l = read_on more (Some l.n) (drop l.b-index l.rest) ≡ number l.word
