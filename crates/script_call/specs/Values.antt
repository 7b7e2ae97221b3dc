-- Document 01, "Lines": a hash, an anchor, an anchor or `none`, and a skip on a line, each after one space.
use Rattle.std.specs.Prelude.{Option}
use Rattle.text.specs.Ascii.{ascii}
use Rattle.text.specs.Rests.{Rest, Took, after}
use Rattle.value_text.specs.Reads.{read_anchor, read_hash, read_slot, read_skip}
use Rattle.hash.specs.declared.Hash.{Hash}
use Rattle.head_values.specs.declared.BalSkip.{BalSkip}
use Rattle.head_values.specs.declared.ReadAnchor.{ReadAnchor}
use Rattle.value_text.specs.declared.page.Page.{Page}

unfoldable pub spaced_hash : Rest → Took Hash
spaced_hash r = read_hash Page.Line (after (ascii " ") r)

unfoldable pub spaced_anchor : Rest → Took ReadAnchor
spaced_anchor r = read_anchor Page.Line (after (ascii " ") r)

unfoldable pub spaced_slot : Rest → Took (Option ReadAnchor)
spaced_slot r = read_slot Page.Line (after (ascii " ") r)

unfoldable pub spaced_skip : Rest → Took BalSkip
spaced_skip r = read_skip (after (ascii " ") r)
