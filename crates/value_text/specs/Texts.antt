-- A name for the text of each value of an anchor, a list or a link.
use Rattle.hash.specs.declared.Hash.{Hash}
use Rattle.std.specs.Prelude.{ℕ, List, Option}
use Rattle.head_values.specs.Values.{anchor_value, block_hash_value, fault_value, link_value, skip_value, slot_value}
use Rattle.head_values.specs.declared.BalSkip.{BalSkip}
use Rattle.head_values.specs.declared.Link.{Link}
use Rattle.head_values.specs.declared.ReadAnchor.{ReadAnchor}
use Rattle.value_text.specs.Values.{value_text}

unfoldable pub block_hash_text : Option Hash → List ℕ
block_hash_text h = value_text (block_hash_value h)

unfoldable pub anchor_text : ReadAnchor → List ℕ
anchor_text a = value_text (anchor_value a)

unfoldable pub slot_text : Option ReadAnchor → List ℕ
slot_text s = value_text (slot_value s)

unfoldable pub skip_text : BalSkip → List ℕ
skip_text skip = value_text (skip_value skip)

unfoldable pub link_text : Link → List ℕ
link_text link = value_text (link_value link)

unfoldable pub fault_text : Link → List ℕ
fault_text link = value_text (fault_value link)
