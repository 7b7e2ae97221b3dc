-- A value as document 01 writes it: a word, a decimal, a hash, or two or three
-- of them in brackets; and how it writes anchors, links, skips and outcomes.
use Rattle.std.specs.Prelude.{ℕ, Option, None, Some}
use Rattle.hash.specs.declared.Hash.{Hash}
use Rattle.head_values.specs.Words.{Word}
use Rattle.head_values.specs.declared.BalSkip.{BalSkip}
use Rattle.head_values.specs.declared.CarryOutcome.{CarryOutcome}
use Rattle.head_values.specs.declared.Link.{Link}
use Rattle.head_values.specs.declared.ReadAnchor.{ReadAnchor}

-- a word, a number or a hash, or values in brackets
pub data Value : Type 0 where
  word : Word → Value
  number : ℕ → Value
  hash : Hash → Value
  two : Value → Value → Value
  three : Value → Value → Value → Value

-- the HASH of an anchor, or `none`
unfoldable pub block_hash_value : Option Hash → Value
block_hash_value None = word Word.none
block_hash_value (Some h) = hash h

-- an anchor A is `(NUMBER HASH)` or `(NUMBER none)`
unfoldable pub anchor_value : ReadAnchor → Value
anchor_value a = two (number a.number) (block_hash_value a.hash)

-- an anchor or `none`
unfoldable pub slot_value : Option ReadAnchor → Value
slot_value None = word Word.none
slot_value (Some a) = anchor_value a

-- the answer WORD of the link test
unfoldable pub link_value : Link → Value
link_value Link.Linked = word Word.linked
link_value Link.NoParent = word Word.no_parent
link_value Link.NotConsecutive = word Word.not_consecutive
link_value Link.HashUnknown = word Word.hash_unknown
link_value Link.HashMismatch = word Word.hash_mismatch

-- LINK in `(cold LINK SKIP)`: `none` where it found no fault
unfoldable pub fault_value : Link → Value
fault_value Link.Linked = word Word.none
fault_value Link.NoParent = word Word.no_parent
fault_value Link.NotConsecutive = word Word.not_consecutive
fault_value Link.HashUnknown = word Word.hash_unknown
fault_value Link.HashMismatch = word Word.hash_mismatch

-- SKIP: none, `no-hash`, `(rpc N)` or `(decode N)`
unfoldable pub skip_value : BalSkip → Value
skip_value BalSkip.Nothing = word Word.none
skip_value BalSkip.NoHash = word Word.no_hash
skip_value (BalSkip.Rpc n) = two (word Word.rpc) (number n)
skip_value (BalSkip.Decode n) = two (word Word.decode) (number n)

-- `(carried C)` or `(cold LINK SKIP)`
unfoldable pub outcome_value : CarryOutcome → Value
outcome_value (CarryOutcome.Carried c) = two (word Word.carried) (number c)
outcome_value (CarryOutcome.Cold link skip) = three (word Word.cold) (fault_value link) (skip_value skip)
