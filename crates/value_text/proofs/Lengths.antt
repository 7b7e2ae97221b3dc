-- How long a value's text can be, whatever its numbers.
use Rattle.std.specs.Prelude.{Option, None, Some}
use Prim.Native.Nat.{◌≤◌}
use native.Mathlib.Omega.{arith}
use lib.ListN.{length, length-append}
use Rattle.hash.specs.declared.Hash.{Hash}
use Rattle.hash_text.proofs.Back.{length_hash}
use Rattle.head_values.specs.Values.{block_hash_value, skip_value, slot_value}
use Rattle.head_values.specs.declared.BalSkip.{BalSkip}
use Rattle.head_values.specs.declared.ReadAnchor.{ReadAnchor}
use Rattle.text.proofs.Back.{length-decimal}
use Rattle.value_text.specs.Texts.{anchor_text, block_hash_text, skip_text, slot_text}
use Rattle.value_text.specs.Values.{value_text}
use Rattle.value_text.specs.Words.{word_text}
use Rattle.value_text.proofs.Back.{anchor_form}

block_hash_most : (h : Option Hash) → length (block_hash_text h) ≤ 66
unfolding block_hash_text block_hash_value value_text word_text
block_hash_most None = omega arith
block_hash_most (Some h) = omega (arith, length_hash h)

pub anchor_most : (a : ReadAnchor) → length (anchor_text a) ≤ 89
anchor_most a = rw (anchor_form a) (simp length-append (omega (arith, length-decimal a.number, block_hash_most a.hash)))

pub slot_most : (s : Option ReadAnchor) → length (slot_text s) ≤ 89
unfolding slot_text slot_value anchor_text value_text word_text
slot_most None = omega arith
slot_most (Some a) = anchor_most a

pub skip_most : (x : BalSkip) → length (skip_text x) ≤ 29
unfolding skip_text skip_value value_text word_text
skip_most BalSkip.Nothing = omega arith
skip_most BalSkip.NoHash = omega arith
skip_most (BalSkip.Rpc n) = simp length-append (omega (arith, length-decimal n))
skip_most (BalSkip.Decode n) = simp length-append (omega (arith, length-decimal n))
