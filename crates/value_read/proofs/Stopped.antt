-- Where reading has stopped, nothing is read.
use Prim.Native.Nat.{ℕ}
use mathlib.Core.Path.{◌≡◌, refl}
use mathlib.Core.List.{[], ◌∷◌}
use Rattle.hash_text.proofs.Back.{no_line_word, no_sheet_word}
use Rattle.text.specs.Decimals.{number}
use Rattle.text.specs.Rests.{stopped, after_byte, after, word_here, says, number_got, read_number}
use Rattle.text.specs.Same.{same_text}
use Rattle.value_text.specs.Reads.{or_word, map, hash_got, hash_said, read_hash, read_block_hash, read_anchor, read_slot, spaced_number, read_failure, read_skip}
use Rattle.value_text.specs.Words.{word_text}
use Rattle.value_text.specs.declared.page.Page.{Page}

pub byte_stopped : (b : ℕ) → after (b ∷ []) stopped ≡ stopped
unfolding after after_byte
byte_stopped b = refl

pub number_stopped : (read_number stopped).next ≡ stopped
unfolding read_number number_got word_here number
number_stopped = refl

pub spaced_number_stopped : (spaced_number stopped).next ≡ stopped
unfolding spaced_number after after_byte
spaced_number_stopped = number_stopped

pub hash_stopped : (p : Page) → (read_hash p stopped).next ≡ stopped
unfolding read_hash hash_got hash_said word_here
hash_stopped Page.Line = rw no_line_word refl
hash_stopped Page.Sheet = rw no_sheet_word refl

pub block_hash_stopped : (p : Page) → (read_block_hash p stopped).next ≡ stopped
unfolding read_block_hash or_word map word_text says same_text word_here
block_hash_stopped p = hash_stopped p

pub anchor_stopped : (p : Page) → (read_anchor p stopped).next ≡ stopped
unfolding read_anchor after after_byte read_number number_got word_here number
anchor_stopped p = rw (block_hash_stopped p) refl

pub slot_stopped : (p : Page) → (read_slot p stopped).next ≡ stopped
unfolding read_slot map or_word word_text says same_text word_here
slot_stopped p = anchor_stopped p

pub failure_stopped : (read_failure stopped).next ≡ stopped
unfolding read_failure says same_text word_here word_text
failure_stopped = refl

pub skip_stopped : (read_skip stopped).next ≡ stopped
unfolding read_skip or_word word_text says same_text word_here after after_byte read_failure
skip_stopped = refl
