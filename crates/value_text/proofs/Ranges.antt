-- What is read is below 2^64, whatever the text.
use Prim.Native.Nat.{ℕ}
use native.Mathlib.Omega.{arith}
use mathlib.Core.Path.{◌≡◌, refl}
use mathlib.Core.Bool.{Bool, true, false}
use mathlib.Core.List.{List}
use Rattle.std.specs.Prelude.{Option, Some, None, cond}
use Rattle.hash.specs.Ranges.{HashFits, Fits}
use Rattle.hash.specs.declared.Hash.{Hash}
use Rattle.hash_text.proofs.Only.{line_hash_only, sheet_hash_only}
use Rattle.head_values.specs.Ranges.{BlockHashFits, AnchorFits, SlotFits, SkipFits}
use Rattle.head_values.specs.declared.BalSkip.{BalSkip}
use Rattle.head_values.specs.declared.ReadAnchor.{ReadAnchor}
use Rattle.text.specs.Ascii.{ascii}
use Rattle.text.specs.Rests.{Rest, Took, word_here, says, past_word}
use Rattle.text.proofs.Only.{number_range}
use Rattle.value_text.specs.Reads.{or_word, map, then, hash_got, hash_said, read_hash, read_block_hash, read_anchor, read_slot, spaced_number, read_failure, read_skip}
use Rattle.value_text.specs.Words.{word_text}
use Rattle.value_text.specs.declared.page.Page.{Page}

-- what holds of both sides of a choice holds of what is chosen
pub chosen : {A : Type 0} (P : A → Type 0) (b : Bool) (x y : A) → P x → P y → P (cond b x y)
chosen P true x y p q = p
chosen P false x y p q = q

-- ---- hashes and anchors

said_range : (p : Page) (w : List ℕ) (h : Hash) → hash_said p w ≡ Some h → HashFits h
unfolding hash_said
said_range Page.Line w h e = (line_hash_only w h e).1
said_range Page.Sheet w h e = (sheet_hash_only w h e).1

got_range : (m : Option Hash) (r : Rest) → ((h : Hash) → m ≡ Some h → HashFits h) → HashFits (hash_got m r).value
unfolding hash_got
got_range (Some h) r f = f h refl
got_range None r f = record { w0 = omega arith; w1 = omega arith; w2 = omega arith; w3 = omega arith }

pub hash_range : (p : Page) (r : Rest) → HashFits (read_hash p r).value
unfolding read_hash
hash_range p r = got_range (hash_said p (word_here r)) (past_word r) (λ h e. said_range p (word_here r) h e)

pub block_hash_range : (p : Page) (r : Rest) → BlockHashFits (read_block_hash p r).value
unfolding read_block_hash or_word map word_text
block_hash_range p r = chosen (λ (k : Took (Option Hash)). BlockHashFits k.value) (says (ascii "none") r) _ _ tt (hash_range p r)

pub anchor_range : (p : Page) (r : Rest) → AnchorFits (read_anchor p r).value
unfolding read_anchor
anchor_range p r = record { number = number_range _; hash = block_hash_range p _ }

pub slot_range : (p : Page) (r : Rest) → SlotFits (read_slot p r).value
unfolding read_slot or_word word_text map
slot_range p r = chosen (λ (k : Took (Option ReadAnchor)). SlotFits k.value) (says (ascii "none") r) _ _ tt (anchor_range p r)

-- ---- skips

pub spaced_number_range : (r : Rest) → Fits (spaced_number r).value
unfolding spaced_number
spaced_number_range r = number_range _

failure_range : (r : Rest) → SkipFits (read_failure r).value
unfolding read_failure then map word_text
failure_range r =
    let P : Took BalSkip → Type 0 = λ k. SkipFits k.value in
    chosen P (says (ascii "rpc") r) _ _ (spaced_number_range _) (chosen P (says (ascii "decode") r) _ _ (spaced_number_range _) tt)

pub skip_range : (r : Rest) → SkipFits (read_skip r).value
unfolding read_skip or_word word_text
skip_range r =
    let P : Took BalSkip → Type 0 = λ k. SkipFits k.value in
    chosen P (says (ascii "none") r) _ _ tt (chosen P (says (ascii "no-hash") r) _ _ tt (failure_range _))
