-- Each value of a call, after one space, is read where its own text stands but for the case of hash digits.
use Prim.Native.Nat.{ℕ}
use native.Mathlib.Omega.{arith}
use mathlib.Core.List.{List, ◌++◌}
use mathlib.Core.Path.{◌≡◌}
use Rattle.std.specs.Prelude.{Option}
use Rattle.hash.specs.Ranges.{Fits, HashFits}
use Rattle.hash.specs.declared.Hash.{Hash}
use Rattle.head_values.specs.Ranges.{AnchorFits, SlotFits, SkipFits}
use Rattle.head_values.specs.declared.BalSkip.{BalSkip}
use Rattle.head_values.specs.declared.ReadAnchor.{ReadAnchor}
use Rattle.text.specs.Ascii.{ascii}
use Rattle.text.specs.Decimals.{decimal}
use Rattle.text.specs.Rests.{Rest, after}
use Rattle.text.specs.Words.{run}
use Rattle.hash_text.specs.Texts.{hash_text}
use Rattle.value_text.specs.Reads.{spaced_number}
use Rattle.value_text.specs.Texts.{anchor_text, slot_text, skip_text}
use Rattle.value_text.specs.declared.page.Page.{Page}
use Rattle.value_text.proofs.Back.{gives_anchor, gives_hash, gives_number, gives_skip, gives_slot}
use Rattle.value_text.proofs.Stands.{Gives, Stands, byte_back}
use Rattle.script_call.specs.Values.{spaced_hash, spaced_anchor, spaced_slot, spaced_skip}

-- a line is at the text t, but for the case of hash digits
abbrev pub At : Rest → List ℕ → Type 0
At r t = Stands Page.Line r t

-- after the space
spaced : {r : Rest} (s : List ℕ) → At r (ascii " " ++ s) → At (after (ascii " ") r) s
unfolding after
spaced s k = byte_back Page.Line 32 (λ q. omega arith) k

module _ {r : Rest} {t : List ℕ} where
  pub number_given : (n : ℕ) → Fits n → run t ≡ 0 → At r (ascii " " ++ (decimal n ++ t)) → Gives Page.Line (spaced_number r) n t
  unfolding spaced_number
  number_given n f z k = gives_number Page.Line n f z (spaced _ k)

  pub hash_given : (h : Hash) → HashFits h → run t ≡ 0 → At r (ascii " " ++ (hash_text h ++ t)) → Gives Page.Line (spaced_hash r) h t
  unfolding spaced_hash
  hash_given h f z k = gives_hash Page.Line h f z (spaced _ k)

  pub anchor_given : (a : ReadAnchor) → AnchorFits a → At r (ascii " " ++ (anchor_text a ++ t)) → Gives Page.Line (spaced_anchor r) a t
  unfolding spaced_anchor
  anchor_given a f k = gives_anchor Page.Line a f (spaced _ k)

  pub slot_given : (s : Option ReadAnchor) → SlotFits s → run t ≡ 0 → At r (ascii " " ++ (slot_text s ++ t)) → Gives Page.Line (spaced_slot r) s t
  unfolding spaced_slot
  slot_given s f z k = gives_slot Page.Line s f z (spaced _ k)

  pub skip_given : (x : BalSkip) → SkipFits x → run t ≡ 0 → At r (ascii " " ++ (skip_text x ++ t)) → Gives Page.Line (spaced_skip r) x t
  unfolding spaced_skip
  skip_given x f z k = gives_skip Page.Line x f z (spaced _ k)
