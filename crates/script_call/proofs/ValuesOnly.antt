-- Nothing else is read: where reading goes on after a value, that value's own text stood there, after one space, but for the case of hash
-- digits (`value_text/proofs/Only`).
use Prim.Native.Nat.{ℕ}
use mathlib.Core.List.{List, ◌++◌}
use Rattle.text.specs.Ascii.{ascii}
use Rattle.text.specs.Decimals.{decimal}
use Rattle.text.specs.Rests.{Rest}
use Rattle.hash_text.specs.Texts.{hash_text}
use Rattle.value_text.specs.Reads.{spaced_number}
use Rattle.value_text.specs.Texts.{anchor_text, slot_text, skip_text}
use Rattle.value_text.specs.declared.page.Page.{Page}
use Rattle.value_text.proofs.Only.{after_stood, anchor_stood, hash_stood, number_stood, skip_stood, slot_stood}
use Rattle.script_call.specs.Values.{spaced_hash, spaced_anchor, spaced_slot, spaced_skip}
use Rattle.script_call.proofs.ValuesBack.{At}

module _ {r : Rest} {t : List ℕ} where
  pub spaced_number_stood : At (spaced_number r).next t → At r (ascii " " ++ (decimal (spaced_number r).value ++ t))
  unfolding spaced_number
  spaced_number_stood k = after_stood Page.Line (ascii " ") (number_stood Page.Line k)

  pub spaced_hash_stood : At (spaced_hash r).next t → At r (ascii " " ++ (hash_text (spaced_hash r).value ++ t))
  unfolding spaced_hash
  spaced_hash_stood k = after_stood Page.Line (ascii " ") (hash_stood Page.Line k)

  pub spaced_anchor_stood : At (spaced_anchor r).next t → At r (ascii " " ++ (anchor_text (spaced_anchor r).value ++ t))
  unfolding spaced_anchor
  spaced_anchor_stood k = after_stood Page.Line (ascii " ") (anchor_stood Page.Line k)

  pub spaced_slot_stood : At (spaced_slot r).next t → At r (ascii " " ++ (slot_text (spaced_slot r).value ++ t))
  unfolding spaced_slot
  spaced_slot_stood k = after_stood Page.Line (ascii " ") (slot_stood Page.Line k)

  pub spaced_skip_stood : At (spaced_skip r).next t → At r (ascii " " ++ (skip_text (spaced_skip r).value ++ t))
  unfolding spaced_skip
  spaced_skip_stood k = after_stood Page.Line (ascii " ") (skip_stood Page.Line k)
