-- A value is read where its text stands, whatever follows that parts it from the next word.
use Prim.Native.Nat.{ℕ}
use native.Mathlib.Omega.{arith}
use mathlib.Core.Bool.{false}
use mathlib.Core.List.{List, ◌∷◌, ◌++◌, append_assoc}
use mathlib.Core.Path.{◌≡◌, refl, ap, ap₂, sym, ◌∙◌}
use lib.ListN.{length}
use Rattle.std.specs.Prelude.{Option, Some, None}
use Rattle.std.proofs.lemmas.List.Folds.{list_any-append}
use Rattle.hash.specs.Ranges.{HashFits, Fits}
use Rattle.hash.specs.declared.Hash.{Hash}
use Rattle.head_values.specs.Ranges.{BlockHashFits, AnchorFits, SlotFits, SkipFits}
use Rattle.head_values.specs.Values.{anchor_value, block_hash_value, skip_value, slot_value}
use Rattle.head_values.specs.declared.BalSkip.{BalSkip}
use Rattle.head_values.specs.declared.ReadAnchor.{ReadAnchor}
use Rattle.text.specs.Ascii.{ascii}
use Rattle.text.specs.Decimals.{decimal}
use Rattle.text.specs.Rests.{Rest, at, after_byte, after, read_number, says, word_here}
use Rattle.text.specs.Same.{same_text}
use Rattle.text.specs.Words.{in_word, run}
use Rattle.text.proofs.Back.{says_back, past_back, number_back}
use Rattle.text.proofs.Same.{same_short}
use Rattle.hash_text.specs.Texts.{hash_text}
use Rattle.hash_text.proofs.Cases.{NoHashIn, decimal_no_hash}
use Rattle.value_text.specs.Reads.{got, hash_got, or_word, map, then, read_hash, read_block_hash, read_anchor, read_slot, spaced_number, read_failure, read_skip}
use Rattle.value_text.specs.Texts.{block_hash_text, anchor_text, slot_text, skip_text}
use Rattle.value_text.specs.Values.{value_text}
use Rattle.value_text.specs.Words.{word_text}
use Rattle.value_text.specs.declared.page.Page.{Page}
use Rattle.value_text.proofs.Keywords.{open_miss, word_hit, word_miss}
use Rattle.value_text.proofs.Stands.{Gives, Stands, byte_back, gives, keyword_back, one_hash_back, read_back, stands}

-- ---- what holds on both pages

module _ (p : Page) where
  pub gives_number : (n : ℕ) {r : Rest} {t : List ℕ} → Fits n → run t ≡ 0 → Stands p r (decimal n ++ t) → Gives p (read_number r) n t
  gives_number n f z s = read_back p read_number (decimal n) n (decimal_no_hash n) (λ u w. number_back n u f w) z s

  pub gives_hash : (h : Hash) {r : Rest} {t : List ℕ} → HashFits h → run t ≡ 0 → Stands p r (hash_text h ++ t) → Gives p (read_hash p r) h t
  unfolding read_hash hash_got
  gives_hash h f z s = let g = one_hash_back p h f z s in record { value = rw g.said refl; next = rw g.said g.next }

  -- the word stands there, or one that is shorter or longer
  word_says : (k w : List ℕ) (r : Rest) → word_here r ≡ w → says k r ≡ same_text w k
  unfolding says
  word_says k w r e = ap (λ (v : List ℕ). same_text v k) e

  other_says : (k : List ℕ) (r : Rest) → (length (word_here r) ≡ length k → ⊥) → says k r ≡ false
  unfolding says
  other_says k r n = sym (same_short (word_here r) k n)

  pub gives_block_hash : (b : Option Hash) {r : Rest} {t : List ℕ} → BlockHashFits b → run t ≡ 0 → Stands p r (block_hash_text b ++ t)
      → Gives p (read_block_hash p r) b t
  unfolding read_block_hash or_word map block_hash_text block_hash_value value_text word_text run in_word same_text
  gives_block_hash None {r} f z s =
      let k = keyword_back p (ascii "none") refl refl z s in
      let e = word_says (ascii "none") (ascii "none") r k.here in
      record { value = rw e refl; next = rw e k.next }
  gives_block_hash (Some h) {r} f z s =
      let g = one_hash_back p h f z s in
      let e = other_says (ascii "none") r (λ q. omega (arith, g.long)) in
      let k = gives_hash h f z s in
      record { value = rw e (ap Some k.value); next = rw e k.next }

pub anchor_form : (a : ReadAnchor) → anchor_text a ≡ ascii "(" ++ (decimal a.number ++ (ascii " " ++ (block_hash_text a.hash ++ ascii ")")))
unfolding anchor_text anchor_value value_text block_hash_text
anchor_form a = refl

pub anchor_then : (a : ReadAnchor) (t : List ℕ)
    → anchor_text a ++ t ≡ ascii "(" ++ (decimal a.number ++ (ascii " " ++ (block_hash_text a.hash ++ (ascii ")" ++ t))))
anchor_then a t = rw (anchor_form a) (simp append_assoc)

module _ (p : Page) where
  pub gives_anchor : (a : ReadAnchor) {r : Rest} {t : List ℕ} → AnchorFits a → Stands p r (anchor_text a ++ t) → Gives p (read_anchor p r) a t
  unfolding read_anchor after run in_word
  gives_anchor a {r} {t} f s =
      let n = gives_number p a.number f.number refl (byte_back p 40 (λ q. omega arith) (rw (anchor_then a t) at s)) in
      let h = gives_block_hash p a.hash f.hash refl (byte_back p 32 (λ q. omega arith) n.next) in
      record {
        value = ap₂ (λ (x : ℕ) (y : Option Hash). record { number = x; hash = y }) n.value h.value;
        next = byte_back p 41 (λ q. omega arith) h.next;
      }

  pub gives_slot : (a : Option ReadAnchor) {r : Rest} {t : List ℕ} → SlotFits a → run t ≡ 0 → Stands p r (slot_text a ++ t) → Gives p (read_slot p r) a t
  unfolding read_slot or_word map slot_text slot_value value_text word_text anchor_text run in_word same_text
  gives_slot None {r} f z s =
      let k = keyword_back p (ascii "none") refl refl z s in
      let e = word_says p (ascii "none") (ascii "none") r k.here in
      record { value = rw e refl; next = rw e k.next }
  gives_slot (Some a) {r} {t} f z s =
      let k = keyword_back p (ascii "") refl refl refl (rw (anchor_then a t) at s) in
      let e = word_says p (ascii "none") (ascii "") r k.here in
      let g = gives_anchor a f s in
      record { value = rw e (ap Some g.value); next = rw e g.next }

-- ---- on a sheet, byte for byte

pub sheet_hash_back : (h : Hash) (t : List ℕ) → HashFits h → run t ≡ 0 → read_hash Page.Sheet (at (hash_text h ++ t)) ≡ got h (at t)
sheet_hash_back h t f z = gives (gives_hash Page.Sheet h f z (stands Page.Sheet refl))

pub sheet_anchor_back : (a : ReadAnchor) (t : List ℕ) → AnchorFits a → read_anchor Page.Sheet (at (anchor_text a ++ t)) ≡ got a (at t)
sheet_anchor_back a t f = gives (gives_anchor Page.Sheet a f (stands Page.Sheet refl))

pub sheet_slot_back : (s : Option ReadAnchor) (t : List ℕ) → SlotFits s → run t ≡ 0 → read_slot Page.Sheet (at (slot_text s ++ t)) ≡ got s (at t)
sheet_slot_back s t f z = gives (gives_slot Page.Sheet s f z (stands Page.Sheet refl))

-- ---- skips

pub spaced_number_back : (n : ℕ) (t : List ℕ) → Fits n → run t ≡ 0 → spaced_number (at (ascii " " ++ (decimal n ++ t))) ≡ got n (at t)
unfolding spaced_number after after_byte
spaced_number_back n t f z = number_back n t f z

module _ (n : ℕ) (t : List ℕ) (f : Fits n) where
  rpc_back : read_failure (at (ascii "rpc " ++ (decimal n ++ (ascii ")" ++ t)))) ≡ got (BalSkip.Rpc n) (at t)
  unfolding read_failure word_text then map run in_word same_text after after_byte
  rpc_back =
      let s = decimal n ++ (ascii ")" ++ t) in
      rw (says_back (ascii "rpc") (ascii " " ++ s) refl refl (ascii "rpc"), past_back (ascii "rpc") (ascii " " ++ s) refl refl, spaced_number_back n (ascii ")" ++ t) f refl)

  decode_back : read_failure (at (ascii "decode " ++ (decimal n ++ (ascii ")" ++ t)))) ≡ got (BalSkip.Decode n) (at t)
  unfolding read_failure word_text then map run in_word same_text after after_byte
  decode_back =
      let s = decimal n ++ (ascii ")" ++ t) in
      rw (says_back (ascii "decode") (ascii " " ++ s) refl refl (ascii "rpc"), says_back (ascii "decode") (ascii " " ++ s) refl refl (ascii "decode"), past_back (ascii "decode") (ascii " " ++ s) refl refl, spaced_number_back n (ascii ")" ++ t) f refl)

-- a bracket is no word
failed : (s : List ℕ) → read_skip (at (40 ∷ s)) ≡ read_failure (at s)
unfolding read_skip word_text after after_byte
failed s = open_miss _ _ _ _ s ∙ open_miss _ _ _ _ s

pub skip_back : (x : BalSkip) (t : List ℕ) → SkipFits x → run t ≡ 0 → read_skip (at (skip_text x ++ t)) ≡ got x (at t)
unfolding read_skip skip_text skip_value value_text word_text same_text run in_word
skip_back BalSkip.Nothing t f z = word_hit _ _ t z (ascii "none") refl
skip_back BalSkip.NoHash t f z = word_miss _ _ t z (ascii "none") (ascii "no-hash") refl refl ∙ word_hit _ _ t z (ascii "no-hash") refl
skip_back (BalSkip.Rpc n) t f z = simp (failed, append_assoc, rpc_back n t f)
skip_back (BalSkip.Decode n) t f z = simp (failed, append_assoc, decode_back n t f)

skip_no_hash : (x : BalSkip) → NoHashIn (skip_text x)
unfolding skip_text skip_value value_text word_text
skip_no_hash BalSkip.Nothing = refl
skip_no_hash BalSkip.NoHash = refl
skip_no_hash (BalSkip.Rpc n) = simp (list_any-append, decimal_no_hash)
skip_no_hash (BalSkip.Decode n) = simp (list_any-append, decimal_no_hash)

pub gives_skip : (p : Page) (x : BalSkip) {r : Rest} {t : List ℕ} → SkipFits x → run t ≡ 0 → Stands p r (skip_text x ++ t) → Gives p (read_skip r) x t
gives_skip p x f z s = read_back p read_skip (skip_text x) x (skip_no_hash x) (λ u w. skip_back x u f w) z s
