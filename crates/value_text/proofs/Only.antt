-- Nothing else is read: where reading goes on after a value, that value's own text stood there, on a line but for the case of hash digits.
use Prim.Native.Nat.{ℕ, suc, ◌≤◌}
use native.Mathlib.Omega.{arith}
use mathlib.Core.Path.{◌≡◌, refl, sym, ap, ◌∙◌}
use mathlib.Core.Bool.{Bool, true, false}
use mathlib.Core.List.{List, [], ◌∷◌, ◌++◌, append_assoc}
use lib.ListN.{length, take, drop, length-take, take-append-drop}
use lib.Dec.{eqb, leb}
use borrow.Author.Tests.{eqb-true}
use Rattle.std.specs.Prelude.{Option, Some, None, cond}
use Rattle.hash.specs.declared.Hash.{Hash}
use Rattle.head_values.specs.Values.{block_hash_value, skip_value, slot_value}
use Rattle.text.specs.Ascii.{ascii}
use Rattle.text.specs.Words.{in_word, run, word}
use Rattle.text.specs.Decimals.{decimal, number}
use Rattle.text.specs.Rests.{Rest, at, stopped, Took, after_byte, after, word_here, says, past, past_word, number_got, read_number}
use Rattle.text.proofs.Only.{number_only}
use Rattle.text.proofs.Same.{same_eq}
use Rattle.hash_text.specs.Texts.{hash_text}
use Rattle.value_text.specs.Reads.{or_word, map, then, hash_got, hash_said, read_hash, read_block_hash, read_anchor, read_slot, spaced_number, read_failure, read_skip}
use Rattle.value_text.specs.Texts.{block_hash_text, anchor_text, slot_text, skip_text}
use Rattle.value_text.proofs.Back.{anchor_then}
use Rattle.value_text.proofs.Stands.{Stands, exactly, stands, stood, word_stood}
use Rattle.value_text.specs.Values.{value_text}
use Rattle.value_text.specs.Words.{word_text}
use Rattle.value_text.specs.declared.page.Page.{Page}

-- ---- given texts

byte_only : (b : ℕ) (r : Rest) (t : List ℕ) → after_byte b r ≡ at t → r ≡ at (b ∷ t)
unfolding after_byte
byte_only b stopped t e = cc
byte_only b (at []) t e = cc
byte_only b (at (c ∷ s)) t e = go (eqb c b) refl e
  where
    go : (x : Bool) → eqb c b ≡ x → cond x (at s) stopped ≡ at t → at (c ∷ s) ≡ at (b ∷ t)
    go true f g = let z : s ≡ t = cc in rw (eqb-true c b f, z)
    go false f g = cc

pub after_only : (k : List ℕ) (r : Rest) (t : List ℕ) → after k r ≡ at t → r ≡ at (k ++ t)
unfolding after
after_only [] r t e = e
after_only (b ∷ k) r t e = byte_only b r (k ++ t) (after_only k (after_byte b r) t e)

-- ---- words

run_within : (s : List ℕ) → run s ≤ length s
unfolding run
run_within [] = omega arith
run_within (b ∷ s) = go (in_word b) (run_within s)
  where
    go : (x : Bool) → run s ≤ length s → cond x (suc (run s)) 0 ≤ suc (length s)
    go true h = omega arith
    go false h = omega arith

pub past_only : (r : Rest) (t : List ℕ) → past_word r ≡ at t → r ≡ at (word_here r ++ t)
unfolding past_word past word_here word
past_only stopped t e = cc
past_only (at s) t e = go (leb (length (take (run s) s)) (length s)) e
  where
    go : (x : Bool) → cond x (at (drop (length (take (run s) s)) s)) stopped ≡ at t → at s ≡ at (take (run s) s ++ t)
    go true f =
        let n : length (take (run s) s) ≡ run s = length-take (run s) s ∙ omega (arith, run_within s) in
        let z : drop (run s) s ≡ t = cc (rw n at f) in
        ap at (sym (take-append-drop (run s) s) ∙ rw z)
    go false f = cc

-- a keyword that was passed
pub says_only : (k : List ℕ) (r : Rest) (t : List ℕ) → says k r ≡ true → past_word r ≡ at t → r ≡ at (k ++ t)
unfolding says
says_only k r t e f = rw (same_eq (word_here r) k e) at (past_only r t f)

-- ---- numbers

pub number_read : (r : Rest) (t : List ℕ) → (read_number r).next ≡ at t → r ≡ at (decimal (read_number r).value ++ t)
unfolding read_number number_got
number_read r t e = go (number (word_here r)) refl e
  where
    go : (m : Option ℕ) → number (word_here r) ≡ m → (number_got m (past_word r)).next ≡ at t
        → r ≡ at (decimal (number_got m (past_word r)).value ++ t)
    go (Some n) f g = rw (number_only (word_here r) n f).0 at (past_only r t g)
    go None f g = cc

-- ---- a choice by a keyword

module _ {A : Type 0} (text : A → List ℕ) (r : Rest) (t : List ℕ) where
  -- what was taken has its text there
  abbrev pub Stood : Took A → Type 0
  Stood k = k.next ≡ at t → r ≡ at (text k.value ++ t)

  pub chosen_only : (b : Bool) (x y : Took A) → (b ≡ true → Stood x) → Stood y → Stood (cond b x y)
  chosen_only true x y f g = f refl
  chosen_only false x y f g = g

-- ---- what holds on both pages

module _ (p : Page) where
  pub after_stood : (k : List ℕ) {r : Rest} {t : List ℕ} → Stands p (after k r) t → Stands p r (k ++ t)
  after_stood k {r} s = stood p k (after_only k r) s

  pub number_stood : {r : Rest} {t : List ℕ} → Stands p (read_number r).next t → Stands p r (decimal (read_number r).value ++ t)
  number_stood {r} s = stood p (decimal (read_number r).value) (number_read r) s

  pub hash_stood : {r : Rest} {t : List ℕ} → Stands p (read_hash p r).next t → Stands p r (hash_text (read_hash p r).value ++ t)
  unfolding read_hash hash_got
  hash_stood {r} {t} s = go (hash_said p (word_here r)) refl s
    where
      go : (m : Option Hash) → hash_said p (word_here r) ≡ m → Stands p (hash_got m (past_word r)).next t → Stands p r (hash_text (hash_got m (past_word r)).value ++ t)
      go (Some h) f k = word_stood p (word_here r) h f (past_only r) k
      go None f k = cc k.is

  module _ {A : Type 0} (text : A → List ℕ) {r : Rest} {t : List ℕ} where
    -- a choice by a keyword
    chosen_stood : (b : Bool) (x y : Took A)
        → (b ≡ true → Stands p x.next t → Stands p r (text x.value ++ t))
        → (Stands p y.next t → Stands p r (text y.value ++ t))
        → Stands p (cond b x y).next t → Stands p r (text (cond b x y).value ++ t)
    chosen_stood true x y f g = f refl
    chosen_stood false x y f g = g

  pub block_hash_stood : {r : Rest} {t : List ℕ} → Stands p (read_block_hash p r).next t → Stands p r (block_hash_text (read_block_hash p r).value ++ t)
  unfolding read_block_hash or_word map block_hash_text value_text word_text block_hash_value
  block_hash_stood {r} =
      chosen_stood block_hash_text (says (ascii "none") r) _ _
      (λ f s. stood p (ascii "none") (λ u e. says_only (ascii "none") r u f e) s)
      hash_stood

  pub anchor_stood : {r : Rest} {t : List ℕ} → Stands p (read_anchor p r).next t → Stands p r (anchor_text (read_anchor p r).value ++ t)
  unfolding read_anchor
  anchor_stood {r} {t} s =
      rw (anchor_then (read_anchor p r).value t)
      (after_stood (ascii "(") (number_stood (after_stood (ascii " ") (block_hash_stood (after_stood (ascii ")") s)))))

  pub slot_stood : {r : Rest} {t : List ℕ} → Stands p (read_slot p r).next t → Stands p r (slot_text (read_slot p r).value ++ t)
  unfolding read_slot or_word map slot_text value_text word_text slot_value anchor_text
  slot_stood {r} =
      chosen_stood slot_text (says (ascii "none") r) _ _
      (λ f s. stood p (ascii "none") (λ u e. says_only (ascii "none") r u f e) s)
      anchor_stood

-- ---- on a sheet, byte for byte

pub sheet_hash_read : (r : Rest) (t : List ℕ) → (read_hash Page.Sheet r).next ≡ at t → r ≡ at (hash_text (read_hash Page.Sheet r).value ++ t)
sheet_hash_read r t e = exactly (hash_stood Page.Sheet (stands Page.Sheet e))

pub sheet_anchor_read : (r : Rest) (t : List ℕ) → (read_anchor Page.Sheet r).next ≡ at t → r ≡ at (anchor_text (read_anchor Page.Sheet r).value ++ t)
sheet_anchor_read r t e = exactly (anchor_stood Page.Sheet (stands Page.Sheet e))

pub sheet_slot_read : (r : Rest) (t : List ℕ) → (read_slot Page.Sheet r).next ≡ at t → r ≡ at (slot_text (read_slot Page.Sheet r).value ++ t)
sheet_slot_read r t e = exactly (slot_stood Page.Sheet (stands Page.Sheet e))

-- ---- skips

pub spaced_number_only : (r : Rest) (t : List ℕ) → (spaced_number r).next ≡ at t
    → r ≡ at (ascii " " ++ (decimal (spaced_number r).value ++ t))
unfolding spaced_number
spaced_number_only r t e = after_only (ascii " ") r _ (number_read _ t e)

failure_read : (r : Rest) (t : List ℕ)
    → (read_failure (after (ascii "(") r)).next ≡ at t → r ≡ at (skip_text (read_failure (after (ascii "(") r)).value ++ t)
unfolding read_failure then map skip_text value_text word_text skip_value
failure_read r t =
    let s = after (ascii "(") r in
    chosen_only skip_text r t (says (ascii "rpc") s) _ _
    (λ f g. after_only (ascii "(") r _ (says_only (ascii "rpc") s _ f (spaced_number_only _ _ (after_only (ascii ")") _ t g)))
    ∙ simp append_assoc)
    (chosen_only skip_text r t (says (ascii "decode") s) _ _
    (λ f g. after_only (ascii "(") r _ (says_only (ascii "decode") s _ f (spaced_number_only _ _ (after_only (ascii ")") _ t g)))
    ∙ simp append_assoc)
    (λ g. cc))

pub skip_read : (r : Rest) (t : List ℕ) → (read_skip r).next ≡ at t → r ≡ at (skip_text (read_skip r).value ++ t)
unfolding read_skip or_word skip_text value_text word_text skip_value
skip_read r t =
    chosen_only skip_text r t (says (ascii "none") r) _ _
    (λ f g. says_only (ascii "none") r t f g)
    (chosen_only skip_text r t (says (ascii "no-hash") r) _ _
    (λ f g. says_only (ascii "no-hash") r t f g)
    (failure_read r t))

pub skip_stood : (p : Page) {r : Rest} {t : List ℕ} → Stands p (read_skip r).next t → Stands p r (skip_text (read_skip r).value ++ t)
skip_stood p {r} s = stood p (skip_text (read_skip r).value) (skip_read r) s
