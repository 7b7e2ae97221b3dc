-- The line of every call is made of bytes, and none of them is a line feed.
use Rattle.std.proofs.lemmas.Bool.{cond_both, and_parts}
use Rattle.std.specs.Prelude.{Option, None, Some, ◌&&◌}
use Prim.Native.Nat.{ℕ, zero, suc, ◌+◌, ◌<◌, ◌≤◌, ◌/◌, ◌%◌}
use native.Mathlib.Omega.{arith}
use mathlib.Core.Bool.{Bool, true}
use mathlib.Core.List.{List, [], ◌∷◌, ◌++◌}
use mathlib.Core.Path.{◌≡◌, refl}
use lib.Dec.{leb, ltb}
use borrow.Author.Tests.{leb-true, ltb-true}
use Rattle.head_values.specs.Values.{anchor_value, block_hash_value, skip_value, slot_value}
use Rattle.value_text.specs.Texts.{anchor_text, block_hash_text, skip_text, slot_text}
use Rattle.value_text.specs.Values.{value_text}
use Rattle.value_text.specs.Words.{word_text}
use Rattle.hash_text.specs.Hex.{glyph, hex, hex_on, hex_text}
use Rattle.hash_text.specs.Texts.{hash_prefix, hash_text}
use Rattle.script_call.specs.Texts.{call_text}
use Rattle.text.specs.Ascii.{ascii}
use Rattle.text.specs.Decimals.{decimal, decimal_on}
use Rattle.hash.specs.declared.Hash.{Hash}
use Rattle.head_values.specs.declared.BalSkip.{BalSkip}
use Rattle.head_values.specs.declared.ReadAnchor.{ReadAnchor}
use Rattle.head_call.specs.declared.Call.{Call}
use Rattle.rules.specs.Runs.{Bytes, OneLine}

-- a space or above, and of seven bits
abbrev Plain : ℕ → Type 0
Plain b = (32 ≤ b) × (b < 128)

unfoldable AllPlain : List ℕ → Type 0
AllPlain [] = Unit {0}
AllPlain (b ∷ s) = Plain b × AllPlain s

plain_bytes : (s : List ℕ) → AllPlain s → Bytes s
unfolding AllPlain Bytes
plain_bytes [] f = tt
plain_bytes (b ∷ s) f = let h = f.0.1 in (omega arith, plain_bytes s f.1)

plain_one_line : (s : List ℕ) → AllPlain s → OneLine s
unfolding AllPlain OneLine
plain_one_line [] f = tt
plain_one_line (b ∷ s) f = let h = f.0.0 in (λ e. omega arith, plain_one_line s f.1)

-- ---- parts

plain_then : (s t : List ℕ) → AllPlain s → AllPlain t → AllPlain (s ++ t)
unfolding AllPlain
plain_then [] t f g = g
plain_then (b ∷ s) t f g = (f.0, plain_then s t f.1 g)

-- a quoted text, by a test
unfoldable plain_test : List ℕ → Bool
plain_test [] = true
plain_test (b ∷ s) = (leb 32 b && ltb b 128) && plain_test s

quoted : (s : List ℕ) → plain_test s ≡ true → AllPlain s
unfolding plain_test AllPlain
quoted [] e = tt
quoted (b ∷ s) e =
    let here = (and_parts (leb 32 b && ltb b 128) (plain_test s) e).0 in
    ((leb-true 32 b ((and_parts (leb 32 b) (ltb b 128) here).0), ltb-true b 128 ((and_parts (leb 32 b) (ltb b 128) here).1)), quoted s ((and_parts (leb 32 b && ltb b 128) (plain_test s) e).1))

decimal_on_plain : (k n : ℕ) (s : List ℕ) → AllPlain s → AllPlain (decimal_on k n s)
unfolding decimal_on AllPlain
decimal_on_plain zero n s f = f
decimal_on_plain (suc k) n s f =
    cond_both (ltb n 10) _ _ AllPlain
    (λ e. let h = ltb-true n 10 e in ((omega arith, omega arith), f))
    (λ e. decimal_on_plain k (n / 10) ((48 + n % 10) ∷ s) ((omega arith, omega arith), f))

decimal_plain : (n : ℕ) → AllPlain (decimal n)
unfolding decimal AllPlain
decimal_plain n = decimal_on_plain 20 n [] tt

glyph_plain : (d : ℕ) → d < 16 → Plain (glyph d)
unfolding glyph
glyph_plain d h = cond_both (ltb d 10) _ _ Plain (λ e. let g = ltb-true d 10 e in (omega arith, omega arith)) (λ e. (omega arith, omega arith))

hex_on_plain : (k n : ℕ) (s : List ℕ) → AllPlain s → AllPlain (hex_on k n s)
unfolding hex_on AllPlain
hex_on_plain zero n s f = f
hex_on_plain (suc k) n s f = hex_on_plain k (n / 16) (glyph (n % 16) ∷ s) (glyph_plain (n % 16) (omega arith), f)

hex_plain : (n : ℕ) → AllPlain (hex n)
unfolding hex AllPlain
hex_plain n = hex_on_plain 16 n [] tt

hash_plain : (h : Hash) → AllPlain (hash_text h)
unfolding hash_text hash_prefix hex_text plain_test
hash_plain h = plain_then hash_prefix _ (quoted hash_prefix refl) (plain_then _ _ (hex_plain h.w0) (plain_then _ _ (hex_plain h.w1) (plain_then _ _ (hex_plain h.w2) (hex_plain h.w3))))

-- ---- values

block_hash_plain : (h : Option Hash) → AllPlain (block_hash_text h)
unfolding block_hash_text value_text word_text hash_text block_hash_value plain_test
block_hash_plain None = quoted (ascii "none") refl
block_hash_plain (Some h) = hash_plain h

-- a text and then a quoted text, or the other way round
ends : (s : List ℕ) → AllPlain s → AllPlain (s ++ ascii ")")
unfolding plain_test
ends s f = plain_then s (ascii ")") f (quoted (ascii ")") refl)

spaced : (s : List ℕ) → AllPlain s → AllPlain (ascii " " ++ s)
unfolding plain_test
spaced s f = plain_then (ascii " ") s (quoted (ascii " ") refl) f

anchor_plain : (a : ReadAnchor) → AllPlain (anchor_text a)
unfolding anchor_text value_text anchor_value block_hash_text plain_test
anchor_plain a = plain_then (ascii "(") _ (quoted (ascii "(") refl) (plain_then _ _ (decimal_plain a.number) (spaced _ (ends _ (block_hash_plain a.hash))))

slot_plain : (s : Option ReadAnchor) → AllPlain (slot_text s)
unfolding slot_text value_text word_text slot_value anchor_text plain_test
slot_plain None = quoted (ascii "none") refl
slot_plain (Some a) = anchor_plain a

skip_plain : (x : BalSkip) → AllPlain (skip_text x)
unfolding skip_text value_text word_text skip_value plain_test
skip_plain BalSkip.Nothing = quoted (ascii "none") refl
skip_plain BalSkip.NoHash = quoted (ascii "no-hash") refl
skip_plain (BalSkip.Rpc n) = plain_then (ascii "(rpc ") _ (quoted (ascii "(rpc ") refl) (ends _ (decimal_plain n))
skip_plain (BalSkip.Decode n) = plain_then (ascii "(decode ") _ (quoted (ascii "(decode ") refl) (ends _ (decimal_plain n))

-- ---- lines

-- a value, and what follows after a space
next : (s t : List ℕ) → AllPlain s → AllPlain t → AllPlain (s ++ (ascii " " ++ t))
next s t f g = plain_then s (ascii " " ++ t) f (spaced t g)

call_plain : (c : Call) → AllPlain (call_text c)
unfolding call_text plain_test
call_plain (Call.Deliver a p h) = plain_then (ascii "(deliver ") _ (quoted (ascii "(deliver ") refl) (next _ _ (anchor_plain a) (next _ _ (hash_plain p) (ends _ (decimal_plain h))))
call_plain (Call.Claim ticket) = plain_then (ascii "(claim ") _ (quoted (ascii "(claim ") refl) (next _ _ (anchor_plain ticket.anchor) (ends _ (decimal_plain ticket.seq.0)))
call_plain (Call.Release owner) = plain_then (ascii "(release ") _ (quoted (ascii "(release ") refl) (next _ _ (decimal_plain owner.seq.0) (ends _ (decimal_plain owner.epoch.0)))
call_plain (Call.Apply ticket list h c report) =
    plain_then (ascii "(apply ") _ (quoted (ascii "(apply ") refl)
    (next _ _ (anchor_plain ticket.anchor)
    (next _ _ (decimal_plain ticket.seq.0)
    (next _ _ (anchor_plain list.anchor)
    (next _ _ (skip_plain list.skip)
    (next _ _ (decimal_plain h)
    (next _ _ (decimal_plain c)
    (ends _ (decimal_plain report))))))))
call_plain (Call.Snapshot a h) = plain_then (ascii "(snapshot ") _ (quoted (ascii "(snapshot ") refl) (next _ _ (anchor_plain a) (ends _ (decimal_plain h)))
call_plain (Call.Wait n a h) = plain_then (ascii "(wait ") _ (quoted (ascii "(wait ") refl) (next _ _ (decimal_plain n) (next _ _ (anchor_plain a) (ends _ (decimal_plain h))))
call_plain (Call.Resume n h) = plain_then (ascii "(resume ") _ (quoted (ascii "(resume ") refl) (next _ _ (decimal_plain n) (ends _ (decimal_plain h)))
call_plain (Call.Completion a) = plain_then (ascii "(completion ") _ (quoted (ascii "(completion ") refl) (ends _ (anchor_plain a))
call_plain (Call.Link parent a p) = plain_then (ascii "(link ") _ (quoted (ascii "(link ") refl) (next _ _ (slot_plain parent) (next _ _ (anchor_plain a) (ends _ (hash_plain p))))
call_plain Call.Report = quoted (ascii "(report)") refl
call_plain Call.Stats = quoted (ascii "(stats)") refl
call_plain Call.Heads = quoted (ascii "(heads)") refl

pub bytes_call : (c : Call) → Bytes (call_text c)
bytes_call c = plain_bytes (call_text c) (call_plain c)

pub one_line_call : (c : Call) → OneLine (call_text c)
one_line_call c = plain_one_line (call_text c) (call_plain c)
