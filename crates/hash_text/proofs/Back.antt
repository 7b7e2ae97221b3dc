-- What is written is read back, on a line with digits of either case; so no two hashes have one text.
use Prim.Native.Nat.{ℕ, suc, ◌+◌, ◌-◌}
use native.Mathlib.Omega.{arith}
use native.Mathlib.Decide.{dec_lt}
use mathlib.Core.Logic.{by_cases}
use mathlib.Core.Path.{◌≡◌, refl, ap, sym, ◌∙◌}
use mathlib.Core.Bool.{true}
use mathlib.Core.List.{List, [], ◌∷◌, ◌++◌, map}
use lib.ListN.{length, take, drop, length-map}
use Rattle.std.specs.Char.{to_ascii_lowercase}
use Rattle.std.specs.List.{drop-map, starts_with, take-map}
use lib.Dec.{eqb}
use lib.Seq.{drop-append_seam}
use Rattle.std.specs.Prelude.{Option, Some, None}
use Rattle.hash.specs.Ranges.{HashFits}
use Rattle.hash.specs.declared.Hash.{Hash}
use Rattle.text.specs.Digits.{read_on}
use Rattle.text.specs.Words.{in_word, run}
use Rattle.text.proofs.Words.{in_word_above, run_both}
use Rattle.hash_text.specs.Hex.{digit_value, hex_hash, hex_more, hex_number, hex_text, join_digit}
use Rattle.hash_text.specs.LineHashes.{line_hash}
use Rattle.hash_text.specs.SheetHashes.{sheet_hash}
use Rattle.hash_text.specs.Texts.{hash_prefix, hash_text}
use Rattle.hash_text.proofs.HexRead.{length-hex_text, none_above, none_before_small, read-hex_text, run-hex_text, value_capital, value_small}
use Rattle.hash_text.specs.Cases.{Cased}
use Rattle.hash_text.specs.Statements.{LineHashExactly, SheetHashExactly}
use Rattle.hash_text.proofs.Capitals.{by_case, hash_no_capital, hex_lowercase}
use Rattle.hash_text.proofs.Only.{line_hash_only, sheet_hash_only}

-- ---- a hash's text is one word of 66 bytes

pub length_hash : (h : Hash) → length (hash_text h) ≡ 66
unfolding hash_text hash_prefix
length_hash h = ap (λ (n : ℕ). suc (suc n)) (length-hex_text h)

pub run_hash : (h : Hash) → run (hash_text h) ≡ length (hash_text h)
unfolding hash_text hash_prefix run in_word
run_hash h = run_both hash_prefix (hex_text h) refl (run-hex_text h)

-- ---- digits of either case

-- a byte says what its lowercase says
pub value_lowercase : (b : ℕ) → digit_value (to_ascii_lowercase b) ≡ digit_value b
value_lowercase b =
    by_case (λ c. digit_value c ≡ digit_value b) b (λ h. refl)
    (λ p q.
    by_cases (dec_lt b 71)
    (λ h.
    sym (value_small (b + 32) (b - 65 + 10) (omega arith) (omega arith) (omega arith))
    ∙ value_capital b (b - 65 + 10) p (omega arith) refl)
    (λ h. sym (none_above (b + 32) (omega arith)) ∙ none_before_small b (omega arith) (omega arith)))
    (λ h. refl)

read_lowercase : (m : Option ℕ) (s : List ℕ) → read_on hex_more m (map to_ascii_lowercase s) ≡ read_on hex_more m s
unfolding read_on hex_more
read_lowercase m [] = refl
read_lowercase None (b ∷ s) = read_lowercase None s
read_lowercase (Some n) (b ∷ s) =
    ap (λ (v : Option ℕ). read_on hex_more (join_digit n v) (map to_ascii_lowercase s)) (value_lowercase b)
    ∙ read_lowercase (join_digit n (digit_value b)) s

number_lowercase : (i : ℕ) (s : List ℕ) → hex_number (take 16 (drop i (map to_ascii_lowercase s))) ≡ hex_number (take 16 (drop i s))
unfolding hex_number
number_lowercase i s =
    rw (drop-map to_ascii_lowercase i s, take-map to_ascii_lowercase 16 (drop i s)) (read_lowercase (Some 0) (take 16 (drop i s)))

hash_lowercase : (s : List ℕ) → hex_hash (map to_ascii_lowercase s) ≡ hex_hash s
unfolding hex_hash
hash_lowercase s =
    rw (length-map s to_ascii_lowercase, number_lowercase 0 s, number_lowercase 16 s, number_lowercase 32 s, number_lowercase 48 s) refl

-- the prefix is found where it stands
prefix_stands : (d : List ℕ) → starts_with eqb (hash_prefix ++ d) hash_prefix ≡ true
unfolding hash_prefix
prefix_stands d = refl

pub line_hash_said : (w : List ℕ) (h : Hash) → Cased w h → HashFits h → line_hash w ≡ Some h
unfolding line_hash
line_hash_said w h k f = rw (k.is, prefix_stands k.digits, drop-append_seam) (sym (hash_lowercase k.digits) ∙ rw k.same (read-hex_text h f))

-- ---- it is one word too

in_word_lowercase : (b : ℕ) → in_word (to_ascii_lowercase b) ≡ in_word b
in_word_lowercase b =
    by_case (λ c. in_word c ≡ in_word b) b (λ h. refl)
    (λ p q. in_word_above (b + 32) (omega arith) ∙ sym (in_word_above b (omega arith)))
    (λ h. refl)

run_lowercase : (s : List ℕ) → run (map to_ascii_lowercase s) ≡ run s
unfolding run
run_lowercase [] = refl
run_lowercase (b ∷ s) = rw (in_word_lowercase b, run_lowercase s) refl

pub length_digits : (w : List ℕ) (h : Hash) (k : Cased w h) → length k.digits ≡ 64
length_digits w h k = sym (length-map k.digits to_ascii_lowercase) ∙ ap length k.same ∙ length-hex_text h

pub run_cased : (w : List ℕ) (h : Hash) → Cased w h → run w ≡ length w
unfolding hash_prefix run in_word
run_cased w h k =
    let e : run k.digits ≡ length k.digits
    = sym (run_lowercase k.digits) ∙ rw k.same (run-hex_text h) ∙ ap length (sym k.same) ∙ length-map k.digits to_ascii_lowercase in
    rw k.is (run_both hash_prefix k.digits refl e)

pub length_cased : (w : List ℕ) (h : Hash) → Cased w h → length w ≡ 66
unfolding hash_prefix
length_cased w h k = ap length k.is ∙ ap (λ (n : ℕ). suc (suc n)) (length_digits w h k)

-- ---- a hash's own text

pub own_text : (h : Hash) → Cased (hash_text h) h
unfolding hash_text
own_text h = record { digits = hex_text h; is = refl; same = hex_lowercase h }

pub hash_injective : (g h : Hash) → HashFits g → HashFits h → hash_text g ≡ hash_text h → g ≡ h
hash_injective g h p q e = cc (line_hash_said (hash_text g) g (own_text g) p, line_hash_said (hash_text h) h (own_text h) q)

pub sheet_hash_said : (h : Hash) → HashFits h → sheet_hash (hash_text h) ≡ Some h
unfolding sheet_hash
sheet_hash_said h f = rw (hash_no_capital h) (line_hash_said (hash_text h) h (own_text h) f)

-- ---- exactly these words

pub line_hash_exactly : LineHashExactly
line_hash_exactly w h = (λ e. line_hash_only w h e, λ k. line_hash_said w h k.0 k.1)

pub sheet_hash_exactly : SheetHashExactly
sheet_hash_exactly w h = (λ e. sheet_hash_only w h e, λ k. rw k.0 (sheet_hash_said h k.1))

-- no word is none
pub no_line_word : line_hash [] ≡ None
unfolding line_hash hash_prefix
no_line_word = refl

pub no_sheet_word : sheet_hash [] ≡ None
unfolding sheet_hash
no_sheet_word = no_line_word
