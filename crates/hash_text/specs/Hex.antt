-- Hexadecimal digits, and hashes written in them: four 64-bit words, most significant byte first, sixteen digits each.
use Rattle.std.specs.Prelude.{ℕ, zero, suc, ◌+◌, ◌-◌, ◌*◌, ◌/◌, ◌%◌, ◌^◌, List, [], ◌∷◌, ◌++◌, length, take, drop, ltb, eqb, Option, Some, None, cond}
use Rattle.std.specs.Int.{is_in_range}
use Rattle.hash.specs.declared.Hash.{Hash}
use Rattle.text.specs.Digits.{read_on}

-- ---- how they are written

-- the digit of a number below 16: `0` to `9`, `a` to `f`
unfoldable pub glyph : ℕ → ℕ
glyph d = cond (ltb d 10) (48 + d) (97 + (d - 10))

-- the last k digits of n, in front of s
unfoldable pub hex_on : ℕ → ℕ → List ℕ → List ℕ
hex_on zero n s = s
hex_on (suc k) n s = hex_on k (n / 16) (glyph (n % 16) ∷ s)

unfoldable pub hex : ℕ → List ℕ
hex n = hex_on 16 n []

unfoldable pub hex_text : Hash → List ℕ
hex_text h = hex h.w0 ++ (hex h.w1 ++ (hex h.w2 ++ hex h.w3))

-- ---- what they say

-- what one byte says: `0` to `9`, `a` to `f`, `A` to `F`
unfoldable pub digit_value : ℕ → Option ℕ
digit_value b =
    cond (is_in_range 48 57 b) (Some (b - 48))
    (cond (is_in_range 97 102 b) (Some (b - 97 + 10))
    (cond (is_in_range 65 70 b) (Some (b - 65 + 10))
    None))

-- a digit after the number n; refused where the number would pass 2^64 - 1
unfoldable pub join_digit : ℕ → Option ℕ → Option ℕ
join_digit n (Some d) = cond (ltb n (2 ^ 60)) (Some (n * 16 + d)) None
join_digit n None = None

unfoldable pub hex_more : Option ℕ → ℕ → Option ℕ
hex_more (Some n) b = join_digit n (digit_value b)
hex_more None b = None

-- the number that a row of digits says
unfoldable pub hex_number : List ℕ → Option ℕ
hex_number s = read_on hex_more (Some 0) s

-- four 64-bit words make a hash
unfoldable pub joined : Option ℕ → Option ℕ → Option ℕ → Option ℕ → Option Hash
joined (Some a) (Some b) (Some c) (Some d) = Some (record { w0 = a; w1 = b; w2 = c; w3 = d })
joined (Some a) (Some b) (Some c) None = None
joined (Some a) (Some b) None d = None
joined (Some a) None c d = None
joined None b c d = None

-- the hash that 64 digits say
unfoldable pub hex_hash : List ℕ → Option Hash
hex_hash s =
    cond (eqb (length s) 64)
    (joined
    (hex_number (take 16 (drop 0 s)))
    (hex_number (take 16 (drop 16 s)))
    (hex_number (take 16 (drop 32 s)))
    (hex_number (take 16 (drop 48 s))))
    None
