-- Document 01, "Lines": decimal without leading zeros, and no number above 2^64 - 1.
use Rattle.std.specs.Prelude.{ℕ, zero, suc, ◌+◌, ◌-◌, ◌*◌, ◌/◌, ◌%◌, ◌^◌, List, [], ◌∷◌, ltb, leb, Option, Some, None, cond}
use Rattle.text.specs.Digits.{read_on}

-- ---- how a number is written

-- the decimal digits of n, at most k of them, in front of s
unfoldable pub decimal_on : ℕ → ℕ → List ℕ → List ℕ
decimal_on zero n s = s
decimal_on (suc k) n s = cond (ltb n 10) ((48 + n) ∷ s) (decimal_on k (n / 10) ((48 + n % 10) ∷ s))

-- the decimal digits of a number below 10^20, and so of each below 2^64
unfoldable pub decimal : ℕ → List ℕ
decimal n = decimal_on 20 n []

-- ---- what a word says

-- what a first digit says
unfoldable pub digit : ℕ → Option ℕ
digit b = cond (leb 48 b) (cond (leb b 57) (Some (b - 48)) None) None

-- A byte after the number n. It is refused where it is no digit, where n is 0, since that 0 would lead, and where the number would pass 2^64 - 1.
unfoldable pub more : Option ℕ → ℕ → Option ℕ
more (Some n) b =
    cond (leb 48 b)
    (cond (leb b 57)
    (cond (ltb 0 n)
    (cond (ltb (n * 10 + (b - 48)) (2 ^ 64))
    (Some (n * 10 + (b - 48)))
    None)
    None)
    None)
    None
more None b = None

-- the number that a word says
unfoldable pub number : List ℕ → Option ℕ
number [] = None
number (b ∷ s) = read_on more (digit b) s
