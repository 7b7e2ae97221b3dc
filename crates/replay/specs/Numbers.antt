-- Document 02, Job 1: "Views from these two sources show it after the handle. The sheet shows it in the same place on both
-- lines. .. The match with the Rust leaves the field out." Which lines show a settle number, and where; and a text without its
-- settle numbers. A word is what stands between spaces, its brackets included.
use Rattle.std.specs.Prelude.{ℕ, zero, suc, ◌+◌, ◌-◌, List, [], ◌∷◌, ◌++◌, Option, Some, None, eqb, ltb, length, take, drop, cond, ◌||◌}
use Rattle.std.specs.List.{flat_map, position_or_len, starts_with}
use Rattle.std.specs.Option.{is_some}
use Rattle.text.specs.Ascii.{ascii}
use Rattle.text.specs.Decimals.{number}

-- ---- a line

-- how many words stand before the number: three in a view, four in a line of the sheet; any other line shows none
unfoldable pub words_before : List ℕ → Option ℕ
words_before line =
    cond (starts_with eqb line (ascii "(view installed ") || starts_with eqb line (ascii "(view previous ")) (Some 3)
    (cond (starts_with eqb line (ascii "(installed (") || starts_with eqb line (ascii "(previous (")) (Some 4)
    None)

-- how many bytes stand before the first such byte; all of them where there is none
abbrev pub bytes_before : ℕ → List ℕ → ℕ
bytes_before byte s = position_or_len (λ b. eqb b byte) s

-- how many bytes the first word is, with the space behind it; none where no space comes
unfoldable pub spaced_word : List ℕ → ℕ
spaced_word s = cond (ltb (bytes_before 32 s) (length s)) (bytes_before 32 s + 1) 0

-- the same of a first word that is a number; any other counts nothing
unfoldable pub spaced_number : List ℕ → ℕ
spaced_number s = cond (is_some (number (take (spaced_word s - 1) s))) (spaced_word s) 0

-- so many words stay, each with its space; the next one goes, with its space, if it is a number; the rest stays
unfoldable pub strike_number : ℕ → List ℕ → List ℕ
strike_number zero s = drop (spaced_number s) s
strike_number (suc n) s = take (spaced_word s) s ++ strike_number n (drop (spaced_word s) s)

unfoldable pub strike_at : Option ℕ → List ℕ → List ℕ
strike_at (Some n) line = strike_number n line
strike_at None line = line

-- the line without its settle number
unfoldable pub struck_line : List ℕ → List ℕ
struck_line line = strike_at (words_before line) line

-- ---- a text

abbrev pub put_first : ℕ → List (List ℕ) → List (List ℕ)
put_first b [] = (b ∷ []) ∷ []
put_first b (line ∷ more) = (b ∷ line) ∷ more

-- its lines, each with its line feed; the last may have none
unfoldable pub lines : List ℕ → List (List ℕ)
lines [] = []
lines (b ∷ text) = cond (eqb b 10) ((b ∷ []) ∷ lines text) (put_first b (lines text))

-- the text without the settle numbers of its lines
unfoldable pub struck : List ℕ → List ℕ
struck text = flat_map struck_line (lines text)
