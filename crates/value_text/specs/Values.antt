-- Document 01, "Lines": the text of a value. Single spaces, no others; decimal without leading zeros.
use Rattle.std.specs.Prelude.{ℕ, List, [], ◌∷◌, ◌++◌}
use Rattle.hash_text.specs.Texts.{hash_text}
use Rattle.head_values.specs.Values.{Value}
use Rattle.text.specs.Ascii.{ascii}
use Rattle.text.specs.Decimals.{decimal}
use Rattle.value_text.specs.Words.{word_text}

-- a word, a decimal, a hash, or two or three values in brackets
unfoldable pub value_text : Value → List ℕ
value_text (Value.word w) = word_text w
value_text (Value.number n) = decimal n
value_text (Value.hash h) = hash_text h
value_text (Value.two a b) = ascii "(" ++ (value_text a ++ (ascii " " ++ (value_text b ++ ascii ")")))
value_text (Value.three a b c) = ascii "(" ++ (value_text a ++ (ascii " " ++ (value_text b ++ (ascii " " ++ (value_text c ++ ascii ")")))))

-- values, each after a space, in front of s
unfoldable pub values_on : List Value → List ℕ → List ℕ
values_on [] s = s
values_on (v ∷ vs) s = ascii " " ++ (value_text v ++ values_on vs s)
