-- Document 01, "Lines": a reader record borrowing the line and counting bytes taken. The word that stands next, and the reader once that word's bytes are taken; and the same of a byte.
use Rattle.std.specs.Prelude.{ℕ, ◌+◌, Bool, List, length, drop, Option, Some, None}
use Rattle.text.specs.Places.{begins}
use Rattle.text.specs.Words.{word}
use Rattle.line_reader.specs.declared.LineReader.{LineReader}

-- the word that starts after the bytes taken
abbrev pub word_next : LineReader → List ℕ
word_next r = word (drop r.taken r.line.now)

-- the line stays, and so many bytes more are taken
abbrev pub took : ℕ → LineReader → LineReader
took n r = record { line = r.line; taken = r.taken + n }

-- the line stays, and the word's bytes are taken
abbrev pub took_word : LineReader → LineReader
took_word r = took (length (word_next r)) r

-- whether that byte stands next
abbrev pub stands_next : ℕ → LineReader → Bool
stands_next byte r = begins byte (drop r.taken r.line.now)

-- one byte is taken where it was found, and else none
abbrev pub took_byte : {A : Type 0} → Option A → LineReader → LineReader
took_byte None r = r
took_byte (Some x) r = took 1 r

-- so many bytes are taken where they were there, and else none
abbrev pub took_count : {A : Type 0} → ℕ → Option A → LineReader → LineReader
took_count n None r = r
took_count n (Some x) r = took n r
