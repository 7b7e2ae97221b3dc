-- Document 02, Job 3: "Sheets and answers write `0x` and lowercase." So are the calls' own texts written.
use Rattle.std.specs.Prelude.{ℕ, List, ◌++◌}
use Rattle.hash.specs.declared.Hash.{Hash}
use Rattle.text.specs.Ascii.{ascii}
use Rattle.hash_text.specs.Hex.{hex_text}

-- what stands in front of a hash's digits
unfoldable pub hash_prefix : List ℕ
hash_prefix = ascii "0x"

-- `glyph` writes each digit in lowercase
unfoldable pub hash_text : Hash → List ℕ
hash_text h = hash_prefix ++ hex_text h
