-- Document 02, Job 3: "A sheet with capitals is not in sheet form."
use Rattle.std.specs.Prelude.{ℕ, List, Option, None, cond}
use Rattle.std.specs.Char.{is_ascii_uppercase}
use Rattle.std.specs.List.{list_any}
use Rattle.hash.specs.declared.Hash.{Hash}
use Rattle.hash_text.specs.LineHashes.{line_hash}

-- the hash that a word of a sheet says: that of a line, where no capital stands in it
unfoldable pub sheet_hash : List ℕ → Option Hash
sheet_hash w = cond (list_any is_ascii_uppercase w) None (line_hash w)
