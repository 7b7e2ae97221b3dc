-- What a writer into a lent buffer promises.
use Rattle.std.specs.Prelude.{ℕ, ◌+◌, ◌≡◌, ◌≤◌, List, length}
use Rattle.std.proofs.lemmas.List.Edits.{sets}
use Rattle.text_put.specs.declared.TextWriter.{TextWriter}

-- the buffer has room for so many more bytes
abbrev pub Room : TextWriter → ℕ → Type 0
Room w n = w.at + n ≤ length w.buf.now

-- the writer after a text: the buffer has the text from the place on and keeps every other byte, and the place is after it
unfoldable pub wrote : List ℕ → TextWriter → TextWriter
wrote text w = record { buf = record w.buf { now = sets w.buf.now w.at text }; at = w.at + length text }

-- a text of at most so many bytes is put
pub record Puts (old new : TextWriter) (most : ℕ) (text : List ℕ) : Type 0 where
  pub wrote : new ≡ wrote text old
  pub place : new.at ≤ old.at + most
  pub room : length new.buf.now ≡ length old.buf.now
