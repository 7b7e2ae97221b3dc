-- What a writer into a lent buffer does.
use Rattle.std.specs.Prelude.{ℕ, ◌+◌, ◌≡◌, List, length}
use Rattle.std.proofs.lemmas.List.Edits.{sets}

-- the buffer has the text from a place on and keeps every other byte; `next` is the place after the text
pub record Wrote (old new : List ℕ) (at next : ℕ) (text : List ℕ) : Type 0 where
  pub bytes : new ≡ sets old at text
  pub after : next ≡ at + length text
