-- A text at the front of the caller's buffer, which must have a given room whatever the text.
use Rattle.std.specs.Prelude.{ℕ, List, ◌++◌, ◌≡◌, Option, None, Some, ltb, length, drop, cond}

-- how many bytes are written: none where the buffer is too short, which it is exactly when it has less than the room
unfoldable pub written : ℕ → List ℕ → List ℕ → Option ℕ
written room buf text = cond (ltb (length buf) room) None (Some (length text))

-- then nothing is written; else the text stands at its start, and every byte after the text keeps its content
unfoldable pub buffer_after : ℕ → List ℕ → List ℕ → List ℕ
buffer_after room buf text = cond (ltb (length buf) room) buf (text ++ drop (length text) buf)

-- what is promised of the buffer, as it was and as it is, and of the result
pub record AtFront (room : ℕ) (old new text : List ℕ) (r : Option ℕ) : Type 0 where
  pub result : r ≡ written room old text
  pub bytes : new ≡ buffer_after room old text
