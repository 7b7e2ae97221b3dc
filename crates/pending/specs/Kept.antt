-- The bytes of a line that has not ended, kept at the front of a buffer.
use Rattle.std.specs.Prelude.{ℕ, ◌+◌, ◌-◌, Bool, true, false, List, [], ◌∷◌, ◌≡◌, eqb, ltb, length, drop, take, set, cond}
use Rattle.pending.specs.declared.Kept.{Kept}

-- the buffer, and how many of its first bytes are held
pub record Part : Type 0 where
  pub buffer : List ℕ
  pub held : ℕ

abbrev pub part : List ℕ → ℕ → Part
part buffer held = record { buffer = buffer; held = held }

-- what is held of the line
unfoldable pub line_so_far : Part → List ℕ
line_so_far p = take p.held p.buffer

-- one more byte of the line; no more than 513 are held, since a line of 513 bytes is no call, whatever follows
unfoldable pub keep_byte : Part → ℕ → Part
keep_byte p b = cond (ltb p.held 513) (part (set p.buffer p.held b) (p.held + 1)) p

unfoldable pub keep_all : Part → List ℕ → Part
keep_all p [] = p
keep_all p (b ∷ s) = keep_all (keep_byte p b) s

-- of so many more bytes those that are still kept
unfoldable pub room_for : ℕ → ℕ → ℕ
room_for count held = cond (ltb held 513) (cond (ltb count (513 - held)) count (513 - held)) 0

-- the bytes before the first line feed
unfoldable pub to_line_feed : List ℕ → List ℕ
to_line_feed [] = []
to_line_feed (b ∷ s) = cond (eqb b 10) [] (b ∷ to_line_feed s)

-- the bytes up to it, with it; all, where there is none
unfoldable pub through_line_feed : List ℕ → List ℕ
through_line_feed [] = []
through_line_feed (b ∷ s) = cond (eqb b 10) (b ∷ []) (b ∷ through_line_feed s)

unfoldable pub has_line_feed : List ℕ → Bool
has_line_feed [] = false
has_line_feed (b ∷ s) = cond (eqb b 10) true (has_line_feed s)

-- what is promised of a buffer as it was and as it is, and of the result
pub record Keeps (old : List ℕ) (held : ℕ) (new input : List ℕ) (at : ℕ) (r : Kept) : Type 0 where
  pub kept : part new r.held ≡ keep_all (part old held) (to_line_feed (drop at input))
  pub place : r.at ≡ at + length (through_line_feed (drop at input))
  pub ended : r.ended ≡ has_line_feed (drop at input)
