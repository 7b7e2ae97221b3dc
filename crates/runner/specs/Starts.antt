-- Document 02, Job 2: "Read a sheet and rebuild a driver": which driver a run starts from. Which bytes a file has no contract can say;
-- where a reader says what it brings, it is said which driver they give.
use Rattle.std.specs.Prelude.{ℕ, ◌≤◌, ◌<◌, List, ◌≡◌, length, Option, None, Some, IfSome}
use Rattle.std.specs.Io.KnownBytes.{Consumes, IsAtEnd}
use Rattle.head_driver.specs.New.{new}
use Rattle.head_driver.specs.declared.Driver.{Driver}
use Rattle.rebuild.specs.Rebuilds.{Taken}

-- the driver that the bytes show, exactly where they are taken
pub record Shows (sheet : List ℕ) (got : Option Driver) : Type 0 where
  pub taken : (x : Driver) → Taken sheet x → got ≡ Some x
  pub some : IfSome got (λ x. Taken sheet x)
  pub none : ((x : Driver) → ¬ Taken sheet x) → got ≡ None

-- so too of all bytes of a reader, where it says what they are
abbrev pub ShownBy : Option (List ℕ) → Option Driver → Type 0
ShownBy None got = Unit {0}
ShownBy (Some sheet) got = Shows sheet got

-- the bytes that were read are the first that the reader had; where there is room for more they are all
pub record ReadsWhole (known left : Option (List ℕ)) (read : List ℕ) (room : ℕ) : Type 0 where
  pub within : length read ≤ room
  pub parted : Consumes known left read
  pub ended : length read < room → IsAtEnd left

-- a new driver without an argument; with more than one none
pub record Starts (words : ℕ) (got : Option Driver) : Type 0 where
  pub new : words ≤ 1 → got ≡ Some new
  pub too_many : 2 < words → got ≡ None
