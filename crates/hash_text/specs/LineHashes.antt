-- Document 02, Job 3: "A hash on a line is now `0x` and 64 hex digits of either case, and the bare form is no longer a hash."
use Rattle.std.specs.Prelude.{ℕ, List, length, drop, eqb, Option, None, cond}
use Rattle.std.specs.List.{starts_with}
use Rattle.hash.specs.declared.Hash.{Hash}
use Rattle.hash_text.specs.Hex.{hex_hash}
use Rattle.hash_text.specs.Texts.{hash_prefix}

-- The hash that a word of a line says: `hash_prefix` is `0x`, `hex_hash` asks for 64 digits, and `digit_value` has both cases.
unfoldable pub line_hash : List ℕ → Option Hash
line_hash w = cond (starts_with eqb w hash_prefix) (hex_hash (drop (length hash_prefix) w)) None
