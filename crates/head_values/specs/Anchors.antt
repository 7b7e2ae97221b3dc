-- Document 01, "Anchor and link": anchors are equal when both parts are. The Rust: `ReadAnchor`'s `==`, of storage_memo.rs.
use Rattle.std.specs.Prelude.{Bool, eqb, Option, Some, ◌&&◌}
use Rattle.std.specs.Option.{option_eq}
use Rattle.hash.specs.Hashes.{same_hash}
use Rattle.head_values.specs.declared.ReadAnchor.{ReadAnchor}

-- "Anchors are equal when both parts are": equal numbers, and equal hashes of 32 bytes or both none
unfoldable pub same_anchor : ReadAnchor → ReadAnchor → Bool
same_anchor a b = eqb a.number b.number && option_eq same_hash a.hash b.hash

-- there is an anchor, and it is this one
unfoldable pub holds : Option ReadAnchor → ReadAnchor → Bool
holds slot a = option_eq same_anchor slot (Some a)
