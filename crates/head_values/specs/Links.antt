-- Document 01, "Anchor and link": the link test. The Rust: `classify_link`, of read_hub.rs.
use Rattle.std.specs.Prelude.{ℕ, ◌+◌, Bool, eqb, not, Option, None, Some, cond, ◌&&◌}
use Rattle.hash.specs.Hashes.{same_hash}
use Rattle.hash.specs.declared.Hash.{Hash}
use Rattle.head_values.specs.declared.Link.{Link}
use Rattle.head_values.specs.declared.ReadAnchor.{ReadAnchor}

-- "parent number plus 1 is not the child's number, or the parent's number is 2^64 - 1": neither of the two
unfoldable pub follows : ℕ → ℕ → Bool
follows parent child = eqb (parent + 1) child && not (eqb parent 0xffff_ffff_ffff_ffff)

-- "parent has no hash, `hash-unknown`; parent's hash is not the child's parent hash, `hash-mismatch`; else `linked`"
unfoldable pub link_by_hash : Option Hash → Hash → Link
link_by_hash None parent_hash = Link.HashUnknown
link_by_hash (Some hash) parent_hash = cond (not (same_hash hash parent_hash)) Link.HashMismatch Link.Linked

-- "first that applies: no parent, `no-parent`"; numbers that do not follow, "`not-consecutive`"; then the hashes.
-- "The child's own hash plays no part."
unfoldable pub classify_link : Option ReadAnchor → ReadAnchor → Hash → Link
classify_link None child parent_hash = Link.NoParent
classify_link (Some parent) child parent_hash =
    cond (not (follows parent.number child.number)) Link.NotConsecutive
    (link_by_hash parent.hash parent_hash)
