-- Document 01, "Prepared list and outcome". The Rust: `PreparedBal::prepare` and `PreparedBal::is_decoded`, of read_hub.rs, and the
-- outcome of `DeltaSnapshotCache::apply_prepared`, of delta_snapshot.rs.
use Rattle.std.specs.Prelude.{is_none, ℕ, Bool, true, false, Option, cond, ◌&&◌}
use Rattle.std.specs.Bool.{beq}
use Rattle.hash.specs.declared.Hash.{Hash}
use Rattle.head_values.specs.Links.{classify_link}
use Rattle.head_values.specs.declared.BalSkip.{BalSkip}
use Rattle.head_values.specs.declared.CarryOutcome.{CarryOutcome}
use Rattle.head_values.specs.declared.Link.{Link}
use Rattle.head_values.specs.declared.PreparedBal.{PreparedBal}
use Rattle.head_values.specs.declared.ReadAnchor.{ReadAnchor}

-- the skip is `no-hash`
unfoldable pub is_no_hash : BalSkip → Bool
is_no_hash BalSkip.Nothing = false
is_no_hash BalSkip.NoHash = true
is_no_hash (BalSkip.Rpc n) = false
is_no_hash (BalSkip.Decode n) = false

-- "As `PreparedBal::prepare` makes it, the skip is `no-hash` exactly when the anchor has no hash."
unfoldable pub as_prepared : PreparedBal → Bool
as_prepared list = beq (is_no_hash list.skip) (is_none list.anchor.hash)

-- the link test answers `linked`
unfoldable pub is_linked : Link → Bool
is_linked Link.Linked = true
is_linked Link.NoParent = false
is_linked Link.NotConsecutive = false
is_linked Link.HashUnknown = false
is_linked Link.HashMismatch = false

-- no skip: `PreparedBal::is_decoded`
unfoldable pub is_decoded : BalSkip → Bool
is_decoded BalSkip.Nothing = true
is_decoded BalSkip.NoHash = false
is_decoded (BalSkip.Rpc n) = false
is_decoded (BalSkip.Decode n) = false

-- "`(carried C)` when linked and no skip, else `(cold LINK SKIP)`"
unfoldable pub outcome : Link → BalSkip → ℕ → CarryOutcome
outcome link skip carried = cond (is_linked link && is_decoded skip) (CarryOutcome.Carried carried) (CarryOutcome.Cold link skip)

-- "Outcome of an apply: the link test takes the installed anchor (or no parent), the head's anchor and its parent hash."
unfoldable pub apply_prepared : Option ReadAnchor → ReadAnchor → Hash → BalSkip → ℕ → CarryOutcome
apply_prepared installed anchor parent_hash skip carried = outcome (classify_link installed anchor parent_hash) skip carried
