-- Document 01, "What changes shape": a hash is four 64-bit words, most significant byte first. Two are equal when all 32 bytes are.
use Rattle.std.specs.Prelude.{Bool, eqb, ◌&&◌}
use Rattle.hash.specs.declared.Hash.{Hash}

unfoldable pub same_hash : Hash → Hash → Bool
same_hash a b = eqb a.w0 b.w0 && (eqb a.w1 b.w1 && (eqb a.w2 b.w2 && eqb a.w3 b.w3))
