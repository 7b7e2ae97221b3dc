-- Every number is one of 64 bits, and so is each word of a hash. The types of a theorem do not say so: there a number has no limit.
use Rattle.std.specs.Prelude.{ℕ, ◌<◌, ◌^◌}
use Rattle.hash.specs.declared.Hash.{Hash}

abbrev pub Fits : ℕ → Type 0
Fits n = n < 2 ^ 64

pub record HashFits (h : Hash) : Type 0 where
  pub w0 : Fits h.w0
  pub w1 : Fits h.w1
  pub w2 : Fits h.w2
  pub w3 : Fits h.w3
