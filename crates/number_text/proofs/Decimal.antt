-- The library's decimal text is document 01's.
use Prim.Native.Nat.{ℕ, ◌^◌, ◌≤◌, ◌<◌}
use native.Mathlib.Omega.{arith}
use mathlib.Core.Path.{◌≡◌, ◌∙◌, sym}
use mathlib.Core.List.{[], append-nil}
use lib.ListN.{length}
use borrow.Author.Tests.{lt-ltb, le-ltb}
use Rattle.std.proofs.lemmas.Fmt.{PrependsLastDigit, decimal_from_prepends, length-decimal-le}
use Rattle.std.specs.Fmt as std
use Rattle.text.specs.Decimals.{decimal, decimal_on}

prepends : PrependsLastDigit decimal_on
unfolding decimal_on
prepends = record { one = λ k n s h. rw (lt-ltb n 10 h); more = λ k n s h. rw (le-ltb n 10 h) }

pub decimal_short : (n : ℕ) → n < 2 ^ 64 → length (std.decimal n) ≤ 20
decimal_short n h = length-decimal-le 20 n (omega arith) (omega arith) h

pub decimal_is : (n : ℕ) → n < 2 ^ 64 → std.decimal n ≡ decimal n
unfolding decimal
decimal_is n h = sym (decimal_from_prepends decimal_on prepends 20 n [] h (decimal_short n h) ∙ append-nil (std.decimal n))
