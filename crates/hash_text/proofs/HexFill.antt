-- The library's hexadecimal text of a number's bytes is its sixteen digits.
use Prim.Native.Nat.{ℕ, ◌/◌, ◌%◌, ◌<◌}
use native.Mathlib.Nat.{div-div-eq-div-mul, zero-add}
use native.Mathlib.Omega.{arith}
use mathlib.Core.Bool.{Bool, true}
use mathlib.Core.Path.{◌≡◌, refl}
use lib.Dec.{eqb}
use lib.ListN.{length, get_or}
use borrow.Author.Tests.{eqb-true}
use Rattle.std.specs.Int.{w64, to_be_bytes}
use Rattle.std.specs.List.{slice_index, list_all, range_with_len}
use Rattle.std.proofs.lemmas.List.Sums.{AllPass-from_list_all}
use Rattle.std.proofs.lemmas.List.Elements.{All-get_or}
use Rattle.std.proofs.lemmas.List.FromFn.{get_or-range_with_len}
use Rattle.hex.specs.Hex.{encode_lower, encode_with, lower_digits}
use Rattle.hash_text.specs.Hex.{hex, hex_on, glyph}

unfoldable agrees : ℕ → Bool
agrees d = eqb (slice_index lower_digits d) (glyph d)

table : list_all agrees (range_with_len 0 16) ≡ true
unfolding glyph agrees
table = refl

digit : (d : ℕ) → d < 16 → slice_index lower_digits d ≡ glyph d
unfolding agrees
digit d h =
    let e : agrees (get_or (range_with_len 0 16) d 0) ≡ true = All-get_or (λ x. agrees x ≡ true) (range_with_len 0 16) d 0 h (AllPass-from_list_all agrees (range_with_len 0 16) table) in
    eqb-true (slice_index lower_digits d) (glyph d) (rw (get_or-range_with_len 0 16 d 0 h, zero-add) at e)

high : (m : ℕ) → slice_index lower_digits (m % 256 / 16) ≡ glyph (m / 16 % 16)
high m = let e : m % 256 / 16 ≡ m / 16 % 16 = omega arith in rw e (digit (m / 16 % 16) (omega arith))

low : (m : ℕ) → slice_index lower_digits (m % 256 % 16) ≡ glyph (m % 16)
low m = let e : m % 256 % 16 ≡ m % 16 = omega arith in rw e (digit (m % 16) (omega arith))

pub hex_is : (n : ℕ) → encode_lower (to_be_bytes w64 n) ≡ hex n
unfolding hex hex_on encode_with
hex_is n = simp (high, low, div-div-eq-div-mul)

pub hex_long : (n : ℕ) → length (encode_lower (to_be_bytes w64 n)) ≡ 16
unfolding encode_with
hex_long n = refl
