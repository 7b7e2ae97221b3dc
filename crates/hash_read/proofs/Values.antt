-- The values of a row of bytes, and what they say where all are digits.
use Prim.Native.Nat.{ℕ, zero, suc, ◌+◌, ◌*◌, ◌/◌, ◌%◌, ◌^◌, ◌≤◌, ◌<◌, max}
use native.Mathlib.Nat.{pow-suc, pow-le-pow_right}
use native.Mathlib.Numerals.{add-one}
use native.Mathlib.Omega.{arith}
use mathlib.Core.Path.{◌≡◌, refl, ap, sym, ◌∙◌}
use mathlib.Core.List.{List, [], ◌∷◌, ◌++◌, map, append_assoc, append-nil}
use lib.ListN.{length, take, drop, get_or, set, length-set, length-take, drop_of_length-le}
use lib.Seq.{drop-cons, take-suc-set, take_all}
use Rattle.std.specs.Char.{to_ascii_lowercase}
use Rattle.std.specs.Prelude.{Option, Some, None, unwrap_or}
use Rattle.hash.specs.declared.Hash.{Hash}
use Rattle.text.specs.Digits.{read_on}
use Rattle.hash_text.specs.Hex.{glyph, hex_on, hex, hex_text, digit_value, hex_more, hex_hash, hex_number, joined}
use Rattle.hash_text.proofs.HexRead.{value_glyph, more_value, hash_long}
use Rattle.hash_text.proofs.Back.{value_lowercase}
use Rattle.hash_text.proofs.Only.{hex_hash_only}
use Rattle.hash_read.specs.Values.{value_of, largest, number_on}

-- ---- one byte

small_digit : (b : ℕ) → value_of b ≤ 15 → Some (value_of b) ≡ digit_value b
unfolding value_of
small_digit b = go (digit_value b)
  where
    go : (g : Option ℕ) → unwrap_or g 255 ≤ 15 → Some (unwrap_or g 255) ≡ g
    go (Some d) h = refl
    go None h = absurd (omega arith)

-- ---- the loop of `put_values`: what is laid out, and the values of what is left, are the values of all

pub record Laid (word vs : List ℕ) (most i : ℕ) : Type 0 where
  pub long : length vs ≡ length word
  pub values : take i vs ++ map value_of (drop i word) ≡ map value_of word
  pub top : max most (largest (drop i word)) ≡ largest word

pub laid_start : (word vs : List ℕ) → length word ≡ length vs → Laid word vs 0 0
laid_start word vs l = record { long = sym l; values = refl; top = omega arith }

pub laid_more : {word vs : List ℕ} {most i : ℕ} (v m : ℕ) → Laid word vs most i → i < length word → v ≡ value_of (get_or word i 0) → m ≡ max most v → Laid word (set vs i v) m (i + 1)
unfolding largest
laid_more {word} {vs} {most} {i} v m k h e f =
    let a = rw (drop-cons word i 0 h) at k.values in
    let b = rw (drop-cons word i 0 h) at k.top in
    let inside : i < length vs = omega (arith, k.long) in
    record {
      long = length-set vs i v ∙ k.long;
      values = rw (add-one i, take-suc-set vs i v inside, append_assoc, e) a;
      top = rw (add-one i) (omega (arith, b));
    }

pub laid_values : {word vs : List ℕ} {most i : ℕ} → Laid word vs most i → length word ≤ i → vs ≡ map value_of word
laid_values {word} {vs} {most} {i} k h = rw (drop_of_length-le word h, append-nil, take_all i vs (omega (arith, k.long))) at k.values

pub laid_top : {word vs : List ℕ} {most i : ℕ} → Laid word vs most i → length word ≤ i → most ≡ largest word
unfolding largest
laid_top {word} k h = let e = rw (drop_of_length-le word h) at k.top in omega (arith, e)

-- ---- the loop of `number`: what is left, after what is read, says what all the values say

at_least : (n : ℕ) (s : List ℕ) → n ≤ number_on n s
unfolding number_on
at_least n [] = omega arith
at_least n (v ∷ s) = omega (arith, at_least (n * 16 + v) s)

module _ (s : List ℕ) (n i w : ℕ) (k : number_on n (drop i s) ≡ w) where
  pub number_more : i < length s → number_on (n * 16 + get_or s i 0) (drop (i + 1) s) ≡ w
  unfolding number_on
  number_more h = rw (add-one i) (rw (drop-cons s i 0 h) at k)

  pub number_below : i < length s → n * 16 + get_or s i 0 ≤ w
  number_below h = rw (number_more h) at (at_least (n * 16 + get_or s i 0) (drop (i + 1) s))

  pub number_done : length s ≤ i → n ≡ w
  unfolding number_on
  number_done h = rw (drop_of_length-le s h) at k

-- ---- digits say the number of their values

record Says (n : ℕ) (s : List ℕ) : Type 0 where
  number : read_on hex_more (Some n) s ≡ Some (number_on n (map value_of s))
  below : number_on n (map value_of s) < 2 ^ 64

powers : (k m : ℕ) → k ≤ m → 16 ^ k ≤ 16 ^ m
powers k m h = pow-le-pow_right (omega arith) h

says : (k n : ℕ) (s : List ℕ) → n < 16 ^ k → k + length s ≤ 16 → largest s ≤ 15 → Says n s
unfolding read_on number_on largest
says k n [] p l h = record { number = refl; below = omega (arith, powers k 16 (omega arith)) }
says k n (b ∷ s) p l h =
    let q = powers k 15 (omega arith) in
    let r = says (suc k) (n * 16 + value_of b) s (rw pow-suc (omega arith)) (omega arith) (omega arith) in
    let e = more_value n b (value_of b) (small_digit b (omega arith)) (omega arith) in
    record { number = rw (← e) r.number; below = r.below }

-- ---- a part of a word

largest_take : (n : ℕ) (s : List ℕ) → largest (take n s) ≤ largest s
unfolding largest
largest_take zero s = omega arith
largest_take (suc n) [] = omega arith
largest_take (suc n) (b ∷ s) = omega (arith, largest_take n s)

largest_drop : (n : ℕ) (s : List ℕ) → largest (drop n s) ≤ largest s
unfolding largest
largest_drop zero s = omega arith
largest_drop (suc n) [] = omega arith
largest_drop (suc n) (b ∷ s) = omega (arith, largest_drop n s)

map_take : (n : ℕ) (s : List ℕ) → take n (map value_of s) ≡ map value_of (take n s)
map_take zero s = refl
map_take (suc n) [] = refl
map_take (suc n) (b ∷ s) = rw (map_take n s)

map_drop : (n : ℕ) (s : List ℕ) → drop n (map value_of s) ≡ map value_of (drop n s)
map_drop zero s = refl
map_drop (suc n) [] = refl
map_drop (suc n) (b ∷ s) = map_drop n s

part : (s : List ℕ) (i : ℕ) → largest s ≤ 15 → Says 0 (take 16 (drop i s))
part s i h = says 0 0 (take 16 (drop i s)) (omega arith) (rw length-take (omega arith)) (omega (arith, largest_take 16 (drop i s), largest_drop i s))

-- ---- a hash's text has no other bytes than digits

glyph_small : (d : ℕ) → d < 16 → value_of (glyph d) ≤ 15
unfolding value_of
glyph_small d h = rw (← value_glyph d h) (omega arith)

largest_both : (s t : List ℕ) → largest s ≤ 15 → largest t ≤ 15 → largest (s ++ t) ≤ 15
unfolding largest
largest_both [] t p q = q
largest_both (b ∷ s) t p q = omega (arith, largest_both s t (omega arith) q)

largest_hex_on : (k n : ℕ) (s : List ℕ) → largest s ≤ 15 → largest (hex_on k n s) ≤ 15
unfolding hex_on largest
largest_hex_on zero n s h = h
largest_hex_on (suc k) n s h = largest_hex_on k (n / 16) (glyph (n % 16) ∷ s) (omega (arith, glyph_small (n % 16) (omega arith)))

largest_hex : (n : ℕ) → largest (hex n) ≤ 15
unfolding hex largest
largest_hex n = largest_hex_on 16 n [] (omega arith)

largest_text : (h : Hash) → largest (hex_text h) ≤ 15
unfolding hex_text
largest_text h = largest_both _ _ (largest_hex h.w0) (largest_both _ _ (largest_hex h.w1) (largest_both _ _ (largest_hex h.w2) (largest_hex h.w3)))

-- a row of digits has the values of its lowercase
largest_lowercase : (s : List ℕ) → largest (map to_ascii_lowercase s) ≡ largest s
unfolding largest value_of
largest_lowercase [] = refl
largest_lowercase (b ∷ s) = rw (value_lowercase b, largest_lowercase s) refl

-- ---- a row of digits

module _ (s vs : List ℕ) (most : ℕ) (e : vs ≡ map value_of s) (f : most ≡ largest s) where
  pub not_digits : 15 < most → None ≡ hex_hash s
  not_digits h = go (hex_hash s) refl
    where
      go : (r : Option Hash) → hex_hash s ≡ r → None ≡ r
      go None p = refl
      go (Some w) p = absurd (omega (arith, largest_text w, largest_lowercase s, ap largest (hex_hash_only s w p).0))

  module _ (h : most ≤ 15) where
    pub part_below : (i : ℕ) → number_on 0 (take 16 (drop i vs)) < 2 ^ 64
    part_below i = rw (e, map_drop i s, map_take 16 (drop i s)) (part s i (omega arith)).below

    part_number : (i n : ℕ) → n ≡ number_on 0 (take 16 (drop i vs)) → Some n ≡ hex_number (take 16 (drop i s))
    unfolding hex_number
    part_number i n p = rw (p, e, map_drop i s, map_take 16 (drop i s)) (sym (part s i (omega arith)).number)

    pub all_digits : (a b c d : ℕ) → length s ≡ 64
        → a ≡ number_on 0 (take 16 (drop 0 vs)) → b ≡ number_on 0 (take 16 (drop 16 vs))
        → c ≡ number_on 0 (take 16 (drop 32 vs)) → d ≡ number_on 0 (take 16 (drop 48 vs))
        → Some (record { w0 = a; w1 = b; w2 = c; w3 = d }) ≡ hex_hash s
    unfolding joined
    all_digits a b c d l p q r t = hash_long s (Some a) (Some b) (Some c) (Some d) _ l (part_number 0 a p) (part_number 16 b q) (part_number 32 c r) (part_number 48 d t) refl
