-- Nothing else is read: the digits of a word that says a hash are, in lowercase, those of that hash, whose words are below 2^64.
use Prim.Native.Nat.{ℕ, zero, suc, ◌+◌, ◌*◌, ◌/◌, ◌%◌, ◌^◌, ◌≤◌, ◌<◌}
use native.Mathlib.Omega.{arith}
use native.Mathlib.Decide.{dec_lt}
use mathlib.Core.Logic.{by_cases}
use mathlib.Core.Path.{◌≡◌, refl, ap, sym, ◌∙◌}
use mathlib.Core.Bool.{Bool, true, false}
use mathlib.Core.List.{List, [], ◌∷◌, ◌++◌, map, map-append}
use lib.ListN.{length, take, drop, length-append, length-take, length-drop, take-append-drop}
use lib.Seq.{drop-drop, take_all}
use lib.Dec.{eqb}
use borrow.Author.Tests.{lt-ltb, le-ltb, eqb-true}
use Rattle.std.specs.Char.{is_ascii_uppercase, to_ascii_lowercase}
use Rattle.std.specs.List.{drop-map, list_any, starts_with}
use Rattle.hash_text.specs.LineHashes.{line_hash}
use Rattle.hash_text.specs.SheetHashes.{sheet_hash}
use Rattle.hash_text.specs.Texts.{hash_prefix, hash_text}
use Rattle.text.proofs.Same.{same_eq, same_pointwise}
use Rattle.hash_text.specs.Cases.{Cased}
use Rattle.hash_text.proofs.Capitals.{no_capital_stays}
use Rattle.std.specs.Prelude.{Option, Some, None, cond}
use Rattle.hash.specs.declared.Hash.{Hash}
use Rattle.text.proofs.Digits.{taken}
use Rattle.hash_text.specs.Hex.{glyph, hex_on, hex, hex_text, digit_value, join_digit, hex_more, hex_number, joined, hex_hash}
use Rattle.hash.specs.Ranges.{HashFits}
use Rattle.hash_text.proofs.HexRead.{digit_is, more_bad}

-- ---- one more digit is one more byte of text

append-hex_on : (k n : ℕ) (s t : List ℕ) → hex_on k n (s ++ t) ≡ hex_on k n s ++ t
unfolding hex_on
append-hex_on zero n s t = refl
append-hex_on (suc k) n s t = append-hex_on k (n / 16) (glyph (n % 16) ∷ s) t

longer : (k n d : ℕ) → d < 16 → hex_on (suc k) (n * 16 + d) [] ≡ hex_on k n [] ++ (glyph d ∷ [])
unfolding hex_on
longer k n d h =
    let a : (n * 16 + d) / 16 ≡ n = omega arith in
    let b : (n * 16 + d) % 16 ≡ d = omega arith in
    rw (a, b) (append-hex_on k n [] (glyph d ∷ []))

-- the digits of a number below 2^64, as many as there are
unfoldable Said : List ℕ → ℕ → Type 0
Said s n = (map to_ascii_lowercase s ≡ hex_on (length s) n []) × (n < 2 ^ 64)

more_said : (p : List ℕ) (n b m : ℕ) → Said p n → hex_more (Some n) b ≡ Some m → Said (p ++ (b ∷ [])) m
unfolding Said hex_more join_digit
more_said p n b m h e = go (digit_value b) refl e
  where
    go : (g : Option ℕ) → digit_value b ≡ g → join_digit n g ≡ Some m
        → (map to_ascii_lowercase (p ++ (b ∷ [])) ≡ hex_on (length (p ++ (b ∷ []))) m []) × (m < 2 ^ 64)
    go None f x = cc
    go (Some d) f x =
        let a = digit_is b d f in
        by_cases (dec_lt n (2 ^ 60))
        (λ u.
        let y : n * 16 + d ≡ m = cc (lt-ltb n (2 ^ 60) u, x) in
        let l : length (p ++ (b ∷ [])) ≡ suc (length p) = simp length-append (omega arith) in
        (rw (l, ← y, longer (length p) n d a.small, ← h.0, a.byte, map-append), omega (arith, a.small)))
        (λ u. cc (rw (le-ltb n (2 ^ 60) (omega arith)) at x))

hex_only : (s : List ℕ) (n : ℕ) → length s ≡ 16 → hex_number s ≡ Some n → (map to_ascii_lowercase s ≡ hex n) × (n < 2 ^ 64)
unfolding hex_number Said hex_on hex
hex_only s n l e = rw l at (taken hex_more more_bad Said more_said s [] 0 n (refl, omega arith) e)

-- ---- four 64-bit words

map_four : (f : ℕ → ℕ) (p q r s : List ℕ) → map f (p ++ (q ++ (r ++ s))) ≡ map f p ++ (map f q ++ (map f r ++ map f s))
map_four f p q r s = simp map-append

module _ (s : List ℕ) (l : length s ≡ 64) where
  part_length : (i : ℕ) → i ≤ 48 → length (take 16 (drop i s)) ≡ 16
  part_length i h = simp (length-take, length-drop) (omega arith)

  split : (i j : ℕ) → i + 16 ≡ j → take 16 (drop i s) ++ drop j s ≡ drop i s
  split i j e = rw (← e, ← drop-drop 16 i s) (take-append-drop 16 (drop i s))

  last : take 16 (drop 48 s) ≡ drop 48 s
  last = take_all 16 (drop 48 s) (simp length-drop (omega arith))

  parts : take 16 (drop 0 s) ++ (take 16 (drop 16 s) ++ (take 16 (drop 32 s) ++ take 16 (drop 48 s))) ≡ s
  parts = rw (last, split 32 48 refl, split 16 32 refl) (split 0 16 refl)

  words_only : (h : Hash) (a b c d : Option ℕ)
      → hex_number (take 16 (drop 0 s)) ≡ a → hex_number (take 16 (drop 16 s)) ≡ b
      → hex_number (take 16 (drop 32 s)) ≡ c → hex_number (take 16 (drop 48 s)) ≡ d
      → joined a b c d ≡ Some h → (map to_ascii_lowercase s ≡ hex_text h) × HashFits h
  unfolding joined hex_text
  words_only h (Some a) (Some b) (Some c) (Some d) p q r t e =
      let p₀ = hex_only _ a (part_length 0 (omega arith)) p in
      let p₁ = hex_only _ b (part_length 16 (omega arith)) q in
      let p₂ = hex_only _ c (part_length 32 (omega arith)) r in
      let p₃ = hex_only _ d (part_length 48 (omega arith)) t in
      let low = map to_ascii_lowercase in
      let z : low s ≡ hex a ++ (hex b ++ (hex c ++ hex d))
      = ap low (sym parts) ∙ map_four to_ascii_lowercase (take 16 (drop 0 s)) (take 16 (drop 16 s)) (take 16 (drop 32 s)) (take 16 (drop 48 s))
      ∙ rw (p₀.0, p₁.0, p₂.0, p₃.0) refl in
      let x : ◌≡◌ {A = Hash} (record { w0 = a; w1 = b; w2 = c; w3 = d }) h = cc in
      rw (← x) (z, record { w0 = p₀.1; w1 = p₁.1; w2 = p₂.1; w3 = p₃.1 })
  words_only h (Some a) (Some b) (Some c) None p q r t e = cc
  words_only h (Some a) (Some b) None d p q r t e = cc
  words_only h (Some a) None c d p q r t e = cc
  words_only h None b c d p q r t e = cc

pub hex_hash_only : (s : List ℕ) (h : Hash) → hex_hash s ≡ Some h → (map to_ascii_lowercase s ≡ hex_text h) × HashFits h
unfolding hex_hash
hex_hash_only s h e = go (eqb (length s) 64) refl e
  where
    go : (b : Bool) → eqb (length s) 64 ≡ b
        → cond b
        (joined
        (hex_number (take 16 (drop 0 s)))
        (hex_number (take 16 (drop 16 s)))
        (hex_number (take 16 (drop 32 s)))
        (hex_number (take 16 (drop 48 s))))
        None ≡ Some h
        → (map to_ascii_lowercase s ≡ hex_text h) × HashFits h
    go true f g = words_only s (eqb-true (length s) 64 f) h _ _ _ _ refl refl refl refl g
    go false f g = cc

-- ---- hashes on a line and on a sheet

-- the prefix stands, and then the digits
pub prefix_parts : (w : List ℕ) → starts_with eqb w hash_prefix ≡ true → w ≡ hash_prefix ++ drop (length hash_prefix) w
prefix_parts w e =
    let f = same_eq hash_prefix (take (length hash_prefix) w) (sym (same_pointwise hash_prefix (take (length hash_prefix) w)) ∙ e) in
    sym (take-append-drop (length hash_prefix) w) ∙ ap (λ (s : List ℕ). s ++ drop (length hash_prefix) w) (sym f)

pub line_hash_only : (w : List ℕ) (h : Hash) → line_hash w ≡ Some h → Cased w h × HashFits h
unfolding line_hash
line_hash_only w h e = go (starts_with eqb w hash_prefix) refl e
  where
    go : (b : Bool) → starts_with eqb w hash_prefix ≡ b → cond b (hex_hash (drop (length hash_prefix) w)) None ≡ Some h
        → Cased w h × HashFits h
    go true f g =
        let k = hex_hash_only (drop (length hash_prefix) w) h g in
        (record { digits = drop (length hash_prefix) w; is = prefix_parts w f; same = k.0 }, k.1)
    go false f g = cc

-- on a sheet no capital stands in the digits, so they are their own lowercase
own_digits : (w : List ℕ) (h : Hash) → list_any is_ascii_uppercase w ≡ false → Cased w h → w ≡ hash_text h
unfolding hash_text hash_prefix
own_digits w h e k =
    let z : drop 2 w ≡ k.digits = ap (drop 2) k.is in
    let y : map to_ascii_lowercase (drop 2 w) ≡ drop 2 w = sym (drop-map to_ascii_lowercase 2 w) ∙ ap (drop 2) (no_capital_stays w e) in
    k.is ∙ ap (λ (d : List ℕ). hash_prefix ++ d) (sym (rw z at y) ∙ k.same)

pub sheet_hash_only : (w : List ℕ) (h : Hash) → sheet_hash w ≡ Some h → (w ≡ hash_text h) × HashFits h
unfolding sheet_hash
sheet_hash_only w h e = go (list_any is_ascii_uppercase w) refl e
  where
    go : (x : Bool) → list_any is_ascii_uppercase w ≡ x → cond x None (line_hash w) ≡ Some h → (w ≡ hash_text h) × HashFits h
    go true f g = cc
    go false f g = let k = line_hash_only w h g in (own_digits w h f k.0, k.1)
