-- The steps of `hold` and `keep`.
use Prim.Native.Nat.{ℕ, zero, suc, ◌+◌, ◌-◌, ◌≤◌, ◌<◌}
use native.Mathlib.Nat.{le_of_suc-le-suc, add-zero, add-suc, suc-add}
use native.Mathlib.Numerals.{add-one}
use native.Mathlib.Omega.{arith}
use mathlib.Core.Bool.{Bool, true, false}
use mathlib.Core.List.{List, [], ◌∷◌}
use mathlib.Core.Path.{◌≡◌, refl, ap, sym, ◌∙◌}
use lib.Dec.{eqb, ltb}
use Rattle.std.specs.Prelude.{Some, None, cond}
use Rattle.memchr.specs.Find.{IsFirstByte, is_byte}
use lib.ListN.{length, take, drop, get_or, set, length-append}
use lib.Seq.{length-take-le, sets, take_all, take-length, take-nil}
use borrow.Author.Tests.{ltb-true, ltb-false}
use Rattle.text.specs.Writes.{Wrote}
use Rattle.pending.specs.Kept.{Keeps, part, has_line_feed, keep_all, keep_byte, room_for, through_line_feed, to_line_feed}
use Rattle.pending.proofs.LineFeeds.{feed_not_there, feed_there, no_feed, through_feed}

-- ---- what `hold` keeps of bytes is one text

-- one more byte, or none where 513 are held
kept_byte : (b : ℕ) (s buffer : List ℕ) (held : ℕ)
    → ((buffer : List ℕ) (held : ℕ) → keep_all (part buffer held) s ≡ part (sets buffer held (take (513 - held) s)) (held + length (take (513 - held) s)))
    → keep_all (keep_byte (part buffer held) b) s ≡ part (sets buffer held (take (513 - held) (b ∷ s))) (held + length (take (513 - held) (b ∷ s)))
unfolding keep_byte
kept_byte b s buffer held more = go (ltb held 513) refl
  where
    go : (t : Bool) → ltb held 513 ≡ t
        → keep_all (cond t (part (set buffer held b) (held + 1)) (part buffer held)) s ≡ part (sets buffer held (take (513 - held) (b ∷ s))) (held + length (take (513 - held) (b ∷ s)))
    go true e =
        let h : held < 513 = ltb-true held 513 e in
        let k : 513 - held ≡ suc (513 - (held + 1)) = omega arith in
        more (set buffer held b) (held + 1) ∙ rw (k, add-one held, suc-add, add-suc)
    go false e =
        let h : 513 ≤ held = ltb-false held 513 e in
        let k : 513 - held ≡ 0 = omega arith in
        more buffer held ∙ rw k

pub kept_text : (s buffer : List ℕ) (held : ℕ) → keep_all (part buffer held) s ≡ part (sets buffer held (take (513 - held) s)) (held + length (take (513 - held) s))
unfolding keep_all
kept_text [] buffer held = rw (take-nil (513 - held), add-zero)
kept_text (b ∷ s) buffer held = kept_byte b s buffer held (kept_text s)

-- the bytes that are still kept are those that there is room for
room_takes : (s : List ℕ) (held : ℕ) → take (room_for (length s) held) s ≡ take (513 - held) s
unfolding room_for
room_takes s held = go (ltb held 513) (ltb (length s) (513 - held)) refl refl
  where
    go : (t u : Bool) → ltb held 513 ≡ t → ltb (length s) (513 - held) ≡ u → take (cond t (cond u (length s) (513 - held)) 0) s ≡ take (513 - held) s
    go true true e f = let h : length s < 513 - held = ltb-true _ _ f in take-length s ∙ sym (take_all (513 - held) s (omega arith))
    go true false e f = refl
    go false u e f = let h : 513 ≤ held = ltb-false _ _ e in let k : 513 - held ≡ 0 = omega arith in rw k

module _ (s buffer : List ℕ) (held r : ℕ) (told : r ≡ room_for (length s) held) where
  pub none_held : r ≡ 0 → part buffer held ≡ keep_all (part buffer held) s
  none_held z =
      let e : take (513 - held) s ≡ [] = (sym (room_takes s held) ∙ ap (λ (n : ℕ). take n s) (sym told ∙ z)) in
      sym (kept_text s buffer held ∙ rw (e, add-zero))

  pub some_held : (new : List ℕ) (next : ℕ) → Wrote buffer new held next (take r s) → part new next ≡ keep_all (part buffer held) s
  some_held new next w =
      let e : take r s ≡ take (513 - held) s = (ap (λ (n : ℕ). take n s) told ∙ room_takes s held) in
      rw (w.bytes, w.after, e) (sym (kept_text s buffer held))

  pub room_within : r ≤ length s
  unfolding room_for
  room_within = rw told (go (ltb held 513) (ltb (length s) (513 - held)) refl)
    where
      go : (t u : Bool) → ltb (length s) (513 - held) ≡ u → cond t (cond u (length s) (513 - held)) 0 ≤ length s
      go true true f = omega arith
      go true false f = let h : 513 - held ≤ length s = ltb-false _ _ f in h
      go false u f = omega arith

  pub room_held : (r ≡ 0 → ⊥) → held + r ≤ 513
  unfolding room_for
  room_held ne = go (ltb held 513) (ltb (length s) (513 - held)) refl refl told
    where
      go : (t u : Bool) → ltb held 513 ≡ t → ltb (length s) (513 - held) ≡ u → r ≡ cond t (cond u (length s) (513 - held)) 0 → held + r ≤ 513
      go true true e f k = let h : held < 513 = ltb-true _ _ e in let l : length s < 513 - held = ltb-true _ _ f in omega arith
      go true false e f k = let h : held < 513 = ltb-true _ _ e in omega arith
      go false u e f k = absurd (ne k)

  pub put_room : (r ≡ 0 → ⊥) → 513 ≤ length buffer → held + length (take r s) ≤ length buffer
  put_room ne room = let h = room_held ne in let w = room_within in rw (length-take-le r s w) (omega arith)

-- ---- what `keep` does

-- the first line feed of a text ends what stands before it
before_feed : (s : List ℕ) (n : ℕ) → n ≤ length s → (n < length s → eqb (get_or s n 0) 10 ≡ true) → ((k : ℕ) → k < n → eqb (get_or s k 0) 10 ≡ true → ⊥) → to_line_feed s ≡ take n s
unfolding to_line_feed
before_feed [] n h here none = rw take-nil
before_feed (b ∷ s) zero h here none = rw (here (omega arith))
before_feed (b ∷ s) (suc n) h here none = go (eqb b 10) refl (before_feed s n (le_of_suc-le-suc h) (λ l. here (omega arith)) (λ k l. none (suc k) (omega arith)))
  where
    go : (t : Bool) → eqb b 10 ≡ t → to_line_feed s ≡ take n s → cond t [] (b ∷ to_line_feed s) ≡ b ∷ take n s
    go true e more = absurd (none 0 (omega arith) e)
    go false e more = ap (λ (r : List ℕ). b ∷ r) more

module _ (old : List ℕ) (held : ℕ) (input : List ℕ) (at : ℕ) where
  module _ (rest : List ℕ) (new : List ℕ) (m : ℕ) (e : rest ≡ drop at input) where
    pub keep_feed : (n : ℕ) → IsFirstByte (is_byte 10) rest (Some n) → part new m ≡ keep_all (part old held) (take n rest) → Keeps old held new input at (record { held = m; at = at + n + 1; ended = true })
    keep_feed n first holds =
        let before : to_line_feed rest ≡ take n rest = before_feed rest n (omega (arith, first.0.high)) (λ l. first.1) (λ k l. first.0.before k (omega arith) l) in
        let long : length (to_line_feed rest) ≡ n = (ap length before ∙ length-take-le n rest (omega (arith, first.0.high))) in
        let there : has_line_feed rest ≡ true = feed_there rest (omega (arith, first.0.high)) in
        let whole : length (through_line_feed rest) ≡ n + 1 = (ap length (through_feed rest there) ∙ length-append (to_line_feed rest) (10 ∷ []) ∙ omega arith) in
        record { kept = rw (← e) (holds ∙ ap (keep_all (part old held)) (sym before)); place = rw (← e) (omega arith); ended = rw (← e) (sym there) }

    pub keep_end : IsFirstByte (is_byte 10) rest None → part new m ≡ keep_all (part old held) rest → Keeps old held new input at (record { held = m; at = at + length rest; ended = false })
    keep_end none holds =
        let before : to_line_feed rest ≡ rest = (before_feed rest (length rest) (omega arith) (λ l. absurd (omega arith)) (λ k l. none k (omega arith) l) ∙ take-length rest) in
        let not_there : has_line_feed rest ≡ false = feed_not_there rest (omega (arith, ap length before)) in
        let whole : length (through_line_feed rest) ≡ length rest = ap length (no_feed rest not_there ∙ before) in
        record { kept = rw (← e) (holds ∙ ap (keep_all (part old held)) (sym before)); place = rw (← e) (omega arith); ended = rw (← e) (sym not_there) }
