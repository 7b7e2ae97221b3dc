-- Words, lines and texts without their settle numbers.
use Prim.Native.Nat.{ℕ, suc, ◌+◌, ◌-◌, ◌≤◌, ◌<◌}
use native.Mathlib.Nat.{not-suc-le-zero}
use native.Mathlib.Omega.{arith}
use mathlib.Core.Bool.{Bool, true, false, not}
use mathlib.Core.List.{List, [], ◌∷◌, ◌++◌, append_assoc}
use mathlib.Core.Path.{◌≡◌, refl, ap, sym, ◌∙◌}
use lib.Dec.{eqb}
use lib.ListN.{length, take, drop, length-append, length-drop}
use lib.Seq.{sets, drop-drop, take-add, take_all}
use borrow.Author.Tests.{lt-ltb, le-ltb}
use Rattle.std.proofs.lemmas.List.{drop_all, take_rest}
use Rattle.std.specs.Prelude.{cond}
use Rattle.std.specs.List.{flat_map}
use Rattle.pending.specs.Kept.{through_line_feed}
use Rattle.pending.proofs.LineFeeds.{through_front, through_some}
use Rattle.text.specs.Decimals.{number}
use Rattle.text.specs.Writes.{Wrote}
use Rattle.text.proofs.Writes.{sets_append, then}
use Rattle.replay.specs.Numbers.{bytes_before, lines, put_first, spaced_number, spaced_word, strike_number, struck, struck_line}

-- ---- a word

pub no_space : (s : List ℕ) (n : ℕ) → n ≡ bytes_before 32 s → length s ≤ n → 0 ≡ spaced_word s
unfolding spaced_word
no_space s n e h = rw (← e, le-ltb n (length s) h)

pub with_space : (s : List ℕ) (n : ℕ) → n ≡ bytes_before 32 s → n < length s → n + 1 ≡ spaced_word s
unfolding spaced_word
with_space s n e h = rw (← e, lt-ltb n (length s) h)

-- where no space comes nothing is counted
pub no_number : (s : List ℕ) → 0 ≡ spaced_word s → 0 ≡ spaced_number s
unfolding spaced_number number
no_number s e = rw (← e) refl

pub no_words : (n : ℕ) (s : List ℕ) → strike_number n s ≡ take 0 s ++ strike_number n (drop 0 s)
no_words n s = refl

-- one word more is passed
pub more_words : (count i at w : ℕ) (s t : List ℕ) → i < count → w ≡ spaced_word (drop at s)
    → t ≡ take at s ++ strike_number (count - i) (drop at s)
    → t ≡ take (at + w) s ++ strike_number (count - (i + 1)) (drop (at + w) s)
unfolding strike_number
more_words count i at w s t h e told =
    let k : count - i ≡ suc (count - (i + 1)) = omega arith in
    let next : List ℕ = drop (spaced_word (drop at s)) (drop at s) in
    let one : t ≡ take at s ++ (take (spaced_word (drop at s)) (drop at s) ++ strike_number (count - (i + 1)) next) =
    (rw k at told) in
    rw (take-add at w s, append_assoc, ← drop-drop w at s, e) one

pub word_within : (s rest : List ℕ) (at w : ℕ) → rest ≡ drop at s → at ≤ length s → w ≤ length rest → at + w ≤ length s
word_within s rest at w e h k = let d = length-drop at s in let l = ap length e in omega arith

-- what stands before the word and what stands behind it, put one after the other
pub two_parts : (line : List ℕ) (count from w : ℕ) (rest out mid new : List ℕ) (at place r : ℕ)
    → strike_number count line ≡ take from line ++ strike_number 0 (drop from line) → rest ≡ drop from line → w ≡ spaced_number rest
    → Wrote out mid at place (take from line) → Wrote mid new place r (take (length line - (from + w)) (drop (from + w) line))
    → Wrote out new at r (strike_number count line)
unfolding strike_number
two_parts line count from w rest out mid new at place r told is e p q =
    let k : w ≡ spaced_number (drop from line) = (e ∙ ap spaced_number is) in
    rw told (then p (rw (← k, drop-drop w from line, ← take_rest line (from + w)) q))

-- ---- a line

through_counted : (s : List ℕ) → take (bytes_before 10 s + 1) s ≡ through_line_feed s
unfolding through_line_feed
through_counted [] = refl
through_counted (b ∷ s) = go (eqb b 10) (through_counted s)
  where
    go : (t : Bool) → take (bytes_before 10 s + 1) s ≡ through_line_feed s
        → take (cond (not t) (1 + bytes_before 10 s) 0 + 1) (b ∷ s) ≡ cond t (b ∷ []) (b ∷ through_line_feed s)
    go true e = refl
    go false e = let k : 1 + bytes_before 10 s + 1 ≡ suc (bytes_before 10 s + 1) = omega arith in rw k (ap (λ (r : List ℕ). b ∷ r) e)

pub first_line : (s : List ℕ) (n : ℕ) → n ≡ bytes_before 10 s → take (n + 1) s ≡ through_line_feed s
first_line s n e = rw e (through_counted s)

pub only_line : (s : List ℕ) (n : ℕ) → n ≡ bytes_before 10 s → length s ≤ n → s ≡ through_line_feed s
only_line s n e h = sym (take_all (n + 1) s (omega arith)) ∙ first_line s n e

-- the lines of a text are its first and those of what follows it
lines_cut : (b : ℕ) (s : List ℕ) → lines (b ∷ s) ≡ through_line_feed (b ∷ s) ∷ lines (drop (length (through_line_feed (b ∷ s))) (b ∷ s))
unfolding lines through_line_feed
lines_cut b [] = go (eqb b 10)
  where
    go : (t : Bool) → cond t ((b ∷ []) ∷ []) ((b ∷ []) ∷ [])
        ≡ cond t (b ∷ []) (b ∷ []) ∷ lines (drop (length (cond t (b ∷ []) (b ∷ []))) (b ∷ []))
    go true = refl
    go false = refl
lines_cut b (c ∷ s) = go (eqb b 10) (lines_cut c s)
  where
    go : (t : Bool) → lines (c ∷ s) ≡ through_line_feed (c ∷ s) ∷ lines (drop (length (through_line_feed (c ∷ s))) (c ∷ s))
        → cond t ((b ∷ []) ∷ lines (c ∷ s)) (put_first b (lines (c ∷ s)))
        ≡ cond t (b ∷ []) (b ∷ through_line_feed (c ∷ s))
        ∷ lines (drop (length (cond t (b ∷ []) (b ∷ through_line_feed (c ∷ s)))) (b ∷ (c ∷ s)))
    go true e = refl
    go false e = ap (put_first b) e

-- ---- a text

pub struck_cut : (s : List ℕ) → 0 < length s
    → struck s ≡ struck_line (through_line_feed s) ++ struck (drop (length (through_line_feed s)) s)
unfolding struck
struck_cut [] h = absurd (not-suc-le-zero h)
struck_cut (b ∷ s) h = ap (flat_map struck_line) (lines_cut b s)

-- where the loop stands: what is still to be put makes the buffer that was promised
pub record Strikes (text old now : List ℕ) (at written : ℕ) : Type 0 where
  pub place : at ≤ length text
  pub few : written ≤ at
  pub bytes : sets now written (struck (drop at text)) ≡ sets old 0 (struck text)
  pub count : written + length (struck (drop at text)) ≡ length (struck text)

pub none_struck : (text old : List ℕ) → Strikes text old old 0 0
none_struck text old = record { place = omega arith; few = omega arith; bytes = refl; count = omega arith }

module _ (text old now : List ℕ) (at written : ℕ) (strikes : Strikes text old now at written) where
  pub all_struck : length text ≤ at → Wrote old now 0 written (struck text)
  unfolding struck lines
  all_struck h =
      let none : drop at text ≡ [] = drop_all at text h in
      let b = strikes.bytes in
      let c = strikes.count in
      let z : length (struck (drop at text)) ≡ 0 = rw none refl in
      record { bytes = rw none at b; after = omega arith }

  module _ (line : List ℕ) (e : line ≡ through_line_feed (drop at text)) where
    pub line_within : at + length line ≤ length text
    line_within =
        let f = ap length (through_front (drop at text)) in
        let l = length-append (through_line_feed (drop at text)) (drop (length (through_line_feed (drop at text))) (drop at text)) in
        let d = length-drop at text in
        let p = strikes.place in
        let k = ap length e in
        omega arith

    pub less_left : at < length text → length text - (at + length line) < length text - at
    less_left h =
        let d = length-drop at text in
        let s : 0 < length (through_line_feed (drop at text)) = through_some (drop at text) (omega arith) in
        let k = ap length e in
        omega arith

    pub line_room : (room : ℕ) → length text ≤ room → written + length line ≤ room
    line_room room h = let w = line_within in let f = strikes.few in omega arith

    pub line_struck : at < length text → (new : List ℕ) (next : ℕ) → Wrote now new written next (struck_line line)
        → next ≤ written + length line
        → Strikes text old new (at + length line) next
    line_struck h new next w few =
        let d = length-drop at text in
        let cut : struck (drop at text) ≡ struck_line line ++ struck (drop (at + length line) text) =
        (rw (← drop-drop (length line) at text, e) (struck_cut (drop at text) (omega arith))) in
        let l = length-append (struck_line line) (struck (drop (at + length line) text)) in
        let c = ap length cut in
        let f = strikes.few in
        let g = strikes.count in
        let a = w.after in
        record {
          place = line_within;
          few = omega arith;
          bytes = rw (w.bytes, w.after)
              (sets_append now written (struck_line line) (struck (drop (at + length line) text))
              ∙ ap (sets now written) (sym cut) ∙ strikes.bytes);
          count = omega arith;
        }
