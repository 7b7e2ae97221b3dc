-- Any cutting of an input into reads prints what the input prints.
use Prim.Native.Nat.{ℕ, zero, suc, ◌≤◌, ◌<◌}
use native.Mathlib.Omega.{arith}
use mathlib.Core.Bool.{Bool, true, false}
use mathlib.Core.List.{List, [], ◌∷◌, ◌++◌, append_assoc, append-nil}
use mathlib.Core.Path.{◌≡◌, refl, ap, sym, ◌∙◌}
use lib.Dec.{eqb, ltb}
use lib.ListN.{length, take}
use lib.Seq.{length-take-le, take_all}
use borrow.Author.Tests.{lt-ltb, ltb-true, ltb-false, ne_eqb}
use Rattle.std.specs.Prelude.{None, cond}
use Rattle.head_driver.specs.New.{new}
use Rattle.pending.specs.Kept.{keep_byte, keep_all, line_so_far}
use Rattle.pending.proofs.Held.{Sound, sound_byte, held_line}
use Rattle.script_call.specs.Calls.{call}
use Rattle.script.specs.Prints.{prints}
use Rattle.head_driver.specs.declared.Driver.{Driver}
use Rattle.script.specs.Scripts.{lines_after, lines, last_line_of, answered, script}
use Rattle.script.specs.Feeds.{Reading, reading, line_ends, byte_taken, byte_prints, all_taken, all_prints, last_of, last_prints}
use Rattle.script.specs.Statements.{AnyCutting, joined, printed_in}

-- ---- the first 513 bytes of a line decide

long_no_call : (l : List ℕ) → 512 < length l → call l ≡ None
unfolding call
long_no_call l h = rw (ne_eqb (length l) 0 (λ e. absurd (omega (arith, e))), lt-ltb 512 (length l) h)

front_decides : (l : List ℕ) → call (take 513 l) ≡ call l
front_decides l = go (ltb 513 (length l)) refl
  where
    go : (t : Bool) → ltb 513 (length l) ≡ t → call (take 513 l) ≡ call l
    go true e =
        let h : 513 < length l = ltb-true _ _ e in
        let n : length (take 513 l) ≡ 513 = length-take-le 513 l (omega arith) in
        long_no_call (take 513 l) (omega arith) ∙ sym (long_no_call l (omega arith))
    go false e = ap call (take_all 513 l (ltb-false _ _ e))

take_front : (n : ℕ) (l t : List ℕ) → take n (take n l ++ t) ≡ take n (l ++ t)
take_front zero l t = refl
take_front (suc n) [] t = refl
take_front (suc n) (x ∷ l) t = ap (λ (r : List ℕ). x ∷ r) (take_front n l t)

-- ---- one part of the input after another

pub taken_append : (s : Reading) (x y : List ℕ) → all_taken s (x ++ y) ≡ all_taken (all_taken s x) y
unfolding all_taken
taken_append s [] y = refl
taken_append s (b ∷ x) y = taken_append (byte_taken s b) x y

pub prints_append : (s : Reading) (x y : List ℕ) → all_prints s (x ++ y) ≡ all_prints s x ++ all_prints (all_taken s x) y
unfolding all_taken all_prints
prints_append s [] y = refl
prints_append s (b ∷ x) y = ap (λ (r : List ℕ). byte_prints s b ++ r) (prints_append (byte_taken s b) x y) ∙ sym (append_assoc (byte_prints s b) _ _)

-- ---- the bytes print what the lines print

-- a reading whose kept bytes are the front of the line
record Holds (s : Reading) (line : List ℕ) : Type 0 where
  sound : Sound s.kept
  front : line_so_far s.kept ≡ take 513 line

-- what an input prints from where a reading stands, its end too
unfoldable pub whole : Reading → List ℕ → List ℕ
whole s input = all_prints s input ++ last_prints (all_taken s input)

holds_ended : (s : Reading) (line : List ℕ) → Holds s line → Holds (line_ends s) []
unfolding line_ends line_so_far
holds_ended s line h = record { sound = record { room = h.sound.room; few = omega arith }; front = refl }

holds_none : (d : Driver) (buffer : List ℕ) → 513 ≤ length buffer → Holds (reading d buffer 0) []
unfolding line_so_far
holds_none d buffer room = record { sound = record { room = room; few = omega arith }; front = refl }

holds_kept : (s : Reading) (line : List ℕ) (b : ℕ) → Holds s line → Holds (record { driver = s.driver; kept = keep_byte s.kept b }) (line ++ (b ∷ []))
unfolding keep_all
holds_kept s line b h = record {
  sound = sound_byte s.kept b h.sound;
  front = held_line s.kept (b ∷ []) h.sound ∙ ap (λ (r : List ℕ). take 513 (r ++ (b ∷ []))) h.front ∙ take_front 513 line (b ∷ []);
}

last_line : (d : Driver) (line : List ℕ) → last_of d (take 513 line) ≡ answered d (last_line_of line)
unfolding answered
last_line d [] = refl
last_line d (b ∷ line) = ap (prints d) (front_decides (b ∷ line)) ∙ sym (append-nil _)

nothing_more : (s : Reading) → last_prints s ≡ whole s []
unfolding whole all_taken all_prints
nothing_more s = refl

nothing_left : (s : Reading) (line : List ℕ) → Holds s line → whole s [] ≡ answered s.driver (last_line_of line)
unfolding last_prints
nothing_left s line h = sym (nothing_more s) ∙ ap (last_of s.driver) h.front ∙ last_line s.driver line

whole_cons : (s : Reading) (b : ℕ) (input : List ℕ) → whole s (b ∷ input) ≡ byte_prints s b ++ whole (byte_taken s b) input
unfolding whole all_taken all_prints
whole_cons s b input = append_assoc (byte_prints s b) (all_prints (byte_taken s b) input) (last_prints (all_taken (byte_taken s b) input))

at_feed : (s : Reading) (b : ℕ) (input : List ℕ) → eqb b 10 ≡ true
    → byte_prints s b ++ whole (byte_taken s b) input ≡ prints s.driver (call (line_so_far s.kept)) ++ whole (line_ends s) input
unfolding byte_prints byte_taken
at_feed s b input e = rw e

at_other : (s : Reading) (b : ℕ) (input : List ℕ) → eqb b 10 ≡ false
    → byte_prints s b ++ whole (byte_taken s b) input ≡ whole (record { driver = s.driver; kept = keep_byte s.kept b }) input
unfolding byte_prints byte_taken
at_other s b input e = rw e

-- the line that ends is answered, and the rest of the input after it
line_answered : (s : Reading) (line rest : List ℕ) → call (line_so_far s.kept) ≡ call line
    → prints s.driver (call (line_so_far s.kept)) ++ answered (line_ends s).driver (lines_after [] rest) ≡ answered s.driver (line ∷ lines_after [] rest)
unfolding answered line_ends
line_answered s line rest e = rw e

by_lines : (input : List ℕ) (s : Reading) (line : List ℕ) → Holds s line → whole s input ≡ answered s.driver (lines_after line input)
unfolding lines_after
by_lines [] s line h = nothing_left s line h
by_lines (b ∷ input) s line h = whole_cons s b input ∙ go (eqb b 10) refl (by_lines input)
  where
    go : (t : Bool) → eqb b 10 ≡ t → ((t : Reading) (line : List ℕ) → Holds t line → whole t input ≡ answered t.driver (lines_after line input))
        → byte_prints s b ++ whole (byte_taken s b) input ≡ answered s.driver (cond t (line ∷ lines_after [] input) (lines_after (line ++ (b ∷ [])) input))
    go true e more =
        at_feed s b input e
        ∙ ap (λ (r : List ℕ). prints s.driver (call (line_so_far s.kept)) ++ r) (more (line_ends s) [] (holds_ended s line h))
        ∙ line_answered s line input (ap call h.front ∙ front_decides line)
    go false e more = at_other s b input e ∙ more (record { driver = s.driver; kept = keep_byte s.kept b }) (line ++ (b ∷ [])) (holds_kept s line b h)

-- so the bytes of an input print what its lines are answered with, whatever the driver
pub whole_answered : (d : Driver) (buffer : List ℕ) → 513 ≤ length buffer → (input : List ℕ)
    → whole (reading d buffer 0) input ≡ answered d (lines input)
unfolding lines
whole_answered d buffer room input = by_lines input (reading d buffer 0) [] (holds_none d buffer room)

-- what is held fits its buffer, however many bytes are taken
pub sound_taken : (s : Reading) (bytes : List ℕ) → Sound s.kept → Sound (all_taken s bytes).kept
unfolding all_taken byte_taken line_ends
sound_taken s [] h = h
sound_taken s (b ∷ bytes) h = sound_taken (byte_taken s b) bytes (go (eqb b 10))
  where
    go : (t : Bool) → Sound (cond t (line_ends s) (record { driver = s.driver; kept = keep_byte s.kept b })).kept
    go true = record { room = h.room; few = omega arith }
    go false = sound_byte s.kept b h

-- ---- pieces

whole_append : (s : Reading) (x y : List ℕ) → all_prints s x ++ whole (all_taken s x) y ≡ whole s (x ++ y)
unfolding whole
whole_append s x y =
    sym (append_assoc (all_prints s x) (all_prints (all_taken s x) y) (last_prints (all_taken (all_taken s x) y)))
    ∙ sym (ap (λ (r : List ℕ). r ++ last_prints (all_taken (all_taken s x) y)) (prints_append s x y))
    ∙ sym (ap (λ (t : Reading). all_prints s (x ++ y) ++ last_prints t) (taken_append s x y))

in_pieces : (s : Reading) (pieces : List (List ℕ)) → printed_in s pieces ≡ whole s (joined pieces)
unfolding printed_in joined
in_pieces s [] = nothing_more s
in_pieces s (p ∷ ps) = ap (λ (r : List ℕ). all_prints s p ++ r) (in_pieces (all_taken s p) ps) ∙ whole_append s p (joined ps)

pub any_cutting : AnyCutting
unfolding script
any_cutting buffer room pieces = in_pieces (reading new buffer 0) pieces ∙ whole_answered new buffer room (joined pieces)
