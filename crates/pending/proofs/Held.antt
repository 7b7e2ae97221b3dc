-- What is held of a line: its first 513 bytes.
use Rattle.std.specs.Prelude.{cond}
use Prim.Native.Nat.{ℕ, ◌+◌, ◌≤◌, ◌<◌}
use native.Mathlib.Numerals.{add-one}
use native.Mathlib.Omega.{arith}
use mathlib.Core.Bool.{Bool, true, false}
use mathlib.Core.List.{List, [], ◌∷◌, ◌++◌, append_assoc, append-nil}
use mathlib.Core.Path.{◌≡◌, refl, sym, ◌∙◌}
use lib.Dec.{ltb}
use lib.ListN.{length, take, set, length-set}
use lib.Seq.{length-take-le, take_all, take-append-le, take-suc-set}
use borrow.Author.Tests.{ltb-true, ltb-false}
use Rattle.pending.specs.Kept.{Part, part, keep_byte, keep_all, line_so_far}

-- a buffer that has room for 513 bytes, and no more held
pub record Sound (p : Part) : Type 0 where
  pub room : 513 ≤ length p.buffer
  pub few : p.held ≤ 513

pub sound_byte : (p : Part) (b : ℕ) → Sound p → Sound (keep_byte p b)
unfolding keep_byte
sound_byte p b h = go (ltb p.held 513) refl
  where
    go : (t : Bool) → ltb p.held 513 ≡ t → Sound (cond t (part (set p.buffer p.held b) (p.held + 1)) p)
    go true e = record { room = rw length-set h.room; few = let k : p.held < 513 = ltb-true _ _ e in omega arith }
    go false e = h

pub sound_all : (p : Part) (s : List ℕ) → Sound p → Sound (keep_all p s)
unfolding keep_all
sound_all p [] h = h
sound_all p (b ∷ s) h = sound_all (keep_byte p b) s (sound_byte p b h)

-- one more byte, unless 513 are held
held_byte : (p : Part) (b : ℕ) (s : List ℕ) → Sound p → take 513 (line_so_far (keep_byte p b) ++ s) ≡ take 513 (line_so_far p ++ (b ∷ s))
unfolding keep_byte line_so_far
held_byte p b s h = go (ltb p.held 513) refl
  where
    go : (t : Bool) → ltb p.held 513 ≡ t
        → take 513 (line_so_far (cond t (part (set p.buffer p.held b) (p.held + 1)) p) ++ s) ≡ take 513 (line_so_far p ++ (b ∷ s))
    go true e = let k : p.held < 513 = ltb-true _ _ e in
        rw (add-one p.held, take-suc-set p.buffer p.held b (let r = h.room in omega arith), append_assoc)
    go false e =
        let k : 513 ≤ p.held = ltb-false _ _ e in
        let full : 513 ≤ length (take p.held p.buffer) = (let r = h.room in let f = h.few in rw (length-take-le p.held p.buffer (omega arith)) k) in
        take-append-le 513 (line_so_far p) s full ∙ sym (take-append-le 513 (line_so_far p) (b ∷ s) full)

short : (p : Part) → Sound p → length (line_so_far p) ≤ 513
unfolding line_so_far
short p h = let r = h.room in let f = h.few in rw (length-take-le p.held p.buffer (omega arith)) f

pub held_line : (p : Part) (s : List ℕ) → Sound p → line_so_far (keep_all p s) ≡ take 513 (line_so_far p ++ s)
unfolding keep_all
held_line p [] h = rw append-nil (sym (take_all 513 (line_so_far p) (short p h)))
held_line p (b ∷ s) h = held_line (keep_byte p b) s (sound_byte p b h) ∙ held_byte p b s h
