-- A sheet read from a buffer and left in it, an answer left.
use Prim.Native.Nat.{ℕ, zero, suc, ◌-◌, ◌≤◌}
use native.Mathlib.Omega.{arith}
use mathlib.Core.Bool.{Bool, false}
use mathlib.Core.List.{List, [], ◌∷◌, ◌++◌}
use mathlib.Core.Path.{◌≡◌, refl, ap, sym, ◌∙◌}
use lib.Dec.{eqb}
use lib.ListN.{length, take, drop, replicate}
use borrow.Author.Tests.{le-ltb}
use borrow.Rule.Slice.PartMut.{Post-is, post_of, put_mid}
use Rattle.std.proofs.lemmas.Bool.{ne_eqb, or_parts}
use Rattle.std.proofs.lemmas.List.{append-nil, drop_all, length-append, length-drop, length-replicate, take_all, take_at}
use Rattle.std.proofs.lemmas.List.Sums.{position_or_len_is}
use Rattle.std.specs.List.{list_any, position_or_len}
use Rattle.std.specs.Prelude.{None, Option, Some, unwrap_or}
use Rattle.memchr.specs.Find.{IsFirstByte, is_byte}
use Rattle.script_value.specs.Buffers.{AtFront, buffer_after, written}
use Rattle.temsroi.specs.Calls.{answer_left, sheet_in, sheet_left}

abbrev is_zero : ℕ → Bool
is_zero b = eqb b 0

-- ---- what is read

pub no_zero : (buffer : List ℕ) → IsFirstByte (is_byte 0) buffer None → buffer ≡ sheet_in buffer
no_zero buffer h =
    let n =
    position_or_len_is is_zero buffer (length buffer) 0 (omega arith)
    (λ k l. ne_eqb _ 0 (λ e. h k (omega arith) l (rw e refl))) (λ l. absurd (omega arith)) in
    rw n (sym (take_all (length buffer) buffer (omega arith)))

pub zero_at : (buffer : List ℕ) (n : ℕ) → IsFirstByte (is_byte 0) buffer (Some n) → take n buffer ≡ sheet_in buffer
zero_at buffer n h =
    let m =
    position_or_len_is is_zero buffer n 0 (omega (arith, h.0.high))
    (λ k l. ne_eqb _ 0 (λ e. h.0.before k (omega arith) l (rw e refl))) (λ l. h.1) in
    rw m refl

-- ---- what is left

-- a text at the front of a buffer that is long enough
pub record Fronted (old new text : List ℕ) (w : Option ℕ) : Type 0 where
  pub count : w ≡ Some (length text)
  pub bytes : new ≡ text ++ drop (length text) old

pub fronted : {old new text : List ℕ} {w : Option ℕ} (room : ℕ) → AtFront room old new text w → room ≤ length old → Fronted old new text w
unfolding written buffer_after
fronted {old = old} room f h =
    record { count = f.result ∙ rw (le-ltb (length old) room h) refl; bytes = f.bytes ∙ rw (le-ltb (length old) room h) refl }

-- a sheet at the front, and zero bytes behind it to the end
module _ (old sheet : List ℕ) (long : 4096 ≤ length old) (mid : List ℕ) (w : Option ℕ) (n : ℕ) (f : AtFront 4096 old mid sheet w)
    (same : length mid ≡ length old) (told : n ≡ unwrap_or w 0) where
  put : Fronted old mid sheet w
  put = fronted 4096 f long

  count : n ≡ length sheet
  count = told ∙ ap (λ (v : Option ℕ). unwrap_or v 0) put.count

  pub count_fits : n ≤ length mid
  count_fits = omega (arith, count, same, ap (λ (l : List ℕ). length l) put.bytes, length-append sheet (drop (length sheet) old))

  pub zeros_left : put_mid n (length mid - n) mid (replicate (length mid - n) 0) ≡ sheet_left sheet old
  zeros_left =
      let fits = count_fits in
      let none : post_of n (length mid - n) mid ≡ [] = Post-is n (length mid) mid fits ∙ drop_all (length mid) mid (omega arith) in
      let front = take_at {A = ℕ} sheet (drop (length sheet) old) (length sheet) refl in
      rw (none, append-nil {A = ℕ} (replicate (length mid - n) 0), count, same, put.bytes, front) refl

-- a sheet without zero bytes is read back
zeros_after : (s : List ℕ) (k : ℕ) → list_any is_zero s ≡ false → position_or_len is_zero (s ++ replicate k 0) ≡ length s
zeros_after [] zero e = refl
zeros_after [] (suc k) e = refl
zeros_after (b ∷ s) k e =
    let h = or_parts (is_zero b) (list_any is_zero s) e in
    rw (h.0, zeros_after s k h.1) (omega arith)

pub sheet_stays : (sheet buffer : List ℕ) → list_any is_zero sheet ≡ false → sheet_in (sheet_left sheet buffer) ≡ sheet
sheet_stays sheet buffer e =
    rw (zeros_after sheet (length buffer - length sheet) e) (take_at sheet (replicate (length buffer - length sheet) 0) (length sheet) refl)

-- zero bytes alone are nothing
pub zeros_nothing : (n : ℕ) → sheet_in (replicate n 0) ≡ []
zeros_nothing n = rw (zeros_after [] n refl) refl

-- the buffers are as long as they were
pub sheet_fits : (sheet buffer : List ℕ) → length sheet ≤ length buffer → length (sheet_left sheet buffer) ≡ length buffer
sheet_fits sheet buffer h = length-append sheet _ ∙ rw (length-replicate {A = ℕ} (length buffer - length sheet) 0) (omega arith)

pub answer_fits : (line buffer : List ℕ) → length line ≤ length buffer → length (answer_left line buffer) ≡ length buffer
answer_fits line buffer h = length-append line _ ∙ rw (length-drop {A = ℕ} (length line) buffer) (omega arith)
