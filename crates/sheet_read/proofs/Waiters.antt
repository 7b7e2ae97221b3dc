-- The sixteen waiters, one after another.
use Prim.Native.Nat.{ℕ, suc, ◌+◌, ◌-◌, ◌≤◌, ◌<◌}
use native.Mathlib.Omega.{arith}
use mathlib.Core.Path.{◌≡◌, refl, sym, ap, ◌∙◌}
use mathlib.Core.List.{List, [], ◌∷◌, ◌++◌, append-nil, append_assoc}
use lib.ListN.{length, length-set, set, take}
use Rattle.std.proofs.lemmas.List.{take_all, take_more_set}
use Rattle.std.specs.Prelude.{None, Some}
use Rattle.head_attempt.specs.Waiters.{slot_of}
use Rattle.head_attempt.specs.declared.Waiter.{Waiter}
use Rattle.head_attempt.specs.declared.WaiterSlot.{WaiterSlot}
use Rattle.line_reader.specs.Reads.{Reads, rest}
use Rattle.line_reader.specs.declared.LineReader.{LineReader}
use Rattle.text.specs.Ascii.{ascii}
use Rattle.text.specs.Rests.{Rest, Took, after, read_number, stopped}
use Rattle.sheet_read.specs.Waiters.{read_waiter_at, read_waiters}
use Rattle.sheet_read.proofs.Stopped.{waiters_stopped}

-- what the next line says of waiter n
abbrev pub says_of : ℕ → Rest → Took Waiter
says_of n r = read_waiter_at n r (read_number (after (ascii "(wait ") r))

-- the first n stand in the array, and the others are still to be read
pub record Filled (before now : LineReader) (ws : List WaiterSlot) (n : ℕ) : Type 0 where
  pub line : now.line ≡ before.line
  pub sixteen : length ws ≡ 16
  pub value : (read_waiters 16 0 (rest before)).value ≡ take n ws ++ (read_waiters (16 - n) n (rest now)).value
  pub next : (read_waiters 16 0 (rest before)).next ≡ (read_waiters (16 - n) n (rest now)).next

pub none_filled : (before : LineReader) (ws : List WaiterSlot) → length ws ≡ 16 → Filled before before ws 0
none_filled before ws e = record { line = refl; sixteen = e; value = refl; next = refl }

one_more : (n : ℕ) (r : Rest) → n < 16 → (w : Waiter) (s : Rest) → (says_of n r).value ≡ w → (says_of n r).next ≡ s
    → ((read_waiters (16 - n) n r).value ≡ slot_of w ∷ (read_waiters (16 - (n + 1)) (n + 1) s).value)
    × ((read_waiters (16 - n) n r).next ≡ (read_waiters (16 - (n + 1)) (n + 1) s).next)
unfolding read_waiters
one_more n r h w s e f =
    let k : 16 - n ≡ suc (16 - (n + 1)) = omega arith in
    let m : n + 1 ≡ suc n = omega arith in
    rw (k, m, e, f) (refl, refl)

module _ (before now : LineReader) (ws : List WaiterSlot) (n : ℕ) (filled : Filled before now ws n) where
  pub next_filled : n < 16 → (w : Waiter) (next : LineReader) → next.line ≡ now.line → (says_of n (rest now)).value ≡ w
      → (says_of n (rest now)).next ≡ rest next → Filled before next (set ws n (slot_of w)) (n + 1)
  next_filled h w next l e f =
      let one = one_more n (rest now) h w (rest next) e f in
      let s = filled.sixteen in
      record {
        line = l ∙ filled.line;
        sixteen = length-set ws n (slot_of w) ∙ filled.sixteen;
        value = filled.value ∙ ap (λ (t : List WaiterSlot). take n ws ++ t) one.0
            ∙ sym (append_assoc (take n ws) (slot_of w ∷ []) _)
            ∙ ap (λ (t : List WaiterSlot). t ++ (read_waiters (16 - (n + 1)) (n + 1) (rest next)).value)
            (sym (take_more_set ws n (slot_of w) (omega arith)));
        next = filled.next ∙ one.1;
      }

  pub all_filled : 16 ≤ n → Reads before now (Some ws) (read_waiters 16 0 (rest before))
  unfolding read_waiters
  all_filled h =
      let k : 16 - n ≡ 0 = omega arith in
      let s = filled.sixteen in
      record {
        line = filled.line;
        value = filled.value ∙ rw k (append-nil (take n ws) ∙ take_all n ws (omega arith));
        rest = filled.next ∙ rw k refl;
      }

  pub not_filled : n < 16 → (next : LineReader) → next.line ≡ now.line → (says_of n (rest now)).next ≡ stopped
      → Reads before next None (read_waiters 16 0 (rest before))
  not_filled h next l f =
      let one = one_more n (rest now) h (says_of n (rest now)).value stopped refl f in
      record { line = l ∙ filled.line; value = tt; rest = filled.next ∙ one.1 ∙ waiters_stopped (16 - (n + 1)) (n + 1) }
