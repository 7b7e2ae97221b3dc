-- The loop that reads all that a reader has.
use Prim.Native.Nat.{ℕ, ◌+◌, ◌-◌, ◌≤◌, ◌<◌}
use native.Mathlib.Omega.{arith}
use mathlib.Core.List.{List, ◌++◌}
use mathlib.Core.Path.{◌≡◌, refl, ap, sym, subst, ◌∙◌}
use lib.ListN.{length, take, length-append}
use borrow.Rule.Slice.PartMut.{mid_len, post_of, put_mid, same_len_mid}
use Rattle.std.proofs.lemmas.List.{append-nil, append_assoc, length-take-le, take-append-le}
use Rattle.std.proofs.Math.Seq.{take-append-add}
use Rattle.std.specs.Prelude.{Option, None, Some, IfSome}
use Rattle.std.specs.Io.KnownBytes.{Consumes, IsAtEnd}
use Rattle.head_driver.specs.declared.Driver.{Driver}
use Rattle.driver.specs.declared.Turn.{Turn}
use Rattle.head_driver.specs.declared.Answer.{Answer}
use Rattle.script_answer.specs.declared.LineAnswer.{LineAnswer}
use Rattle.rebuild.proofs.Rebuilt.{one_driver}
use Rattle.rebuild.specs.Rebuilds.{Rebuilds, Taken, done, not_taken}
use Rattle.script_lengths.proofs.Sheets.{taken_length}
use Rattle.runner.specs.Starts.{ReadsWhole, ShownBy, Shows}

-- what was brought stands at the front; of the reader's bytes, where they are known, it is the first, and the rest are left
pub record ReadSoFar (known left : Option (List ℕ)) (first room : List ℕ) (at : ℕ) : Type 0 where
  pub within : at ≤ length room
  pub same : length room ≡ length first
  pub parted : Consumes known left (take at room)

-- what the reader has and what one read takes of it
pub consumes_both : (known left next : Option (List ℕ)) (xs ys : List ℕ) → Consumes known left xs → Consumes left next ys
    → Consumes known next (xs ++ ys)
consumes_both None left next xs ys p q = tt
consumes_both (Some ks) None next xs ys p q = absurd p
consumes_both (Some ks) (Some ls) None xs ys p q = absurd q
consumes_both (Some ks) (Some ls) (Some ns) xs ys p q = p ∙ ap (λ t. xs ++ t) q ∙ sym (append_assoc xs ys ns)

front : (at n : ℕ) (room brought : List ℕ) → at ≤ length room → n ≤ length brought
    → take (at + n) (put_mid at (length room - at) room brought) ≡ take at room ++ take n brought
front at n room brought h k =
    ap (λ m. take (m + n) (put_mid at (length room - at) room brought)) (sym (length-take-le at room h))
    ∙ take-append-add (take at room) (brought ++ post_of at (length room - at) room) n
    ∙ ap (λ t. take at room ++ t) (take-append-le n brought (post_of at (length room - at) room) k)

pub one_read : (known left next : Option (List ℕ)) (first room brought : List ℕ) (at n : ℕ)
    → ReadSoFar known left first room at → length brought ≡ length room - at → n ≤ length brought → Consumes left next (take n brought)
    → ReadSoFar known next first (put_mid at (length room - at) room brought) (at + n)
one_read known left next first room brought at n b same within e =
    let s : length (put_mid at (length room - at) room brought) ≡ length room =
    same_len_mid at (length room - at) room brought (same ∙ sym (mid_len at (length room) room (omega arith))) in
    record {
      within = rw s (omega (arith, within, same, b.within));
      same = s ∙ b.same;
      parted = rw (front at n room brought b.within within) (consumes_both known left next (take at room) (take n brought) b.parted e);
    }

-- the loop's end: a read brought nothing, or there is no more room
pub whole : (known left : Option (List ℕ)) (first room : List ℕ) (at : ℕ)
    → ReadSoFar known left first room at → (at < length room → IsAtEnd left) → ReadsWhole known left (take at room) (length first)
whole known left first room at b e =
    let n : length (take at room) ≡ at = length-take-le at room b.within in
    record {
      within = omega (arith, n, b.within, b.same);
      parted = b.parted;
      ended = λ h. e (omega (arith, h, n, b.same));
    }

-- ---- what a rebuild gives

no_refusal : {X : Type 0} → LineAnswer.Said Answer.Done ≡ LineAnswer.SheetNotTaken → X
no_refusal e = cc

pub shows_none : (d : Driver) (sheet : List ℕ) (r : Turn) → Rebuilds d sheet r → r.answer ≡ LineAnswer.SheetNotTaken → Shows sheet None
shows_none d sheet _ (done x t) e = no_refusal e
shows_none d sheet _ (not_taken f) e = record { taken = λ y u. absurd (f y u); some = tt; none = λ g. refl }

pub shows_done : (d : Driver) (sheet : List ℕ) (r : Turn) → Rebuilds d sheet r → ¬ (r.answer ≡ LineAnswer.SheetNotTaken)
    → Shows sheet (Some r.driver)
shows_done d sheet _ (done x t) n = record {
  taken = λ y u. ap Some (one_driver sheet x y t u);
  some = t;
  none = λ f. absurd (f x t);
}
shows_done d sheet _ (not_taken f) n = absurd (n refl)

-- ---- what the bytes that were read are

-- no sheet that is put back has 4,097 bytes, so where what was read is one, it is all that the reader had
all_read : (xs : List ℕ) (left : Option (List ℕ)) (read : List ℕ) → ReadsWhole (Some xs) left read 4097 → length read ≤ 2694 → xs ≡ read
all_read xs None read w h = absurd w.parted
all_read xs (Some ys) read w h = w.parted ∙ ap (λ t. read ++ t) (w.ended (omega arith)) ∙ append-nil read

read_within : (xs : List ℕ) (left : Option (List ℕ)) (read : List ℕ) → ReadsWhole (Some xs) left read 4097 → length read ≤ length xs
read_within xs None read w = absurd w.parted
read_within xs (Some ys) read w = rw w.parted (simp length-append (omega arith))

pub shown_by : (known left : Option (List ℕ)) (read : List ℕ) (got : Option Driver) → ReadsWhole known left read 4097 → Shows read got
    → ShownBy known got
shown_by None left read got w s = tt
shown_by (Some xs) left read got w s = record {
  taken = λ x t. s.taken x (subst (λ u. Taken u x) (all_read xs left read w (omega (
    arith,
    read_within xs left read w,
    taken_length xs x t.0 t.1,
  ))) t);
  some = some got s.some;
  none = λ f. s.none (λ x t. f x (back x t));
}
  where
    back : (x : Driver) → Taken read x → Taken xs x
    back x t = subst (λ u. Taken u x) (sym (all_read xs left read w (taken_length read x t.0 t.1))) t

    some : (g : Option Driver) → IfSome g (λ x. Taken read x) → IfSome g (λ x. Taken xs x)
    some None t = tt
    some (Some x) t = back x t
