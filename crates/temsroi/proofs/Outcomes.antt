-- What is promised of a call settles what it leaves.
use Prim.Native.Nat.{ℕ}
use native.Mathlib.Omega.{arith}
use mathlib.Core.List.{[]}
use mathlib.Core.Logic.{inl, inr}
use mathlib.Core.Path.{refl, ap}
use lib.ListN.{replicate}
use Rattle.std.proofs.lemmas.List.{length-replicate}
use Rattle.rebuild.specs.Rebuilds.{Taken}
use Rattle.script_sheet.specs.Sheets.{life_lines, lines_of}
use Rattle.sheet_lines.specs.Lines.{count_line}
use Rattle.driver.specs.Turns.{turn_of}
use Rattle.head_driver.specs.declared.Driver.{Driver}
use Rattle.rebuild.proofs.Rebuilt.{one_driver}
use Rattle.script_call.specs.Calls.{call}
use Rattle.temsroi.specs.Calls.{left, sheet_in, turn_left, too_short, not_taken, made, written}
use Rattle.temsroi.specs.Statements.{OneBeginning, OneOutcome, ZerosNotTaken}
use Rattle.temsroi.proofs.LentBuffers.{zeros_nothing}

pub one_outcome : OneOutcome
one_outcome line sheet answer _ _ (too_short h) (too_short k) = refl
one_outcome line sheet answer _ _ (too_short (inl h)) (not_taken p q f) = absurd (omega arith)
one_outcome line sheet answer _ _ (too_short (inr h)) (not_taken p q f) = absurd (omega arith)
one_outcome line sheet answer _ _ (too_short (inl h)) (made p q x t) = absurd (omega arith)
one_outcome line sheet answer _ _ (too_short (inr h)) (made p q x t) = absurd (omega arith)
one_outcome line sheet answer _ _ (not_taken p q f) (too_short (inl h)) = absurd (omega arith)
one_outcome line sheet answer _ _ (not_taken p q f) (too_short (inr h)) = absurd (omega arith)
one_outcome line sheet answer _ _ (not_taken p q f) (not_taken p' q' f') = refl
one_outcome line sheet answer _ _ (not_taken p q f) (made p' q' x t) = absurd (f x t)
one_outcome line sheet answer _ _ (made p q x t) (too_short (inl h)) = absurd (omega arith)
one_outcome line sheet answer _ _ (made p q x t) (too_short (inr h)) = absurd (omega arith)
one_outcome line sheet answer _ _ (made p q x t) (not_taken p' q' f) = absurd (f x t)
one_outcome line sheet answer _ _ (made p q x t) (made p' q' y u) =
    ap (λ (d : Driver). turn_left (turn_of d (call line) sheet) sheet answer) (one_driver (sheet_in sheet) x y t u)

pub one_beginning : OneBeginning
one_beginning sheet _ _ _ _ (too_short h) (too_short k) = (refl, refl)
one_beginning sheet _ _ _ _ (too_short h) (written k) = absurd (omega arith)
one_beginning sheet _ _ _ _ (written h) (too_short k) = absurd (omega arith)
one_beginning sheet _ _ _ _ (written h) (written k) = (refl, refl)

-- every sheet begins with a bracket
no_sheet : (x : Driver) → ¬ Taken [] x
unfolding lines_of life_lines count_line
no_sheet x t = cc (t.0.1)

pub zeros_not_taken : ZerosNotTaken
zeros_not_taken n line answer l long room p =
    one_outcome line (replicate n 0) answer l (left 5 (replicate n 0) answer) p
    (not_taken (rw (length-replicate {A = ℕ} n 0) long) room (λ x. rw (zeros_nothing n) (no_sheet x)))
