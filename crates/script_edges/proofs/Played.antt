-- One byte of a script.
use Prim.Native.Nat.{ℕ, ◌≤◌, ◌<◌}
use native.Mathlib.Omega.{arith}
use mathlib.Core.List.{List, [], ◌∷◌}
use mathlib.Core.Path.{◌≡◌, ap, ◌∙◌}
use lib.ListN.{take}
use Rattle.script.specs.Feeds.{Reading, TakesSome, all_taken}
use Rattle.script.specs.declared.Fed.{Fed}
use Rattle.script_edges.specs.Plays.{Plays, TakesByte, afresh}

is_one : (n : ℕ) → 0 < n → n ≤ 1 → n ≡ 1
is_one n h k = omega arith

pub takes_byte : (s t : Reading) (b : ℕ) (old new : List ℕ) (r : Fed) → TakesSome s t (b ∷ []) old new r → TakesByte s t b r.taken
takes_byte s t b old new r takes =
    let w : r.taken ≤ 1 = takes.within in
    record { within = w; stands = λ k. takes.feeds.stands ∙ ap (λ (n : ℕ). all_taken s (take n (b ∷ []))) (is_one r.taken k w) }

pub marked : (s t : Reading) (b : ℕ) (r : Fed) → b ≡ 37 → r ≡ afresh → Plays s t b r
marked s t b r is e = record { mark = λ k. e; byte = λ n. absurd (n is) }

pub unmarked : (s t : Reading) (b : ℕ) (r : Fed) → (b ≡ 37 → ⊥) → TakesByte s t b r.taken → Plays s t b r
unmarked s t b r ne takes = record { mark = λ k. absurd (ne k); byte = λ n. takes }
