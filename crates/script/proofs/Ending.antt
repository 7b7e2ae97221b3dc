-- The end of the input.
use Rattle.std.specs.Prelude.{cond, ◌&&◌}
use Prim.Native.Nat.{ℕ, zero, suc, ◌≤◌, ◌<◌}
use native.Mathlib.Nat.{not-suc-le-zero}
use native.Mathlib.Omega.{arith}
use mathlib.Core.Bool.{Bool, true, false, true≢false}
use mathlib.Core.List.{List, [], ◌∷◌}
use mathlib.Core.Path.{◌≡◌, refl, sym, ◌∙◌}
use lib.Dec.{leb}
use lib.ListN.{length, take}
use borrow.Author.Tests.{leb-true}
use Rattle.pending.specs.Kept.{line_so_far}
use Rattle.script_call.specs.Calls.{call}
use Rattle.script.specs.Parts.{Prints, at_front}
use Rattle.script.specs.Prints.{leaves, prints}
use Rattle.head_driver.specs.declared.Driver.{Driver}
use Rattle.script.specs.declared.Printed.{Printed}
use Rattle.script.specs.Feeds.{Finishes, reading, lent, last_of, last_left, last_prints, last_leaves, usable}

-- what can be used of what a host lends
pub record Lent (pending held out : ℕ) : Type 0 where
  pub room : 513 ≤ pending
  pub few : held ≤ 513
  pub space : 4096 ≤ out

pub lent_of : (pending held out : ℕ) (t : Bool) → t ≡ usable pending held out → t ≡ true → Lent pending held out
unfolding usable
lent_of pending held out t e is = go (leb 513 pending) (leb held 513) (leb 4096 out) refl refl refl (sym is ∙ e)
  where
    go : (a b c : Bool) → leb 513 pending ≡ a → leb held 513 ≡ b → leb 4096 out ≡ c → true ≡ (a && (b && c)) → Lent pending held out
    go true true true f g h k = record { room = leb-true 513 pending f; few = leb-true held 513 g; space = leb-true 4096 out h }
    go true true false f g h k = absurd (true≢false k)
    go true false c f g h k = absurd (true≢false k)
    go false b c f g h k = absurd (true≢false k)

pub lent_room : (pending held out : ℕ) (t : Bool) → t ≡ usable pending held out → t ≡ true → held ≤ pending
lent_room pending held out t e is = let l = lent_of pending held out t e is in let r : 513 ≤ pending = l.room in let f : held ≤ 513 = l.few in omega arith

pub lent_space : (pending held out : ℕ) (t : Bool) → t ≡ usable pending held out → t ≡ true → 4096 ≤ out
lent_space pending held out t e is = (lent_of pending held out t e is).space

module _ (d : Driver) (pending : List ℕ) (held : ℕ) (old : List ℕ) where
  -- nothing is written
  nothing : Prints [] d old old (record { driver = d; written = 0 })
  unfolding at_front
  nothing = record { driver = refl; bytes = refl; count = refl }

  pub none_held : held ≤ 0 → Finishes (reading d pending held) old old (record { driver = d; written = 0 })
  unfolding last_prints last_leaves line_so_far
  none_held h = go held h (lent (reading d pending held) old)
    where
      go : (n : ℕ) → n ≤ 0 → (t : Bool) → Prints (cond t (last_of d (take n pending)) []) (cond t (last_left d (take n pending)) d) old old (record { driver = d; written = 0 })
      go zero h true = nothing
      go zero h false = nothing
      go (suc n) h t = absurd (not-suc-le-zero h)

  pub not_lent : (t : Bool) → t ≡ usable (length pending) held (length old) → t ≡ false → Finishes (reading d pending held) old old (record { driver = d; written = 0 })
  not_lent t e is = let u : usable (length pending) held (length old) ≡ false = (sym e ∙ is) in rw u nothing

  -- a line of one byte or more is held
  pub last_line : (t : Bool) → t ≡ usable (length pending) held (length old) → t ≡ true → 0 < held → (new : List ℕ) (r : Printed)
      → Prints (prints d (call (take held pending))) (leaves d (call (take held pending))) old new r → Finishes (reading d pending held) old new r
  unfolding last_prints last_leaves line_so_far
  last_line t e is h new r p = let u : usable (length pending) held (length old) ≡ true = (sym e ∙ is) in rw u (go held pending h (lent_of _ _ _ t e is).room p)
    where
      go : (n : ℕ) (l : List ℕ) → 0 < n → 513 ≤ length l → Prints (prints d (call (take n l))) (leaves d (call (take n l))) old new r
          → Prints (last_of d (take n l)) (last_left d (take n l)) old new r
      go zero l h k q = absurd (not-suc-le-zero h)
      go (suc n) [] h k q = absurd (not-suc-le-zero k)
      go (suc n) (b ∷ l) h k q = q
