-- The sixteen waiters under the moves: a preparation that ends leaves none parked, and any other waiter as it was.
use Prim.Native.Nat.{ℕ, zero, suc}
use mathlib.Core.List.{List, [], ◌∷◌}
use mathlib.Core.Path.{◌≡◌, refl, ap, ◌∙◌}
use lib.ListN.{length, set, replicate}
use Rattle.std.proofs.lemmas.Bool.{cond_both}
use mathlib.Core.Bool.{false}
use Rattle.head_attempt.specs.Attempts.{first_end, publish}
use Rattle.head_attempt.specs.Waiters.{slot_of, wake, woken}
use Rattle.head_current.specs.Heads.{is_preparing}
use Rattle.head_driver.specs.Moved.{woken_waiters}
use Rattle.head_waits.specs.Parts.{waiter_at}
use Rattle.head_values.specs.declared.ReadAnchor.{ReadAnchor}
use Rattle.head_attempt.specs.declared.HeadCompletion.{HeadCompletion}
use Rattle.head_attempt.specs.declared.Waiter.{Waiter}
use Rattle.head_attempt.specs.declared.WaiterSlot.{WaiterSlot}
use Rattle.head_current.specs.declared.CurrentHead.{CurrentHead}
use Rattle.alike.specs.Invariant.{NoneParked, NotParked, Parks}
use Rattle.head_values.specs.Ranges.{AnchorFits}
use Rattle.head_current.specs.Ranges.{HeadFits}
use Rattle.alike.specs.Ranges.{WaiterFits, WaitersFit}

-- any end but the open one
abbrev pub Ends : HeadCompletion → Type 0
Ends HeadCompletion.Open = ⊥
Ends HeadCompletion.Settled = Unit {0}
Ends HeadCompletion.Superseded = Unit {0}
Ends HeadCompletion.Abandoned = Unit {0}

pub woken_not : (t : HeadCompletion) (a : ReadAnchor) (w : Waiter) → Ends t → NotParked (woken t a w)
unfolding woken
woken_not t a Waiter.Free h = tt
woken_not HeadCompletion.Open a Waiter.Parked h = h
woken_not HeadCompletion.Settled a Waiter.Parked h = tt
woken_not HeadCompletion.Superseded a Waiter.Parked h = tt
woken_not HeadCompletion.Abandoned a Waiter.Parked h = tt
woken_not t a (Waiter.Abandoned b) h = tt
woken_not t a (Waiter.Ended b) h = tt

woken_same : (t : HeadCompletion) (a : ReadAnchor) (w : Waiter) → NotParked w → woken t a w ≡ w
unfolding woken
woken_same t a Waiter.Free p = refl
woken_same t a Waiter.Parked p = absurd p
woken_same t a (Waiter.Abandoned b) p = refl
woken_same t a (Waiter.Ended b) p = refl

woken_fits : (t : HeadCompletion) (a : ReadAnchor) (w : Waiter) → AnchorFits a → WaiterFits w → WaiterFits (woken t a w)
unfolding woken
woken_fits t a Waiter.Free f g = tt
woken_fits HeadCompletion.Open a Waiter.Parked f g = tt
woken_fits HeadCompletion.Settled a Waiter.Parked f g = f
woken_fits HeadCompletion.Superseded a Waiter.Parked f g = f
woken_fits HeadCompletion.Abandoned a Waiter.Parked f g = f
woken_fits t a (Waiter.Abandoned b) f g = g
woken_fits t a (Waiter.Ended b) f g = g

-- all of them

wake_length : (t : HeadCompletion) (a : ReadAnchor) (ws : List WaiterSlot) → length (wake t a ws) ≡ length ws
unfolding wake
wake_length t a [] = refl
wake_length t a (w ∷ ws) = ap suc (wake_length t a ws)

wake_none : (t : HeadCompletion) (a : ReadAnchor) (ws : List WaiterSlot) → Ends t → NoneParked (wake t a ws)
unfolding wake
wake_none t a [] h = tt
wake_none t a (w ∷ ws) h = (woken_not t a w.waiter h, wake_none t a ws h)

wake_fits : (t : HeadCompletion) (a : ReadAnchor) (ws : List WaiterSlot) → AnchorFits a → WaitersFit ws → WaitersFit (wake t a ws)
unfolding wake
wake_fits t a [] f g = tt
wake_fits t a (w ∷ ws) f g = (woken_fits t a w.waiter f g.0, wake_fits t a ws f g.1)

pub wake_at : (t : HeadCompletion) (a : ReadAnchor) (ws : List WaiterSlot) (n : ℕ) → waiter_at (wake t a ws) n ≡ woken t a (waiter_at ws n)
unfolding wake waiter_at
wake_at t a [] n = unfold woken in refl
wake_at t a (w ∷ ws) zero = refl
wake_at t a (w ∷ ws) (suc n) = wake_at t a ws n

-- those of the current preparation, if it ends

pub ends_first : (e t : HeadCompletion) → Ends t → Ends (first_end e t)
unfolding first_end
ends_first HeadCompletion.Open t h = h
ends_first HeadCompletion.Settled t h = tt
ends_first HeadCompletion.Superseded t h = tt
ends_first HeadCompletion.Abandoned t h = tt

-- a head that stays as it is ends nothing
pub woken_not_moved : (t : HeadCompletion) (c : CurrentHead) (ws : List WaiterSlot) → woken_waiters t c c ws ≡ ws
unfolding woken_waiters is_preparing
woken_not_moved t CurrentHead.Absent ws = refl
woken_not_moved t (CurrentHead.Unclaimed u) ws = refl
woken_not_moved t (CurrentHead.Preparing u) ws = refl
woken_not_moved t (CurrentHead.Settled s) ws = refl

module _ (t : HeadCompletion) where
  pub woken_length : (c now : CurrentHead) (ws : List WaiterSlot) → length (woken_waiters t c now ws) ≡ length ws
  unfolding woken_waiters
  woken_length CurrentHead.Absent now ws = refl
  woken_length (CurrentHead.Unclaimed u) now ws = refl
  woken_length (CurrentHead.Preparing u) now ws = cond_both (is_preparing now) _ _ (λ (x : List WaiterSlot). length x ≡ length ws) (λ e. refl) (λ e. wake_length _ _ ws)
  woken_length (CurrentHead.Settled s) now ws = refl

  woken_none : (c now : CurrentHead) (ws : List WaiterSlot) → Ends t → is_preparing now ≡ false → Parks c ws → NoneParked (woken_waiters t c now ws)
  unfolding woken_waiters publish
  woken_none CurrentHead.Absent now ws h e k = k
  woken_none (CurrentHead.Unclaimed u) now ws h e k = k
  woken_none (CurrentHead.Preparing u) now ws h e k = rw e (wake_none _ u.delivery.anchor ws (ends_first u.attempt.end t h))
  woken_none (CurrentHead.Settled s) now ws h e k = k

  -- so none stays parked but on a preparation that goes on
  pub woken_parks : (c now : CurrentHead) (ws : List WaiterSlot) → Ends t → Parks c ws → Parks now (woken_waiters t c now ws)
  unfolding is_preparing
  woken_parks c CurrentHead.Absent ws h k = woken_none c CurrentHead.Absent ws h refl k
  woken_parks c (CurrentHead.Unclaimed u) ws h k = woken_none c (CurrentHead.Unclaimed u) ws h refl k
  woken_parks c (CurrentHead.Preparing u) ws h k = tt
  woken_parks c (CurrentHead.Settled s) ws h k = woken_none c (CurrentHead.Settled s) ws h refl k

  pub woken_fit : (c now : CurrentHead) (ws : List WaiterSlot) → HeadFits c → WaitersFit ws → WaitersFit (woken_waiters t c now ws)
  unfolding woken_waiters
  woken_fit CurrentHead.Absent now ws f g = g
  woken_fit (CurrentHead.Unclaimed u) now ws f g = g
  woken_fit (CurrentHead.Preparing u) now ws f g = cond_both (is_preparing now) _ _ WaitersFit (λ e. g) (λ e. wake_fits _ u.delivery.anchor ws f.delivery.anchor g)
  woken_fit (CurrentHead.Settled s) now ws f g = g

  pub woken_at : (c now : CurrentHead) (ws : List WaiterSlot) (n : ℕ) → NotParked (waiter_at ws n) → waiter_at (woken_waiters t c now ws) n ≡ waiter_at ws n
  unfolding woken_waiters
  woken_at CurrentHead.Absent now ws n p = refl
  woken_at (CurrentHead.Unclaimed u) now ws n p = refl
  woken_at (CurrentHead.Preparing u) now ws n p = cond_both (is_preparing now) _ _ (λ (x : List WaiterSlot). waiter_at x n ≡ waiter_at ws n)
      (λ e. refl)
      (λ e. wake_at _ u.delivery.anchor ws n ∙ woken_same _ _ (waiter_at ws n) p)
  woken_at (CurrentHead.Settled s) now ws n p = refl

-- one of them

pub set_none : (ws : List WaiterSlot) (n : ℕ) (w : Waiter) → NotParked w → NoneParked ws → NoneParked (set ws n (slot_of w))
set_none [] n w f g = tt
set_none (x ∷ ws) zero w f g = (f, g.1)
set_none (x ∷ ws) (suc n) w f g = (g.0, set_none ws n w f g.1)

pub set_fits : (ws : List WaiterSlot) (n : ℕ) (w : Waiter) → WaiterFits w → WaitersFit ws → WaitersFit (set ws n (slot_of w))
set_fits [] n w f g = tt
set_fits (x ∷ ws) zero w f g = (f, g.1)
set_fits (x ∷ ws) (suc n) w f g = (g.0, set_fits ws n w f g.1)

pub at_none : (ws : List WaiterSlot) (n : ℕ) → NoneParked ws → NotParked (waiter_at ws n)
unfolding waiter_at
at_none [] n p = tt
at_none (w ∷ ws) zero p = p.0
at_none (w ∷ ws) (suc n) p = at_none ws n p.1

pub at_fits : (ws : List WaiterSlot) (n : ℕ) → WaitersFit ws → WaiterFits (waiter_at ws n)
unfolding waiter_at
at_fits [] n f = tt
at_fits (w ∷ ws) zero f = f.0
at_fits (w ∷ ws) (suc n) f = at_fits ws n f.1

-- none of a new driver's

pub free_none : (n : ℕ) → NoneParked (replicate n (slot_of Waiter.Free))
free_none zero = tt
free_none (suc n) = (tt, free_none n)

pub free_fits : (n : ℕ) → WaitersFit (replicate n (slot_of Waiter.Free))
free_fits zero = tt
free_fits (suc n) = (tt, free_fits n)
