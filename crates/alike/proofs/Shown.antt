-- What is shown against what can be told: a driver is alike to what its sheet shows, so drivers that show the same answer alike; and drivers that are alike show the same.
use Rattle.std.proofs.lemmas.Bool.{or_parts}
use Rattle.std.specs.Prelude.{Option, Some, ◌&&◌}
use Rattle.head_ready.specs.declared.Generation.{Generation}
use Rattle.head_current.specs.declared.DeltaReport.{DeltaReport}
use Prim.Native.Nat.{ℕ}
use mathlib.Core.Bool.{Bool, false}
use mathlib.Core.List.{List, [], ◌∷◌}
use mathlib.Core.Path.{◌≡◌, refl, sym, ap, ◌∙◌, subst, ap₂}
use Rattle.head_step.specs.Steps.{step}
use Rattle.head_values.specs.Anchors.{holds}
use Rattle.head_attempt.specs.Attempts.{settled}
use Rattle.head_count.specs.Counters.{seq_of}
use Rattle.head_current.specs.Heads.{anchor_of, delivery, is_settled}
use Rattle.head_ready.specs.Generations.{slot_anchor}
use Rattle.head_values.specs.declared.ReadAnchor.{ReadAnchor}
use Rattle.head_count.specs.declared.Epoch.{Epoch}
use Rattle.head_attempt.specs.declared.HeadCompletion.{HeadCompletion}
use Rattle.head_attempt.specs.declared.Waiter.{Waiter}
use Rattle.head_attempt.specs.declared.WaiterSlot.{WaiterSlot}
use Rattle.head_current.specs.declared.CurrentHead.{CurrentHead}
use Rattle.head_current.specs.declared.HeadDelivery.{HeadDelivery}
use Rattle.head_driver.specs.declared.Driver.{Driver}
use Rattle.head_life.specs.declared.HeadLifecycle.{HeadLifecycle}
use Rattle.head_call.specs.declared.Call.{Call}
use Rattle.alike.proofs.Alike.{Alike, SameHead, SameSuperseded, Telling, both_step, driver_of, same_of}
use Rattle.alike.proofs.KeptOrder.{ordered_step}
use Rattle.alike.proofs.Masks.{mask_holds, mask_same}
use Rattle.alike.specs.Canon.{canon, masked, shown_head, shown_life, shown_superseded, shown_waiter, shown_waiters}
use Rattle.alike.specs.Invariant.{Ordered, WhenSettled}
use Rattle.alike.specs.Runs.{answers}
use Rattle.alike.specs.Statements.{ShowsEnough, ShowsOn}

-- Masked is just where no answer tells.

settled_both : (c : CurrentHead) (x : Bool) → (is_settled c && x) ≡ false → WhenSettled c (λ s. x ≡ false)
unfolding is_settled
settled_both CurrentHead.Absent x e = tt
settled_both (CurrentHead.Unclaimed u) x e = tt
settled_both (CurrentHead.Preparing u) x e = tt
settled_both (CurrentHead.Settled s) x e = e

both_settled_false : (c : CurrentHead) (x : Bool) → WhenSettled c (λ s. x ≡ false) → (is_settled c && x) ≡ false
unfolding is_settled
both_settled_false CurrentHead.Absent x e = refl
both_settled_false (CurrentHead.Unclaimed u) x e = refl
both_settled_false (CurrentHead.Preparing u) x e = refl
both_settled_false (CurrentHead.Settled s) x e = e

telling_unmasked : (c : CurrentHead) (p : Option Generation) (a : ReadAnchor) → Telling c p a → masked c p a ≡ false
unfolding masked
telling_unmasked c p a t = rw t.0 (both_settled_false c (holds (slot_anchor p) a) t.1)

unmasked_telling : (c : CurrentHead) (p : Option Generation) (a : ReadAnchor) → masked c p a ≡ false → Telling c p a
unfolding masked
unmasked_telling c p a e =
    let b = or_parts (holds (anchor_of (delivery c)) a) (is_settled c && holds (slot_anchor p) a) e in
    (b.0, settled_both c (holds (slot_anchor p) a) b.1)

-- A driver and what it shows are alike.

module _ (l : HeadLifecycle) (v : Ordered l) where
  seq_shown : (c : CurrentHead) (held : HeadDelivery) → l.current ≡ c → delivery c ≡ Some held → seq_of l.stats.delivered ≡ held.seq
  seq_shown c held q h = sym ((rw (q, h) at v.seq_current) ∙ v.seq_delivered)

  shown_head_lem : (c : CurrentHead) → l.current ≡ c → SameHead c (shown_head l.stats.delivered l.claim_epoch c)
  unfolding shown_head delivery settled
  shown_head_lem CurrentHead.Absent q = SameHead.both_absent
  shown_head_lem (CurrentHead.Unclaimed u) q = rw (seq_shown _ u.delivery q refl) (SameHead.both_unclaimed u.delivery _ _ _ _)
  shown_head_lem (CurrentHead.Preparing u) q = rw (seq_shown _ u.delivery q refl, ← rw q at v.preparing_attempt) (SameHead.both_preparing u)
  shown_head_lem (CurrentHead.Settled s) q = rw (seq_shown _ s.delivery q refl) (same_end s.delivery s.report s.attempt.epoch _ (rw q at v.settled_end))
    where
      same_end : (held : HeadDelivery) (r : Option DeltaReport) (k x : Epoch) {t z : HeadCompletion} → t ≡ z
          → SameHead (CurrentHead.Settled (record { delivery = held; report = r; attempt = record { epoch = k; end = t } })) (CurrentHead.Settled (record { delivery = held; report = r; attempt = record { epoch = x; end = z } }))
      same_end held r k x e = rw e (SameHead.both_settled held r k x _)

shown_superseded_lem : (c : CurrentHead) (p : Option Generation) (s : Option ReadAnchor) → SameSuperseded c p s (shown_superseded c p s)
unfolding shown_superseded
shown_superseded_lem c p s a t = mask_holds (masked c p) a s (telling_unmasked c p a t)

shown_waiter_lem : (w : Waiter) → shown_waiter w ≡ w
unfolding shown_waiter
shown_waiter_lem Waiter.Free = refl
shown_waiter_lem Waiter.Parked = refl
shown_waiter_lem (Waiter.Abandoned a) = refl
shown_waiter_lem (Waiter.Ended a) = refl

pub shown_waiters_lem : (ws : List WaiterSlot) → shown_waiters ws ≡ ws
unfolding shown_waiters
shown_waiters_lem [] = refl
shown_waiters_lem (s ∷ ss) = rw (shown_waiter_lem s.waiter, shown_waiters_lem ss) refl

pub alike_canon : (d : Driver) → Ordered d.life → Alike d (canon d)
unfolding canon shown_life
alike_canon d v =
    let l = d.life in
    let n = v.seq_delivered in
    let ws = sym (shown_waiters_lem d.waiters) in
    subst (Alike d)
    (λ j. driver_of (shown_head l.stats.delivered l.claim_epoch l.current) (shown_superseded l.current l.previous l.superseded) l.installed l.previous (n j) l.claim_epoch l.stats (ws j))
    (Alike.alike (shown_head_lem l v l.current refl) (shown_superseded_lem l.current l.previous l.superseded))

-- Drivers that are alike answer alike, so drivers that show the same do.

alike_answers : {d₁ d₂ : Driver} → Alike d₁ d₂ → Ordered d₁.life → (cs : List Call) → answers d₁ cs ≡ answers d₂ cs
unfolding answers
alike_answers w v [] = refl
alike_answers {d₁ = d₁} {d₂ = d₂} w v (c ∷ cs) =
    let b = both_step w v c in
    ap₂ ◌∷◌ b.answer (alike_answers {d₁ = (step d₁ c).driver} {d₂ = (step d₂ c).driver} b.driver (ordered_step d₁ c v) cs)

pub shows_enough : ShowsEnough
shows_enough d₁ d₂ v₁ v₂ q cs =
    alike_answers (alike_canon d₁ v₁.ordered) v₁.ordered cs
    ∙ ap (λ d. answers d cs) q
    ∙ sym (alike_answers (alike_canon d₂ v₂.ordered) v₂.ordered cs)

-- And they show the same.

same_shown : {c₁ c₂ : CurrentHead} → SameHead c₁ c₂ → (n : ℕ) (e : Epoch) → shown_head n e c₁ ≡ shown_head n e c₂
unfolding shown_head
same_shown w n e = same_of w (shown_head n e) (λ held h k l t. refl) (λ held r k l t. refl)

same_masked : {c₁ c₂ : CurrentHead} → SameHead c₁ c₂ → (p : Option Generation) (s : Option ReadAnchor) → shown_superseded c₁ p s ≡ shown_superseded c₂ p s
unfolding shown_superseded masked delivery is_settled
same_masked w p s = same_of w (λ c. shown_superseded c p s) (λ held h k l t. refl) (λ held r k l t. refl)

same_superseded : (c : CurrentHead) (p : Option Generation) (s₁ s₂ : Option ReadAnchor) → SameSuperseded c p s₁ s₂ → shown_superseded c p s₁ ≡ shown_superseded c p s₂
unfolding shown_superseded
same_superseded c p s₁ s₂ m = mask_same (masked c p) s₁ s₂ (λ a e. m a (unmasked_telling c p a e))

pub alike_shown : {d₁ d₂ : Driver} → Alike d₁ d₂ → canon d₁ ≡ canon d₂
unfolding canon shown_life
alike_shown (Alike.alike {c₁ = c₁} {s₁ = s₁} {s₂ = s₂} {i = i} {p = p} {e = e} {t = t} {ws = ws} w m) =
    let h = same_shown w t.delivered e in
    let s = same_superseded c₁ p s₁ s₂ m ∙ same_masked w p s₂ in
    λ j. driver_of (h j) (s j) i p (seq_of t.delivered) e t (shown_waiters ws)

pub shows_on : ShowsOn
shows_on d₁ d₂ v₁ v₂ q c =
    alike_shown ((both_step (alike_canon d₁ v₁.ordered) v₁.ordered c).driver)
    ∙ ap (λ d. canon (step d c).driver) q
    ∙ sym (alike_shown ((both_step (alike_canon d₂ v₂.ordered) v₂.ordered c).driver))
