-- What a sheet shows is itself a driver that keeps the invariant, and shows just that.
use Rattle.std.specs.Prelude.{Option, None, Some}
use Rattle.head_ready.specs.declared.Generation.{Generation}
use Prim.Native.Nat.{ℕ, ◌≤◌}
use mathlib.Core.Bool.{false}
use mathlib.Core.List.{List}
use mathlib.Core.Path.{◌≡◌, refl, ◌∙◌}
use lib.Dec.{lit<}
use Rattle.head_values.specs.Anchors.{holds}
use Rattle.head_attempt.specs.Attempts.{minted, settled}
use Rattle.head_current.specs.Heads.{anchor_of, delivery, is_settled}
use Rattle.head_ready.specs.Generations.{slot_anchor}
use Rattle.head_values.specs.declared.ReadAnchor.{ReadAnchor}
use Rattle.head_count.specs.declared.Epoch.{Epoch}
use Rattle.head_attempt.specs.declared.HeadCompletion.{HeadCompletion}
use Rattle.head_attempt.specs.declared.WaiterSlot.{WaiterSlot}
use Rattle.head_current.specs.declared.CurrentHead.{CurrentHead}
use Rattle.head_current.specs.declared.HeadDelivery.{HeadDelivery}
use Rattle.head_current.specs.declared.UnsettledHead.{UnsettledHead}
use Rattle.head_driver.specs.declared.Driver.{Driver}
use Rattle.alike.proofs.Alike.{Alike, SameHead, SameSuperseded, same_delivery, same_report}
use Rattle.alike.proofs.Masks.{mask_fits, mask_twice}
use Rattle.alike.proofs.Shown.{alike_canon, shown_waiters_lem}
use Rattle.alike.proofs.Tests.{anchor_same, true_false}
use Rattle.alike.specs.Canon.{canon, masked, shown_delivery, shown_head, shown_life, shown_superseded, shown_waiters}
use Rattle.alike.specs.Invariant.{Any, ByHead, OpenOrAbandoned, Ordered, Parks, WhenAbsent}
use Rattle.head_current.specs.Ranges.{DeliveryFits, HeadFits}
use Rattle.alike.specs.Ranges.{DriverFits}
use Rattle.hash.specs.Ranges.{Fits}
use Rattle.alike.specs.Statements.{CanonKept, CanonTwice}

-- The lifecycle's rules read no epoch of an attempt that is not being prepared.

same_by : {c₁ c₂ : CurrentHead} → SameHead c₁ c₂ → (A : Type 0) (U : HeadDelivery → HeadCompletion → Type 0) (P : UnsettledHead → Type 0) (S : HeadDelivery → HeadCompletion → Type 0)
    → ByHead A (λ u. U u.delivery u.attempt.end) P (λ s. S s.delivery s.attempt.end) c₁ → ByHead A (λ u. U u.delivery u.attempt.end) P (λ s. S s.delivery s.attempt.end) c₂
same_by SameHead.both_absent A U P S x = x
same_by (SameHead.both_unclaimed held h k l t) A U P S x = x
same_by (SameHead.both_preparing u) A U P S x = x
same_by (SameHead.both_settled held r k l t) A U P S x = x

-- with no head every anchor tells
same_nothing : (s₁ s₂ : Option ReadAnchor) → ((a : ReadAnchor) → holds s₁ a ≡ holds s₂ a) → s₁ ≡ None → s₂ ≡ None
unfolding holds
same_nothing s₁ None m q = refl
same_nothing s₁ (Some b) m q = true_false (m b ∙ anchor_same b b refl) (rw q refl)

same_rest : {c₁ c₂ : CurrentHead} → SameHead c₁ c₂ → (s₁ s₂ : Option ReadAnchor) (i p : Option Generation) → SameSuperseded c₁ p s₁ s₂
    → WhenAbsent c₁ ((s₁ ≡ None) × (i ≡ None) × (p ≡ None)) → WhenAbsent c₂ ((s₂ ≡ None) × (i ≡ None) × (p ≡ None))
unfolding delivery anchor_of holds
same_rest SameHead.both_absent s₁ s₂ i p m f = (same_nothing s₁ s₂ (λ a. m a (refl, tt)) f.0, f.1, f.2)
same_rest (SameHead.both_unclaimed held h k l t) s₁ s₂ i p m f = tt
same_rest (SameHead.both_preparing u) s₁ s₂ i p m f = tt
same_rest (SameHead.both_settled held r k l t) s₁ s₂ i p m f = tt

ordered_alike : {d₁ d₂ : Driver} → Alike d₁ d₂ → Ordered d₁.life → Ordered d₂.life
ordered_alike (Alike.alike {s₁ = s₁} {s₂ = s₂} {i = i} {p = p} {e = e} w m) v = record {
  seq_delivered = v.seq_delivered;
  seq_current = rw (same_delivery w) at v.seq_current;
  preparing_attempt = same_by w (Unit {0}) (λ h t. Unit {0}) (λ u. u.attempt ≡ minted e) (λ h t. Unit {0}) v.preparing_attempt;
  settled_end = same_by w (Unit {0}) (λ h t. Unit {0}) Any (λ h t. t ≡ HeadCompletion.Settled) v.settled_end;
  settled_installed = same_by w (Unit {0}) (λ h t. Unit {0}) Any (λ h t. slot_anchor i ≡ Some h.anchor) v.settled_installed;
  unsettled_elsewhere = same_by w (Unit {0}) (λ h t. holds (slot_anchor i) h.anchor ≡ false) (λ u. holds (slot_anchor i) u.delivery.anchor ≡ false) (λ h t. Unit {0}) v.unsettled_elsewhere;
  unclaimed_end = same_by w (Unit {0}) (λ h t. OpenOrAbandoned t) Any (λ h t. Unit {0}) v.unclaimed_end;
  absent_rest = same_rest w s₁ s₂ i p m v.absent_rest;
  previous_below = v.previous_below;
  installed_readiness = v.installed_readiness;
  previous_readiness = v.previous_readiness;
  report_readiness = rw (same_report w) at v.report_readiness;
  report_installed = rw (same_report w) at v.report_installed;
  preparing_epoch = same_by w (Unit {0}) (λ h t. Unit {0}) (λ u. 1 ≤ e.0) (λ h t. Unit {0}) v.preparing_epoch;
  abandoned_epoch = same_by w (Unit {0}) (λ h t. t ≡ HeadCompletion.Abandoned → 1 ≤ e.0) Any (λ h t. Unit {0}) v.abandoned_epoch;
  installed_number = v.installed_number;
  previous_number = v.previous_number;
}

-- a head that is shown

module _ (n : ℕ) (e : Epoch) where
  shown_twice : (c : CurrentHead) → shown_head n e (shown_head n e c) ≡ shown_head n e c
  unfolding shown_head
  shown_twice CurrentHead.Absent = refl
  shown_twice (CurrentHead.Unclaimed u) = refl
  shown_twice (CurrentHead.Preparing u) = refl
  shown_twice (CurrentHead.Settled s) = refl

  shown_masked : (c : CurrentHead) (p : Option Generation) → masked (shown_head n e c) p ≡ masked c p
  unfolding shown_head masked delivery anchor_of is_settled
  shown_masked CurrentHead.Absent p = refl
  shown_masked (CurrentHead.Unclaimed u) p = refl
  shown_masked (CurrentHead.Preparing u) p = refl
  shown_masked (CurrentHead.Settled s) p = refl

  shown_delivery_fits : (held : HeadDelivery) → Fits n → DeliveryFits held → DeliveryFits (shown_delivery n held)
  shown_delivery_fits held x f = record { anchor = f.anchor; parent_hash = f.parent_hash; seq = x }

  shown_fits : (c : CurrentHead) → Fits n → Fits e.0 → HeadFits c → HeadFits (shown_head n e c)
  unfolding shown_head minted settled
  shown_fits CurrentHead.Absent x y f = tt
  shown_fits (CurrentHead.Unclaimed u) x y f = record { delivery = shown_delivery_fits u.delivery x f.delivery; provisional = f.provisional; epoch = lit< tt }
  shown_fits (CurrentHead.Preparing u) x y f = record { delivery = shown_delivery_fits u.delivery x f.delivery; provisional = f.provisional; epoch = y }
  shown_fits (CurrentHead.Settled s) x y f = record { delivery = shown_delivery_fits s.delivery x f.delivery; report = f.report; epoch = lit< tt }

  shown_parks : (c : CurrentHead) (ws : List WaiterSlot) → Parks c ws → Parks (shown_head n e c) ws
  unfolding shown_head
  shown_parks CurrentHead.Absent ws k = k
  shown_parks (CurrentHead.Unclaimed u) ws k = k
  shown_parks (CurrentHead.Preparing u) ws k = tt
  shown_parks (CurrentHead.Settled s) ws k = k

canon_fits : (d : Driver) → DriverFits d → DriverFits (canon d)
unfolding canon shown_life shown_superseded
canon_fits d f = record {
  life = record {
    current = shown_fits _ _ d.life.current f.life.stats.0 f.life.epoch f.life.current;
    superseded = mask_fits _ d.life.superseded f.life.superseded;
    installed = f.life.installed;
    previous = f.life.previous;
    seq = f.life.stats.0;
    epoch = f.life.epoch;
    stats = f.life.stats;
  };
  waiters = rw shown_waiters_lem f.waiters;
  sixteen = rw shown_waiters_lem f.sixteen;
}

pub canon_kept : CanonKept
unfolding canon shown_life
canon_kept d v = record {
  ordered = ordered_alike (alike_canon d v.ordered) v.ordered;
  parks = rw shown_waiters_lem (shown_parks _ _ d.life.current d.waiters v.parks);
  fits = canon_fits d v.fits;
}

pub canon_twice : CanonTwice
unfolding canon shown_life shown_superseded
canon_twice d = rw (shown_twice, shown_masked, mask_twice, shown_waiters_lem (shown_waiters d.waiters)) refl
