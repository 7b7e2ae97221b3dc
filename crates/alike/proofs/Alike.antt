-- Drivers that differ only in what the sheet does not show answer every call alike, and stay so.
use Rattle.std.specs.Prelude.{Option, None, Some, Result, cond, not, ◌||◌}
use Rattle.head_ready.specs.declared.Generation.{Generation}
use Rattle.head_current.specs.declared.DeltaReport.{DeltaReport}
use Rattle.head_ready.specs.declared.HeadOutcome.{HeadOutcome}
use Prim.Native.Nat.{ℕ}
use mathlib.Core.Bool.{Bool, true, false}
use mathlib.Core.List.{List}
use mathlib.Core.Path.{◌≡◌, refl, ap, ◌∙◌}
use lib.Dec.{ltb}
use Rattle.head_values.specs.Anchors.{holds, same_anchor}
use Rattle.head_values.specs.Lists.{as_prepared}
use Rattle.head_calls.specs.Apply.{apply, apply_planned, apply_settled}
use Rattle.head_attempt.specs.Attempts.{first_end, publish, settled}
use Rattle.head_current.specs.Heads.{anchor_of, delivery, has_ticket, current_report, published, is_preparing, is_settled, is_unsettled, preparing_at}
use Rattle.head_life.specs.Completion.{completion_at}
use Rattle.head_life.specs.Deliver.{deliver_life, repeats}
use Rattle.head_current.specs.Moves.{is_abandoned, settled_head, claimed_head, released_head, owned_by, published_abandonment}
use Rattle.head_life.specs.Apply.{record_settle, plan_apply, settling_epoch, plan_held}
use Rattle.head_life.specs.Claim.{claim_life, claim_held}
use Rattle.head_life.specs.Release.{release_life}
use Rattle.head_driver.specs.Moved.{moved, woken_waiters}
use Rattle.head_driver.specs.Parts.{reply_of, with_life}
use Rattle.head_calls.specs.Claim.{claim, claim_answer}
use Rattle.head_calls.specs.Deliver.{deliver}
use Rattle.head_calls.specs.Release.{release}
use Rattle.head_waits.specs.Snapshot.{snapshot, viewed}
use Rattle.head_ready.specs.Generations.{slot_anchor}
use Rattle.head_life.specs.State.{counted, view_counted}
use Rattle.head_asks.specs.Asks.{completion, last_report, stats, heads, link}
use Rattle.head_step.specs.Steps.{step}
use Rattle.head_life.specs.Views.{current_view, generation_view, provisional_view, spare_view, view}
use Rattle.head_waits.specs.Waits.{resume, resume_as, view_frees, wait, wait_as, waits_anew}
use Rattle.head_waits.specs.Parts.{put, waiter_at}
use Rattle.hash.specs.declared.Hash.{Hash}
use Rattle.head_values.specs.declared.BalSkip.{BalSkip}
use Rattle.head_values.specs.declared.CarryOutcome.{CarryOutcome}
use Rattle.head_values.specs.declared.PreparedBal.{PreparedBal}
use Rattle.head_values.specs.declared.ReadAnchor.{ReadAnchor}
use Rattle.head_count.specs.declared.Epoch.{Epoch}
use Rattle.head_attempt.specs.declared.HeadCompletion.{HeadCompletion}
use Rattle.head_count.specs.declared.HeadStats.{HeadStats}
use Rattle.head_count.specs.declared.Seq.{Seq}
use Rattle.head_attempt.specs.declared.Waiter.{Waiter}
use Rattle.head_attempt.specs.declared.WaiterSlot.{WaiterSlot}
use Rattle.head_current.specs.declared.CurrentHead.{CurrentHead}
use Rattle.head_current.specs.declared.HeadDelivery.{HeadDelivery}
use Rattle.head_current.specs.declared.HeadTicket.{HeadTicket}
use Rattle.head_current.specs.declared.PrepareClaim.{PrepareClaim}
use Rattle.head_current.specs.declared.UnsettledHead.{UnsettledHead}
use Rattle.head_driver.specs.declared.Answer.{Answer}
use Rattle.head_driver.specs.declared.Driver.{Driver}
use Rattle.head_driver.specs.declared.Reply.{Reply}
use Rattle.head_life.specs.declared.ApplyPlan.{ApplyPlan}
use Rattle.head_ready.specs.declared.HeadView.{HeadView}
use Rattle.head_ready.specs.declared.Source.{Source}
use Rattle.head_call.specs.declared.Call.{Call}
use Rattle.alike.proofs.KeptOrder.{held_same, nothing_held}
use Rattle.alike.proofs.Tests.{by_test, same_holds, true_false}
use Rattle.alike.specs.Invariant.{Ordered, WhenSettled}
use Rattle.alike.proofs.Nexts.{delivered_at, claimed_at, claim_reply, deliver_reply}
use Rattle.alike.proofs.Waking.{woken_not_moved}
use Rattle.head_life.specs.Deliver.{new_head}
use Rattle.head_count.specs.Counters.{raise}
use Rattle.head_life.specs.declared.HeadLifecycle.{HeadLifecycle}
use Rattle.head_count.specs.declared.Counter.{Counter}

abbrev unclaimed_with : HeadDelivery → ℕ → Epoch → HeadCompletion → CurrentHead
unclaimed_with held h k t = CurrentHead.Unclaimed (record { delivery = held; provisional = h; attempt = record { epoch = k; end = t } })

abbrev settled_with : HeadDelivery → Option DeltaReport → Epoch → HeadCompletion → CurrentHead
settled_with held r k t = CurrentHead.Settled (record { delivery = held; report = r; attempt = record { epoch = k; end = t } })

-- Heads that differ at most in the epoch of an attempt that is not being prepared.
pub data SameHead : CurrentHead → CurrentHead → Type 0 where
  both_absent : SameHead CurrentHead.Absent CurrentHead.Absent
  both_unclaimed : (held : HeadDelivery) (h : ℕ) (k l : Epoch) (t : HeadCompletion) → SameHead (unclaimed_with held h k t) (unclaimed_with held h l t)
  both_preparing : (u : UnsettledHead) → SameHead (CurrentHead.Preparing u) (CurrentHead.Preparing u)
  both_settled : (held : HeadDelivery) (r : Option DeltaReport) (k l : Epoch) (t : HeadCompletion) → SameHead (settled_with held r k t) (settled_with held r l t)

same_head : (c : CurrentHead) → SameHead c c
same_head CurrentHead.Absent = both_absent
same_head (CurrentHead.Unclaimed u) = both_unclaimed u.delivery u.provisional u.attempt.epoch u.attempt.epoch u.attempt.end
same_head (CurrentHead.Preparing u) = both_preparing u
same_head (CurrentHead.Settled s) = both_settled s.delivery s.report s.attempt.epoch s.attempt.epoch s.attempt.end

-- They give the same to whatever reads no such epoch.
pub same_of : {A : Type 0} {c₁ c₂ : CurrentHead} → SameHead c₁ c₂ → (f : CurrentHead → A)
    → ((held : HeadDelivery) (h : ℕ) (k l : Epoch) (t : HeadCompletion) → f (unclaimed_with held h k t) ≡ f (unclaimed_with held h l t))
    → ((held : HeadDelivery) (r : Option DeltaReport) (k l : Epoch) (t : HeadCompletion) → f (settled_with held r k t) ≡ f (settled_with held r l t)) → f c₁ ≡ f c₂
same_of both_absent f x y = refl
same_of (both_unclaimed held h k l t) f x y = x held h k l t
same_of (both_preparing u) f x y = refl
same_of (both_settled held r k l t) f x y = y held r k l t

module _ {c₁ c₂ : CurrentHead} (w : SameHead c₁ c₂) where
  pub same_delivery : delivery c₁ ≡ delivery c₂
  unfolding delivery
  same_delivery = same_of w delivery (λ held h k l t. refl) (λ held r k l t. refl)

  same_published : published c₁ ≡ published c₂
  unfolding published
  same_published = same_of w published (λ held h k l t. refl) (λ held r k l t. refl)

  pub same_report : current_report c₁ ≡ current_report c₂
  unfolding current_report
  same_report = same_of w current_report (λ held h k l t. refl) (λ held r k l t. refl)

  same_preparing : (a : ReadAnchor) → preparing_at c₁ a ≡ preparing_at c₂ a
  unfolding preparing_at
  same_preparing a = same_of w (λ c. preparing_at c a) (λ held h k l t. refl) (λ held r k l t. refl)

  same_settled : is_settled c₁ ≡ is_settled c₂
  unfolding is_settled
  same_settled = same_of w is_settled (λ held h k l t. refl) (λ held r k l t. refl)

  same_still : is_preparing c₁ ≡ is_preparing c₂
  unfolding is_preparing
  same_still = same_of w is_preparing (λ held h k l t. refl) (λ held r k l t. refl)

-- Drivers.

abbrev pub driver_of : CurrentHead → Option ReadAnchor → Option Generation → Option Generation → Seq → Epoch → HeadStats → List WaiterSlot → Driver
driver_of c s i p n e t ws = record { life = record { current = c; superseded = s; installed = i; previous = p; seq = n; claim_epoch = e; stats = t }; waiters = ws }

-- An anchor at which an answer can tell whether it is the superseded one: it is not current, and where the current head is settled, not previous.
abbrev pub Telling : CurrentHead → Option Generation → ReadAnchor → Type 0
Telling c p a = (holds (anchor_of (delivery c)) a ≡ false) × WhenSettled c (λ s. holds (slot_anchor p) a ≡ false)

abbrev pub SameSuperseded : CurrentHead → Option Generation → Option ReadAnchor → Option ReadAnchor → Type 0
SameSuperseded c p s₁ s₂ = (a : ReadAnchor) → Telling c p a → holds s₁ a ≡ holds s₂ a

pub data Alike : Driver → Driver → Type 0 where
  alike : {c₁ c₂ : CurrentHead} {s₁ s₂ : Option ReadAnchor} {i p : Option Generation} {n : Seq} {e : Epoch} {t : HeadStats} {ws : List WaiterSlot}
      → SameHead c₁ c₂ → SameSuperseded c₁ p s₁ s₂ → Alike (driver_of c₁ s₁ i p n e t ws) (driver_of c₂ s₂ i p n e t ws)

-- the same answer, and drivers that are alike again
pub record Both (r q : Reply) : Type 0 where
  pub answer : r.answer ≡ q.answer
  pub driver : Alike r.driver q.driver

-- two choices by one test, in any relation
both_tests : {A : Type 0} (B : A → A → Type 0) (b : Bool) {x y z w : A} → (b ≡ true → B x z) → (b ≡ false → B y w) → B (cond b x y) (cond b z w)
both_tests B true t f = t refl
both_tests B false t f = f refl

-- and by tests that are the same
same_tests : {A : Type 0} (B : A → A → Type 0) {b c : Bool} {x y z w : A} → b ≡ c → (b ≡ true → B x z) → (b ≡ false → B y w) → B (cond b x y) (cond c z w)
same_tests B {b} q t f = rw (← q) (both_tests B b t f)

both_if : (b : Bool) (x y z w : Reply) → (b ≡ true → Both x z) → (b ≡ false → Both y w) → Both (cond b x y) (cond b z w)
both_if true x y z w t f = t refl
both_if false x y z w t f = f refl

-- an unsettled head at that anchor
abbrev pub unsettled_at : CurrentHead → ReadAnchor → Bool
unsettled_at CurrentHead.Absent a = false
unsettled_at (CurrentHead.Unclaimed u) a = same_anchor u.delivery.anchor a
unsettled_at (CurrentHead.Preparing u) a = same_anchor u.delivery.anchor a
unsettled_at (CurrentHead.Settled s) a = false

-- a view's generations and head, where what comes after them is asked only if they don't fit

generation_view_lem : (k : Seq → Source) (g : Option Generation) (a : ReadAnchor) (v w : HeadView)
    → (holds (slot_anchor g) a ≡ false → v ≡ w) → generation_view k g a v ≡ generation_view k g a w
unfolding generation_view slot_anchor holds
generation_view_lem k None a v w f = f refl
generation_view_lem k (Some g) a v w f = by_test (same_anchor g.anchor a) (λ e. rw e refl) (λ e. rw e (f e))

current_view_lem : {c₁ c₂ : CurrentHead} → SameHead c₁ c₂ → (a : ReadAnchor) (v w : HeadView) → (unsettled_at c₁ a ≡ false → v ≡ w) → current_view c₁ a v ≡ current_view c₂ a w
unfolding current_view provisional_view
current_view_lem both_absent a v w f = f refl
current_view_lem (both_unclaimed held h k l t) a v w f = by_test (same_anchor held.anchor a) (λ e. rw e refl) (λ e. rw e (f e))
current_view_lem (both_preparing u) a v w f = by_test (same_anchor u.delivery.anchor a) (λ e. rw e refl) (λ e. rw e (f e))
current_view_lem (both_settled held r k l t) a v w f = f refl

-- a snapshot that finds nothing asks at such an anchor: a settled head is the installed one
pub telling : (i p : Option Generation) (c : CurrentHead) → WhenSettled c (λ s. slot_anchor i ≡ Some s.delivery.anchor) → (a : ReadAnchor)
    → holds (slot_anchor i) a ≡ false → unsettled_at c a ≡ false → holds (slot_anchor p) a ≡ false → Telling c p a
unfolding delivery anchor_of holds
telling i p CurrentHead.Absent f a x y z = (refl, tt)
telling i p (CurrentHead.Unclaimed u) f a x y z = (y, tt)
telling i p (CurrentHead.Preparing u) f a x y z = (y, tt)
telling i p (CurrentHead.Settled s) f a x y z = (rw f at x, z)

-- two plans, each with the lifecycle that goes with it, give the same
abbrev SamePlan : Driver → Driver → BalSkip → ℕ → ℕ → ℕ → HeadLifecycle × ApplyPlan → HeadLifecycle × ApplyPlan → Type 0
SamePlan d₁ d₂ skip handle carried report x y = Both (apply_planned d₁ x.0 x.1 skip handle carried report) (apply_planned d₂ y.0 y.1 skip handle carried report)

-- The moves of two drivers that share all but head and superseded anchor.
module _ (i p : Option Generation) (n : Seq) (e : Epoch) (t : HeadStats) (ws : List WaiterSlot) where
  abbrev having : CurrentHead → Option ReadAnchor → Driver
  having c s = driver_of c s i p n e t ws

  alike_delivered : {c₁ c₂ : CurrentHead} (s₁ s₂ : Option ReadAnchor) → SameHead c₁ c₂ → SameSuperseded c₁ p s₁ s₂ → (b : Bool) (a : ReadAnchor) (q : Hash) (cold : ℕ)
      → Alike (moved (having c₁ s₁) (delivered_at b (having c₁ s₁).life a q cold) HeadCompletion.Superseded) (moved (having c₂ s₂) (delivered_at b (having c₂ s₂).life a q cold) HeadCompletion.Superseded)
  unfolding moved delivery is_unsettled woken_waiters anchor_of holds
  alike_delivered s₁ s₂ both_absent m b a q cold = alike (same_head _) (λ b x. m b (refl, tt))
  alike_delivered s₁ s₂ (both_unclaimed held h k l x) m b a q cold = alike (same_head _) (λ b x. refl)
  alike_delivered s₁ s₂ (both_preparing u) m b a q cold = alike (same_head _) (λ b x. refl)
  alike_delivered s₁ s₂ (both_settled held r k l x) m b a q cold = alike (same_head _) (λ b x. refl)

  alike_claimed : {c₁ c₂ : CurrentHead} (s₁ s₂ : Option ReadAnchor) → SameHead c₁ c₂ → SameSuperseded c₁ p s₁ s₂
      → Alike (with_life (having c₁ s₁) (claimed_at (having c₁ s₁).life)) (with_life (having c₂ s₂) (claimed_at (having c₂ s₂).life))
  unfolding with_life claimed_head delivery
  alike_claimed s₁ s₂ both_absent m = alike both_absent m
  alike_claimed s₁ s₂ (both_unclaimed held h x y z) m = alike (both_preparing _) m
  alike_claimed s₁ s₂ (both_preparing u) m = alike (both_preparing u) m
  alike_claimed s₁ s₂ (both_settled held r x y z) m = alike (both_settled held r x y z) m

  alike_released : {c₁ c₂ : CurrentHead} (s₁ s₂ : Option ReadAnchor) → SameHead c₁ c₂ → SameSuperseded c₁ p s₁ s₂ → (owner : PrepareClaim)
      → Alike (moved (having c₁ s₁) (release_life (having c₁ s₁).life owner) HeadCompletion.Abandoned) (moved (having c₂ s₂) (release_life (having c₂ s₂).life owner) HeadCompletion.Abandoned)
  unfolding moved release_life released_head woken_waiters is_preparing delivery
  alike_released s₁ s₂ both_absent m owner = alike both_absent m
  alike_released s₁ s₂ (both_unclaimed held h x y z) m owner = alike (both_unclaimed held h x y z) m
  alike_released s₁ s₂ (both_preparing u) m owner = by_test (owned_by u owner)
      (λ b. rw b (alike (same_head _) m))
      (λ b. rw b (alike (both_preparing u) m))
  alike_released s₁ s₂ (both_settled held r x y z) m owner = alike (both_settled held r x y z) m

  -- a head that settles still hides its own anchor
  alike_settled : {c₁ c₂ : CurrentHead} (s₁ s₂ : Option ReadAnchor) → SameHead c₁ c₂ → SameSuperseded c₁ p s₁ s₂
      → WhenSettled c₁ (λ s. slot_anchor i ≡ Some s.delivery.anchor) → (held : HeadDelivery) → delivery c₁ ≡ Some held → holds (slot_anchor i) held.anchor ≡ false
      → (by : HeadDelivery) (o : CarryOutcome) (handle report : ℕ)
      → Alike (moved (having c₁ s₁) (record_settle (having c₁ s₁).life by o handle report) HeadCompletion.Settled)
      (moved (having c₂ s₂) (record_settle (having c₂ s₂).life by o handle report) HeadCompletion.Settled)
  unfolding moved record_settle settled_head settling_epoch published_abandonment publish first_end settled woken_waiters is_preparing delivery
  alike_settled s₁ s₂ both_absent m f held q b by o handle report = nothing_held q
  alike_settled s₁ s₂ (both_unclaimed v h x y z) m f held q b by o handle report = by_test (is_abandoned z)
      (λ t. rw t (alike (both_settled v _ _ _ _) (λ c k. m c (k.0, tt))))
      (λ t. rw t (alike (both_settled v _ _ _ _) (λ c k. m c (k.0, tt))))
  alike_settled s₁ s₂ (both_preparing u) m f held q b by o handle report = alike (same_head _) (λ c z. m c (z.0, tt))
  alike_settled s₁ s₂ (both_settled v r x y z) m f held q b by o handle report =
      true_false (same_holds _ _ (f ∙ ap (λ k. Some k.anchor) (held_same q))) b

  -- a head that stays as it is, with the counters changed
  alike_still : {c₁ c₂ : CurrentHead} (s₁ s₂ : Option ReadAnchor) → SameHead c₁ c₂ → SameSuperseded c₁ p s₁ s₂ → (end : HeadCompletion) (x : HeadStats)
      → Alike (driver_of c₁ s₁ i p n e x (woken_waiters end c₁ c₁ ws)) (driver_of c₂ s₂ i p n e x (woken_waiters end c₂ c₂ ws))
  alike_still {c₁} {c₂} s₁ s₂ w m end x = rw (woken_not_moved end c₁ ws, woken_not_moved end c₂ ws) (alike w m)

  -- The calls.
  module _ {c₁ c₂ : CurrentHead} (s₁ s₂ : Option ReadAnchor) (w : SameHead c₁ c₂) (m : SameSuperseded c₁ p s₁ s₂) (f : WhenSettled c₁ (λ s. slot_anchor i ≡ Some s.delivery.anchor)) where
    abbrev d₁ : Driver
    d₁ = having c₁ s₁

    abbrev d₂ : Driver
    d₂ = having c₂ s₂

    both_reply : (x : Answer) → Both (reply_of d₁ x) (reply_of d₂ x)
    both_reply x = record { answer = refl; driver = alike w m }

    both_deliver : (a : ReadAnchor) (q : Hash) (cold : ℕ) → Both (deliver d₁ a q cold) (deliver d₂ a q cold)
    unfolding deliver deliver_life new_head moved counted
    both_deliver a q cold =
        let B = λ (x y : HeadLifecycle × Seq). Both (deliver_reply d₁ x) (deliver_reply d₂ y) in
        same_tests B (ap (λ z. repeats z a q) (same_delivery w))
        (λ b. record { answer = rw (same_delivery w) refl; driver = alike_still s₁ s₂ w m HeadCompletion.Superseded (raise Counter.Repeated t) })
        (λ b. record { answer = refl; driver = alike_delivered s₁ s₂ w m (holds (slot_anchor i) a) a q cold })

    both_claim : (slot : Option HeadDelivery) → delivery c₁ ≡ slot → (ticket : HeadTicket) → Both (claim_reply d₁ (claim_held slot d₁.life ticket)) (claim_reply d₂ (claim_held slot d₂.life ticket))
    unfolding claim_held claim_answer with_life
    both_claim None q ticket = record { answer = refl; driver = alike w m }
    both_claim (Some held) q ticket =
        let B = λ (x y : HeadLifecycle × Result Epoch HeadOutcome). Both (claim_reply d₁ x) (claim_reply d₂ y) in
        rw (same_settled w, same_still w)
        (both_tests B (not (has_ticket held ticket)) (λ b. record { answer = refl; driver = alike w m })
        (λ b. both_tests B (holds (slot_anchor i) held.anchor || is_settled c₂) (λ b. record { answer = refl; driver = alike w m })
        (λ b. both_tests B (is_preparing c₂) (λ b. record { answer = refl; driver = alike w m })
        (λ b. record { answer = refl; driver = alike_claimed s₁ s₂ w m }))))

    both_release : (owner : PrepareClaim) → Both (release d₁ owner) (release d₂ owner)
    unfolding release
    both_release owner = record { answer = refl; driver = alike_released s₁ s₂ w m owner }

    both_plan : (ticket : HeadTicket) (list : PreparedBal) (handle carried report : ℕ) (slot : Option HeadDelivery) → delivery c₁ ≡ slot
        → SamePlan d₁ d₂ list.skip handle carried report (plan_held slot d₁.life ticket list.anchor) (plan_held slot d₂.life ticket list.anchor)
    unfolding plan_held apply_planned apply_settled with_life counted
    both_plan ticket list handle carried report None q = record { answer = refl; driver = alike w m }
    both_plan ticket list handle carried report (Some held) q =
        let B = SamePlan d₁ d₂ list.skip handle carried report in
        both_tests B (not (has_ticket held ticket)) (λ b. record { answer = refl; driver = alike w m })
        (λ b. both_tests B (not (same_anchor list.anchor held.anchor)) (λ b. record { answer = refl; driver = alike w m })
        (λ b. both_tests B (holds (slot_anchor i) held.anchor) (λ b. record { answer = refl; driver = alike w m })
        (λ b. record { answer = refl; driver = alike_settled s₁ s₂ w m f held q b held _ handle report })))

    both_apply : (ticket : HeadTicket) (list : PreparedBal) (handle carried report : ℕ) → Both (apply d₁ ticket list handle carried report) (apply d₂ ticket list handle carried report)
    unfolding apply plan_apply
    both_apply ticket list handle carried report = rw (← same_delivery w) (both_if (not (as_prepared list)) _ _ _ _ (λ b. both_reply _) (λ b. both_plan ticket list handle carried report (delivery c₁) refl))

    -- views

    same_view : (a : ReadAnchor) (spare : ℕ) → view d₁.life a spare ≡ view d₂.life a spare
    unfolding view spare_view
    same_view a spare =
        generation_view_lem _ i a _ _ λ x. current_view_lem w a _ _ λ y. generation_view_lem _ p a _ _ λ z.
        rw (m a (telling i p c₁ f a x y z)) refl

    both_viewed : (v shown : HeadView) → Both (viewed d₁ v shown) (viewed d₂ v shown)
    unfolding viewed with_life view_counted
    both_viewed v shown = record { answer = refl; driver = alike w m }

    both_view_frees : (k : ℕ) (v shown : HeadView) → Both (view_frees d₁ k v shown) (view_frees d₂ k v shown)
    unfolding view_frees viewed with_life view_counted put
    both_view_frees k v shown = record { answer = refl; driver = alike w m }

    both_anew : (k : ℕ) (a : ReadAnchor) (spare : ℕ) → Both (waits_anew d₁ k a spare) (waits_anew d₂ k a spare)
    unfolding waits_anew put
    both_anew k a spare = rw (same_view a spare, same_preparing w a) (both_if (preparing_at c₂ a) _ _ _ _
        (λ b. record { answer = refl; driver = alike w m })
        (λ b. both_view_frees k _ _))

    both_wait : (x : Waiter) (k : ℕ) (a : ReadAnchor) (spare : ℕ) → Both (wait_as d₁ k a spare x) (wait_as d₂ k a spare x)
    unfolding wait_as
    both_wait Waiter.Free k a spare = both_anew k a spare
    both_wait Waiter.Parked k a spare = both_reply _
    both_wait (Waiter.Abandoned b) k a spare = both_reply _
    both_wait (Waiter.Ended b) k a spare = both_reply _

    both_resume : (x : Waiter) (k : ℕ) (spare : ℕ) → Both (resume_as d₁ k spare x) (resume_as d₂ k spare x)
    unfolding resume_as
    both_resume Waiter.Free k spare = both_reply _
    both_resume Waiter.Parked k spare = both_reply _
    both_resume (Waiter.Abandoned a) k spare = rw (same_view a spare) (both_view_frees k _ _)
    both_resume (Waiter.Ended a) k spare = both_anew k a spare

    both_call : (x : Call) → Both (step d₁ x) (step d₂ x)
    unfolding step claim claim_life with_life snapshot wait resume completion completion_at link last_report stats heads
    both_call (Call.Deliver a q cold) = both_deliver a q cold
    both_call (Call.Claim ticket) = rw (← same_delivery w) (both_claim (delivery c₁) refl ticket)
    both_call (Call.Release owner) = both_release owner
    both_call (Call.Apply ticket list handle carried report) = both_apply ticket list handle carried report
    both_call (Call.Snapshot a spare) = rw (same_view a spare) (both_viewed _ _)
    both_call (Call.Wait k a spare) = both_if (ltb 15 k) _ _ _ _ (λ b. both_reply _) (λ b. both_wait (waiter_at ws k) k a spare)
    both_call (Call.Resume k spare) = both_if (ltb 15 k) _ _ _ _ (λ b. both_reply _) (λ b. both_resume (waiter_at ws k) k spare)
    both_call (Call.Completion a) = record { answer = rw (same_delivery w, same_published w) refl; driver = alike w m }
    both_call (Call.Link parent child parent_hash) = both_reply _
    both_call Call.Report = record { answer = rw (same_report w) refl; driver = alike w m }
    both_call Call.Stats = both_reply _
    both_call Call.Heads = record { answer = rw (same_delivery w) refl; driver = alike w m }

pub both_step : {d₁ d₂ : Driver} → Alike d₁ d₂ → Ordered d₁.life → (x : Call) → Both (step d₁ x) (step d₂ x)
both_step {d₁} {d₂} (alike {s₁ = s₁} {s₂ = s₂} {i = i} {p = p} {n = n} {e = e} {t = t} {ws = ws} w m) v x = both_call i p n e t ws s₁ s₂ w m v.settled_installed x
