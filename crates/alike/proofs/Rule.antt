-- Drivers that answer alike are alike, each part told by a probe, so they show the same. And the rule.
use mathlib.Core.Path.{subst}
use Rattle.head_driver.specs.New.{new}
use Rattle.head_driver.specs.declared.Driver.{Driver}
use Rattle.alike.proofs.Alike.{Alike, driver_of}
use Rattle.alike.proofs.DeepProbes.{probe_epoch, probe_previous, probe_superseded}
use Rattle.alike.proofs.Kept.{holds_of_new, kept_after}
use Rattle.alike.proofs.Probes.{probe_counters, probe_head, probe_installed, probe_seq}
use Rattle.alike.proofs.Shown.{alike_shown, shows_enough}
use Rattle.alike.proofs.Twins.{Twin}
use Rattle.alike.proofs.WaiterProbes.{probe_waiters}
use Rattle.alike.specs.Runs.{after}
use Rattle.alike.specs.Statements.{DeliveredAndEpochBelow, Rule, ShowsNoMore}

twin_alike : {d₁ d₂ : Driver} → Twin d₁ d₂ → DeliveredAndEpochBelow d₁ → DeliveredAndEpochBelow d₂ → Alike d₁ d₂
twin_alike {d₁} {d₂} w b₁ b₂ =
    let t = probe_counters w in
    let n = probe_seq w in
    let e = probe_epoch w b₁.epoch_below b₂.epoch_below in
    let i = probe_installed w in
    let p = probe_previous w in
    let ws = probe_waiters w e in
    subst (Alike d₁) (λ j. driver_of d₂.life.current d₂.life.superseded (i j) (p j) (n j) (e j) (t j) (ws j)) (Alike.alike (probe_head w b₁.delivered_below e) (probe_superseded w))

pub shows_no_more : ShowsNoMore
shows_no_more d₁ d₂ v₁ v₂ b₁ b₂ s = alike_shown (twin_alike (record { same_answers = s; invariant₁ = v₁; invariant₂ = v₂ }) b₁ b₂)

pub rule : Rule
rule cs₁ cs₂ r₁ r₂ b₁ b₂ =
    let v₁ = kept_after new holds_of_new cs₁ r₁ in
    let v₂ = kept_after new holds_of_new cs₂ r₂ in
    (λ q cs r. shows_enough (after new cs₁) (after new cs₂) v₁ v₂ q cs, λ s. shows_no_more (after new cs₁) (after new cs₂) v₁ v₂ b₁ b₂ s)
