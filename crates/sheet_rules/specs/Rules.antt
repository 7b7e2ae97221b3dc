-- Document 02, Job 2: the rules that a driver in sheet form has to meet, one definition a sentence, in its order and words.
use Rattle.std.specs.Prelude.{◌≤◌, ◌≡◌, None, Some}
use Rattle.head_values.specs.declared.BalSkip.{BalSkip}
use Rattle.head_values.specs.declared.Link.{Link}
use Rattle.head_values.specs.declared.ReadAnchor.{ReadAnchor}
use Rattle.head_attempt.specs.declared.HeadCompletion.{HeadCompletion}
use Rattle.head_ready.specs.Generations.{slot_anchor}
use Rattle.head_ready.specs.declared.HeadCold.{HeadCold}
use Rattle.head_ready.specs.declared.HeadReadiness.{HeadReadiness}
use Rattle.head_current.specs.Heads.{anchor_of, current_report, delivery}
use Rattle.head_life.specs.Apply.{settled_readiness}
use Rattle.head_life.specs.declared.HeadLifecycle.{HeadLifecycle}
use Rattle.head_driver.specs.declared.Driver.{Driver}
use Rattle.alike.specs.Invariant.{Follows, NumberAtMost, Parks, ReadinessIs, WhenAbsent, WhenGeneration, WhenMade, WhenPreparing, WhenSettled, WhenUnclaimed, WhenUnsettled}

-- "With no current head, superseded, installed and previous are none."
abbrev pub NoneWithoutHead : HeadLifecycle → Type 0
NoneWithoutHead l = WhenAbsent l.current ((l.superseded ≡ None) × (l.installed ≡ None) × (l.previous ≡ None))

-- "A settled current head is the installed one, and its report, if any, gives the installed readiness."
abbrev pub SettledIsInstalled : HeadLifecycle → Type 0
SettledIsInstalled l =
    WhenSettled l.current (λ s. slot_anchor l.installed ≡ Some s.delivery.anchor)
    × WhenMade (current_report l.current) (λ o. ReadinessIs (settled_readiness o) l.installed)

-- "An unsettled one is not installed."
abbrev pub UnsettledIsNot : HeadLifecycle → Type 0
UnsettledIsNot l = WhenUnsettled l.current (λ u. ¬ (slot_anchor l.installed ≡ Some u.delivery.anchor))

-- "Previous needs installed, with a block number one higher."
abbrev pub PreviousNeedsInstalled : HeadLifecycle → Type 0
PreviousNeedsInstalled l = Follows l.installed l.previous

-- where a readiness is cold with a link and a skip, one of them is a fault
abbrev pub FaultIfCold : HeadReadiness → Type 0
FaultIfCold HeadReadiness.Ready = Unit {0}
FaultIfCold (HeadReadiness.Cold HeadCold.Unprepared) = Unit {0}
FaultIfCold (HeadReadiness.Cold HeadCold.Superseded) = Unit {0}
FaultIfCold (HeadReadiness.Cold HeadCold.Undelivered) = Unit {0}
FaultIfCold (HeadReadiness.Cold HeadCold.Abandoned) = Unit {0}
FaultIfCold (HeadReadiness.Cold (HeadCold.Settled link skip)) = ¬ ((link ≡ Link.Linked) × (skip ≡ BalSkip.Nothing))

-- "A cold outcome or readiness names a fault in at least one part."
abbrev pub NamesAFault : HeadLifecycle → Type 0
NamesAFault l =
    WhenMade (current_report l.current) (λ o. FaultIfCold (settled_readiness o))
    × WhenGeneration l.installed (λ g. FaultIfCold g.readiness)
    × WhenGeneration l.previous (λ g. FaultIfCold g.readiness)

-- "Parked waiters need a preparing head."
abbrev pub ParkedNeedPreparing : Driver → Type 0
ParkedNeedPreparing d = Parks d.life.current d.waiters

-- "A current head preparing or abandoned needs an epoch of at least 1."
abbrev pub NeedsEpoch : HeadLifecycle → Type 0
NeedsEpoch l =
    WhenPreparing l.current (λ u. 1 ≤ l.claim_epoch.0)
    × WhenUnclaimed l.current (λ u. u.attempt.end ≡ HeadCompletion.Abandoned → 1 ≤ l.claim_epoch.0)

-- "The superseded line follows document 01's rule.": "written `none` when it is the current anchor, or when the current head is
-- settled and it is the previous anchor"
abbrev pub SupersededShown : HeadLifecycle → Type 0
SupersededShown l =
    (a : ReadAnchor) → l.superseded ≡ Some a
    → (¬ (anchor_of (delivery l.current) ≡ Some a)) × WhenSettled l.current (λ s. ¬ (slot_anchor l.previous ≡ Some a))

-- "Settle numbers don't exceed delivered."
abbrev pub NumbersWithin : HeadLifecycle → Type 0
NumbersWithin l =
    WhenGeneration l.installed (NumberAtMost l.stats.delivered)
    × WhenGeneration l.previous (NumberAtMost l.stats.delivered)

-- all of them
pub record MeetsRules (d : Driver) : Type 0 where
  pub none_without_head : NoneWithoutHead d.life
  pub settled_is_installed : SettledIsInstalled d.life
  pub unsettled_is_not : UnsettledIsNot d.life
  pub previous_needs_installed : PreviousNeedsInstalled d.life
  pub names_a_fault : NamesAFault d.life
  pub parked_need_preparing : ParkedNeedPreparing d
  pub needs_epoch : NeedsEpoch d.life
  pub superseded_shown : SupersededShown d.life
  pub numbers_within : NumbersWithin d.life
