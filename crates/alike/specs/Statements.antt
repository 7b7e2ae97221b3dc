-- What is proved: demand 3 over calls, and what it rests on.
use Rattle.std.specs.Prelude.{◌<◌, List, ◌↔◌, ◌≡◌}
use Rattle.head_driver.specs.New.{new}
use Rattle.head_step.specs.Steps.{step}
use Rattle.head_driver.specs.declared.Driver.{Driver}
use Rattle.head_call.specs.declared.Call.{Call}
use Rattle.alike.specs.Canon.{canon}
use Rattle.alike.specs.Invariant.{Invariant}
use Rattle.alike.specs.Runs.{AllWritable, after, answers}
use Rattle.head_call.specs.Ranges.{Writable}

-- The invariant holds of a new driver,
abbrev pub HoldsOfNew : Type 0
HoldsOfNew = Invariant new

-- and every call that a line can write keeps it.
abbrev pub Kept : Type 0
Kept = (d : Driver) (c : Call) → Invariant d → Writable c → Invariant (step d c).driver

-- Seq always equals delivered.
abbrev pub SeqIsDelivered : Type 0
SeqIsDelivered = (d : Driver) → Invariant d → d.life.seq.0 ≡ d.life.stats.delivered

-- What a sheet shows is itself a driver that keeps the invariant, and shows just that.
abbrev pub CanonKept : Type 0
CanonKept = (d : Driver) → Invariant d → Invariant (canon d)

abbrev pub CanonTwice : Type 0
CanonTwice = (d : Driver) → canon (canon d) ≡ canon d

-- Drivers that show the same give the same answers to every list of calls, wherever their counters stand.
abbrev pub ShowsEnough : Type 0
ShowsEnough = (d₁ d₂ : Driver) → Invariant d₁ → Invariant d₂ → canon d₁ ≡ canon d₂ → (cs : List Call) → answers d₁ cs ≡ answers d₂ cs

-- After any call they show the same again.
abbrev pub ShowsOn : Type 0
ShowsOn = (d₁ d₂ : Driver) → Invariant d₁ → Invariant d₂ → canon d₁ ≡ canon d₂ → (c : Call)
    → canon (step d₁ c).driver ≡ canon (step d₂ c).driver

-- the same answers to every list of calls that lines can write
abbrev pub SameAnswers : Driver → Driver → Type 0
SameAnswers d₁ d₂ = (cs : List Call) → AllWritable cs → answers d₁ cs ≡ answers d₂ cs

-- delivered and epoch stand below 2^64 - 1
pub record DeliveredAndEpochBelow (d : Driver) : Type 0 where
  pub delivered_below : d.life.stats.delivered < 0xffff_ffff_ffff_ffff
  pub epoch_below : d.life.claim_epoch.0 < 0xffff_ffff_ffff_ffff

-- Drivers that give the same answers to every list of calls that lines can write show the same.
abbrev pub ShowsNoMore : Type 0
ShowsNoMore = (d₁ d₂ : Driver) → Invariant d₁ → Invariant d₂ → DeliveredAndEpochBelow d₁ → DeliveredAndEpochBelow d₂ → SameAnswers d₁ d₂ → canon d₁ ≡ canon d₂

-- The rule: two drivers, each brought from a new one by calls that lines can write, show the same exactly when every further list of calls gets the same answers.
abbrev pub Rule : Type 0
Rule = (cs₁ cs₂ : List Call) → AllWritable cs₁ → AllWritable cs₂ → DeliveredAndEpochBelow (after new cs₁) → DeliveredAndEpochBelow (after new cs₂)
    → (canon (after new cs₁) ≡ canon (after new cs₂)) ↔ SameAnswers (after new cs₁) (after new cs₂)
