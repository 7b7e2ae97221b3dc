-- Demand 1 over bytes to rebuild a driver from: 5 exactly where they are not taken, and then nothing changes.
use Prim.Native.Nat.{ℕ}
use mathlib.Core.List.{List}
use mathlib.Core.Logic.{inl, inr}
use mathlib.Core.Path.{◌≡◌, refl, subst}
use Rattle.driver.specs.declared.Turn.{Turn}
use Rattle.head_driver.specs.declared.Driver.{Driver}
use Rattle.head_values.specs.declared.ReadAnchor.{ReadAnchor}
use Rattle.rebuild.specs.Rebuilds.{Rebuilds, done, not_taken}
use Rattle.rules.specs.Refusals.{FirstThatApplies, Refusal, rebuild_tests}
use Rattle.rules.specs.Said.{line_refusal}
use Rattle.rules.specs.TurnedAway.{RebuildTurnedAway}
use Rattle.rules.proofs.Said.{line_says}
use Rattle.rules.proofs.TurnedAway.{one_first}

no_refusal : {X : Type 0} {n : ℕ} {names : List ReadAnchor} → Refusal.accepted ≡ Refusal.refused n names → X
no_refusal e = cc

module _ (d : Driver) (bytes : List ℕ) where
  first : (got : Turn) → Rebuilds d bytes got → FirstThatApplies (rebuild_tests bytes) (line_refusal got.answer)
  first _ (done x t) = inr ((λ f. f x t), refl)
  first _ (not_taken f) = inl (f, refl)

  kept : (got : Turn) → Rebuilds d bytes got → (n : ℕ) (names : List ReadAnchor) → line_refusal got.answer ≡ Refusal.refused n names
      → got.driver ≡ d
  kept _ (done x t) n names e = no_refusal e
  kept _ (not_taken f) n names e = refl

pub rebuild_turned_away : RebuildTurnedAway
rebuild_turned_away d bytes got r = record {
  exactly = λ s. (
    λ e. subst (FirstThatApplies (rebuild_tests bytes)) e (first d bytes got r),
    λ g. one_first (rebuild_tests bytes) _ s (first d bytes got r) g,
  );
  says = line_says got.answer;
  unchanged = kept d bytes got r;
}
