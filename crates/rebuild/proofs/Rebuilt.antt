-- A rebuild, by what was read and by the rules: a text is the lines of one driver at most.
use Prim.Native.Nat.{ℕ}
use mathlib.Core.List.{List}
use mathlib.Core.Path.{◌≡◌, sym, subst, ◌∙◌}
use mathlib.Core.Bool.{Bool, true, false}
use Rattle.std.specs.Prelude.{None, Some, ◌↔◌}
use Rattle.alike.proofs.Tests.{true_false}
use Rattle.driver.specs.Turns.{turn}
use Rattle.head_driver.specs.declared.Answer.{Answer}
use Rattle.head_driver.specs.declared.Driver.{Driver}
use Rattle.script_answer.specs.declared.LineAnswer.{LineAnswer}
use Rattle.sheet_back.proofs.Forms.{form_read}
use Rattle.sheet_read.specs.Reads.{read_sheet}
use Rattle.sheet_rules.specs.Rules.{MeetsRules}
use Rattle.rebuild.specs.Rebuilds.{OneDriver, Rebuilds, done, not_taken}

same_one : {x y : Driver} → Some x ≡ Some y → x ≡ y
same_one e = cc

nothing : {X : Type 0} {x : Driver} → None ≡ Some x → X
nothing e = cc

pub one_driver : OneDriver
one_driver bytes x y t u = same_one (sym ((form_read bytes x).1 t.0) ∙ (form_read bytes y).1 u.0)

module _ (d : Driver) (bytes : List ℕ) where
  pub no_sheet : None ≡ read_sheet bytes → Rebuilds d bytes (turn d LineAnswer.SheetNotTaken)
  no_sheet e = not_taken (λ x t. nothing (e ∙ (form_read bytes x).1 t.0))

  module _ (shown : Driver) (e : Some shown ≡ read_sheet bytes) where
    pub no_rules : (b : Bool) → (b ≡ true) ↔ MeetsRules shown → b ≡ false → Rebuilds d bytes (turn d LineAnswer.SheetNotTaken)
    no_rules b tells f =
        not_taken (λ x t. true_false (tells.1 (subst MeetsRules (sym (same_one (e ∙ (form_read bytes x).1 t.0))) t.1)) f)

    pub taken : MeetsRules shown → Rebuilds d bytes (turn shown (LineAnswer.Said Answer.Done))
    taken m = done shown ((form_read bytes shown).0 (sym e), m)
