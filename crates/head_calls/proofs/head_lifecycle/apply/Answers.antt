-- Nothing turns the apply away.
use Rattle.std.proofs.Common.{sym, ap, ◌∙◌}
use Rattle.std.specs.Prelude.{Option}
use Rattle.head_values.proofs.Said.{settled_exact}
use Rattle.head_values.specs.Lists.{apply_prepared}
use Rattle.head_values.specs.declared.ReadAnchor.{ReadAnchor}
use Rattle.head_life.proofs.Said.{plan_exact}
use Rattle.head_driver.proofs.Replied.{replied}
use Rattle.head_calls.specs.Apply.{apply}
use Rattle.head_calls.proofs.Settles.{settles}
use Rattle.head_calls.proofs.head_lifecycle.apply.Goals as goal

pub returns-in-Admitted : goal.returns-in-Admitted
unfolding apply
returns-in-Admitted c =
    let held = c.in-Admitted.held in
    replied (settles c.args.d held c.args.list.skip c.args.handle c.args.carried c.args.report _ _ _ _ _ _ _
    (sym c.as_prepared.ensures ∙ c.if-not-as_prepared.false)
    c.plan_apply-plan.ensures.life
    (sym (plan_exact c.plan_apply-plan.ensures.plan) ∙ c.in-Admitted.is)
    (settled_exact c.apply_prepared-outcome.ensures
    ∙ ap (λ (installed : Option ReadAnchor). apply_prepared installed held.anchor held.parent_hash c.args.list.skip c.args.carried) c.slot_anchor-installed.ensures)
    c.apply_settled.ensures)
