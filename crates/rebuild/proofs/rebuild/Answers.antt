-- The rules are not met.
use Rattle.std.proofs.Common.{sym, ◌∙◌}
use Rattle.rebuild.proofs.Rebuilt.{no_rules}
use Rattle.rebuild.proofs.rebuild.Goals as goal

pub returns-then-not-meets_rules : goal.returns-then-not-meets_rules
returns-then-not-meets_rules c =
    no_rules c.args.d c.args.sheet.now c.in-Some.shown (sym c.in-Some.is ∙ c.read_sheet.ensures)
    c.meets_rules.result c.meets_rules.ensures c.if-not-meets_rules.true
