-- `doors::setup`: the numbers are allowed, or nothing is changed. Assumes nothing.
use mathlib.Core.Path.{sym, ap, ◌∙◌}
use Rattle.rules.specs.Sound.{setup_numbers}
use Rattle.leaf_lists.specs.Lists.{held}
use Rattle.doors.proofs.DoorLaws.{setup_no, setup_yes}
use Rattle.doors.proofs.setup.Goals as goal

pub returns-then-not-numbers-clause-leaves : goal.returns-then-not-numbers-clause-leaves
returns-then-not-numbers-clause-leaves c = setup_no c.args.chunk (held c.args.heap.now) (ap (setup_numbers c.args.chunk) (sym c.lists.ensures) ∙ sym c.numbers.ensures ∙ c.if-not-numbers.true)

pub returns-clause-leaves : goal.returns-clause-leaves
returns-clause-leaves c = setup_yes c.args.chunk (held c.args.heap.now) (ap (setup_numbers c.args.chunk) (sym c.lists.ensures) ∙ sym c.numbers.ensures ∙ c.if-not-numbers.false) _ c.fresh.ensures.fresh
