-- `leaf_nodes::char_value`: a Unicode scalar value is a Char. Assumes nothing.
use Rattle.std.proofs.Common.{sym, ◌∙◌}
use Rattle.leaf_nodes.proofs.Laws.{char_is, char_bad}
use Rattle.leaf_nodes.proofs.char_value.Goals as goal

pub returns-then-is_scalar_value-clause-value : goal.returns-then-is_scalar_value-clause-value
returns-then-is_scalar_value-clause-value c = λ rest. char_is c.args.n rest (sym c.is_scalar_value.ensures ∙ c.if-is_scalar_value.true)

pub returns-else-is_scalar_value-clause-value : goal.returns-else-is_scalar_value-clause-value
returns-else-is_scalar_value-clause-value c = λ rest. char_bad c.args.n rest (sym c.is_scalar_value.ensures ∙ c.if-is_scalar_value.false)
