-- `leaf_nodes::bool_value`: 0 and 1 are a Bool, and no other number. Assumes nothing.
use Rattle.std.proofs.Common.{sym, ap, arith, ℕ}
use Rattle.rules.specs.Nodes.{bool_node, nodes_rules}
use Rattle.leaf_nodes.proofs.Laws.{bool_bad}
use Rattle.leaf_nodes.proofs.bool_value.Goals as goal

pub returns-in-0-clause-value : goal.returns-in-0-clause-value
unfolding nodes_rules
returns-in-0-clause-value c = λ rest. ap (λ (n : ℕ). bool_node n rest) (sym c.in-0.is)

pub returns-in-1-clause-value : goal.returns-in-1-clause-value
unfolding nodes_rules
returns-in-1-clause-value c = λ rest. ap (λ (n : ℕ). bool_node n rest) (sym c.in-1.is)

pub returns-in_default-clause-value : goal.returns-in_default-clause-value
returns-in_default-clause-value c = λ rest. bool_bad c.args.n rest (omega arith)
