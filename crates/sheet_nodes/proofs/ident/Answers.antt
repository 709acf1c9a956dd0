-- `sheet_nodes::ident`: no hex, or kind, scope and text. Assumes nothing.
use Rattle.sheet_nodes.proofs.NodeLaws.{text_size}
use Rattle.sheet_nodes.proofs.NodeLaws.{no_hex, a_hex, field_written, length-field}
use Rattle.laws.specs.Basics.{little}
use native.Mathlib.Omega.{arith}
use mathlib.Core.Path.{sym, ◌∙◌}
use mathlib.Core.List.{◌∷◌}
use Rattle.sheet_nodes.proofs.ident.Goals as goal

pub returns-then-not-is_hex : goal.returns-then-not-is_hex
returns-then-not-is_hex c = no_hex c.args.out.now c.args.name.now (11 ∷ little 4 c.args.scope) c.args.at (sym c.is_hex.ensures ∙ c.if-not-is_hex.true)

pub overflow_add-result : goal.overflow_add-result
overflow_add-result c = omega (arith, text_size c.args.name.now (sym c.is_hex.ensures ∙ c.if-not-is_hex.false) c.write_text-n.ensures)

pub returns : goal.returns
returns c = a_hex c.args.out.now c.args.name.now (11 ∷ little 4 c.args.scope) c.args.at _ _ 5 c.write_text-n.result (sym c.is_hex.ensures ∙ c.if-not-is_hex.false) (length-field 11 c.args.scope) (field_written c.args.out.now _ c.args.at 11 4 c.args.scope c.write_little.ensures) c.write_text-n.ensures (omega (arith, c.requires))
