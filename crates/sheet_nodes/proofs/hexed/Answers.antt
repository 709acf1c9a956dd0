-- `sheet_nodes::hexed`: no hex, or a kind and the text. Assumes nothing.
use Rattle.sheet_nodes.proofs.NodeLaws.{text_size}
use Rattle.sheet_nodes.proofs.NodeLaws.{no_hex, a_hex, one_written}
use native.Mathlib.Omega.{arith}
use mathlib.Core.Path.{refl, sym, ◌∙◌}
use mathlib.Core.List.{[], ◌∷◌}
use Rattle.sheet_nodes.proofs.hexed.Goals as goal

pub returns-then-not-is_hex : goal.returns-then-not-is_hex
returns-then-not-is_hex c = no_hex c.args.out.now c.args.value.now (c.args.kind ∷ []) c.args.at (sym c.is_hex.ensures ∙ c.if-not-is_hex.true)

pub overflow_add-result : goal.overflow_add-result
overflow_add-result c = omega (arith, text_size c.args.value.now (sym c.is_hex.ensures ∙ c.if-not-is_hex.false) c.write_text-n.ensures)

pub returns : goal.returns
returns c = a_hex c.args.out.now c.args.value.now (c.args.kind ∷ []) c.args.at _ _ 1 c.write_text-n.result (sym c.is_hex.ensures ∙ c.if-not-is_hex.false) refl (one_written c.args.out.now c.args.at c.args.kind) c.write_text-n.ensures (omega (arith, c.requires))
