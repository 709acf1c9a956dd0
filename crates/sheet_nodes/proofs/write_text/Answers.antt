-- `sheet_nodes::write_text`: the length, then the bytes. Assumes nothing.
use Rattle.sheet_nodes.proofs.NodeLaws.{text_written}
use native.Mathlib.Omega.{arith}
use mathlib.Core.Path.{◌∙◌}
use Rattle.sheet_nodes.proofs.write_text.Goals as goal

pub write_unhexed-requires : goal.write_unhexed-requires
write_unhexed-requires c = record { t_value = c.requires.hex_value; t_in_bounds = omega (arith, c.write_little.auto.out) }

pub shape_of-out : goal.shape_of-out
shape_of-out c = c.write_unhexed.auto.out ∙ c.write_little.auto.out

pub returns : goal.returns
returns c = text_written c.args.out.now c.args.at c.args.hex.now _ _ c.requires.hex_value c.write_little.ensures c.write_unhexed.ensures
