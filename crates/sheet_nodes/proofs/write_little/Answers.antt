-- `sheet_nodes::write_little`: std's bytes, the lowest of them. Assumes nothing.
use Rattle.text_numbers.specs.Answers.{written}
use Rattle.sheet_nodes.proofs.NodeLaws.{lowest}
use lib.ListN.{take}
use mathlib.Core.Path.{ap, ◌∙◌}
use Rattle.sheet_nodes.proofs.write_little.Goals as goal

pub returns : goal.returns
returns c = c.print_text.ensures.is ∙ ap (written c.args.out.now c.args.at) (ap (take c.args.w) c.to_le_bytes.ensures ∙ lowest c.args.w c.args.n c.requires.width)
