-- `sheet_nodes::numbered`: no number, or a kind and the number's bytes. Assumes nothing.
use Rattle.std.specs.Prelude.{None, Some}
use mathlib.Core.Path.{refl}
use Rattle.sheet_nodes.proofs.NodeLaws.{no_number, a_number}
use Rattle.sheet_nodes.proofs.numbered.Goals as goal

pub returns-in_err-n : goal.returns-in_err-n
returns-in_err-n c = rw c.from_residual.ensures (no_number c.args.out.now c.args.value.now c.args.at c.args.kind None c.in_err-n.ensures refl)

pub returns : goal.returns
returns c = a_number c.args.out.now c.args.value.now c.args.at c.args.kind (Some c.in_ok-n.n) c.in_ok-n.ensures _ c.in_ok-n.n c.follow.result refl c.follow.ensures c.write_little.ensures c.requires
