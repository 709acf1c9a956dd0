-- `sheet_nodes::signed_number`: no number, or its kind and its bytes. Assumes nothing.
use Rattle.std.specs.Prelude.{None, Some}
use mathlib.Core.Path.{refl}
use Rattle.sheet_nodes.proofs.NodeLaws.{no_signed, a_signed}
use Rattle.sheet_nodes.proofs.signed_number.Goals as goal

pub returns-in_err-n : goal.returns-in_err-n
returns-in_err-n c = rw c.from_residual.ensures (no_signed c.args.out.now c.args.value.now c.args.at None c.in_err-n.ensures refl)

pub returns : goal.returns
returns c = a_signed c.args.out.now c.args.value.now c.args.at (Some c.in_ok-n.n) c.in_ok-n.ensures _ c.in_ok-n.n refl c.write_little.ensures c.requires
