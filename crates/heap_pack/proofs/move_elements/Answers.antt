-- `heap_pack::move_elements`: a new block is written to the tail, a known one is where it went. Assumes nothing.
use Prim.Native.Nat.{◌*◌}
use native.Mathlib.Omega.{arith}
use Rattle.heap_pack.proofs.MoveLaws.{elements_known, elements_new, part_fits}
use Rattle.heap_pack.proofs.move_elements.Goals as goal

pub overflow_cast-known : goal.overflow_cast-known
overflow_cast-known c = record { fits = omega (arith, c.type_inv.table c.args.place, c.type_inv.table c.args.place) }

pub returns-then-known-gt0 : goal.returns-then-known-gt0
returns-then-known-gt0 c = elements_known c.args.elems.now c.args.old.now c.args.table.now c.args.at c.args.place c.args.size c.if-known-gt0.true

pub write-requires : goal.write-requires
write-requires c = part_fits c.args.elems.now c.args.old.now (3 * c.args.at) (3 * c.args.place) (3 * c.args.size) (omega (arith, c.requires.inside)) (omega (arith, c.requires.fits (omega (arith, c.if-known-gt0.false))))

pub returns : goal.returns
returns c = elements_new c.args.elems.now c.args.old.now c.args.table.now c.args.at c.args.place c.args.size _ (omega (arith, c.if-known-gt0.false)) (omega (arith, c.requires.inside)) (omega (arith, c.requires.fits (omega (arith, c.if-known-gt0.false)))) c.write.ensures
