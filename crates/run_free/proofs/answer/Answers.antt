-- `run_free::answer` is safe: the lent parts are zero and as long as the slots want. Assumes nothing.
use Prim.Native.Nat.{◌+◌, ◌*◌, ◌/◌}
use native.Mathlib.Omega.{arith}
use Rattle.laws.specs.Basics.{basics}
use Rattle.laws.proofs.Zeros.{take-zeros}
use Rattle.rules.specs.Layout.{map_bytes}
use Rattle.run_free.proofs.answer.Goals as goal

pub slots-requires : goal.slots-requires
unfolding basics map_bytes
slots-requires g c = record { words_value = take-zeros (8 + 8 * c.args.lent) 200 (omega arith); map_value = take-zeros ((c.args.lent + 3) / 4) 6 (omega arith); le_chunk = c.if-chunk-ge4.true; chunk_value = c.if-chunk-eq0.true; chunk_le_lent = c.if-chunk-lent.true; lent_bound = c.if-lent-le4096.true }
