-- `heap_sound_table::list_order`: each place has its own number. Assumes nothing.
use native.Mathlib.Omega.{arith}
use Rattle.heap_sound_table.proofs.TableLaws.{listed_all}
use Rattle.heap_sound_table.proofs.list_order.Goals as goal

pub returns : goal.returns
returns c = listed_all c.loop-i.order _ (omega arith) (λ j h. c.loop-i.invariant j (omega arith))
