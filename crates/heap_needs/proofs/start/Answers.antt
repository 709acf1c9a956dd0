-- `heap_needs::start`: one datum is awaited. Assumes nothing.
use mathlib.Core.Path.{refl}
use Rattle.heap_needs.proofs.StackLaws.{first_stack, first_clear}
use Rattle.heap_needs.proofs.start.Goals as goal

pub returns : goal.returns
returns c = record { is = refl; stack_is = first_stack c.args.stack.now c.requires; clear = first_clear c.args.stack.now c.requires }
