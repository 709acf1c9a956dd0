-- `heap_needs::short`: 16 before 17, each by its number. Assumes nothing.
use Rattle.rules.proofs.Growth.{fitting_most}
use lib.ListN.{get_or}
use native.Mathlib.Omega.{arith}
use Rattle.rules.specs.Heap.{most_growths}
use Rattle.heap_needs.specs.Lacks.{lent_slots}
use Rattle.heap_needs.proofs.LackLaws.{short_slots, short_room, short_none}
use Rattle.heap_needs.proofs.short.Goals as goal

pub overflow_add-free : goal.overflow_add-free
overflow_add-free c = omega (arith, c.fitting-most.ensures, fitting_most most_growths (get_or c.args.words.now 0 0) (lent_slots c.args.words.now) (get_or c.args.words.now 1 0) c.requires.capacity_small)

pub returns-then-free-most : goal.returns-then-free-most
returns-then-free-most c = short_slots c.args.words.now c.args.needed c.args.bytes c.args.elements (omega (arith, c.fitting-most.ensures))

pub returns-then-text_room-needed : goal.returns-then-text_room-needed
returns-then-text_room-needed c = short_room c.args.words.now c.args.needed c.args.bytes c.args.elements c.requires (omega (arith, c.fitting-most.ensures)) c.then-text_room-needed.either

pub returns : goal.returns
returns c = short_none c.args.words.now c.args.needed c.args.bytes c.args.elements c.requires (omega (arith, c.fitting-most.ensures)) (omega arith) (omega arith)
