-- `heap_needs::turn`: what was to do is what is left to do. Assumes nothing.
use Rattle.heap_needs.proofs.StackLaws.{pop_clear}
use native.Mathlib.Omega.{arith}
use Rattle.heap_needs.specs.Pass.{known_in}
use Rattle.heap_needs.proofs.PassLaws.{first_of, never_faulty, turned, going_top, read_rest}
use Rattle.heap_needs.proofs.turn.Goals as goal

pub bounds-stack-top : goal.bounds-stack-top
bounds-stack-top c = omega (arith, going_top c.requires.going)

pub bounds-stack-top-2 : goal.bounds-stack-top-2
bounds-stack-top-2 c = omega (arith, going_top c.requires.going)

pub unreachable-requires : goal.unreachable-requires
unreachable-requires c =
    never_faulty (known_in c.args.words.now c.args.bytes.now) c.args.datum.now c.args.names.now.items c.args.stack.now c.args.t c.in_default.field-0
    (read_rest c.args.datum.now c.args.t.at _ c.in_default.ensures) c.requires.top_nonzero c.requires.going

pub overflow_add-end : goal.overflow_add-end
overflow_add-end c = omega (arith, (first_of (known_in c.args.words.now c.args.bytes.now) c.args.datum.now c.args.names.now.items c.args.stack.now c.args.t c.in-Ok.read (read_rest c.args.datum.now c.args.t.at _ c.in-Ok.ensures) c.requires.top_nonzero c.requires.going).inside)

pub count-u-requires : goal.count-u-requires
count-u-requires c = record { lent = c.requires.lent; countable = (first_of (known_in c.args.words.now c.args.bytes.now) c.args.datum.now c.args.names.now.items c.args.stack.now c.args.t c.in-Ok.read (read_rest c.args.datum.now c.args.t.at _ c.in-Ok.ensures) c.requires.top_nonzero c.requires.going).countable; node_bound = omega (arith, (first_of (known_in c.args.words.now c.args.bytes.now) c.args.datum.now c.args.names.now.items c.args.stack.now c.args.t c.in-Ok.read (read_rest c.args.datum.now c.args.t.at _ c.in-Ok.ensures) c.requires.top_nonzero c.requires.going).few) }

pub push-requires : goal.push-requires
push-requires c = record { clear = pop_clear c.args.stack.now c.args.t.top c.requires.going.doing.clear c.requires.top_nonzero (going_top c.requires.going); node_bound = (first_of (known_in c.args.words.now c.args.bytes.now) c.args.datum.now c.args.names.now.items c.args.stack.now c.args.t c.in-Ok.read (read_rest c.args.datum.now c.args.t.at _ c.in-Ok.ensures) c.requires.top_nonzero c.requires.going).few }

pub returns : goal.returns
returns c = turned (known_in c.args.words.now c.args.bytes.now) c.args.datum.now c.args.names.now.items c.args.stack.now c.args.t c.in-Ok.read (read_rest c.args.datum.now c.args.t.at _ c.in-Ok.ensures) _ _ c.count-u.result c.push.result c.requires.top_nonzero c.requires.going c.count-u.ensures c.push.ensures
