-- `heap_needs::needs`: at the end nothing is left to do. Assumes nothing.
use Rattle.heap_needs.proofs.StackLaws.{empty_clear}
use mathlib.Core.Path.{ap, refl}
use native.Mathlib.Omega.{arith}
use Rattle.heap_needs.specs.Pass.{known_in, needed}
use Rattle.heap_needs.proofs.PassLaws.{under_begins, under_going, under_on, under_ends}
use Rattle.heap_needs.proofs.needs.Goals as goal

pub start-t-requires : goal.start-t-requires
start-t-requires c = empty_clear _ 4096 refl refl

pub loop-t-init : goal.loop-t-init
loop-t-init c = under_begins (known_in c.args.words.now c.args.bytes.now) c.args.datum.now _ _ c.start-t.result c.requires.datum_there c.new-names.ensures c.start-t.ensures

pub turn-t-requires : goal.turn-t-requires
turn-t-requires c = record { lent = c.requires.lent; top_nonzero = omega arith; going = under_going (known_in c.args.words.now c.args.bytes.now) c.args.datum.now c.loop-t.invariant }

pub loop-t-smaller : goal.loop-t-smaller
loop-t-smaller c = omega (arith, c.turn-t.ensures.on, c.turn-t.ensures.inside)

pub loop-t-preserved : goal.loop-t-preserved
loop-t-preserved c = under_on (known_in c.args.words.now c.args.bytes.now) c.args.datum.now c.loop-t.invariant c.turn-t.ensures

pub returns : goal.returns
returns c = λ d w f. ap needed (under_ends (known_in c.args.words.now c.args.bytes.now) c.args.datum.now c.loop-t.invariant (omega arith) d w f)
