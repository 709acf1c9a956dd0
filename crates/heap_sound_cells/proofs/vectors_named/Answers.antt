-- `heap_sound_cells::vectors_named`: those before were found good. Assumes nothing.
use Rattle.heap_sound_cells.proofs.FirstLaws.{apart_bound}
use Rattle.heap_sound_cells.specs.Looked.{first_vector}
use Rattle.heap_sound_rows.proofs.UpLaws.{up_starts, up_on, up_stops, up_ends}
use mathlib.Core.Path.{sym, ◌∙◌}
use native.Mathlib.Omega.{arith}
use Rattle.heap_sound_cells.proofs.vectors_named.Goals as goal

pub loop-i-init : goal.loop-i-init
loop-i-init c = up_starts _

pub vector_named-requires : goal.vector_named-requires
vector_named-requires c = let b = apart_bound _ _ _ (c.loop-i.i) c.requires.apart (omega arith) in record { slot_in_bounds = omega arith; slot_in_bounds_2 = omega arith; slot_in_bounds_3 = omega arith }

pub returns-then-not-vector_named : goal.returns-then-not-vector_named
returns-then-not-vector_named c = up_stops (first_vector c.args.words.now c.args.elems.now c.args.map.now c.args.capacity c.args.paint.now) _ c.loop-i.i (omega arith) (sym c.vector_named.ensures ∙ c.if-not-vector_named.true)

pub loop-i-preserved : goal.loop-i-preserved
loop-i-preserved c = up_on (first_vector c.args.words.now c.args.elems.now c.args.map.now c.args.capacity c.args.paint.now) c.loop-i.i c.loop-i.invariant (sym c.vector_named.ensures ∙ c.if-not-vector_named.false)

pub returns : goal.returns
returns c = up_ends (first_vector c.args.words.now c.args.elems.now c.args.map.now c.args.capacity c.args.paint.now) _ c.loop-i.i (omega arith) (omega arith) c.loop-i.invariant
