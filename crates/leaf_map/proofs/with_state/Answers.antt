-- `leaf_map::with_state`: the old bits are taken off, the new ones added. Assumes nothing.
use native.Mathlib.Omega.{arith}
use mathlib.Core.Path.{ap, ◌∙◌}
use Rattle.rules.specs.Map.{with_state}
use Rattle.rules.proofs.TwoBits.{Exchanged, exchange}
use Rattle.leaf_map.specs.States.{number_small}
use Rattle.leaf_map.proofs.with_state.Goals as goal

exchanged : (c : goal.After-from-after) → Exchanged c.args.byte c.args.place c.from-after.result c.from-before.result
exchanged c =
    exchange c.args.byte c.from-after.result c.from-before.result c.ranges.byte.fits (omega (arith, number_small c.args.state, c.from-after.ensures))
    c.args.place c.requires (c.from-before.ensures ∙ c.state_in.ensures)

pub overflow_mul-result : goal.overflow_mul-result
overflow_mul-result c = record { fits = omega (arith, (exchanged c).old_within, c.ranges.byte.fits) }

pub overflow_sub-result : goal.overflow_sub-result
overflow_sub-result c = (exchanged c).old_within

pub overflow_mul-result-2 : goal.overflow_mul-result-2
overflow_mul-result-2 c = record { fits = (exchanged c).new_below }

pub overflow_add-result : goal.overflow_add-result
overflow_add-result c = record { fits = (exchanged c).sum_below }

pub returns : goal.returns
returns c = (exchanged c).right ∙ ap (with_state c.args.byte c.args.place) c.from-after.ensures
