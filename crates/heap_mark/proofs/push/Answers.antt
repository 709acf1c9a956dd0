-- `heap_mark::push`: marked already, or newly marked and on the stack. Assumes nothing.
use mathlib.Core.Path.{sym, ◌∙◌}
use Rattle.heap_mark.specs.Marks.{is_marked}
use Rattle.heap_mark.proofs.Pushes.{one_met, one_new, one_in_map, one_room}
use Rattle.heap_mark.proofs.push.Goals as goal

pub returns-then-is_marked : goal.returns-then-is_marked
unfolding is_marked
returns-then-is_marked c = one_met c.args.map.now c.args.scratch.now c.args.top c.args.slot c.requires (sym c.is_marked.ensures ∙ c.if-is_marked.true)

pub mark-requires : goal.mark-requires
unfolding is_marked
mark-requires c = one_in_map c.args.map.now c.args.scratch.now c.args.top c.args.slot c.requires (sym c.is_marked.ensures ∙ c.if-is_marked.false)

pub bounds-scratch-top : goal.bounds-scratch-top
unfolding is_marked
bounds-scratch-top c = one_room c.args.map.now c.args.scratch.now c.args.top c.args.slot c.requires (sym c.is_marked.ensures ∙ c.if-is_marked.false)

pub returns : goal.returns
unfolding is_marked
returns c = one_new c.args.map.now c.args.scratch.now c.args.top c.args.slot c.requires (sym c.is_marked.ensures ∙ c.if-is_marked.false) _ c.mark.ensures
