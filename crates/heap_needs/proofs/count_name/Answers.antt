-- `heap_needs::count_name`: known, met, or new. Assumes nothing.
use native.Mathlib.Omega.{arith}
use Prim.Native.Nat.{ℕ, ◌-◌}
use lib.ListN.{take, drop}
use Rattle.heap_needs.specs.declared.Name as code
use mathlib.Core.List.{List}
use mathlib.Core.Path.{sym, ap, ◌∙◌}
use Rattle.heap_needs.specs.Pass.{names_in}
use Rattle.heap_needs.specs.Needs.{met}
use Rattle.heap_needs.proofs.NameLaws.{name_same, symbol_known, symbol_met, symbol_new, counted_as, part_sized}
use Rattle.heap_needs.proofs.count_name.Goals as goal

pub returns-then-is_known : goal.returns-then-is_known
returns-then-is_known c = name_same c.args.names.now.items c.args.datum.now c.args.t c.args.size c.args.end 0 _ c.requires.countable (symbol_known _ _ c.args.scope _ (sym c.is_known.ensures ∙ c.if-is_known.true))

pub returns-then-is_met : goal.returns-then-is_met
returns-then-is_met c = name_same c.args.names.now.items c.args.datum.now c.args.t c.args.size c.args.end 0 _ c.requires.countable (symbol_met _ _ c.args.scope _ (sym c.is_known.ensures ∙ c.if-is_known.false) (sym (ap (λ (l : List ℕ). met (names_in c.args.names.now.items c.args.datum.now) l c.args.scope) (part_sized c.args.datum.now c.args.size c.args.end (omega (arith, c.requires.countable.bytes)))) ∙ ap (λ (ns : List code.Name). met (names_in ns c.args.datum.now) (take (c.args.end - (c.args.end - c.args.size)) (drop (c.args.end - c.args.size) c.args.datum.now)) c.args.scope) (sym c.deref.ensures.0) ∙ sym c.is_met.ensures ∙ c.if-is_met.true))

pub returns : goal.returns
returns c = counted_as (sym (symbol_new _ _ c.args.scope _ (sym c.is_known.ensures ∙ c.if-is_known.false) (sym (ap (λ (l : List ℕ). met (names_in c.args.names.now.items c.args.datum.now) l c.args.scope) (part_sized c.args.datum.now c.args.size c.args.end (omega (arith, c.requires.countable.bytes)))) ∙ ap (λ (ns : List code.Name). met (names_in ns c.args.datum.now) (take (c.args.end - (c.args.end - c.args.size)) (drop (c.args.end - c.args.size) c.args.datum.now)) c.args.scope) (sym c.deref.ensures.0) ∙ sym c.is_met.ensures ∙ c.if-is_met.false))) c.make_name.ensures
