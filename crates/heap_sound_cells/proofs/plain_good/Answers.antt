-- `heap_sound_cells::plain_good`: kind by kind. Assumes nothing.
use Rattle.heap_sound_cells.proofs.PlainLaws.{char_good, string_good, symbol_good, pair_good, vector_good, other_good}
use borrow.Author.Rules.{rules}
use mathlib.Core.Path.{◌∙◌}
use native.Mathlib.Omega.{arith}
use Rattle.heap_sound_cells.proofs.plain_good.Goals as goal

pub returns-in-5 : goal.returns-in-5
returns-in-5 c = c.is_scalar_value.ensures ∙ char_good c.args.capacity c.args.map.now c.args.kind c.args.a c.args.b c.in-5.is

pub returns-in-7 : goal.returns-in-7
returns-in-7 c = string_good c.args.capacity c.args.map.now c.args.kind c.args.a c.args.b c.in-7.is

pub returns-in-8 : goal.returns-in-8
returns-in-8 c = symbol_good c.args.capacity c.args.map.now c.args.kind c.args.a c.args.b c.in-8.is

pub returns-then-in_use : goal.returns-then-in_use
returns-then-in_use c = pair_good c.args.capacity c.args.map.now c.args.kind c.args.a c.args.b _ c.in-9.is (search rules)

pub returns-else-in_use : goal.returns-else-in_use
returns-else-in_use c = pair_good c.args.capacity c.args.map.now c.args.kind c.args.a c.args.b _ c.in-9.is (search rules)

pub returns-in-10 : goal.returns-in-10
returns-in-10 c = vector_good c.args.capacity c.args.map.now c.args.kind c.args.a c.args.b c.in-10.is

pub returns-in_default : goal.returns-in_default
returns-in_default c = other_good c.args.capacity c.args.map.now c.args.kind c.args.a c.args.b (λ e. omega (arith, e)) (λ e. omega (arith, e)) (λ e. omega (arith, e)) (λ e. omega (arith, e)) (λ e. omega (arith, e))
