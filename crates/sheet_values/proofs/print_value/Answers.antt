-- `sheet_values::print_value`: each case has its text. Assumes nothing.
use Rattle.rules.specs.Text.{decimal}
use Rattle.laws.specs.Basics.{ascii}
use mathlib.Core.List.{◌++◌}
use Prim.Native.Nat.{ℕ}
use mathlib.Core.Path.{ap, ◌∙◌}
use Rattle.leaf_cells.proofs.KindLaws.{bool_word}
use Rattle.leaf_cells.specs.declared.Value.TheVariants as value
use Rattle.rules.specs.Listing.{listing_rules}
use Rattle.laws.specs.Basics.{basics}
use native.Mathlib.Omega.{arith}
use mathlib.Core.Path.{refl}
use Rattle.sheet_print.proofs.PrintLaws.{bounded}
use Rattle.sheet_values.proofs.CellLaws.{value_as}
use Rattle.sheet_values.proofs.print_value.Goals as goal

pub returns-in-Slot : goal.returns-in-Slot
unfolding listing_rules basics
returns-in-Slot c = value_as c.args.v (value.Slot c.in-Slot.s) 21 c.in-Slot.is refl (omega arith) c.print_keyed.ensures

pub returns-in-Undefined : goal.returns-in-Undefined
unfolding listing_rules basics
returns-in-Undefined c = value_as c.args.v value.Undefined 5 c.in-Undefined.is refl (omega arith) (bounded 5 (omega arith) c.print_text.ensures)

pub returns-in-Nil : goal.returns-in-Nil
unfolding listing_rules basics
returns-in-Nil c = value_as c.args.v value.Nil 3 c.in-Nil.is refl (omega arith) (bounded 3 (omega arith) c.print_text-in-Nil.ensures)

pub returns-in-Eof : goal.returns-in-Eof
unfolding listing_rules basics
returns-in-Eof c = value_as c.args.v value.Eof 3 c.in-Eof.is refl (omega arith) (bounded 3 (omega arith) c.print_text-in-Eof.ensures)

pub returns-in-Void : goal.returns-in-Void
unfolding listing_rules basics
returns-in-Void c = value_as c.args.v value.Void 4 c.in-Void.is refl (omega arith) (bounded 4 (omega arith) c.print_text-in-Void.ensures)

pub returns-in-Bool : goal.returns-in-Bool
unfolding listing_rules basics
returns-in-Bool c = value_as c.args.v (value.Bool c.in-Bool.b) 25 c.in-Bool.is (ap (λ (n : ℕ). ascii "bool:" ++ decimal n) (c.from.ensures ∙ bool_word c.in-Bool.b)) (omega arith) c.print_keyed-in-Bool.ensures

pub returns-in-Char : goal.returns-in-Char
unfolding listing_rules basics
returns-in-Char c = value_as c.args.v (value.Char c.in-Char.n) 25 c.in-Char.is refl (omega arith) c.print_keyed-in-Char.ensures

pub returns-in-Number : goal.returns-in-Number
unfolding listing_rules basics
returns-in-Number c = value_as c.args.v (value.Number c.in-Number.n) 24 c.in-Number.is refl (omega arith) c.print_number.ensures
