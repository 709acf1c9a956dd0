-- `sheet_listing::print_cell`: each case has its text. Assumes nothing.
use Prim.Native.Nat.{◌+◌, ◌*◌}
use Rattle.laws.specs.Basics.{ascii, basics}
use Rattle.sheet_print.specs.Printing.{cell_text}
use Rattle.leaf_cells.specs.declared.VCell.TheVariants as cell
use Rattle.rules.specs.Listing.{listing_rules}
use native.Mathlib.Omega.{arith}
use mathlib.Core.Path.{refl}
use Rattle.sheet_values.proofs.CellLaws.{cell_as, symbol_room, string_room, vector_room, text_size, hexed_printed}
use Rattle.sheet_listing.proofs.print_cell.Goals as goal

pub text-requires : goal.text-requires
text-requires c = (symbol_room c.args.bytes.now c.args.elems.now c.args.c c.requires.shown_in c.in-Symbol.p c.in-Symbol.n c.in-Symbol.is).0

pub print_hexed-requires : goal.print_hexed-requires
print_hexed-requires c = omega (arith, text_size c.args.bytes.now c.in-Symbol.p c.in-Symbol.n (symbol_room c.args.bytes.now c.args.elems.now c.args.c c.requires.shown_in c.in-Symbol.p c.in-Symbol.n c.in-Symbol.is) _ c.text.ensures, c.requires.most_cell_in_bounds)

pub text-requires-in-String : goal.text-requires-in-String
text-requires-in-String c = (string_room c.args.bytes.now c.args.elems.now c.args.c c.requires.shown_in c.in-String.p c.in-String.n c.in-String.is).0

pub print_hexed-requires-in-String : goal.print_hexed-requires-in-String
print_hexed-requires-in-String c = omega (arith, text_size c.args.bytes.now c.in-String.p c.in-String.n (string_room c.args.bytes.now c.args.elems.now c.args.c c.requires.shown_in c.in-String.p c.in-String.n c.in-String.is) _ c.text-in-String.ensures, c.requires.most_cell_in_bounds)

pub print_vector-requires : goal.print_vector-requires
print_vector-requires c = record { size_in_bounds = (vector_room c.args.bytes.now c.args.elems.now c.args.c c.requires.shown_in c.in-Vector.p c.in-Vector.n c.in-Vector.is).0; size_in_bounds_2 = omega (arith, (vector_room c.args.bytes.now c.args.elems.now c.args.c c.requires.shown_in c.in-Vector.p c.in-Vector.n c.in-Vector.is).1, c.requires.most_cell_in_bounds) }

pub returns-in-Undefined : goal.returns-in-Undefined
unfolding listing_rules cell_text
returns-in-Undefined c = cell_as c.args.bytes.now c.args.elems.now c.args.c cell.Undefined 25 c.in-Undefined.is refl (omega arith) c.print_value.ensures

pub returns-in-Nil : goal.returns-in-Nil
unfolding listing_rules cell_text
returns-in-Nil c = cell_as c.args.bytes.now c.args.elems.now c.args.c cell.Nil 25 c.in-Nil.is refl (omega arith) c.print_value-in-Nil.ensures

pub returns-in-Eof : goal.returns-in-Eof
unfolding listing_rules cell_text
returns-in-Eof c = cell_as c.args.bytes.now c.args.elems.now c.args.c cell.Eof 25 c.in-Eof.is refl (omega arith) c.print_value-in-Eof.ensures

pub returns-in-Void : goal.returns-in-Void
unfolding listing_rules cell_text
returns-in-Void c = cell_as c.args.bytes.now c.args.elems.now c.args.c cell.Void 25 c.in-Void.is refl (omega arith) c.print_value-in-Void.ensures

pub returns-in-Bool : goal.returns-in-Bool
unfolding listing_rules cell_text
returns-in-Bool c = cell_as c.args.bytes.now c.args.elems.now c.args.c (cell.Bool c.in-Bool.b) 25 c.in-Bool.is refl (omega arith) c.print_value-in-Bool.ensures

pub returns-in-Char : goal.returns-in-Char
unfolding listing_rules cell_text
returns-in-Char c = cell_as c.args.bytes.now c.args.elems.now c.args.c (cell.Char c.in-Char.n) 25 c.in-Char.is refl (omega arith) c.print_value-in-Char.ensures

pub returns-in-Number : goal.returns-in-Number
unfolding listing_rules cell_text
returns-in-Number c = cell_as c.args.bytes.now c.args.elems.now c.args.c (cell.Number c.in-Number.n) 25 c.in-Number.is refl (omega arith) c.print_value-in-Number.ensures

pub returns-in-Pair : goal.returns-in-Pair
unfolding cell_text
returns-in-Pair c = cell_as c.args.bytes.now c.args.elems.now c.args.c (cell.Pair c.in-Pair.a c.in-Pair.d) 46 c.in-Pair.is refl (omega arith) c.print_pair.ensures

pub returns-in-Symbol : goal.returns-in-Symbol
unfolding cell_text basics
returns-in-Symbol c = cell_as c.args.bytes.now c.args.elems.now c.args.c (cell.Symbol c.in-Symbol.p c.in-Symbol.n) 8196 c.in-Symbol.is refl (omega arith) (hexed_printed c.args.bytes.now c.in-Symbol.p c.in-Symbol.n (symbol_room c.args.bytes.now c.args.elems.now c.args.c c.requires.shown_in c.in-Symbol.p c.in-Symbol.n c.in-Symbol.is) _ c.text.ensures (ascii "sym:") refl c.print_hexed.ensures)

pub returns-in-String : goal.returns-in-String
unfolding cell_text basics
returns-in-String c = cell_as c.args.bytes.now c.args.elems.now c.args.c (cell.String c.in-String.p c.in-String.n) 8196 c.in-String.is refl (omega arith) (hexed_printed c.args.bytes.now c.in-String.p c.in-String.n (string_room c.args.bytes.now c.args.elems.now c.args.c c.requires.shown_in c.in-String.p c.in-String.n c.in-String.is) _ c.text-in-String.ensures (ascii "str:") refl c.print_hexed-in-String.ensures)

pub returns-in-Vector : goal.returns-in-Vector
unfolding cell_text
returns-in-Vector c = cell_as c.args.bytes.now c.args.elems.now c.args.c (cell.Vector c.in-Vector.p c.in-Vector.n) (4 + 26 * c.in-Vector.n) c.in-Vector.is refl (omega (arith, (vector_room c.args.bytes.now c.args.elems.now c.args.c c.requires.shown_in c.in-Vector.p c.in-Vector.n c.in-Vector.is).1)) c.print_vector.ensures
