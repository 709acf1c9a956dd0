-- `sheet_print::print_free`: one slot more, with its comma. Assumes nothing.
use Rattle.sheet_print.proofs.ListLaws.{listed_none}
use Rattle.sheet_print.proofs.ListLaws.{listed_on}
use Rattle.sheet_print.proofs.PrintLaws.{slot_short}
use Rattle.sheet_print.proofs.WordLaws.{header_there, free_few, free_there, free_small, free_printed, free_ended}
use native.Mathlib.Omega.{arith}
use Rattle.sheet_print.specs.Printing.{free_text}
use Rattle.sheet_print.proofs.print_free.Goals as goal

pub bounds-words-2 : goal.bounds-words-2
bounds-words-2 c = omega (arith, header_there c.args.words.now c.requires.sound_words)

pub loop-i-init : goal.loop-i-init
loop-i-init c = listed_none (free_text c.args.words.now) c.args.out.now c.args.at

pub print_comma-next-requires : goal.print_comma-next-requires
print_comma-next-requires c = omega (arith, c.loop-i.invariant.short, free_few c.args.words.now c.requires.sound_words)

pub overflow_mul-count : goal.overflow_mul-count
overflow_mul-count c = omega (arith, free_few c.args.words.now c.requires.sound_words)

pub overflow_add-count : goal.overflow_add-count
overflow_add-count c = omega (arith, free_few c.args.words.now c.requires.sound_words)

pub offset_bounds-words-count : goal.offset_bounds-words-count
offset_bounds-words-count c = record { fits = omega (arith, free_few c.args.words.now c.requires.sound_words) }

pub bounds-words-count : goal.bounds-words-count
bounds-words-count c = free_there c.args.words.now c.requires.sound_words c.loop-i.i c.loop-i-test.true

pub print_decimal-end-requires : goal.print_decimal-end-requires
print_decimal-end-requires c = omega (arith, c.loop-i.invariant.short, c.print_comma-next.ensures.short, c.print_comma-next.auto, free_few c.args.words.now c.requires.sound_words, slot_short _ (free_small c.args.words.now c.requires.sound_words c.loop-i.i c.loop-i-test.true))

pub loop-i-preserved : goal.loop-i-preserved
loop-i-preserved c = listed_on (free_text c.args.words.now) c.args.out.now c.args.at c.loop-i.i 4 c.loop-i.invariant c.print_comma-next.ensures (free_printed c.args.words.now c.requires.sound_words c.loop-i.i c.loop-i-test.true c.print_decimal-end.ensures)

pub returns : goal.returns
returns c = free_ended c.args.words.now c.requires.sound_words c.loop-i.i (omega arith) c.loop-i-test.false c.loop-i.invariant
