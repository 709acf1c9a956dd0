-- `heap_pack::text_block`: a string's, a symbol's, or none. Assumes nothing.
use Rattle.heap_pack.proofs.CellLaws.{text_of, no_text_block}
use Rattle.heap_pack.proofs.text_block.Goals as goal

pub returns-in-Symbol : goal.returns-in-Symbol
returns-in-Symbol c = text_of c.args.c _ _ c.in-Symbol.is

pub returns-in-Symbol-2 : goal.returns-in-Symbol-2
returns-in-Symbol-2 c = text_of c.args.c _ _ c.in-Symbol.is

pub returns-in_default : goal.returns-in_default
returns-in_default c = no_text_block c.args.c c.in_default.not-Symbol c.in_default.not-String c.default.result c.default.ensures
