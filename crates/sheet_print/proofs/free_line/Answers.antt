-- `sheet_print::free_line`: a line of one number, the header's. Assumes nothing.
use mathlib.Core.Path.{refl}
use Rattle.laws.specs.Basics.{basics}
use Rattle.sheet_print.proofs.WordLaws.{header_there, free_is}
use native.Mathlib.Omega.{arith}
use Rattle.sheet_print.proofs.free_line.Goals as goal

pub bounds-words-2 : goal.bounds-words-2
bounds-words-2 c = omega (arith, header_there c.args.words.now c.requires.sound_words)

pub returns : goal.returns
unfolding basics
returns c = λ m b e. free_is _ c.args.words.now m b e refl c.number_line.ensures
