-- `heap_sound_table::entries_good`: all pass, or one does not. Assumes nothing.
use native.Mathlib.Omega.{arith}
use borrow.Author.Rules.{rules}
use mathlib.Core.Bool.{true, false}
use mathlib.Core.Path.{◌≡◌, refl}
use Rattle.std.proofs.lemmas.Iterator.{cases_from_all, YieldsList-from_range}
use Rattle.heap_sound_table.specs.Entries.{entry_good}
use Rattle.heap_sound_table.proofs.TableLaws.{every_by}
use Rattle.heap_sound_table.proofs.entries_good.Goals as goal

pub returns : goal.returns
returns c =
    every_by (entry_good c.args.words.now c.args.map.now c.args.capacity) c.args.n c.all.result
    (cases_from_all _ _ _ (λ i. entry_good c.args.words.now c.args.map.now c.args.capacity i ≡ true) (λ i. entry_good c.args.words.now c.args.map.now c.args.capacity i ≡ false)
    c.all.ensures.ran (YieldsList-from_range 0 c.args.n c.args.n refl (omega arith)) (λ x q k. search rules) (λ x q k. search rules))
