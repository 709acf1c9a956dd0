-- `heap_mark::roots_in_use`: the code's test of each root is the heap's. Assumes nothing.
use Rattle.heap_mark.proofs.Roots.{roots_are}
use Rattle.heap_sound_cells.specs.Looked.{used_slot}
use lib.ListN.{get_or}
use Rattle.std.proofs.Common.{rules, tests, ◌∙◌}
use Rattle.std.proofs.lemmas.Iterator.{YieldsList-from_slice}
use Rattle.std.proofs.lemmas.Iterator.Search.{all_from_yields_List}
use Rattle.heap_mark.proofs.roots_in_use.Goals as goal

pub returns : goal.returns
returns c =
    all_from_yields_List (used_slot (get_or c.args.words.now 1 0) c.args.map.now) _ _ _ c.all.ensures.ran (YieldsList-from_slice c.args.roots.now cc) (λ x b q k. search (rules, tests))
    ∙ roots_are c.args.words.now c.args.map.now c.requires.words_value c.args.roots.now
