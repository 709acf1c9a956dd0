-- `heap_sound_rows::settled`: byte by byte. Assumes nothing.
use Rattle.heap_sound_rows.proofs.RowLaws.{all_is, settled_bytes}
use Rattle.heap_sound_rows.specs.Rows.{byte_settled}
use Rattle.std.proofs.Common.{rules, tests}
use Rattle.std.proofs.lemmas.Iterator.{YieldsList-from_slice}
use Rattle.std.proofs.lemmas.Iterator.Search.{all_from_yields_List}
use mathlib.Core.Path.{sym, ◌∙◌}
use Rattle.heap_sound_rows.proofs.settled.Goals as goal

pub returns : goal.returns
returns c = all_from_yields_List byte_settled _ _ _ c.all.ensures.ran (YieldsList-from_slice c.args.map.now cc) (λ x b q k. search (rules, tests)) ∙ all_is byte_settled c.args.map.now ∙ sym (settled_bytes _)
