-- `heap_needs::is_known`: what the search of the table found, as yes or no. Assumes nothing.
use Prim.Native.Nat.{ℕ}
use mathlib.Core.List.{List}
use mathlib.Core.Path.{ap, ◌∙◌}
use Rattle.leaf_symbols.specs.Table.{found_in}
use Rattle.heap_needs.proofs.NameLaws.{known_found, part_sized}
use Rattle.heap_needs.proofs.is_known.Goals as goal

pub returns : goal.returns
returns c =
    c.is_some.ensures
    ∙ known_found _ _ _ _ c.find.result
    (c.find.ensures ∙ ap (λ (l : List ℕ). found_in c.args.words.now c.args.bytes.now l c.args.scope) (part_sized c.args.datum.now c.args.size c.args.end c.requires.size_le_end))
