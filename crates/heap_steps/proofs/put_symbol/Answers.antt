-- `heap_steps::put_symbol`: found, or made. Assumes nothing.
use mathlib.Core.Path.{sym, ap, ◌∙◌}
use Rattle.leaf_find.specs.Finds.{shown_found}
use Rattle.heap_steps.proofs.SymbolSteps.{find_tabled, find_bytes, made_open, was_made, was_found}
use Rattle.heap_steps.proofs.put_symbol.Goals as goal

-- src/lib.rt:47:9
pub find-requires : goal.find-requires
find-requires c = record { tabled = find_tabled c.requires.0 c.requires.1 c.requires.2 _ _ _ _ _ c.requires.3; words_in_bounds = find_bytes c.requires.0 c.requires.1 c.requires.2 _ _ _ _ _ c.requires.3 }

-- src/lib.rt:50:41
pub make_symbol-requires : goal.make_symbol-requires
make_symbol-requires c = (_, _, _, made_open c.requires.0 c.requires.1 c.requires.2 _ _ _ _ _ c.requires.3 (sym (ap shown_found c.in-None.is) ∙ c.find.ensures))

-- src/lib.rt:43:1
pub returns-in-Some : goal.returns-in-Some
returns-in-Some c = λ n room h o. was_found n room h _ _ _ _ _ o _ (sym (ap shown_found c.in-Some.is) ∙ c.find.ensures)

-- src/lib.rt:43:1
pub returns-in-None : goal.returns-in-None
returns-in-None c = λ n room h o. was_made n room h _ _ _ _ _ o _ _ _ _ (sym (ap shown_found c.in-None.is) ∙ c.find.ensures) (c.make_symbol.ensures n room h (made_open n room h _ _ _ _ _ o (sym (ap shown_found c.in-None.is) ∙ c.find.ensures)))
