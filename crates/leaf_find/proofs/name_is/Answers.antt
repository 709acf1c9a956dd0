-- `leaf_find::name_is`: no symbol, or the symbol's part of the bytes. Assumes nothing.
use mathlib.Core.Path.{◌∙◌, ap}
use mathlib.Core.List.{List}
use Prim.Native.Nat.{ℕ}
use Rattle.laws.specs.Basics.{same}
use Rattle.leaf_names.proofs.Shown.{same_shown}
use Rattle.leaf_find.proofs.Names.{empty_only, no_name, symbol_name}
use Rattle.leaf_find.proofs.name_is.Goals as goal

pub returns-in-Symbol : goal.returns-in-Symbol
returns-in-Symbol c =
    c.eq.ensures ∙ same_shown _ _
    ∙ ap (λ (l : List ℕ). same l c.args.name.now) (c.part.ensures ∙ symbol_name c.args.words.now c.args.bytes.now c.args.slot c.load.result c.load.ensures c.in-Symbol.place c.in-Symbol.size c.in-Symbol.is)

pub returns-in_default : goal.returns-in_default
returns-in_default c =
    c.is_empty.ensures ∙ empty_only c.args.name.now
    ∙ ap (λ (l : List ℕ). same l c.args.name.now) (no_name c.args.words.now c.args.bytes.now c.args.slot c.load.result c.load.ensures c.in_default.not-Symbol)
