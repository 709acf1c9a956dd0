-- `leaf_write::scalar`: by the scalar's kind. Assumes nothing.
use Rattle.leaf_write.proofs.WriteLaws.{kind_small, scalar_bare, scalar_short, scalar_long, noted_as}
use native.Mathlib.Omega.{arith}
use Rattle.std.proofs.Common.{rules, ℕ, ◌∷◌, ap, ◌∙◌}
use Rattle.laws.specs.Basics.{little}
use Rattle.leaf_write.proofs.scalar.Goals as goal
use Rattle.leaf_write.proofs.scalar.Goals.{in-0-to-3, in-4, in_default}

pub overflow_cast-w : goal.overflow_cast-w
overflow_cast-w c = omega (arith, kind_small _ _ _ c.requires.1.0 c.requires.1.1)

pub returns : goal.returns
returns c =
    λ x e.
    let with_width = λ (width : ℕ). c.args.w.kind ∷ little width c.args.w.first in
    noted_as _ _ _ _ (
    elim c.if-w-lt4.branch [
      | in-0-to-3 w ↦ ap with_width w.width-is ∙ scalar_bare _ _ _ x e (search rules)
      | in-4 w ↦ ap with_width w.width-is ∙ scalar_short _ _ _ x e (search rules) (search rules)
      | in_default w ↦ ap with_width w.width-is ∙ scalar_long _ _ _ x e (search rules)
    ]
    ) c.field.ensures
