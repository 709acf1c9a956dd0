-- `leaf_write::field`: a kind, then a number. Assumes nothing.
use Rattle.leaf_write.proofs.WriteLaws.{noted_none, noted_one, field_stored, field_size}
use Rattle.leaf_rooms.specs.Rooms.{stored}
use Rattle.laws.specs.Basics.{little}
use Prim.Native.Nat.{ℕ, ◌+◌}
use mathlib.Core.List.{List}
use native.Mathlib.Omega.{arith}
use mathlib.Core.Path.{ap, ◌∙◌}
use Rattle.leaf_write.proofs.field.Goals as goal

pub returns-in_err-left : goal.returns-in_err-left
returns-in_err-left c = noted_none c.args.out.now _ c.args.p (omega (arith, c.in_err-left.ensures)) c.from_residual.ensures

pub returns : goal.returns
returns c = noted_one c.args.out.now _ c.args.p _ _ _ c.in_ok-left.ensures (c.put_little.ensures ∙ ap (λ (l : List ℕ). stored l (c.args.p.at + 1) (little c.args.w c.args.n)) c.put_byte.ensures ∙ field_stored c.args.out.now c.args.p.at c.args.kind c.args.w c.args.n) (field_size c.args.kind c.args.w c.args.n)
