-- `leaf_write::text`: a kind, a length, then the bytes. Assumes nothing.
use Rattle.leaf_write.proofs.WriteLaws.{noted_none, noted_one, text_stored, text_size}
use Rattle.leaf_rooms.specs.Rooms.{stored}
use Rattle.laws.specs.Basics.{little}
use lib.ListN.{length}
use Prim.Native.Nat.{ℕ, ◌+◌}
use mathlib.Core.List.{List}
use native.Mathlib.Omega.{arith}
use mathlib.Core.Path.{ap, ◌∙◌}
use Rattle.leaf_write.proofs.text.Goals as goal

pub returns-in_err-left : goal.returns-in_err-left
returns-in_err-left c = noted_none c.args.out.now _ c.args.p (omega (arith, c.in_err-left.ensures)) c.from_residual.ensures

pub returns : goal.returns
returns c = noted_one c.args.out.now _ c.args.p _ _ _ c.in_ok-left.ensures (c.put_bytes.ensures ∙ ap (λ (l : List ℕ). stored l (c.args.p.at + 5) c.args.t.now) (c.put_little.ensures ∙ ap (λ (l : List ℕ). stored l (c.args.p.at + 1) (little 4 (length c.args.t.now))) c.put_byte.ensures) ∙ text_stored c.args.out.now c.args.p.at c.args.kind c.args.t.now) (text_size c.args.kind c.args.t.now)
