-- `leaf_nodes::first_u64`: eight bytes, lowest first, are a field of 8 bytes. Assumes nothing.
use Rattle.std.proofs.Common.{◌∙◌, ◌≤◌, length, rules, arith}
use Rattle.leaf_nodes.proofs.Laws.{field_cut, field_there, field_of_8}
use Rattle.leaf_nodes.proofs.first_u64.Goals as goal

pub returns-in_default : goal.returns-in_default
returns-in_default c = field_cut 8 c.args.bytes.now (search rules)

pub returns : goal.returns
returns c =
    let size : 8 ≤ length c.args.bytes.now = omega (arith, c.in-Some.ensures.cases.2) in
    field_there 8 c.args.bytes.now _ size (c.from_le_bytes.ensures ∙ field_of_8 c.args.bytes.now _ c.in-Some.ensures.cases.0 size)
