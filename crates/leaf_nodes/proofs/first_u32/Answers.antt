-- `leaf_nodes::first_u32`: four bytes, lowest first, are a field of 4 bytes. Assumes nothing.
use Rattle.std.proofs.Common.{◌∙◌, ◌≤◌, length, rules, arith}
use Rattle.leaf_nodes.proofs.Laws.{field_cut, field_there, field_of_4}
use Rattle.leaf_nodes.proofs.first_u32.Goals as goal

pub returns-in_default : goal.returns-in_default
returns-in_default c = field_cut 4 c.args.bytes.now (search rules)

pub returns : goal.returns
returns c =
    let size : 4 ≤ length c.args.bytes.now = omega (arith, c.in-Some.ensures.cases.2) in
    field_there 4 c.args.bytes.now _ size (c.from.ensures ∙ c.from_le_bytes.ensures ∙ field_of_4 c.args.bytes.now _ c.in-Some.ensures.cases.0 size)
