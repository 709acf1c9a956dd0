-- `heap_needs::make_name`: one name more. Assumes nothing.
use Rattle.heap_needs.proofs.NameLaws.{name_made}
use Rattle.heap_needs.proofs.make_name.Goals as goal

pub returns : goal.returns
returns c = name_made c.args.names.now.items _ c.args.datum.now c.args.t _ c.args.size c.args.end c.args.scope c.requires c.push.ensures.items c.more.ensures
