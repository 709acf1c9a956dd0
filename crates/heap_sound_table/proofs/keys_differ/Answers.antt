-- `heap_sound_table::keys_differ`: sorted, and neighbours looked at. Assumes nothing.
use lib.ListN.{length}
use Rattle.heap_sound_table.proofs.TableLaws.{keys_decided}
use Rattle.heap_sound_table.proofs.keys_differ.Goals as goal

pub returns : goal.returns
returns c = keys_decided c.args.keys.now c.args.bytes.now (length c.args.order.now) _ _ _ c.list_order.ensures c.sort.ensures c.distinct.ensures
