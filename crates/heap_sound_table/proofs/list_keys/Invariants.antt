-- `heap_sound_table::list_keys`: the keys of the entries passed are copied. Assumes nothing.
use Rattle.heap_sound_table.specs.Entries.{Keyed}
use Rattle.heap_sound_table.proofs.list_keys.Given as goal

abbrev pub invariant-loop-i : goal.invariant-loop-i
invariant-loop-i l = Keyed l.words l.keys l.i
