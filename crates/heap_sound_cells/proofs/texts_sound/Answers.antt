-- `heap_sound_cells::texts_sound`: paint that is clear at first. Assumes nothing.
use Rattle.laws.proofs.Zeros.{all_zero}
use Rattle.heap_sound_cells.proofs.texts_sound.Goals as goal

-- src/lib.rt:175:5
pub texts-requires : goal.texts-requires
texts-requires c = record { capacity_in_bounds = c.requires.capacity_in_bounds; capacity_bound = c.requires.capacity_bound; bytes_in_bounds = c.requires.bytes_len_bound; by_index = λ x. all_zero 65536 x }
