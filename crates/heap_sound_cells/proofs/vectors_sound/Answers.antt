-- `heap_sound_cells::vectors_sound`: paint that is clear at first. Assumes nothing.
use Rattle.laws.proofs.Zeros.{all_zero}
use Rattle.heap_sound_cells.proofs.vectors_sound.Goals as goal

-- src/lib.rt:238:5
pub vectors-requires : goal.vectors-requires
vectors-requires c = record { capacity_in_bounds = c.requires.capacity_in_bounds; capacity_bound = c.requires.capacity_bound; used_in_bounds = c.requires.used_in_bounds; used_in_bounds_2 = c.requires.used_bound; by_index = λ x. all_zero 16384 x }
