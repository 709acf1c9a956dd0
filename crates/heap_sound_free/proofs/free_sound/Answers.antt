-- `heap_sound_free::free_sound`: marks that are zero at first. Assumes nothing.
use Rattle.laws.proofs.Zeros.{all_zero}
use Rattle.heap_sound_free.proofs.free_sound.Goals as goal

-- src/lib.rt:99:5
pub free_list-requires : goal.free_list-requires
free_list-requires c = record { in_bounds = c.requires.in_bounds; words_bound = c.requires.words_bound; words_value = c.requires.words_value; words_in_bounds = c.requires.words_bound_2; by_index = λ s. all_zero 4096 s }
