-- The rules' collection does what the paper says of a collection. Document 01, "Slots and growth" and "What a caller is told".
-- Assumes nothing.
use mathlib.Core.Path.{◌≡◌}
use mathlib.Core.Bool.{true}
use mathlib.Core.List.{List}
use Prim.Native.Nat.{ℕ}
use Rattle.laws.specs.Basics.{every}
use Rattle.rules.specs.Heap.{Heap, in_use}
use Rattle.rules.specs.Collect.{collect}
use Rattle.rules.proofs.Good.{Good}
use Rattle.collect_laws.specs.Collects.{Collects}
use Rattle.collect_laws.proofs.Collected.{kept_capacity, kept_chunk, kept_exactly, kept_cell, freed_cell}
use Rattle.collect_laws.proofs.FreedOrder.{freed_order}
use Rattle.collect_laws.proofs.KeptRooms.{texts_shared, bytes_shown, texts_in_order, vectors_shared, elements_shown, vectors_in_order}
use Rattle.collect_laws.proofs.KeptSame.{kept_reading, kept_eqv, kept_equal}
use Rattle.collect_laws.proofs.Entries.{kept_table}
use Rattle.collect_laws.proofs.CollectGood.{free_rest, reached_not_free, past_not_free}

pub collects : (h : Heap) → Good h → (roots : List ℕ) → every (in_use h) roots ≡ true → Collects h roots (collect roots h)
collects h g roots u =
    record {
      same_capacity = kept_capacity h g roots;
      same_chunk = kept_chunk h g roots;
      exactly = kept_exactly h g roots u;
      kept = kept_cell h g roots u;
      freed = freed_cell h g roots u;
      freed_list = freed_order h g roots u;
      free_rest = free_rest h g roots u;
      not_free = reached_not_free h g roots u;
      none_past = past_not_free h g roots u;
      kept_table = kept_table h g roots u;
      texts = record { shared = texts_shared h g roots u; shown = bytes_shown h g roots u; in_order = texts_in_order h g roots u };
      vectors = record { shared = vectors_shared h g roots u; shown = elements_shown h g roots u; in_order = vectors_in_order h g roots u };
      reads = kept_reading h g roots u;
      compares = λ v w. kept_eqv h g roots u;
      equals = λ v w. kept_equal h g roots u;
    }
