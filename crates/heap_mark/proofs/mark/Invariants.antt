-- `heap_mark::mark`: low bits and stack together fall by one each turn, and what was traced is traced on. Assumes nothing.
use mathlib.Core.Path.{◌≡◌}
use lib.ListN.{length, take}
use Prim.Native.Nat.{◌+◌, ◌≤◌}
use Rattle.rules.specs.Map.{set_low_bits}
use Rattle.heap_mark.specs.Marks.{linked}
use Rattle.heap_mark.proofs.Tracing.{Traced}
use Rattle.heap_mark.proofs.mark.Given as goal

abbrev pub invariant-loop-top : goal.invariant-loop-top
invariant-loop-top l =
    record {
      map_size : length l.map ≡ length l.fn.map;
      scratch_size : length l.scratch ≡ length l.fn.scratch;
      room : set_low_bits l.map + l.top ≤ length l.scratch;
      traced : Traced (linked l.words l.elems) l.roots l.fn.map l.map (take l.top l.scratch);
    }

abbrev pub decreases-loop-top : goal.decreases-loop-top
decreases-loop-top l = set_low_bits l.map + l.top
