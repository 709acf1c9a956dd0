-- `heap_mark::mark`: low bits and stack together fall by one each turn, and what was traced is traced on. Assumes nothing.
use native.Mathlib.Omega.{arith}
use mathlib.Core.Path.{◌∙◌}
use Rattle.std.proofs.Common.{rules}
use Rattle.heap_mark.proofs.Pushes.{pushed_total}
use Rattle.heap_mark.proofs.Tracing.{can_start, starts, slot_below, can_turn, turn, turn_total, turn_size, ends}
use Rattle.heap_mark.proofs.mark.Goals as goal

pub push_roots-top-requires : goal.push_roots-top-requires
push_roots-top-requires c = can_start _ _ _ _ _ c.requires

pub loop-top-init : goal.loop-top-init
loop-top-init c =
    record {
      map_size = c.push_roots-top.auto.map;
      scratch_size = c.push_roots-top.auto.scratch;
      room = omega (arith, pushed_total _ _ _ _ _ _ _ c.push_roots-top.ensures (can_start _ _ _ _ _ c.requires), c.push_roots-top.auto.scratch, c.requires.room);
      traced = starts _ _ _ _ _ c.requires _ _ _ c.push_roots-top.ensures;
    }

pub push_cell-top-requires-clause-slot_bound : goal.push_cell-top-requires-clause-slot_bound
push_cell-top-requires-clause-slot_bound c = slot_below _ _ _ _ _ c.requires _ _ _ c.loop-top-test.true c.loop-top.invariant.room c.loop-top.invariant.traced

pub push_cell-top-requires-clause-can_push : goal.push_cell-top-requires-clause-can_push
push_cell-top-requires-clause-can_push c = can_turn _ _ _ _ _ c.requires _ _ _ c.loop-top-test.true c.loop-top.invariant.room c.loop-top.invariant.traced

pub loop-top-smaller : goal.loop-top-smaller
loop-top-smaller c =
    let l = c.loop-top.invariant in
    omega (arith, turn_total _ _ _ _ _ c.requires _ _ _ c.loop-top-test.true l.room l.traced _ _ _ c.push_cell-top.ensures)

pub loop-top-preserved : goal.loop-top-preserved
loop-top-preserved c =
    let l = c.loop-top.invariant in
    record {
      map_size = turn_size _ _ _ _ _ c.requires _ _ _ c.loop-top-test.true l.room l.traced _ _ _ c.push_cell-top.ensures ∙ l.map_size;
      scratch_size = c.push_cell-top.auto.scratch ∙ l.scratch_size;
      room = omega (arith, turn_total _ _ _ _ _ c.requires _ _ _ c.loop-top-test.true l.room l.traced _ _ _ c.push_cell-top.ensures, c.push_cell-top.auto.scratch, l.room);
      traced = turn _ _ _ _ _ c.requires _ _ _ c.loop-top-test.true l.room l.traced _ _ _ c.push_cell-top.ensures _ l.traced;
    }

pub returns : goal.returns
returns c = ends _ _ _ _ _ c.requires _ _ _ (omega arith) (search rules) c.loop-top.invariant.traced
