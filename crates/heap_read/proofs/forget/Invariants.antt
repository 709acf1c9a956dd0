-- `heap_read::forget`: the marks below a place are changed. Assumes nothing.
use Rattle.heap_read.proofs.ValueLaws.{Forgotten}
use Rattle.heap_read.proofs.forget.Given as goal

abbrev pub invariant-loop-m : goal.invariant-loop-m
invariant-loop-m l = Forgotten l.initial.marks l.m-index l.marks
