-- `Spaced`'s Display: the values so far are written, where each value's text is known.
use Rattle.std.proofs.Common.{take, IfSome}
use Rattle.std.specs.Fmt.{HasWritten, IsPlainFormatter}
use Rattle.stored_cases.specs.Shown.{spaced}
use Rattle.stored_cases.proofs.shown.SpacedDisplay.fmt.Given as goal

abbrev pub invariant-loop-x : goal.invariant-loop-x
invariant-loop-x g l =
    IsPlainFormatter l.initial.f → IfSome (spaced g.T.Display.output (take l.x-index l.x-items)) (λ bs. HasWritten g.W.Write.write_str_gives l.initial.f bs l.f)
