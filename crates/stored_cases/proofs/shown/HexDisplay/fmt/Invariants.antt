-- `Hex`'s Display: the digits of the bytes so far are written.
use Rattle.std.proofs.Common.{take}
use Rattle.std.specs.Fmt.{HasWritten, IsPlainFormatter}
use Rattle.stored_cases.specs.Shown.{hexed}
use Rattle.stored_cases.proofs.shown.HexDisplay.fmt.Given as goal

abbrev pub invariant-loop-byte : goal.invariant-loop-byte
invariant-loop-byte g l =
    IsPlainFormatter l.initial.f → HasWritten g.W.Write.write_str_gives l.initial.f (hexed (take l.byte-index l.byte-items)) l.f
