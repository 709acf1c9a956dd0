-- `text_decimals::digits`: what was to read is what is left to read. Assumes nothing.
use Rattle.text_decimals.proofs.ReadLaws.{SoFar}
use Prim.Native.Nat.{◌≤◌}
use Rattle.text_decimals.proofs.digits.Given as goal

abbrev pub invariant-loop-byte : goal.invariant-loop-byte
invariant-loop-byte l = (l.n ≤ l.most) × SoFar l.most l.t l.n l.byte-index
