-- `text_numbers::width`: one digit more than std's logarithm, and one of zero. Assumes nothing.
use Rattle.text_numbers.proofs.PrintLaws.{log_digits, decimal_short}
use Prim.Native.Nat.{◌+◌}
use Rattle.rules.specs.Text.{decimal}
use native.Mathlib.Omega.{arith}
use lib.ListN.{length}
use mathlib.Core.Path.{◌≡◌, ap, ◌∙◌}
use Prim.Native.Nat.{ℕ}
use Rattle.text_numbers.proofs.width.Goals as goal

pub returns : goal.returns
returns c =
    let e : 1 + c.unwrap_or.result ≡ length (decimal c.args.n) =
    ap (λ (k : ℕ). 1 + k) c.unwrap_or.ensures
    ∙ log_digits c.args.n c.checked_ilog10.result c.checked_ilog10.ensures.none c.checked_ilog10.ensures.power_le c.checked_ilog10.ensures.next_power_gt
    in
    (e, omega (arith, e, decimal_short c.args.n (omega arith)))
