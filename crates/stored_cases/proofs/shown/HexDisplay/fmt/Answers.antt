-- `Hex`'s Display: two digits more.
use Rattle.std.proofs.Common.{◌≡◌, ℕ, false, Some, ap, Ok, refl, rules, subst, get_or, Option, List}
use Rattle.std.proofs.Output.{has_written_append, has_written_of_eq}
use Rattle.std.specs.Fmt.{DisplaysOnOk, styled_digits_output}
use Rattle.std.proofs.lemmas.Fmt.{hex_byte}
use Rattle.stored_cases.specs.Shown.{two_digits}
use Rattle.stored_cases.proofs.ShownLaws.{hexed_more}
use Rattle.stored_cases.proofs.shown.HexDisplay.fmt.Goals as goal

pub loop-byte-preserved : goal.loop-byte-preserved
loop-byte-preserved g c = λ p.
    let n = get_or c.args.self.now.0.now c.loop-byte.byte-index 0 in
    let before = c.loop-byte.invariant p in
    let shown : styled_digits_output c.in_radix.result c.laid_out.result ≡ Some (two_digits n) = rw (c.laid_out.ensures, c.in_radix.ensures) (ap Some (hex_byte false n (search rules))) in
    let P : Option (List ℕ) → Type 0 = λ o. DisplaysOnOk g.W.Write.write_str_gives c.loop-byte.f (Ok tt) o c.write.new.self in
    has_written_of_eq _ _ _ _ _ (hexed_more c.args.self.now.0.now c.loop-byte.byte-index c.loop-byte-test.true)
    (has_written_append _ _ _ _ _ _ before (subst P shown c.in_ok-write.ensures.writes before.plain refl))
