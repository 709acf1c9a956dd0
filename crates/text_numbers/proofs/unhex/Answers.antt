-- `text_numbers::unhex`: hex, or not. Assumes nothing.
use Rattle.text_numbers.proofs.HexLaws.{hex_read, hex_bad}
use mathlib.Core.Path.{sym, ◌∙◌}
use Rattle.text_numbers.proofs.unhex.Goals as goal

pub write_unhexed-requires : goal.write_unhexed-requires
write_unhexed-requires c = record { t_value = sym c.is_hex.ensures ∙ c.if-not-is_hex.false; t_in_bounds = c.requires }

pub returns-then-not-is_hex : goal.returns-then-not-is_hex
returns-then-not-is_hex c = hex_bad c.args.out.now c.args.at c.args.t.now (sym c.is_hex.ensures ∙ c.if-not-is_hex.true)

pub returns : goal.returns
returns c = hex_read c.args.out.now c.args.at c.args.t.now (sym c.is_hex.ensures ∙ c.if-not-is_hex.false) c.write_unhexed.ensures
