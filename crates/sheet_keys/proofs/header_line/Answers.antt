-- `sheet_keys::header_line`: no such key; or the key, and its number. Assumes nothing.
use mathlib.Core.Path.{ap, ◌∙◌}
use Rattle.text_decimals.specs.Reads.{shown}
use Rattle.sheet_keys.proofs.KeyLaws.{no_header, header}
use Rattle.sheet_keys.proofs.header_line.Goals as goal

pub returns-in_err-after : goal.returns-in_err-after
returns-in_err-after c = ap shown c.from_residual.ensures ∙ no_header c.args.key.now c.args.line.now c.in_err-after.ensures.is

pub returns : goal.returns
returns c = header c.args.key.now c.args.line.now c.in_ok-after.field-0.now _ c.in_ok-after.ensures.is c.unsigned32.ensures
