-- `leaf_nodes::text_size`: a length, that many bytes, and they are UTF-8. Assumes nothing.
use Rattle.std.proofs.Common.{sym, refl, ◌∙◌, arith}
use Rattle.leaf_nodes.proofs.Laws.{text_fault, text_cut, text_bad, text_good}
use Rattle.leaf_nodes.proofs.text_size.Goals as goal

pub returns-in_err-size : goal.returns-in_err-size
returns-in_err-size c = text_fault c.args.bytes.now _ (grind arith) c.in_err-size.ensures

pub returns-then-left-size : goal.returns-then-left-size
returns-then-left-size c = text_cut c.args.bytes.now c.in_ok-size.size _ refl c.in_ok-size.ensures c.if-left-size.true

pub returns-then-is_utf8 : goal.returns-then-is_utf8
returns-then-is_utf8 c =
    text_good c.args.bytes.now c.in_ok-size.size _ refl c.in_ok-size.ensures c.if-left-size.false
    (sym c.is_utf8.ensures ∙ c.if-is_utf8.true)

pub returns-else-is_utf8 : goal.returns-else-is_utf8
returns-else-is_utf8 c =
    text_bad c.args.bytes.now c.in_ok-size.size _ refl c.in_ok-size.ensures c.if-left-size.false
    (sym c.is_utf8.ensures ∙ c.if-is_utf8.false)
