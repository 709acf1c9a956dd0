-- `heap_pack::text_turns`: each turn takes the pass one slot on. Assumes nothing.
use mathlib.Core.Path.{refl}
use native.Mathlib.Omega.{arith}
use Rattle.heap_pack.proofs.TextLaws.{header_in, so_far_none, so_far_ready, so_far_on, so_far_ends}
use Rattle.heap_pack.proofs.text_turns.Goals as goal

pub bounds-words-1 : goal.bounds-words-1
bounds-words-1 c = omega (arith, header_in c.requires.0 c.requires.1 c.args.words.now c.requires.3.words_are)

pub loop-s-init : goal.loop-s-init
loop-s-init c = (refl, so_far_none c.args.words.now c.args.bytes.now c.args.old.now c.args.table.now)

pub pack_text-at-requires : goal.pack_text-at-requires
pack_text-at-requires c = so_far_ready c.args.words.now c.args.bytes.now c.args.old.now c.args.table.now c.loop-s.words c.loop-s.bytes c.loop-s.table c.loop-s.at c.loop-s.s c.loop-s.invariant.1 c.requires.0 c.requires.1 c.requires.2 c.requires.3 (omega (arith, c.loop-s.invariant.0, c.loop-s-test.true))

pub loop-s-preserved : goal.loop-s-preserved
loop-s-preserved c = (c.loop-s.invariant.0, so_far_on c.args.words.now c.args.bytes.now c.args.old.now c.args.table.now c.loop-s.words c.loop-s.bytes c.loop-s.table c.loop-s.at c.loop-s.s c.loop-s.invariant.1 _ _ _ _ (omega (arith, c.loop-s.invariant.0, c.loop-s-test.true)) c.pack_text-at.ensures)

pub returns : goal.returns
returns c = so_far_ends c.args.words.now c.args.bytes.now c.args.old.now c.args.table.now c.loop-s.words c.loop-s.bytes c.loop-s.table c.loop-s.at c.loop-s.s c.loop-s.invariant.1 (omega (arith, c.loop-s.invariant.0, c.loop-s-test.false))
