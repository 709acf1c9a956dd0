-- `run_free::slots`: as many slots can be taken as are left to print. Assumes nothing.
use Rattle.run_free.proofs.Giving.{starts, begins, gives, gives_on}
use Rattle.std.proofs.Common.{◌-◌, arith}
use Rattle.run_free.proofs.slots.Goals as goal

pub fresh-requires : goal.fresh-requires
fresh-requires g c = starts c.args.lent c.args.chunk c.args.words.now c.args.map.now c.requires.words_value c.requires.map_value c.requires.le_chunk c.requires.chunk_value c.requires.chunk_le_lent c.requires.lent_bound

pub loop-init : goal.loop-init
loop-init g c = begins c.args.lent c.args.chunk c.args.words.now c.args.map.now c.requires.words_value c.requires.map_value c.requires.le_chunk c.requires.chunk_value c.requires.chunk_le_lent c.requires.lent_bound _ _ c.fresh.ensures (omega (arith, c.fitting-size.ensures))

pub alloc-requires : goal.alloc-requires
alloc-requires g c = gives c.args.lent (c.fitting-size.result - c.loop.counter) c.loop.words c.loop.map c.loop.invariant (omega arith)

pub loop-preserved : goal.loop-preserved
loop-preserved g c = gives_on c.args.lent (c.fitting-size.result - c.loop.counter) c.loop.words c.loop.map c.loop.invariant (omega arith) c.alloc.result _ _ _ (omega arith) c.alloc.ensures
