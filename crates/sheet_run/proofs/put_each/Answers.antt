-- `sheet_run::put_each`: what is still to be put prints what the whole does. Assumes nothing.
use mathlib.Core.Path.{refl, sym, ◌∙◌}
use native.Mathlib.Omega.{arith}
use Rattle.std.proofs.lemmas.Result.{err_from_is_err_and}
use Rattle.rules.specs.Refusals.{accepted, refused}
use Rattle.rules.specs.Calls.{left}
use Rattle.refusals.specs.Told.{refusal_of}
use Rattle.heap_sound_rows.specs.Rows.{lists}
use Rattle.sheet_run.proofs.PutLaws.{going_begins, stops, goes_on, ends_put}
use Rattle.sheet_run.proofs.put_each.Goals as goal

pub loop-i-init : goal.loop-i-init
loop-i-init c = going_begins (lists c.args.words.now c.args.map.now c.args.bytes.now c.args.elems.now) c.args.nodes.now c.args.ends.now c.args.count c.args.scratch.now c.args.roots.now c.requires.begun c.requires.count_in_bounds

pub datum-datum-requires : goal.datum-datum-requires
datum-datum-requires c = c.requires.by_index.1.there c.loop-i.i c.loop-i-test.true

pub returns-in_err-slot : goal.returns-in_err-slot
returns-in_err-slot c =
    let p = err_from_is_err_and c.from_residual.result c.from_residual.ensures.1 in
    rw (p.1, p.2)
    (stops (lists c.args.words.now c.args.map.now c.args.bytes.now c.args.elems.now) c.args.nodes.now c.args.ends.now c.args.count c.loop-i.i (lists c.loop-i.words c.loop-i.map c.loop-i.bytes c.loop-i.elems) c.loop-i.scratch c.loop-i.roots c.loop-i.invariant c.loop-i-test.true c.datum-datum.result.now c.datum-datum.ensures (λ k. omega (arith, c.type_inv.nodes k)) _ _ _ ((λ i. left (refused (refusal_of c.in_err-slot.field-0.0)) (lists (c.words-1.given.1.1 (sym c.in_err-slot.ensures.same.0) i) (c.map-1.given.1.1 (sym c.in_err-slot.ensures.same.1) i) (c.bytes-1.given.1.1 (sym c.in_err-slot.ensures.same.2) i) (c.elems-1.given.1.1 (sym c.in_err-slot.ensures.same.3) i)) c.put.new.scratch) ∙ c.in_err-slot.ensures.leaves) c.in_err-slot.field-0.0 refl)

pub loop-i-preserved : goal.loop-i-preserved
loop-i-preserved c = goes_on (lists c.args.words.now c.args.map.now c.args.bytes.now c.args.elems.now) c.args.nodes.now c.args.ends.now c.args.count c.loop-i.i (lists c.loop-i.words c.loop-i.map c.loop-i.bytes c.loop-i.elems) c.loop-i.scratch c.loop-i.roots c.loop-i.invariant c.loop-i-test.true c.datum-datum.result.now c.datum-datum.ensures (λ k. omega (arith, c.type_inv.nodes k)) _ _ _ ((λ i. left (accepted c.in_ok-slot.slot) (lists (c.words-1.given.1.1 (sym c.in_ok-slot.ensures.same.0) i) (c.map-1.given.1.1 (sym c.in_ok-slot.ensures.same.1) i) (c.bytes-1.given.1.1 (sym c.in_ok-slot.ensures.same.2) i) (c.elems-1.given.1.1 (sym c.in_ok-slot.ensures.same.3) i)) c.put.new.scratch) ∙ c.in_ok-slot.ensures.leaves) c.in_ok-slot.slot refl

pub returns : goal.returns
returns c = ends_put (lists c.args.words.now c.args.map.now c.args.bytes.now c.args.elems.now) c.args.nodes.now c.args.ends.now c.args.count c.loop-i.i (lists c.loop-i.words c.loop-i.map c.loop-i.bytes c.loop-i.elems) c.loop-i.scratch c.loop-i.roots c.loop-i.invariant c.loop-i-test.false
