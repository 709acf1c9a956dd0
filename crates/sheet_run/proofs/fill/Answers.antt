-- `sheet_run::fill`: setup, then the puts. Assumes nothing.
use mathlib.Core.Path.{refl, sym, ◌∙◌}
use Rattle.std.specs.Prelude.{Ok, Err}
use Rattle.rules.specs.Refusals.{accepted, refused}
use Rattle.refusals.specs.Told.{refusal_of}
use Rattle.doors.specs.Answers.{set_up}
use Rattle.std.proofs.lemmas.Result.{err_from_is_err_and}
use Rattle.heap_sound_rows.specs.Rows.{lists}
use Rattle.sheet_run.proofs.CallLaws.{refused_setup, begun, filled_in}
use Rattle.sheet_run.proofs.fill.Goals as goal

pub returns-in_err-setup : goal.returns-in_err-setup
returns-in_err-setup c =
    let p = err_from_is_err_and c.from_residual.result c.from_residual.ensures.1 in
    rw (p.1, p.2)
    (λ ds at. refused_setup c.args.chunk (lists c.args.words.now c.args.map.now c.args.bytes.now c.args.elems.now) (Err c.in_err-setup.field-0.0) (lists c.words-1.given.0 c.map-1.given.0 c.bytes-1.given.0 c.elems-1.given.0) ((λ i. set_up (refused (refusal_of c.in_err-setup.field-0.0)) (lists (c.words-1.given.1.1 (sym c.in_err-setup.ensures.same.0) i) (c.map-1.given.1.1 (sym c.in_err-setup.ensures.same.1) i) (c.bytes-1.given.1.1 (sym c.in_err-setup.ensures.same.2) i) (c.elems-1.given.1.1 (sym c.in_err-setup.ensures.same.3) i))) ∙ c.in_err-setup.ensures.leaves) c.in_err-setup.field-0.0 refl ds _ _ _)

pub put_each-requires-clause-begun : goal.put_each-requires-clause-begun
put_each-requires-clause-begun c = begun c.args.chunk (lists c.args.words.now c.args.map.now c.args.bytes.now c.args.elems.now) (Ok tt) (lists c.words-1.given.0 c.map-1.given.0 c.bytes-1.given.0 c.elems-1.given.0) ((λ i. set_up (accepted tt) (lists (c.words-1.given.1.1 (sym c.in_ok-setup.ensures.same.0) i) (c.map-1.given.1.1 (sym c.in_ok-setup.ensures.same.1) i) (c.bytes-1.given.1.1 (sym c.in_ok-setup.ensures.same.2) i) (c.elems-1.given.1.1 (sym c.in_ok-setup.ensures.same.3) i))) ∙ c.in_ok-setup.ensures.leaves) refl c.args.scratch.now c.requires.lends c.words-1.given.1.0

pub returns : goal.returns
returns c = λ ds at. filled_in c.args.chunk (lists c.args.words.now c.args.map.now c.args.bytes.now c.args.elems.now) (Ok tt) (lists c.words-1.given.0 c.map-1.given.0 c.bytes-1.given.0 c.elems-1.given.0) ((λ i. set_up (accepted tt) (lists (c.words-1.given.1.1 (sym c.in_ok-setup.ensures.same.0) i) (c.map-1.given.1.1 (sym c.in_ok-setup.ensures.same.1) i) (c.bytes-1.given.1.1 (sym c.in_ok-setup.ensures.same.2) i) (c.elems-1.given.1.1 (sym c.in_ok-setup.ensures.same.3) i))) ∙ c.in_ok-setup.ensures.leaves) refl ds _ _ _ _ (c.put_each.ensures ds at)
