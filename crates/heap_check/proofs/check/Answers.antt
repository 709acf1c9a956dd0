-- `heap_check::check`: what was to do is what is left to do. Assumes nothing.
use Rattle.std.proofs.Common.{◌≡◌, Result, Ok, Err, refl, subst, arith, rules}
use Rattle.std.specs.Result.{MatchResult, IsErrAnd}
use Rattle.std.proofs.lemmas.Result.{err_from_is_err_and}
use Rattle.refusals.specs.declared.Refusal.TheVariants.{Malformed}
use Rattle.heap_check.proofs.PassLaws.{going_begins, turn_stops, turn_inside, turn_goes, turn_over, turn_judged}
use Rattle.heap_check.proofs.check.Goals as goal

-- what stands behind a result whose error was made of another
module _ {A E D : Type 0} (Q : E → D → Type 0) where
  behind_err : (r : Result A E) (s : Result A D) → MatchResult r (λ x. s ≡ Ok x) (λ e. IsErrAnd s (Q e)) → (d : D) → s ≡ Err d → (e : E) × (r ≡ Err e) × Q e d
  behind_err (Ok x) s h d q = absurd (cc)
  behind_err (Err e) s h d q = (e, refl, subst (λ s. IsErrAnd s (Q e)) q h)

  behind_ok : (r : Result A E) (s : Result A D) → MatchResult r (λ x. s ≡ Ok x) (λ e. IsErrAnd s (Q e)) → (x : A) → s ≡ Ok x → r ≡ Ok x
  behind_ok (Ok x) s h y q = cc
  behind_ok (Err e) s h y q = elim (subst (λ s. IsErrAnd s (Q e)) q h) [ ]

pub loop-wanted-init : goal.loop-wanted-init
loop-wanted-init c = going_begins c.args.datum.now c.new-tally.result c.type_inv.datum c.new-tally.ensures

pub returns-in_err-read : goal.returns-in_err-read
returns-in_err-read c =
    let l = c.loop-wanted in
    let p = err_from_is_err_and c.from_residual.result c.from_residual.ensures.1 in
    let m = behind_err _ c.read_node.result c.map_err.result c.map_err.ensures.cases c.in_err-read.field-0.0 c.in_err-read.was in
    let made : c.in_err-read.field-0.0 ≡ Malformed m.0 l.tally.nodes = search (rules, m.2) in
    rw (p.1, p.2, made)
    (turn_stops c.args.datum.now l.at l.wanted l.tally l.invariant c.loop-wanted-test.true c.read_node.ensures m.0 m.1)

pub overflow_add-at : goal.overflow_add-at
overflow_add-at c =
    let l = c.loop-wanted in
    let good = behind_ok _ c.read_node.result c.map_err.result c.map_err.ensures.cases c.in_ok-read.read c.in_ok-read.was in
    omega (arith, turn_inside c.args.datum.now l.at l.wanted l.tally l.invariant c.loop-wanted-test.true c.read_node.ensures c.in_ok-read.read good)

pub loop-wanted-smaller : goal.loop-wanted-smaller
loop-wanted-smaller c =
    let l = c.loop-wanted in
    let good = behind_ok _ c.read_node.result c.map_err.result c.map_err.ensures.cases c.in_ok-read.read c.in_ok-read.was in
    omega (arith, turn_inside c.args.datum.now l.at l.wanted l.tally l.invariant c.loop-wanted-test.true c.read_node.ensures c.in_ok-read.read good)

pub loop-wanted-preserved : goal.loop-wanted-preserved
loop-wanted-preserved c =
    let l = c.loop-wanted in
    let good = behind_ok _ c.read_node.result c.map_err.result c.map_err.ensures.cases c.in_ok-read.read c.in_ok-read.was in
    turn_goes c.args.datum.now l.at l.wanted l.tally l.invariant c.loop-wanted-test.true c.read_node.ensures c.in_ok-read.read good
    c.step.new.self c.following.result c.still_wanted-wanted.result c.step.ensures c.following.ensures c.still_wanted-wanted.ensures

pub returns-then-at-datum : goal.returns-then-at-datum
returns-then-at-datum c =
    let l = c.loop-wanted in
    turn_over c.args.datum.now l.at l.wanted l.tally l.invariant (omega arith) c.if-at-datum.true

pub returns : goal.returns
returns c =
    let l = c.loop-wanted in
    turn_judged c.args.datum.now l.at l.wanted l.tally l.invariant (omega arith) c.judge.result c.if-at-datum.false c.judge.ensures
