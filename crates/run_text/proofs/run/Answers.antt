-- `run_text::run`: a line is inside the text. Assumes nothing.
use Rattle.sheet_keys.proofs.KeyLaws.{placed}
use Rattle.sheet_keys.specs.Places.{first_from}
use Rattle.std.proofs.Common.{◌≡◌, ℕ, ◌<◌, ◌≤◌, List, length, drop, length-drop, sym, ap, ◌∙◌, arith, rules, Option, Some}
use Rattle.text_decimals.specs.Reads.{shown}
use Rattle.run_text.proofs.run.Goals as goal

-- a line's end that is found from a place on lies behind that place, and inside the text
ended : (lines : List ℕ) (at end : ℕ) (e : Option ℕ) → shown e ≡ first_from 10 at (drop at lines) → e ≡ Some end → (at ≤ end) × (end < length lines)
ended lines at end e is was =
    let p = placed 10 at (drop at lines) end (sym is ∙ ap shown was) in
    (omega (arith, p.from), omega (arith, p.from, p.inside, length-drop at lines))

pub slice_bounds-answer-count : goal.slice_bounds-answer-count
slice_bounds-answer-count g c = (ended c.args.lines.now c.loop-end.at c.in-Some.end c.line_end.result c.line_end.ensures c.in-Some.is).0

pub slice_bounds-answer-start : goal.slice_bounds-answer-start
slice_bounds-answer-start g c = omega (arith, (ended c.args.lines.now c.loop-end.at c.in-Some.end c.line_end.result c.line_end.ensures c.in-Some.is).0)

pub slice_bounds-answer-end : goal.slice_bounds-answer-end
slice_bounds-answer-end g c = omega (arith, (ended c.args.lines.now c.loop-end.at c.in-Some.end c.line_end.result c.line_end.ensures c.in-Some.is).1)

pub overflow_add-at : goal.overflow_add-at
overflow_add-at g c = search (rules, (ended c.args.lines.now c.loop-end.at c.in-Some.end c.line_end.result c.line_end.ensures c.in-Some.is).1)

pub loop-end-smaller : goal.loop-end-smaller
loop-end-smaller g c = omega (arith, ended c.args.lines.now c.loop-end.at c.in-Some.end c.line_end.result c.line_end.ensures c.in-Some.is)
