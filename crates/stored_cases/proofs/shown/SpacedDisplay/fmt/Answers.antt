-- `Spaced`'s Display: one value more, and a blank.
use Rattle.std.proofs.Common.{◌∷◌, [], Ok, Some, refl, take}
use Rattle.std.proofs.Debugs.{shows_then, shows_from}
use Rattle.std.specs.Fmt.{◌++?◌}
use Rattle.stored_cases.specs.Shown.{spaced}
use Rattle.stored_cases.proofs.ShownLaws.{spaced_more}
use Rattle.stored_cases.proofs.shown.SpacedDisplay.fmt.Goals as goal

pub loop-x-preserved : goal.loop-x-preserved
loop-x-preserved g c = λ p.
    let took = g.W.Write.write_str_gives in
    let text = g.T.Display.output in
    let i = c.loop-x.x-index in
    let x = c.x-item.result in
    let last = text x ++? Some (32 ∷ []) in
    rw (spaced_more text c.args.self.now.0.now i x c.loop-x-test.true c.x-item.is)
    (shows_then took c.args.f.now c.loop-x.f c.write.new.self (spaced text (take i c.args.self.now.0.now)) last (c.loop-x.invariant p)
    (λ plain. shows_from took c.loop-x.f c.write.new.self (Ok tt) last c.in_ok-write.ensures.writes plain refl))
