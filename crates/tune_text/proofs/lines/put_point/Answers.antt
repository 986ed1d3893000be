-- `tune_text::lines::put_point` meets its contract. A coordinate takes seventeen bytes. Assumes nothing.
use Rattle.std.proofs.Common.{◌<◌, arith, append_assoc, add-one, length-take}
use Rattle.std.proofs.lemmas.List.{get_or-take}
use Rattle.tune_text.specs.Lines.{coordinates}
use Rattle.tune_text.proofs.lines.put_point.Goals as goal

pub loop-x-preserved : goal.loop-x-preserved
unfolding coordinates
loop-x-preserved c =
    let below : c.loop-x.x-index < c.min.result = omega (arith, rw length-take at c.loop-x-test.true) in
    rw (add-one, c.put_coordinate.ensures, c.loop-x.invariant, append_assoc, get_or-take)
