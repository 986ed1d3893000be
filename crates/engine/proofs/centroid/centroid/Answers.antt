-- `engine::centroid::centroid` meets its contract, by what its loop keeps. Assumes nothing.
use Rattle.engine.proofs.Laws.Filling.{sum_more}
use Rattle.engine.proofs.centroid.centroid.Goals as goal

pub loop-i-preserved : goal.loop-i-preserved
loop-i-preserved c = sum_more c.args.points.now c.loop-i.sum c.with_place-sum.result c.loop-i.i c.with_place-sum.ensures c.loop-i.auto.i c.loop-i.invariant
