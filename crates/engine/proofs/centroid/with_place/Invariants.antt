-- The loop of `engine::centroid::with_place` keeps that the first a coordinates are the sums.
use Rattle.std.proofs.Common.{◌≡◌, get_or}
use Rattle.std.specs.Float.{nan}
use Rattle.rules.specs.Binary64.{◌⊕◌}
use Rattle.rules.specs.Simplex.{point}
use Rattle.rules.specs.Trial.{entry}
use Rattle.engine.proofs.centroid.with_place.Given as goal

abbrev pub invariant-loop-a : goal.invariant-loop-a
invariant-loop-a l = l.out ≡ point l.a (λ k. get_or l.x k nan ⊕ entry l.points k l.i)
