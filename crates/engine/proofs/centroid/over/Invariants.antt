-- The loop of `engine::centroid::over` keeps that the first a coordinates are the quotients.
use Rattle.std.proofs.Common.{◌≡◌, get_or}
use Rattle.std.specs.Float.{nan}
use Rattle.rules.specs.Simplex.{point}
use Rattle.rules.specs.Binary64.{◌⊘◌}
use Rattle.engine.proofs.centroid.over.Given as goal

abbrev pub invariant-loop-a : goal.invariant-loop-a
invariant-loop-a l = l.out ≡ point l.a (λ k. get_or l.x k nan ⊘ l.n)
