-- The loop of `engine::centroid::centroid` keeps that the sums are those of places 1 to i.
use Rattle.std.proofs.Common.{◌≡◌, ℕ, ◌-◌, ◌<◌, get_or}
use Rattle.std.specs.Float.{nan}
use Rattle.rules.specs.Trial.{entry, sum_to}
use Rattle.engine.proofs.centroid.centroid.Given as goal

abbrev pub invariant-loop-i : goal.invariant-loop-i
invariant-loop-i l = (a : ℕ) → a < 8 → get_or l.sum a nan ≡ sum_to (entry l.points a) (l.i - 1)
