-- The loop of `engine::stop::norm` keeps that the sum is that over the axes so far.
use Rattle.std.proofs.Common.{◌≡◌}
use Rattle.rules.specs.Stop.{norm}
use Rattle.engine.proofs.stop.norm.Given as goal

abbrev pub invariant-loop-u : goal.invariant-loop-u
invariant-loop-u l = l.sum ≡ norm l.x l.u-index
