-- The loop of `engine::stop::distance` keeps that the sum is that over the first a axes.
use Rattle.std.proofs.Common.{◌≡◌}
use Rattle.rules.specs.Stop.{apart}
use Rattle.engine.proofs.stop.distance.Given as goal

abbrev pub invariant-loop-a : goal.invariant-loop-a
invariant-loop-a l = l.sum ≡ apart l.x l.y l.from l.a
