-- The loop of `engine::trial::inside` keeps that out is the trial of the first a axes.
use Rattle.std.proofs.Common.{◌≡◌}
use Rattle.rules.specs.Trial.{made, toward_worst}
use Rattle.engine.proofs.trial.inside.Given as goal

abbrev pub invariant-loop-a : goal.invariant-loop-a
invariant-loop-a l = l.out ≡ made l.s.setup l.a (toward_worst l.s.setup l.s.standing.points)
