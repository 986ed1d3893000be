-- The loop of `engine::trial::along` keeps that out is the trial of the first a axes.
use Rattle.std.proofs.Common.{◌≡◌}
use Rattle.rules.specs.Trial.{made, toward_reflected}
use Rattle.engine.proofs.trial.along.Given as goal

abbrev pub invariant-loop-a : goal.invariant-loop-a
invariant-loop-a l = l.out ≡ made l.s.setup l.a (toward_reflected l.s.setup l.s.standing.points l.k)
