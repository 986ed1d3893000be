-- The loop of `engine::trial::standing_at` keeps that out is the trial of the first a axes.
use Rattle.std.proofs.Common.{◌≡◌}
use Rattle.rules.specs.Trial.{target, made}
use Rattle.rules.specs.declared.Phase.TheVariants.{Checking}
use Rattle.engine.proofs.trial.standing_at.Given as goal

abbrev pub invariant-loop-a : goal.invariant-loop-a
invariant-loop-a l = l.out ≡ made l.s.setup l.a (target l.s (Checking l.i))
