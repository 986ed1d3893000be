-- The loop of `engine::trial::built` keeps that out is the trial of the first a axes.
use Rattle.std.proofs.Common.{◌≡◌, ℕ, get_or}
use Rattle.std.specs.Float.{nan}
use Rattle.rules.specs.Trial.{axis, build_step, made}
use Rattle.engine.proofs.trial.built.Given as goal

abbrev pub invariant-loop-a : goal.invariant-loop-a
invariant-loop-a l = l.out ≡ made l.s.setup l.a (λ (a : ℕ). build_step (axis l.s.setup a) (get_or l.around a nan) l.i a)
