-- The loop of `engine::sound::companion_within` keeps whether the companion lies within the first a axes.
use Rattle.std.proofs.Common.{◌≡◌, ℕ}
use Rattle.rules.specs.Trial.{axis, within, entry}
use Rattle.rules.specs.Calls.{every}
use Rattle.engine.proofs.sound.companion_within.Given as goal

abbrev pub invariant-loop-a : goal.invariant-loop-a
invariant-loop-a l = l.inside ≡ every (λ (a : ℕ). within (axis l.setup a) (entry l.points a l.i)) l.a
