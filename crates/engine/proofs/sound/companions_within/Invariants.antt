-- The loop of `engine::sound::companions_within` keeps whether the first k companions lie within the axes.
use Rattle.std.proofs.Common.{◌≡◌, ℕ, suc}
use Rattle.rules.specs.Calls.{every, companion_within}
use Rattle.engine.proofs.sound.companions_within.Given as goal

abbrev pub invariant-loop-k : goal.invariant-loop-k
invariant-loop-k l = l.inside ≡ every (λ (k : ℕ). companion_within l.setup l.points (suc k)) l.k
