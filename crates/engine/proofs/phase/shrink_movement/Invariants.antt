-- The loop of `engine::phase::shrink_movement` keeps that the sum is how far places 2 to k + 1 move.
use Rattle.std.proofs.Common.{◌≡◌, ℕ, suc}
use Rattle.rules.specs.Stop.{movement}
use Rattle.rules.specs.Trial.{point_in}
use Rattle.rules.specs.declared.Phase.TheVariants.{Shrinking}
use Rattle.rules.specs.Simplex.{up_to, place}
use Rattle.rules.specs.Binary64.{0ᶠ}
use Rattle.engine.proofs.phase.shrink_movement.Given as goal

abbrev pub invariant-loop-k : goal.invariant-loop-k
invariant-loop-k l = l.sum ≡ movement l.n (up_to (λ (j : ℕ). (place l.s.standing (suc j)).point) l.k) (up_to (λ (j : ℕ). point_in (Shrinking (suc j)) l.s) l.k) 0ᶠ
