-- The loop of `engine::companion::halved` keeps that out is the companion on the first a axes.
use Rattle.std.proofs.Common.{◌≡◌}
use Rattle.rules.specs.Trial.{made}
use Rattle.rules.specs.Companions.{halfway}
use Rattle.engine.proofs.companion.halved.Given as goal

abbrev pub invariant-loop-a : goal.invariant-loop-a
invariant-loop-a l = l.out ≡ made l.s.setup l.a (halfway l.s.standing.points l.i)
