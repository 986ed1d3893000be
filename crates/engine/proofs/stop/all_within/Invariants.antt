-- The loop of `engine::stop::all_within` keeps that the places from i on decide the whole test.
use Rattle.std.proofs.Common.{◌≡◌, ◌+◌, drop}
use Rattle.rules.specs.Simplex.{unpack}
use Rattle.rules.specs.Stop.{all_within}
use Rattle.engine.proofs.stop.all_within.Given as goal

abbrev pub invariant-loop-i : goal.invariant-loop-i
invariant-loop-i l = all_within l.n l.limit l.first (drop 1 (unpack (l.n + 1) l.s.standing)) ≡ all_within l.n l.limit l.first (drop l.i (unpack (l.n + 1) l.s.standing))
