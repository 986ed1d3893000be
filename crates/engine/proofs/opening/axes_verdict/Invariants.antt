-- The loop of `engine::opening::axes_verdict` keeps that the axes from i on decide the verdict.
use Rattle.std.proofs.Common.{◌≡◌, ◌-◌, Ok}
use Rattle.rules.specs.Opening.{axes_checks}
use Rattle.engine.proofs.opening.axes_verdict.Given as goal

abbrev pub invariant-loop-i : goal.invariant-loop-i
invariant-loop-i l = axes_checks l.n 0 l.axes (Ok tt) ≡ axes_checks (l.n - l.i) l.i l.axes (Ok tt)
