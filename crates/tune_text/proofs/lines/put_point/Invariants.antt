-- `tune_text::lines::put_point`: the coordinates before index i are added.
use Rattle.std.proofs.Common.{◌≡◌, ◌++◌}
use Rattle.tune_text.specs.Lines.{coordinates}
use Rattle.tune_text.proofs.lines.put_point.Given as goal

abbrev pub invariant-loop-x : goal.invariant-loop-x
invariant-loop-x l = l.line.items ≡ l.initial.line.items ++ coordinates l.x-index l.point
