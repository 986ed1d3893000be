-- The calls that are left lead from s to the search after the whole list.
use Rattle.std.proofs.Common.{◌≡◌, drop}
use Rattle.rules.specs.History.{after}
use Rattle.examples.specs.List.{calls_of}
use Rattle.examples.proofs.list.calls.Given as goal

abbrev pub invariant-loop-call : goal.invariant-loop-call
invariant-loop-call l = after l.s (calls_of (drop l.call-index l.list)) ≡ after l.initial.s (calls_of l.list)
