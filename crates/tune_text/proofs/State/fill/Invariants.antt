-- `tune_text::State::fill`: so many steps were made, and the buffer has their lines. The measure is how many steps are left.
use Rattle.tune_text.specs.Steps.{steps_left}
use Rattle.tune_text.proofs.Laws.Filling.{Run}
use Rattle.tune_text.proofs.State.fill.Given as goal

abbrev pub invariant-loop-self : goal.invariant-loop-self
invariant-loop-self l = Run l.input l.initial.self l.buffer l.self l.count

abbrev pub decreases-loop-self : goal.decreases-loop-self
decreases-loop-self l = steps_left l.input l.self
