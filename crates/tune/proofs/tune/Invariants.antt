-- How many steps are left.
use Rattle.tune_text.specs.Steps.{steps_left}
use Rattle.tune.proofs.tune.Given as goal

abbrev pub decreases-loop-state : goal.decreases-loop-state
decreases-loop-state g l = steps_left l.input l.state
