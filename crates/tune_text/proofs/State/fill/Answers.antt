-- `tune_text::State::fill` meets its contract: a step makes the run one longer and less is left. Assumes nothing.
use Rattle.std.proofs.Common.{◌≡◌, ◌+◌, ◌-◌, ◌∙◌, arith, rules, length}
use Rattle.std.proofs.lemmas.Slice.{take-put_mid}
use Rattle.tune_text.specs.Steps.{stepping}
use Rattle.tune_text.proofs.Laws.Filling.{run_more}
use Rattle.tune_text.proofs.State.fill.Goals as goal

pub loop-self-preserved : goal.loop-self-preserved
loop-self-preserved c =
    let at = c.loop-self in
    let line : c.copy_from_slice.new.self ≡ (stepping c.args.input.now at.self).line =
    c.copy_from_slice.ensures.after ∙ c.deref.ensures.0 ∙ c.step-line.ensures.line in
    let long : length c.copy_from_slice.new.self ≡ c.len.result = cc in
    let part = at.count + c.len.result - at.count in
    rw c.step-line.ensures.state
    (run_more _ _ _ _ _ at.invariant (cc) _ _
    (rw (← line) (take-put_mid at.count part at.buffer c.copy_from_slice.new.self _ (omega (arith, long)) (omega arith)))
    (search rules))
