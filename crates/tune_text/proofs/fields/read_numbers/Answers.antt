-- `tune_text::fields::read_numbers` meets its contract: too few fields, one of another form, or too many. Assumes nothing.
use Rattle.std.proofs.Common.{rules, tests, arith, ◌∙◌, ap, sym, take}
use Rattle.std.proofs.lemmas.List.{length-replicate}
use Rattle.tune_text.proofs.Laws.Splitting.{left, outcome, first_left, some_left, outcome_first, outcome_other, outcome_more, outcome_last}
use Rattle.tune_text.proofs.fields.read_numbers.Goals as goal

pub loop-number-init : goal.loop-number-init
loop-number-init g c = record {
  sized = length-replicate _ _;
  whole = rw (c.split-fields.ensures.done, c.split-fields.ensures.rest) (outcome_first c.args.form g.row.K c.args.line.now);
}

pub returns-in_err-number : goal.returns-in_err-number
returns-in_err-number g c =
    let at = c.loop-number in
    let x = c.in_ok-next.field-0 in
    let front = take at.number-index at.number-items in
    let some = first_left _ at.fields c.next.new.self x c.in_ok-next.ensures.steps (λ y b q k. search (rules, tests)) in
    let other = outcome_other c.args.form g.row.K front x.now (left c.next.new.self) c.in_err-number.ensures in
    let whole = at.invariant.whole ∙ ap (outcome c.args.form g.row.K front) some ∙ other in
    rw whole c.from_residual-in_err-number.ensures

pub loop-number-preserved : goal.loop-number-preserved
loop-number-preserved g c =
    let at = c.loop-number in
    let x = c.in_ok-next.field-0 in
    let some = first_left _ at.fields c.next.new.self x c.in_ok-next.ensures.steps (λ y b q k. search (rules, tests)) in
    let more = outcome_more c.args.form g.row.K at.number-items at.number-index _ x.now (left c.next.new.self) (omega arith) c.in_ok-number.ensures in
    record {
      sized = search rules;
      whole = at.invariant.whole ∙ ap (outcome c.args.form g.row.K (take at.number-index at.number-items)) some ∙ more;
    }

pub returns : goal.returns
returns g c =
    let at = c.loop-number in
    let last = some_left _ at.fields c.next-2.new.self c.next-2.result c.next-2.ensures.steps (λ y b q k. search (rules, tests)) in
    let whole = outcome_last c.args.form g.row.K at.number-items at.number-index c.next-2.result c.is_none.result (left at.fields) at.invariant.sized (omega arith) last c.is_none.ensures in
    c.then_some.ensures ∙ sym (at.invariant.whole ∙ whole)
