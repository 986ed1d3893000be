-- `engine::stop::sums_of` meets its contract, by what its loop keeps. Assumes nothing.
use Rattle.std.proofs.Common.{◌≡◌, arith, length, rules}
use Rattle.std.proofs.lemmas.Grind.{common_steps}
use Rattle.rules.proofs.Laws.Places.{costs_unpack}
use Rattle.engine.proofs.stop.sums_of.Goals as goal

pub returns-clause-sums : goal.returns-clause-sums
returns-clause-sums c =
    let s = c.args.s.now in
    let nine : length s.costs ≡ 9 = search rules in
    rw (costs_unpack c.args.m s (omega arith)) (grind (arith, common_steps))
