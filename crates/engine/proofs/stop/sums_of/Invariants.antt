-- The loop of `engine::stop::sums_of` keeps that the sums are those of the costs so far, all in range.
use Rattle.std.proofs.Common.{◌≡◌, ◌*◌, ◌≤◌, map, take}
use Rattle.rules.specs.Numbers.{max_cost}
use Rattle.rules.specs.Stop.{total, square}
use Rattle.engine.proofs.stop.sums_of.Given as goal

abbrev pub invariant-loop-cost : goal.invariant-loop-cost
invariant-loop-cost l =
    record {
      plain : l.plain ≡ total (take l.cost-index l.cost-items);
      squares : l.squares ≡ total (map square (take l.cost-index l.cost-items));
      plain_low : l.plain ≤ l.cost-index * max_cost;
      squares_low : l.squares ≤ l.cost-index * square max_cost;
    }
