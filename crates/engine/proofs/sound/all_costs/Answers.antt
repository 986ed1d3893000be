-- `engine::sound::all_costs` meets its contract. Assumes nothing.
use Rattle.std.proofs.Common.{refl, leb, rules}
use Rattle.std.proofs.lemmas.List.Recursion.{and_is}
use Rattle.rules.specs.Numbers.{max_cost}
use Rattle.rules.specs.Calls.{all_costs}
use Rattle.engine.proofs.sound.all_costs.Goals as goal

pub returns : goal.returns
unfolding all_costs
returns c = and_is all_costs (λ k. leb k max_cost) refl (λ _ _. refl) c.args.costs.now 0 c.all.result (search rules) (search rules)
