-- `engine::place::replace` meets its contract: the places are cleared of what follows the first len. Assumes nothing.
use Rattle.std.proofs.Common.{◌≡◌, length, rules}
use Rattle.engine.proofs.Laws.Placing.{replaced_at}
use Rattle.engine.proofs.place.replace.Goals as goal

pub returns : goal.returns
returns c =
    let v = c.args.v in
    let eight : length v.point ≡ 8 = search rules in
    rw c.put.ensures (replaced_at c.args.s.now c.clear.new.s c.args.i c.args.len v c.clear.ensures c.requires.0 eight)
