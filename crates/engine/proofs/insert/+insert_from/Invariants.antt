-- `engine::insert::insert_from` takes one place fewer at each call.
use Prim.Native.Nat.{◌-◌}
use Rattle.engine.proofs.insert.+insert_from.Given as goal

abbrev pub decreases-insert_from : goal.decreases-insert_from
decreases-insert_from l = l.len - l.i
