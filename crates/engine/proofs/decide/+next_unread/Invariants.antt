-- `engine::decide::next_unread` takes one companion fewer at each call.
use Prim.Native.Nat.{◌+◌, ◌-◌}
use Rattle.engine.proofs.decide.+next_unread.Given as goal

abbrev pub decreases-next_unread : goal.decreases-next_unread
decreases-next_unread l = l.n + 1 - l.i
