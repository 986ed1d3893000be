-- `engine::insert::put_before` meets its contract: the vertices from place i on have moved on by one place. Assumes nothing.
use Rattle.std.proofs.Common.{rules, ◌≡◌, length}
use Rattle.engine.proofs.Laws.Placing.{put_among}
use Rattle.engine.proofs.insert.put_before.Goals as goal

pub returns : goal.returns
returns c =
    let s = c.args.s.now in
    let v = c.args.v in
    let long : length s.points ≡ 72 = search rules in
    let costs : length c.copy_within-2.new.self ≡ 9 = search rules in
    let numbers : length c.copy_within-3.new.self ≡ 9 = search rules in
    let eight : length v.point ≡ 8 = search rules in
    rw c.put.ensures
    (put_among s _ c.args.i c.args.len v c.requires.2 long eight c.requires.0 c.requires.1 costs numbers c.copy_within.ensures.after c.copy_within-2.ensures.after c.copy_within-3.ensures.after)
