-- `engine::place::clear` meets its contract: zeros stand where a blank place does. Assumes nothing.
use Rattle.std.proofs.Common.{arith, rules, ◌≡◌, ◌*◌, length}
use Rattle.engine.proofs.Laws.Placing.{filled, pack_first, whole_unpack, unpack_first}
use Rattle.engine.proofs.place.clear.Goals as goal

pub returns : goal.returns
returns c =
    let s = c.args.s.now in
    let m = c.args.len in
    let long : length s.points ≡ 72 = search rules in
    let costs : length s.costs ≡ 9 = search rules in
    let numbers : length s.numbers ≡ 9 = search rules in
    let packed =
    pack_first s m _ _ _ (omega arith) (omega arith)
    (filled (8 * m) 72 s.points _ _ (omega arith) long (c.fill.ensures.after (λ y e. e)))
    (filled m 9 s.costs _ 0 (omega arith) costs (c.fill-2.ensures.after (λ y e. e)))
    (filled m 9 s.numbers _ 0 (omega arith) numbers (c.fill-3.ensures.after (λ y e. e))) in
    record { packed = packed; read = rw packed (unpack_first s m long (omega arith)); whole = whole_unpack m s long (omega arith) }
