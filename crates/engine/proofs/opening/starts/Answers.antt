-- `engine::opening::starts` meets its contract: each start is that of its record. Assumes nothing.
use Rattle.std.proofs.Common.{◌≡◌, ℕ, ◌∙◌, ◌<◌, sym, length, get_or, map, ext_get_or, arith, rules}
use Rattle.std.proofs.Math.ListN.{length-map, get_or-map}
use Rattle.std.specs.Float.{nan}
use Rattle.rules.specs.Trial.{no_axis}
use Rattle.rules.specs.Opening.{start_of}
use Rattle.engine.proofs.opening.starts.Goals as goal

pub returns : goal.returns
returns c =
    let axes = c.args.axes in
    let eight : length axes ≡ 8 = search rules in
    let each : (i : ℕ) → i < 8 → get_or c.map.result i nan ≡ start_of (get_or axes i no_axis) = λ i l. let call = (c.map.ensures.items.at i no_axis nan l).2 in search rules in
    ext_get_or nan c.map.result (map start_of axes) (omega (arith, c.map.ensures.items.long, length-map axes start_of))
    (λ i l. each i (omega (arith, c.map.ensures.items.long)) ∙ sym (get_or-map start_of axes i no_axis))
