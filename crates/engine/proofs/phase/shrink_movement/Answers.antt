-- `engine::phase::shrink_movement` meets its contract, by what its loop keeps. Assumes nothing.
use Rattle.std.proofs.Common.{◌≡◌, ◌∙◌, ℕ, suc, List, Float, add-one, arith, length, rules, sym, ap}
use Rattle.rules.specs.Trial.{point_in}
use Rattle.rules.specs.declared.Trial.{Trial}
use Rattle.rules.specs.declared.Phase.TheVariants.{Shrinking}
use Rattle.rules.specs.Simplex.{up_to, place}
use Rattle.rules.specs.Binary64.{0ᶠ}
use Rattle.rules.proofs.Laws.Lists.{length_up_to}
use Rattle.engine.proofs.Laws.Stopping.{apart_take, movement_more, rest_points}
use Rattle.engine.proofs.phase.shrink_movement.Goals as goal

pub loop-k-preserved : goal.loop-k-preserved
unfolding up_to
loop-k-preserved c =
    let s = c.args.s.now in
    let n = s.setup.n in
    let k = c.loop-k.k in
    let f : ℕ → List Float = λ j. (place s.standing (suc j)).point in
    let g : ℕ → List Float = λ j. point_in (Shrinking (suc j)) s in
    let same : length (up_to f k) ≡ length (up_to g k) = length_up_to f k ∙ sym (length_up_to g k) in
    let eight : length c.point_at-old.result ≡ 8 = search rules in
    let new = ap (λ (x : Trial). x.point) c.trial.ensures in
    let far = c.distance-sum.ensures ∙ apart_take c.point_at-old.result c.trial.result.point c.loop-k.sum n (omega (arith, c.requires.high)) in
    rw (add-one, movement_more n (up_to f k) (up_to g k) (f k) (g k) 0ᶠ same, ← c.loop-k.invariant, ← add-one k, ← c.point_at-old.ensures, ← new) far

pub returns : goal.returns
returns c =
    let s = c.args.s.now in
    let last : c.loop-k.k ≡ s.setup.n = omega arith in
    rw (rest_points s.standing s.setup.n) (c.loop-k.invariant ∙ rw last)
