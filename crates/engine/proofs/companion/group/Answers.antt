-- `engine::companion::group` meets its contract, by what its loop keeps. Assumes nothing.
use Rattle.std.proofs.Common.{◌≡◌, ◌∙◌, refl, sym, ap, ◌<◌, length, [], ◌∷◌, arith, rules}
use mathlib.Core.List.Memᴰ
use Rattle.rules.specs.Simplex.{up_to, pack}
use Rattle.rules.specs.Companions.{base_after, companion_after, stop_after}
use Rattle.rules.specs.declared.Simplex.{Simplex}
use Rattle.rules.specs.declared.Vertex.{Vertex}
use Rattle.engine.specs.Places.{put_at}
use Rattle.engine.proofs.Laws.Placing.{put_after}
use Rattle.engine.proofs.Laws.Turning.{group_put, group_whole, stops_more}
use Rattle.engine.proofs.companion.group.Goals as goal

pub loop-k-init : goal.loop-k-init
unfolding up_to
loop-k-init c =
    let b = c.base.result in
    let eight : length b.point ≡ 8 = search rules in
    let put = c.put.ensures ∙ ap (λ (t : Simplex). put_at t 0 b) c.requires.1 ∙ put_after [] 0 b (λ v m. absurd (Memᴰ.not-nil m)) eight refl (omega arith) in
    record {
      stand = put ∙ ap (λ (v : Vertex). pack (v ∷ [])) c.base.ensures;
      whole = λ v m. let e : v ≡ b = Memᴰ.eq_of_singleton m ∙ sym c.base.ensures in rw e eight;
      counted = c.requires.2;
    }

pub loop-k-preserved : goal.loop-k-preserved
loop-k-preserved c =
    let s = c.args.s.now in
    let u = c.args.u.now in
    let change = c.args.change in
    let b = base_after change u s in
    let f = companion_after change u s in
    let g = stop_after change u s in
    let k = c.loop-k.k in
    let made = c.companion-made.result in
    let few : k < 8 = omega (arith, c.requires.0.high) in
    let eight : length made.vertex.point ≡ 8 = search rules in
    record {
      stand = c.put-in-loop-k.ensures ∙ group_put b f k c.loop-k.places made.vertex c.loop-k.invariant.stand c.loop-k.invariant.whole c.companion-made.ensures.vertex eight few;
      whole = group_whole b f k made.vertex c.loop-k.invariant.whole c.companion-made.ensures.vertex eight;
      counted = stops_more b f k g c.loop-k.stops made.stops c.loop-k.invariant.counted c.companion-made.ensures.stops few;
    }
