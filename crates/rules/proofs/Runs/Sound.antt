-- Refusal 12 is never given to a search that an opening and calls have made. Assumes nothing.
use mathlib.Core.Path.{◌≡◌, refl, sym, ap, ◌∙◌, subst}
use mathlib.Core.Bool.{true, false, true≢false}
use mathlib.Core.List.Memᴰ
use mathlib.Core.List.{List, [], ◌∷◌, map, map-append, Memᴰ}
use Prim.Native.Nat.{ℕ, zero, suc, ◌*◌, ◌≤◌, ◌<◌}
use native.Mathlib.Omega.{arith}
use native.Mathlib.Nat.{mul-le-mul_right}
use lib.ListN.{length, take, length-map}
use lib.Ieee.{Float}
use lib.Seq.{take_at}
use mathlib.Core.Logic.{⊎_elim}
use Rattle.std.proofs.lemmas.Bool.Decides.{nat_tests}
use Rattle.std.proofs.lemmas.Bool.{cases_Bool, or_left, or_right}
use Rattle.rules.specs.Numbers.{max_cost}
use Rattle.rules.specs.Simplex.{cost_of, store, pack, place, Ordered}
use Rattle.rules.specs.Trial.{axis, within}
use Rattle.rules.specs.Stop.{suits}
use Rattle.rules.specs.Companions.{group}
use Rattle.rules.specs.Claims.{Within}
use Rattle.rules.specs.View.{is_ended, gathered_in}
use Rattle.rules.specs.Calls.{sound_phase, standing_in, ordered_in, in_order, all_costs, sound_companions, sound, intact, undamaged}
use Rattle.rules.specs.declared.Method.TheVariants.{Multidirectional}
use Rattle.rules.specs.declared.Piece.TheVariants.{Build, Reflection, Expansion, Contraction, Shrink}
use Rattle.rules.specs.declared.Setup.{Setup}
use Rattle.rules.specs.declared.Vertex.{Vertex}
use Rattle.rules.specs.declared.Simplex.{Simplex}
use Rattle.rules.specs.declared.Search.{Search}
use Rattle.rules.specs.declared.Phase.{Phase}
use Rattle.rules.specs.declared.Phase.TheVariants.{Building, Expanding, Contracting, Shrinking, Basing, Mirroring, Checking, Probing, Ended}
use Rattle.rules.proofs.Laws.Order.{in_order_lem}
use Rattle.rules.proofs.Laws.Places.{costs_pack}
use Rattle.rules.proofs.Laws.Grouping.{mem_group, entry_at, every_one}
use Rattle.rules.proofs.Steps.Invariant.{Known, At, Inv}
use Rattle.rules.proofs.Steps.Grouped.{AtMulti, Multi, Any}
use Rattle.rules.proofs.Runs.Companions.{Inside, companion_inside}
use Rattle.rules.proofs.Steps.Stepping.{BelowBudget, standing_many}

-- the costs of ordered vertices are in order where the vertices stand
costs_in_order : (vs : List Vertex) (places : Simplex) (i : ℕ) → places ≡ pack vs → length vs ≡ i → Ordered vs → in_order (take i places.costs) ≡ true
unfolding store
costs_in_order vs places i e l h = rw (e, map-append cost_of, take_at (map cost_of vs) _ i (length-map vs cost_of ∙ l)) (in_order_lem vs h)

module _ (rs : List Vertex) (s : Search) (inv : Inv rs s) where
  phase_sound : (p : Phase) → At p s.setup inv.vs inv.gs s.readings s.counts s.best → sound_phase s.setup.n s.readings s.standing.numbers p ≡ true
  phase_sound (Building i) h = grind (arith, nat_tests, h.high, h.none)
  phase_sound (Shrinking j) h = grind (arith, nat_tests, h.low, h.high)
  phase_sound (Probing p) h = grind (arith, nat_tests, h.2)
  phase_sound Basing h = refl
  phase_sound (Mirroring i) h = absurd h
  phase_sound (Checking i) h = absurd h
  phase_sound p h = refl

  -- one vertex is in order
  one_in_order : (r : Vertex) → inv.gs ≡ r ∷ [] → in_order (take 1 s.gathered.costs) ≡ true
  unfolding Ordered
  one_in_order r e = costs_in_order inv.gs s.gathered 1 inv.gathers.are (ap length e) (rw e (tt, tt))

  gathered_in_order : (p : Phase) → At p s.setup inv.vs inv.gs s.readings s.counts s.best → in_order (take (gathered_in p) s.gathered.costs) ≡ true
  unfolding in_order
  gathered_in_order (Building i) h = costs_in_order inv.gs s.gathered i inv.gathers.are h.many h.sorted
  gathered_in_order Expanding h = one_in_order s.best h.1.holds
  gathered_in_order (Contracting side) h = one_in_order h.1.r h.1.holds
  gathered_in_order (Shrinking j) h = costs_in_order inv.gs s.gathered j inv.gathers.are h.many h.sorted
  gathered_in_order p h = refl

  low_costs : (vs : List Vertex) → Known vs rs → (v : Vertex) → Memᴰ v vs → v.cost ≤ max_cost
  low_costs vs h v m = (inv.noted.shapes v (h v m)).low

  -- by the equation no count is above the readings
  sound_simplex : s.readings < s.setup.budget → intact s ≡ true
  unfolding sound
  sound_simplex below =
      let t = inv.noted.sane in
      let builds : 1 * s.counts.builds ≤ s.setup.n * s.counts.builds = mul-le-mul_right s.counts.builds t.at_least in
      let standing : in_order (take (standing_in s.method s.setup.n s.standing) s.standing.costs) ≡ true =
      rw inv.method (costs_in_order inv.vs s.standing _ inv.stands.are (standing_many inv.noted inv.stands) inv.stands.sorted) in
      let gathered : in_order (take (ordered_in s.method s.phase) s.gathered.costs) ≡ true = rw inv.method (gathered_in_order s.phase inv.phase) in
      let suited : suits s.method s.setup.rule ≡ true = rw inv.method refl in
      let companions : sound_companions s.method s.phase s.setup s.standing.points ≡ true = rw inv.method refl in
      let standing_costs : all_costs s.standing.costs ≡ true = rw inv.stands.are (costs_pack inv.vs (low_costs inv.vs inv.stands.known)) in
      let gathered_costs : all_costs s.gathered.costs ≡ true = rw inv.gathers.are (costs_pack inv.gs (low_costs inv.gs inv.gathers.known)) in
      grind (arith, nat_tests, t.at_least, t.at_most8, t.not_much, t.rule, inv.equation, inv.noted.low, inv.undirected.patterns, inv.undirected.directed, phase_sound s.phase inv.phase)

-- companions that lie within the limits pass the test for it
companions_pass : (p : Phase) (t : Setup) (places : Simplex) → t.n ≤ 8 → ((i : ℕ) → 1 ≤ i → i ≤ t.n → Within t (place places i).point) → sound_companions Multidirectional p t places.points ≡ true
companions_pass Basing t places l h = refl
companions_pass p t places l h =
    every_one _ t.n
    (λ k m.
    every_one _ t.n
    (λ a d. let at = entry_at places (suc k) a (omega arith) in subst (λ (v : Float). within (axis t a) v ≡ true) (sym at) (h (suc k) (omega arith) m a d)))

module _ (rs : List Vertex) (s : Search) (inv : Multi rs s) where
  -- in every phase of the multidirectional method
  multi_phase_sound : (p : Phase) → AtMulti p s.setup inv.gs s.standing.numbers s.readings s.counts → sound_phase s.setup.n s.readings s.standing.numbers p ≡ true
  multi_phase_sound Basing h = refl
  multi_phase_sound (Mirroring i) h = grind (arith, nat_tests, h.low, h.high)
  multi_phase_sound (Checking i) h = grind (arith, nat_tests, h.low, h.high, h.unread)
  multi_phase_sound (Probing p) h = grind (arith, nat_tests, h.low)
  multi_phase_sound (Ended cause) h = refl
  multi_phase_sound p h = absurd h

  module _ (some : 1 ≤ s.readings) where
    -- a companion's cost is that of a reading, or 0
    companion_low : (i : ℕ) → 1 ≤ i → i ≤ s.setup.n → ((inv.grouped some).f i).cost ≤ max_cost
    companion_low i l h = ⊎_elim (λ m. (inv.noted.shapes _ m).low) (λ u. let zero_cost = ap cost_of u.are in omega arith) ((inv.grouped some).each i l h)

    costs_grouped : all_costs s.standing.costs ≡ true
    costs_grouped =
        let g = inv.grouped some in
        rw g.are (costs_pack (group s.best g.f s.setup.n) (mem_group (λ (c : Vertex). c.cost ≤ max_cost) s.best g.f s.setup.n inv.noted.low companion_low))

  -- base and companions have costs in range
  costs_standing : (k : ℕ) → s.readings ≡ k → all_costs s.standing.costs ≡ true
  costs_standing zero e = rw (inv.blank e) (costs_pack [] (λ v m. absurd (Memᴰ.not-nil m)))
  costs_standing (suc k) e = costs_grouped (omega arith)

  inside_where : Inside s.setup rs → (p : Phase) → 1 ≤ s.readings → sound_companions Multidirectional p s.setup s.standing.points ≡ true
  inside_where inside p some = companions_pass p s.setup s.standing inv.noted.sane.at_most8 (companion_inside rs s inv some inside)

  -- and each lies within the limits
  inside_standing : Inside s.setup rs → (p : Phase) → AtMulti p s.setup inv.gs s.standing.numbers s.readings s.counts → is_ended p ≡ false
      → sound_companions Multidirectional p s.setup s.standing.points ≡ true
  inside_standing inside Basing h live = refl
  inside_standing inside (Mirroring i) h live = inside_where inside (Mirroring i) h.some
  inside_standing inside (Checking i) h live = inside_where inside (Checking i) h.some
  inside_standing inside (Probing p) h live = inside_where inside (Probing p) h.some
  inside_standing inside (Ended cause) h live = absurd (true≢false live)
  inside_standing inside p h live = absurd h

  -- by the equation no count is above the readings
  sound_multi : Inside s.setup rs → is_ended s.phase ≡ false → s.readings < s.setup.budget → intact s ≡ true
  unfolding sound in_order
  sound_multi inside live below =
      let t = inv.noted.sane in
      let c = inv.counts in
      let standing : in_order (take (standing_in s.method s.setup.n s.standing) s.standing.costs) ≡ true = rw inv.method refl in
      let gathered : in_order (take (ordered_in s.method s.phase) s.gathered.costs) ≡ true = rw inv.method refl in
      let suited : suits s.method s.setup.rule ≡ true = rw inv.method inv.rule in
      let companions : sound_companions s.method s.phase s.setup s.standing.points ≡ true = rw inv.method (inside_standing inside s.phase inv.phase live) in
      let standing_costs : all_costs s.standing.costs ≡ true = costs_standing s.readings refl in
      let gathered_costs : all_costs s.gathered.costs ≡ true = rw inv.gathers.are (costs_pack inv.gs (λ v m. (inv.noted.shapes v (inv.gathers.known v m)).low)) in
      let builds : s.counts.builds ≡ 0 = c.none Build refl in
      let reflections : s.counts.reflections ≡ 0 = c.none Reflection refl in
      let expansions : s.counts.expansions ≡ 0 = c.none Expansion refl in
      let contractions : s.counts.contractions ≡ 0 = c.none Contraction refl in
      let shrinks : s.counts.shrinks ≡ 0 = c.none Shrink refl in
      grind (arith, nat_tests, t.at_least, t.at_most8, t.not_much, t.rule, c.equation, c.some, c.none_open, inv.noted.low, multi_phase_sound s.phase inv.phase)

-- so with a search of either method
pub never_damaged : (rs : List Vertex) (s : Search) → Any rs s → BelowBudget s → Inside s.setup rs → undamaged s ≡ true
never_damaged rs s any below inside =
    ⊎_elim
    (or_left _ _)
    (λ e. or_right _ _ (⊎_elim (λ i. sound_simplex rs s i (below e)) (λ i. sound_multi rs s i inside e (below e)) any))
    (cases_Bool (is_ended s.phase))
