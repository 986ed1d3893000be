-- A reading of an iteration: reflected, expanded or contracted. Assumes nothing.
use mathlib.Core.Path.{◌≡◌, refl, sym, ap, ◌∙◌}
use mathlib.Core.Bool.{false}
use mathlib.Core.List.Memᴰ
use mathlib.Core.List.{List, [], ◌∷◌, Memᴰ}
use Prim.Native.Nat.{ℕ, ◌+◌, ◌-◌, ◌≤◌, ◌<◌}
use native.Mathlib.Omega.{arith}
use native.Mathlib.Nat.{not-suc-le-zero}
use lib.ListN.{length, get_or}
use Rattle.std.proofs.lemmas.Bool.Decides.{nat_tests}
use Rattle.std.proofs.lemmas.Bool.{cond_both}
use Rattle.rules.specs.Simplex.{blank, place, up_to, pack, unpack, insert, cost_of, Ordered}
use Rattle.rules.specs.View.{is_ended}
use Rattle.rules.specs.Count.{told_in}
use Rattle.rules.specs.Decide.{f1, fn, fr, row1, row2, row3, wins_expanded, wins, decided}
use Rattle.rules.specs.Accept.{newcomer, joined, best_after}
use Rattle.rules.specs.Tally.{count_of}
use Rattle.rules.specs.declared.Vertex.{Vertex}
use Rattle.rules.specs.declared.Simplex.{Simplex}
use Rattle.rules.specs.declared.Search.{Search}
use Rattle.rules.specs.declared.Side.{Side}
use Rattle.rules.specs.declared.Side.TheVariants.{Outside, Inside}
use Rattle.rules.specs.declared.Phase.{Phase}
use Rattle.rules.specs.declared.Phase.TheVariants.{Reflecting, Expanding, Contracting, Shrinking}
use Rattle.rules.specs.declared.Piece.TheVariants.{Reflection, Expansion, Contraction}
use Rattle.rules.specs.declared.Newcomer.{Newcomer}
use Rattle.rules.specs.declared.Newcomer.TheVariants.{Latest, Reflected}
use Rattle.rules.specs.declared.Keeping.TheVariants.{Joined, First}
use Rattle.rules.specs.declared.Decision.TheVariants.{Go, Take}
use Rattle.rules.proofs.Laws.Order.{first_lower, ordered_at}
use Rattle.rules.proofs.Laws.Places.{Whole, place_pack, cost_pack}
use Rattle.rules.proofs.Steps.Invariant.{Leads, Gathers, Idle, RowBound, AtExpand, AtContract, At, Inv}
use Rattle.rules.proofs.Steps.Noting.{◌▹◌, NotedWith, best_mem, known_more, known_new, known_one, best_falls, best_stays, leads_on}
use Rattle.rules.proofs.Steps.Stepping.{NoRound, Goes, whole}
use Rattle.rules.proofs.Steps.Moving.{takes, go_step}

-- ---- who is first

-- the vertex that leads stands at place 1
leads_at : (vs : List Vertex) (b : Vertex) → Leads vs b → get_or vs 0 blank ≡ b
leads_at [] b h = cc
leads_at (v ∷ vs) b h = cc

-- and the first of the places that hold the vertices holds it
place_leads : (vs : List Vertex) (b : Vertex) (places : Simplex) → places ≡ pack vs → Whole vs → Leads vs b → place places 0 ≡ b
place_leads [] b places e w h = absurd cc
place_leads (v ∷ vs) b places e w h = rw e (place_pack (v ∷ vs) 0 w (omega arith) ∙ leads_at (v ∷ vs) b h)

-- of some vertices the one at place 1 leads
leads_self : (vs : List Vertex) → 1 ≤ length vs → Leads vs (get_or vs 0 blank)
leads_self [] l = absurd (not-suc-le-zero l)
leads_self (v ∷ vs) l = refl

module _ (rs : List Vertex) (v : Vertex) (s : Search) (inv : Inv rs s) (after : NotedWith v rs s) (live : is_ended s.phase ≡ false) where
  -- the costs that the search carries are those of its vertices
  carries : (i : ℕ) → get_or s.standing.costs i 0 ≡ (get_or inv.vs i blank).cost
  carries i = rw inv.stands.are (cost_pack inv.vs i)

  -- the best, where it leads, stands at place 1
  stands_first : Leads inv.vs s.best → place s.standing 0 ≡ s.best
  stands_first h = place_leads inv.vs s.best s.standing inv.stands.are (whole inv.noted inv.stands.known) h

  -- r, where it is gathered alone, is at place 1 there
  held_first : (r : Vertex) → inv.gs ≡ r ∷ [] → place s.gathered 0 ≡ r
  held_first r e = place_leads inv.gs r s.gathered inv.gathers.are (whole inv.noted inv.gathers.known) (rw e)

  -- the gathered vertices stay as they are
  pub gathers_more : Gathers (rs ▹ v) inv.gs s.gathered
  gathers_more = record { are = inv.gathers.are; known = known_more inv.gs rs v inv.gathers.known }

  -- the best is one of the readings
  best_known : 1 ≤ s.readings → Memᴰ s.best (rs ▹ v)
  best_known l = Memᴰ.append_left (v ∷ []) (best_mem rs s.best (inv.noted.least l))

  -- in place order costs do not fall
  in_place : (i : ℕ) → 1 ≤ s.counts.builds → i ≤ s.setup.n → (get_or inv.vs i blank).cost ≤ (get_or inv.vs s.setup.n blank).cost
  in_place i l h = ordered_at inv.vs i s.setup.n inv.stands.sorted h (omega (arith, inv.stands.all l))

  -- ---- the reflected point

  module _ (now : s.phase ≡ Reflecting) (idle : Idle 0 s.readings s.counts) (leads : Leads inv.vs s.best) where
    -- f1 is the best cost
    first_cost : f1 s ≡ s.best.cost
    first_cost = ap cost_of (stands_first leads)

    -- one reading is open now
    idle_on : Idle 1 (s.readings + 1) (told_in s.phase s.counts)
    idle_on = record { stood = idle.stood; some = omega arith; unfinished = rw now (omega (arith, idle.unfinished)) }

    -- r is gathered alone
    alone : joined v s ≡ v ∷ []
    unfolding unpack up_to insert
    alone = rw now refl

    -- r is gathered, and the iteration waits for another trial
    waits : (next : Phase) → At next s.setup inv.vs (v ∷ []) (s.readings + 1) (told_in s.phase s.counts) (best_after s.readings v s.best) → NoRound next → Goes rs v s (Go Joined next)
    waits next here none =
        go_step rs v s inv after live Joined next (v ∷ []) refl (record { are = ap pack alone; known = known_one (rs ▹ v) v (known_new rs v) }) here (λ e. none)

    -- the first row
    goes_expanding : v.cost < f1 s → Goes rs v s (Go Joined Expanding)
    goes_expanding low =
        let l : v.cost < s.best.cost = rw first_cost at low in
        let e = best_falls s.readings v s.best idle.some l in
        waits Expanding (idle_on, record { holds = rw e; lower = rw (e, ← carries 0) low }) tt

    -- the second row
    takes_reflected : v.cost < fn s → Goes rs v s (Take Reflection Latest)
    unfolding count_of
    takes_reflected low =
        let l : v.cost < (get_or inv.vs (s.setup.n - 1) blank).cost = rw (carries (s.setup.n - 1)) at low in
        takes rs v s inv after live idle.stood Reflection Latest s.best (known_new rs v) leads (λ us. leads_on us v s.best s.readings idle.some)
        (omega (arith, in_place (s.setup.n - 1) idle.stood (omega arith))) (rw now (omega (arith, idle.unfinished))) refl refl refl

    -- the third row and the fourth
    goes_contracting : (side : Side) → f1 s ≤ v.cost → RowBound side v.cost (get_or inv.vs s.setup.n blank).cost → Goes rs v s (Go Joined (Contracting side))
    goes_contracting side high row =
        let h : s.best.cost ≤ v.cost = rw first_cost at high in
        let e = best_stays s.readings v s.best idle.some h in
        waits (Contracting side) (idle_on, record { r = v; holds = refl; leads = rw e leads; higher = rw e h; row = row }) tt

    -- the table, row by row
    pub reflect_step : Goes rs v s (decided Reflecting s v.cost)
    unfolding decided
    reflect_step =
        let f = v.cost in
        let P = Goes rs v s in
        cond_both (row1 f s) _ _ P
        (λ a. goes_expanding (grind (arith, nat_tests)))
        (λ a.
        cond_both (row2 f s) _ _ P
        (λ b. takes_reflected (grind (arith, nat_tests)))
        (λ b.
        cond_both (row3 f s) _ _ P
        (λ c. goes_contracting Outside (grind (arith, nat_tests)) (grind (arith, nat_tests, carries s.setup.n)))
        (λ c. goes_contracting Inside (grind (arith, nat_tests)) tt)))

  -- ---- the expanded point

  module _ (now : s.phase ≡ Expanding) (idle : Idle 1 s.readings s.counts) (h : AtExpand inv.vs inv.gs s.best) where
    -- the newcomer u is lower than every vertex, and is the best now
    takes_lower : (who : Newcomer) → let u = newcomer who v s in Memᴰ u (rs ▹ v) → u.cost ≤ s.best.cost → best_after s.readings v s.best ≡ u → Goes rs v s (Take Expansion who)
    unfolding count_of
    takes_lower who mem low best =
        let u = newcomer who v s in
        let x = get_or inv.vs 0 blank in
        let first : u.cost < x.cost = omega (arith, h.lower) in
        takes rs v s inv after live idle.stood Expansion who x mem (leads_self inv.vs (omega (arith, inv.stands.all idle.stood))) (λ us l. rw best (first_lower u x us l first))
        (omega (arith, in_place 0 idle.stood (omega arith))) (rw now (omega (arith, idle.unfinished))) refl refl refl

    -- r, as it was gathered, is the best
    reflected : place s.gathered 0 ≡ s.best
    reflected = held_first s.best h.holds

    -- either point is taken
    pub expand_step : Goes rs v s (decided Expanding s v.cost)
    unfolding decided
    expand_step =
        let cost : fr s ≡ s.best.cost = ap cost_of reflected in
        cond_both (wins_expanded v.cost s) _ _ (λ (who : Newcomer). Goes rs v s (Take Expansion who))
        (λ e. let l : v.cost < s.best.cost = grind (arith, nat_tests) in takes_lower Latest (known_new rs v) (omega arith) (best_falls s.readings v s.best idle.some l))
        (λ e.
        takes_lower Reflected (Memᴰ.cast reflected (best_known idle.some)) (omega arith)
        (best_stays s.readings v s.best idle.some (grind (arith, nat_tests)) ∙ sym reflected))

  -- ---- the contracted point

  module _ (side : Side) (now : s.phase ≡ Contracting side) (idle : Idle 1 s.readings s.counts) (h : AtContract side s.setup.n inv.vs inv.gs s.best) where
    -- r and the contracted point are open
    open_contracted : (told_in s.phase s.counts).unfinished ≡ 2
    open_contracted = rw now (omega (arith, idle.unfinished))

    -- a lower point is taken
    takes_contracted : v.cost < (get_or inv.vs s.setup.n blank).cost → Goes rs v s (Take Contraction Latest)
    unfolding count_of
    takes_contracted low =
        takes rs v s inv after live idle.stood Contraction Latest s.best (known_new rs v) h.leads (λ us. leads_on us v s.best s.readings idle.some) low open_contracted refl refl refl

    -- x1, which a shrink keeps, is the best
    kept_best : place s.standing 0 ≡ s.best
    kept_best = stands_first h.leads

    -- a shrink begins
    goes_shrinking : s.best.cost ≤ v.cost → Goes rs v s (Go First (Shrinking 1))
    unfolding Ordered
    goes_shrinking high =
        let known = known_one (rs ▹ v) s.best (best_known idle.some) in
        let e = best_stays s.readings v s.best idle.some high in
        go_step rs v s inv after live First (Shrinking 1) (s.best ∷ []) refl (record { are = ap (λ (x : Vertex). pack (x ∷ [])) kept_best; known = known })
        (record { low = omega arith; high = after.sane.at_least; many = refl; sorted = (tt, tt); leads = rw e; unfinished = open_contracted; stood = idle.stood; some = omega arith }) (λ q. tt)

  -- an outside point that is not taken is higher than r, an inside one not lower than the worst
  pub contract_step : (side : Side) → s.phase ≡ Contracting side → Idle 1 s.readings s.counts → AtContract side s.setup.n inv.vs inv.gs s.best
      → Goes rs v s (decided (Contracting side) s v.cost)
  unfolding decided
  contract_step Outside now idle h =
      let r : fr s ≡ h.r.cost = ap cost_of (held_first h.r h.holds) in
      cond_both (wins Outside v.cost s) _ _ (Goes rs v s)
      (λ e. takes_contracted Outside now idle h (grind (arith, nat_tests, h.row)))
      (λ e. goes_shrinking Outside now idle h (grind (arith, nat_tests, h.higher)))
  contract_step Inside now idle h =
      let w = carries s.setup.n in
      let q : (get_or inv.vs 0 blank).cost ≡ s.best.cost = ap cost_of (leads_at inv.vs s.best h.leads) in
      cond_both (wins Inside v.cost s) _ _ (Goes rs v s)
      (λ e. takes_contracted Inside now idle h (grind (arith, nat_tests)))
      (λ e. goes_shrinking Inside now idle h (grind (arith, nat_tests, in_place 0 idle.stood (omega arith))))
