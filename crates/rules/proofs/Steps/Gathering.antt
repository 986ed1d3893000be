-- A reading of a build or of a shrink. Assumes nothing.
use mathlib.Core.Path.{◌≡◌, refl, ap, ◌∙◌}
use mathlib.Core.Bool.{false}
use mathlib.Core.List.{List, [], ◌∷◌}
use Prim.Native.Nat.{ℕ, zero, suc, ◌+◌, ◌≤◌, ◌<◌}
use native.Mathlib.Omega.{arith}
use lib.ListN.{length}
use Rattle.std.proofs.lemmas.Bool.Decides.{nat_tests}
use Rattle.std.proofs.lemmas.Bool.{cond_both}
use Rattle.std.proofs.lemmas.List.{nil_from_length}
use Rattle.rules.specs.Simplex.{pack, insert, Ordered}
use Rattle.rules.specs.View.{is_ended, gathered_in, is_probe}
use Rattle.rules.specs.Count.{same, told_in, counted}
use Rattle.rules.specs.Decide.{is_last, decided}
use Rattle.rules.specs.Accept.{joined, best_after}
use Rattle.rules.specs.Tally.{count_of}
use Rattle.rules.specs.declared.Vertex.{Vertex}
use Rattle.rules.specs.declared.Search.{Search}
use Rattle.rules.specs.declared.Phase.{Phase}
use Rattle.rules.specs.declared.Phase.TheVariants.{Building, Shrinking}
use Rattle.rules.specs.declared.Piece.{Piece}
use Rattle.rules.specs.declared.Piece.TheVariants.{Build, Shrink, Pattern}
use Rattle.rules.specs.declared.Keeping.TheVariants.{Joined}
use Rattle.rules.specs.declared.Decision.TheVariants.{Go, Stand}
use Rattle.rules.proofs.Laws.Order.{length_insert, ordered_insert}
use Rattle.rules.proofs.Steps.Invariant.{Leads, Gathers, AtBuild, AtShrink, At, Inv}
use Rattle.rules.proofs.Steps.Noting.{◌▹◌, NotedWith, known_more, known_new, leads_on}
use Rattle.rules.proofs.Steps.Counting.{readings_in, adds_now}
use Rattle.rules.proofs.Steps.Stepping.{NoRound, Ending, Goes, places_are, stand_step}
use Rattle.rules.proofs.Steps.Moving.{known_insert, go_step}

-- the first of the gathered vertices is the best, after the first trial too
leads_build : (i : ℕ) (gs : List Vertex) (v b : Vertex) (k : ℕ) → length gs ≡ i → (1 ≤ i → Leads gs b) → (1 ≤ i → 1 ≤ k) → (i ≡ 0 → k ≡ 0)
    → Leads (insert v gs) (best_after k v b)
unfolding insert
leads_build zero gs v b k e h l z = rw (nil_from_length gs e, z refl)
leads_build (suc i) gs v b k e h l z = leads_on gs v b k (l (omega arith)) (h (omega arith))

module _ (rs : List Vertex) (v : Vertex) (s : Search) (inv : Inv rs s) (after : NotedWith v rs s) (live : is_ended s.phase ≡ false) where
  -- ---- what both share: so many vertices are gathered, and with the newcomer among them the first is the best

  module _ (many : length inv.gs ≡ gathered_in s.phase) (sorted : Ordered inv.gs) (leads : Leads (insert v inv.gs) (best_after s.readings v s.best)) where
    -- they are found again, and the newcomer is put among them
    joined_are : joined v s ≡ insert v inv.gs
    joined_are = ap (insert v) (places_are (gathered_in s.phase) inv.noted inv.gathers.known inv.gathers.are many)

    -- they are gathered, and known
    gathers_on : Gathers (rs ▹ v) (insert v inv.gs) (pack (joined v s))
    gathers_on = record { are = ap pack joined_are; known = known_insert inv.gs (rs ▹ v) v (known_new rs v) (known_more inv.gs rs v inv.gathers.known) }

    -- the last trial is told
    stands : (p : Piece) → gathered_in s.phase ≡ s.setup.n → (told_in s.phase s.counts).unfinished ≡ readings_in s.setup.n p → 1 ≤ (counted p (told_in s.phase s.counts)).builds
        → (count_of Build (p ∷ []) ≡ 0 → count_of Shrink (p ∷ []) ≡ 0 → ⊥) → same Pattern p ≡ false → Goes rs v s (Stand p)
    stands p all unfinished stood neither other =
        let ending : Ending rs v s p (insert v inv.gs) =
        record {
          many = length_insert v inv.gs ∙ omega (arith, many);
          sorted = ordered_insert v inv.gs sorted;
          known = gathers_on.known;
          leads = leads;
          unfinished = unfinished;
          stood = stood;
          falls = λ a b. absurd (neither a b);
          of_simplex = other;
        } in
        stand_step rs v s inv after live p (rw joined_are ending)

    -- another trial follows
    joins : (next : Phase) → At next s.setup inv.vs (insert v inv.gs) (s.readings + 1) (told_in s.phase s.counts) (best_after s.readings v s.best) → NoRound next
        → Goes rs v s (Go Joined next)
    joins next here none = go_step rs v s inv after live Joined next (insert v inv.gs) refl gathers_on here (λ e. none)

  -- ---- a build

  module _ (i : ℕ) (now : s.phase ≡ Building i) (h : AtBuild i s.setup.n inv.gs s.readings s.counts s.best) where
    -- the first reading of all is not open, every other one is
    open_built : (told_in s.phase s.counts).unfinished ≡ i
    open_built =
        let probe : is_probe s.phase ≡ 0 = rw now in
        grind (arith, h.unfinished, h.some, h.none, (adds_now rs s inv live).one)

    -- the first is the best
    leads_built : Leads (insert v inv.gs) (best_after s.readings v s.best)
    leads_built = leads_build i inv.gs v s.best s.readings h.many h.leads h.some h.none

    -- as many are gathered as the phase says
    gathered_built : length inv.gs ≡ gathered_in s.phase
    gathered_built = rw now h.many

    -- the next trial finds one more gathered
    build_next : i < s.setup.n → AtBuild (i + 1) s.setup.n (insert v inv.gs) (s.readings + 1) (told_in s.phase s.counts) (best_after s.readings v s.best)
    build_next l =
        record {
          high = omega arith;
          many = length_insert v inv.gs ∙ omega (arith, h.many);
          sorted = ordered_insert v inv.gs h.sorted;
          leads = λ m. leads_built;
          unfinished = omega (arith, open_built);
          none = λ e. absurd (omega arith);
          some = λ m. omega arith;
        }

    -- the last trial ends the build, any other goes on
    pub build_step : Goes rs v s (decided (Building i) s v.cost)
    unfolding decided count_of
    build_step =
        cond_both (is_last i s) _ _ (Goes rs v s)
        (λ e. stands gathered_built h.sorted leads_built Build (rw now (grind (arith, nat_tests))) (rw open_built (grind (arith, nat_tests))) (omega arith) (λ a b. omega arith) refl)
        (λ e. joins gathered_built h.sorted leads_built (Building (i + 1)) (build_next (grind (arith, nat_tests, h.high))) tt)

  -- ---- a shrink

  module _ (j : ℕ) (now : s.phase ≡ Shrinking j) (h : AtShrink j s.setup.n inv.gs s.readings s.counts s.best) where
    -- r and the contracted point are open too
    open_shrunk : (told_in s.phase s.counts).unfinished ≡ j + 2
    open_shrunk = rw now (omega (arith, h.unfinished))

    -- the first is the best
    leads_shrunk : Leads (insert v inv.gs) (best_after s.readings v s.best)
    leads_shrunk = leads_on inv.gs v s.best s.readings h.some h.leads

    -- as many are gathered as the phase says
    gathered_shrunk : length inv.gs ≡ gathered_in s.phase
    gathered_shrunk = rw now h.many

    -- the next trial finds one more gathered
    shrink_next : j < s.setup.n → AtShrink (j + 1) s.setup.n (insert v inv.gs) (s.readings + 1) (told_in s.phase s.counts) (best_after s.readings v s.best)
    shrink_next l =
        record {
          low = omega arith;
          high = omega arith;
          many = length_insert v inv.gs ∙ omega (arith, h.many);
          sorted = ordered_insert v inv.gs h.sorted;
          leads = leads_shrunk;
          unfinished = omega (arith, open_shrunk);
          stood = h.stood;
          some = omega arith;
        }

    -- the last trial ends the shrink, any other goes on
    pub shrink_step : Goes rs v s (decided (Shrinking j) s v.cost)
    unfolding decided count_of
    shrink_step =
        cond_both (is_last j s) _ _ (Goes rs v s)
        (λ e. stands gathered_shrunk h.sorted leads_shrunk Shrink (rw now (grind (arith, nat_tests))) (rw open_shrunk (grind (arith, nat_tests))) h.stood (λ a b. omega arith) refl)
        (λ e. joins gathered_shrunk h.sorted leads_shrunk (Shrinking (j + 1)) (shrink_next (grind (arith, nat_tests, h.high))) tt)
