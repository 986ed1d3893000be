-- The two ways in which a reading can go: a point replaces the worst vertex, or the piece goes on. Assumes nothing.
use mathlib.Core.Path.{◌≡◌, refl, ◌∙◌}
use mathlib.Core.Bool.{false}
use mathlib.Core.List.Memᴰ
use mathlib.Core.List.{List, [], ◌∷◌, map, Memᴰ}
use mathlib.Core.Logic.{⊎_elim}
use Prim.Native.Nat.{ℕ, zero, suc, ◌+◌, ◌≤◌, ◌<◌}
use native.Mathlib.Omega.{arith}
use lib.ListN.{get_or, take}
use lib.Seq.{length-take-le}
use Rattle.rules.specs.Simplex.{blank, unpack, insert, cost_of}
use Rattle.rules.specs.View.{is_ended, is_probe}
use Rattle.rules.specs.Count.{same, told_in, counted}
use Rattle.rules.specs.Stop.{total}
use Rattle.rules.specs.Accept.{entrant, standing_with, gathered_with, best_after}
use Rattle.rules.specs.Tally.{count_of}
use Rattle.rules.specs.declared.Vertex.{Vertex}
use Rattle.rules.specs.declared.Simplex.{Simplex}
use Rattle.rules.specs.declared.Setup.{Setup}
use Rattle.rules.specs.declared.Search.{Search}
use Rattle.rules.specs.declared.Phase.{Phase}
use Rattle.rules.specs.declared.Piece.{Piece}
use Rattle.rules.specs.declared.Piece.TheVariants.{Pattern}
use Rattle.rules.specs.declared.Newcomer.{Newcomer}
use Rattle.rules.specs.declared.Keeping.{Keeping}
use Rattle.rules.specs.declared.Decision.TheVariants.{Go, Take}
use Rattle.rules.proofs.Laws.Lists.{mem_take}
use Rattle.rules.proofs.Laws.Order.{length_insert, ordered_insert, mem_insert, total_insert, total_take, ordered_take}
use Rattle.rules.proofs.Laws.Places.{unpack_take}
use Rattle.rules.proofs.Steps.Invariant.{Known, Leads, Stands, Gathers, At, Inv}
use Rattle.rules.proofs.Steps.Noting.{◌▹◌, NotedWith, known_more}
use Rattle.rules.proofs.Steps.Counting.{readings_in, equation_told, open_told, undirected_told}
use Rattle.rules.proofs.Steps.Stepping.{NoRound, Parts, Ending, Goes, others_in, standing_costs, standing_list, whole, step, take_step}

-- ---- laws that both ways share

-- a newcomer joins known vertices
pub known_insert : (vs rs : List Vertex) (v : Vertex) → Memᴰ v rs → Known vs rs → Known (insert v vs) rs
known_insert vs rs v m h w n = ⊎_elim (λ e. Memᴰ.cast e m) (h w) (mem_insert v vs n)

-- what stands is known after a reading more
stands_more : (rs vs : List Vertex) (v : Vertex) (t : Setup) (builds : ℕ) (standing : Simplex) → Stands rs vs t builds standing → Stands (rs ▹ v) vs t builds standing
stands_more rs vs v t builds standing h = record { are = h.are; none = h.none; all = h.all; sorted = h.sorted; known = known_more vs rs v h.known }

-- the first of the first n + 1 vertices is the first of all
take_leads : (n : ℕ) (vs : List Vertex) (x : Vertex) → 1 ≤ n → Leads vs x → Leads (take n vs) x
take_leads zero vs x l h = absurd (omega arith)
take_leads (suc n) [] x l h = h
take_leads (suc n) (v ∷ vs) x l h = h

module _ (rs : List Vertex) (v : Vertex) (s : Search) (inv : Inv rs s) (after : NotedWith v rs s) (live : is_ended s.phase ≡ false) where
  -- ---- a point replaces the worst vertex

  module _ (stood : 1 ≤ s.counts.builds) where
    -- the vertices that stay
    stay : unpack s.setup.n s.standing ≡ take s.setup.n inv.vs
    stay = rw inv.stands.are (unpack_take s.setup.n inv.vs (whole inv.noted inv.stands.known) (omega (arith, inv.stands.all stood)))

    -- a lower cost in the place of the worst makes the sum fall
    sum_falls : (u : Vertex) → u.cost < (get_or inv.vs s.setup.n blank).cost → 1 + total (map cost_of (insert u (take s.setup.n inv.vs))) ≤ standing_costs s
    sum_falls u low = rw (standing_list rs s inv, total_insert cost_of u (take s.setup.n inv.vs), total_take cost_of s.setup.n inv.vs (inv.stands.all stood)) (omega arith)

    -- the newcomer is taken: it is lower than the worst, and with it among the vertices after x the best is first
    pub takes : (p : Piece) (who : Newcomer) (x : Vertex) → let u = entrant (Take p who) v s in
        Memᴰ u (rs ▹ v) → Leads inv.vs x → ((us : List Vertex) → Leads us x → Leads (insert u us) (best_after s.readings v s.best))
        → u.cost < (get_or inv.vs s.setup.n blank).cost → (told_in s.phase s.counts).unfinished ≡ readings_in s.setup.n p
        → others_in (p ∷ []) ≡ 1 → same Pattern p ≡ false → (counted p (told_in s.phase s.counts)).builds ≡ s.counts.builds
        → Goes rs v s (Take p who)
    takes p who x mem leads enters low unfinished one other same =
        let n = s.setup.n in
        let u = entrant (Take p who) v s in
        let us = take n inv.vs in
        let ending : Ending rs v s p (insert u us) =
        record {
          many = length_insert u us ∙ rw (length-take-le n inv.vs (omega (arith, inv.stands.all stood))) (omega arith);
          sorted = ordered_insert u us (ordered_take n inv.vs inv.stands.sorted);
          known = known_insert us (rs ▹ v) u mem (λ w m. known_more inv.vs rs v inv.stands.known w (mem_take n inv.vs m));
          leads = enters us (take_leads n inv.vs x after.sane.at_least leads);
          unfinished = unfinished;
          stood = rw same stood;
          falls = λ a b. rw one (sum_falls u low);
          of_simplex = other;
        } in
        take_step rs v s inv after live p who (rw stay ending)

  -- ---- the piece goes on

  -- the simplex stands as it stood, and no piece is finished
  pub goes : (next : Phase) (gs : List Vertex) (gathered : Simplex) → Gathers (rs ▹ v) gs gathered
      → At next s.setup inv.vs gs (s.readings + 1) (told_in s.phase s.counts) (best_after s.readings v s.best) → (is_probe s.phase ≡ 0 → NoRound next)
      → Parts rs v s s.standing gathered next (told_in s.phase s.counts) []
  unfolding count_of
  goes next gs gathered gathers here none =
      record {
        vs = inv.vs;
        gs = gs;
        stands = stands_more rs inv.vs v s.setup s.counts.builds s.standing inv.stands;
        gathers = gathers;
        equation = equation_told rs s inv live;
        undirected = undirected_told rs s inv live;
        phase = here;
        unfinished = open_told rs s inv live;
        falls = λ a b. rw (standing_list rs s inv) (omega arith);
        first = λ l. absurd (l refl);
        no_round = none;
      }

  -- the phase that the decision names comes next, where the standing places are left alone
  pub go_step : (keeping : Keeping) (next : Phase) (gs : List Vertex) → standing_with keeping v s ≡ s.standing → Gathers (rs ▹ v) gs (gathered_with keeping v s)
      → At next s.setup inv.vs gs (s.readings + 1) (told_in s.phase s.counts) (best_after s.readings v s.best) → (is_probe s.phase ≡ 0 → NoRound next)
      → Goes rs v s (Go keeping next)
  go_step keeping next gs alone gathers here none =
      step rs v s (Go keeping next) next inv.method refl after (rw alone (goes next gs (gathered_with keeping v s) gathers here none))
