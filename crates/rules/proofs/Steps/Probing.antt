-- A reading of a probe round. Assumes nothing.
use mathlib.Core.Path.{◌≡◌, refl, sym, subst}
use mathlib.Core.Bool.{false}
use mathlib.Core.List.{List, [], ◌∷◌}
use Prim.Native.Nat.{ℕ, ◌+◌, ◌*◌, ◌≤◌, ◌<◌}
use native.Mathlib.Omega.{arith}
use Rattle.std.proofs.lemmas.Bool.Decides.{nat_tests}
use Rattle.std.proofs.lemmas.Bool.{cond_both}
use Rattle.rules.specs.Simplex.{pack, Ordered}
use Rattle.rules.specs.View.{is_ended, is_probe}
use Rattle.rules.specs.Count.{told_in}
use Rattle.rules.specs.Decide.{is_full, ends_round, restart, decided}
use Rattle.rules.specs.Accept.{best_after}
use Rattle.rules.specs.declared.Method.{Method}
use Rattle.rules.specs.declared.Vertex.{Vertex}
use Rattle.rules.specs.declared.Search.{Search}
use Rattle.rules.specs.declared.Phase.{Phase}
use Rattle.rules.specs.declared.Phase.TheVariants.{Building, Probing, Ended}
use Rattle.rules.specs.declared.Cause.TheVariants.{Settled}
use Rattle.rules.specs.declared.Keeping.TheVariants.{Nothing}
use Rattle.rules.specs.declared.Decision.TheVariants.{Go, Restart}
use Rattle.rules.proofs.Steps.Invariant.{Leads, Idle, AtBuild, At, Inv}
use Rattle.rules.proofs.Steps.Noting.{◌▹◌, NotedWith, known_new, known_one, best_falls, best_stays}
use Rattle.rules.proofs.Steps.Stepping.{NoRound, Goes, step}
use Rattle.rules.proofs.Steps.Moving.{goes, go_step}
use Rattle.rules.proofs.Steps.Iterating.{gathers_more}

module _ (rs : List Vertex) (v : Vertex) (s : Search) (inv : Inv rs s) (after : NotedWith v rs s) (live : is_ended s.phase ≡ false)
    (p : ℕ) (now : s.phase ≡ Probing p) (idle : Idle 0 s.readings s.counts) (leads : Leads inv.vs s.best) (low : p < 2 * s.setup.n) where
  -- a probe is never open
  still_closed : (told_in s.phase s.counts).unfinished ≡ 0
  still_closed = rw now (omega (arith, idle.unfinished))

  -- this reading is a probe, after which a round may go on
  is_one : (q : Phase) → is_probe s.phase ≡ 0 → NoRound q
  is_one q e = let one : is_probe s.phase ≡ 1 = rw now in absurd (omega arith)

  -- a lower one begins a build around it
  restarts : v.cost < s.best.cost → Goes rs v s Restart
  unfolding Ordered
  restarts l =
      let e = best_falls s.readings v s.best idle.some l in
      let built : AtBuild 1 s.setup.n (v ∷ []) (s.readings + 1) (told_in s.phase s.counts) (best_after s.readings v s.best) =
      record {
        high = omega (arith, after.sane.at_least);
        many = refl;
        sorted = (tt, tt);
        leads = λ m. rw e;
        unfinished = still_closed;
        none = λ q. absurd (omega arith);
        some = λ m. omega arith;
      } in
      step rs v s Restart (Building 1) inv.method refl after (goes rs v s inv after live (Building 1) (v ∷ []) (pack (v ∷ [])) (record { are = refl; known = known_one (rs ▹ v) v (known_new rs v) }) built (is_one (Building 1)))

  -- the round goes on, or has settled the search
  misses : (next : Phase) → At next s.setup inv.vs inv.gs (s.readings + 1) (told_in s.phase s.counts) (best_after s.readings v s.best) → Goes rs v s (Go Nothing next)
  misses next here = go_step rs v s inv after live Nothing next inv.gs refl (gathers_more rs v s inv after live) here (is_one next)

  -- a probe that is not lower leads to the next one, or settles the search
  pub probe_step_lem : Goes rs v s (decided (Probing p) s v.cost)
  unfolding decided
  probe_step_lem =
      let still : Idle 0 (s.readings + 1) (told_in s.phase s.counts) = record { stood = idle.stood; some = omega arith; unfinished = still_closed } in
      let first : s.best.cost ≤ v.cost → Leads inv.vs (best_after s.readings v s.best) = λ l. rw (best_stays s.readings v s.best idle.some l) leads in
      cond_both (ends_round v.cost s) _ _ (Goes rs v s)
      (λ e. subst (λ (m : Method). Goes rs v s (restart m)) (sym inv.method) (restarts (grind (arith, nat_tests))))
      (λ e.
      cond_both (is_full p s) _ _ (Goes rs v s)
      (λ f. misses (Ended Settled) tt)
      (λ f. misses (Probing (p + 1)) (still, first (grind (arith, nat_tests)), grind (arith, nat_tests))))
