-- What is true of the rules over every accepted history of a newly opened search. Assumes nothing.
use Rattle.std.specs.Prelude.{Option}
use mathlib.Core.Path.{◌≡◌, refl, sym, ap, ◌∙◌, subst}
use mathlib.Core.Bool.{true, cond}
use mathlib.Core.List.Memᴰ
use mathlib.Core.List.{List, [], Memᴰ}
use mathlib.Core.Logic.{inl, inr, ⊎_elim}
use Prim.Native.Nat.{ℕ, ◌+◌, ◌-◌, ◌<◌}
use native.Mathlib.Omega.{arith}
use lib.ListN.{length, length-map}
use lib.Dec.{eqb}
use Rattle.std.proofs.lemmas.Bool.Decides.{nat_tests}
use Rattle.std.proofs.lemmas.Bool.{cond_both}
use Rattle.rules.specs.Binary64.{0ᶠ}
use Rattle.rules.specs.Simplex.{cost_of, number_in, pack, place, first_of}
use Rattle.rules.specs.View.{gathered_in}
use Rattle.rules.specs.Count.{count_in, no_counts}
use Rattle.rules.specs.Stop.{suits}
use Rattle.rules.specs.Opening.{rule_of, first_phase, fresh}
use Rattle.rules.specs.Accept.{gathered_of}
use Rattle.rules.specs.Calls.{standing_of}
use Rattle.rules.specs.History.{Event, run, costs_in, reading, EarliestLeast}
use Rattle.rules.specs.Tally.{made, probes_in, directed_in, open_in}
use Rattle.rules.specs.Claims.{IsRead, AreRead, IsBest, MadeAt}
use Rattle.rules.specs.declared.Method.{Method}
use Rattle.rules.specs.declared.Method.TheVariants.{NelderMead, Multidirectional}
use Rattle.rules.specs.declared.Rule.{Rule}
use Rattle.rules.specs.declared.Axis.{Axis}
use Rattle.rules.specs.declared.Coefficients.{Coefficients}
use Rattle.rules.specs.declared.Vertex.{Vertex}
use Rattle.rules.specs.declared.Simplex.{Simplex}
use Rattle.rules.specs.declared.Setup.{Setup}
use Rattle.rules.specs.declared.Search.{Search}
use Rattle.rules.specs.declared.Piece.{Piece}
use Rattle.rules.specs.declared.Piece.TheVariants.{Build}
use Rattle.rules.proofs.Laws.Lists.{mem_take}
use Rattle.rules.proofs.Laws.Places.{place_cases}
use Rattle.rules.proofs.Laws.Openings.{Sane}
use Rattle.rules.proofs.Laws.Histories.{readings_of, Joined, costs_readings_of, get_or_readings_of, mem_readings_of}
use Rattle.rules.proofs.Steps.Invariant.{Known, Best, Noted, Inv}
use Rattle.rules.proofs.Steps.Grouped.{NoneYet, MultiOf, AnyOf, Any, any_more}
use Rattle.rules.proofs.Steps.Noting.{best_mem}
use Rattle.rules.proofs.Steps.Counting.{count_by}
use Rattle.rules.proofs.Steps.Stepping.{BelowBudget, whole, standing_list, gathered_list}
use Rattle.rules.proofs.Runs.Running.{Ran, ran, ran_made, made_at, fresh_any, fresh_below}
use Rattle.rules.proofs.Steps.Standing.{none_stands, none_gathered_yet}
use Rattle.rules.proofs.Steps.Accepting.{noted_of}

-- a search as an opening gives it: nothing told, nothing counted
pub record Begun (o : Search) : Type 0 where
  pub inv : AnyOf NoneYet [] o
  pub below : BelowBudget o
  pub counts : o.counts ≡ no_counts
  pub phase : o.phase ≡ first_phase o.method

pub fresh_begun : (m : Method) (n : ℕ) (axes : List Axis) (rule : Option Rule) (c : Coefficients) (budget : ℕ) → Sane (fresh m n axes rule c budget).setup
    → suits m (rule_of rule) ≡ true → Begun (fresh m n axes rule c budget)
unfolding fresh
fresh_begun m n axes rule c budget h suited =
    record { inv = fresh_any n axes rule c budget m h suited; below = fresh_below n axes rule c budget m h; counts = refl; phase = refl }

pub begun_any : (o : Search) → Begun o → Any [] o
begun_any o begun = any_more [] o (λ i f q. tt) begun.inv

module _ (o : Search) (begun : Begun o) where
  module _ (h : List Event) (t : Joined o h) where
    pub whole_run : Ran [] o h
    whole_run = ran [] o (begun_any o begun) begun.below h t

    -- each unread companion was made by a cost of the history
    run_made : AnyOf (MadeAt o h) (readings_of o h) (run o h)
    run_made =
        any_more {P = MadeAt o h} (readings_of o h) (run o h) (λ i f. ⊎_elim (λ q. absurd q.0) (λ m. made_at o h i f m))
        (ran_made NoneYet [] o begun.inv begun.below h t)

    run_any : Any (readings_of o h) (run o h)
    run_any = whole_run.inv

    pub run_noted : Noted (readings_of o h) (run o h).setup (run o h).readings (run o h).best
    run_noted = noted_of (readings_of o h) (run o h) run_any

    -- ---- readings and counts

    -- the readings are the costs of the history
    pub run_readings : (run o h).readings ≡ length (costs_in h)
    run_readings = run_noted.told ∙ sym (length-map (readings_of o h) cost_of) ∙ ap length (costs_readings_of o h)

    -- the pieces and the probes that the search has counted are those of the history
    pub run_counts : (p : Piece) → count_in p (run o h).counts ≡ made p o h
    run_counts p =
        let none : count_in p o.counts ≡ 0 = rw begun.counts (count_by (λ q. 0) 0 0 0 p) in
        omega (arith, whole_run.counts.pieces p)

    pub run_probes : (run o h).counts.probes ≡ probes_in o h
    run_probes =
        let none : o.counts.probes ≡ 0 = rw begun.counts in
        omega (arith, whole_run.counts.probes)

    pub run_directed : (run o h).counts.directed ≡ directed_in o h
    run_directed =
        let none : o.counts.directed ≡ 0 = rw begun.counts in
        omega (arith, whole_run.counts.directed)

    pub run_unfinished : (run o h).counts.unfinished ≡ open_in 0 o h
    run_unfinished = whole_run.unfinished ∙ ap (λ c. open_in c.unfinished o h) begun.counts

    -- reading k, from 0, has the number k + 1
    numbered : (k : ℕ) (v : Vertex) → v ≡ reading o h k → v.number ≡ k + 1
    numbered k v e = let first : o.readings ≡ 0 = (noted_of [] o begun.inv).told in ap number_in e ∙ omega arith

    -- one of the readings is that of its number
    pub is_read : (v : Vertex) → Memᴰ v (readings_of o h) → IsRead o h v
    is_read v m =
        let r = mem_readings_of o h v m in
        let number = numbered r.0 v r.2 in
        let k : r.0 ≡ v.number - 1 = omega arith in
        record { from_1 = omega arith; accepted = omega (arith, r.1); very = subst (λ (j : ℕ). v ≡ reading o h j) k r.2 }

    -- packed vertices that are readings are so place by place
    pub are_read : (vs : List Vertex) (places : Simplex) → places ≡ pack vs → Known vs (readings_of o h) → AreRead o h places
    are_read vs places e known i l =
        rw e (⊎_elim inl (λ m. inr (is_read (place (pack vs) i) (known (place (pack vs) i) m))) (place_cases vs i (whole run_noted known) l))

    -- ---- the best

    module _ (l : 0 < length (costs_in h)) where
      least : Best (readings_of o h) (run o h).best
      least = run_noted.least (omega (arith, run_readings))

      -- the best is the earliest least reading
      pub run_best : IsBest o h (run o h).best
      run_best =
          let e : EarliestLeast (costs_in h) least.0 = rw (costs_readings_of o h) at least.1 in
          let number = numbered least.0 (run o h).best (sym least.2 ∙ get_or_readings_of o h least.0 e.told) in
          let k : least.0 ≡ (run o h).best.number - 1 = omega arith in
          record { read = is_read (run o h).best (best_mem (readings_of o h) (run o h).best least); least = rw k at e }

      -- the best's point has n coordinates and zeros after them
      pub best_shape : first_of (run o h).setup.n 0ᶠ (run o h).best.point ≡ (run o h).best.point
      best_shape = (run_noted.shapes (run o h).best (best_mem (readings_of o h) (run o h).best least)).shape

    -- ---- the standing simplex of Nelder-Mead

    module _ (nm : o.method ≡ NelderMead) where
      pub run_inv : Inv (readings_of o h) (run o h)
      run_inv = ⊎_elim (λ i. i) (λ i. absurd (let other : NelderMead ≡ Multidirectional = sym nm ∙ sym whole_run.method ∙ i.method in cc)) run_any

      pub run_standing : standing_of (run o h) ≡ run_inv.vs
      run_standing = standing_list (readings_of o h) (run o h) run_inv

      pub run_places : length (standing_of (run o h)) ≡ cond (eqb (made Build o h) 0) 0 (o.setup.n + 1)
      run_places =
          rw run_standing
          (cond_both (eqb (made Build o h) 0) _ _ (λ (m : ℕ). length run_inv.vs ≡ m)
          (λ e. ap length (run_inv.stands.none (run_counts Build ∙ grind (arith, nat_tests))))
          (λ e. run_inv.stands.all (grind (arith, nat_tests, run_counts Build)) ∙ ap (λ (t : Setup). t.n + 1) whole_run.kept))

      -- every place of both runs
      pub run_read : AreRead o h (run o h).standing × AreRead o h (run o h).gathered
      run_read = (
        are_read run_inv.vs (run o h).standing run_inv.stands.are run_inv.stands.known,
        are_read run_inv.gs (run o h).gathered run_inv.gathers.are run_inv.gathers.known,
      )

    -- ---- the multidirectional method

    pub run_multi : o.method ≡ Multidirectional → MultiOf (MadeAt o h) (readings_of o h) (run o h)
    run_multi md = ⊎_elim (λ i. absurd (let other : NelderMead ≡ Multidirectional = sym i.method ∙ whole_run.method ∙ md in cc)) (λ i. i) run_made

    -- ---- either method

    -- each vertex that stands
    pub run_vertices : (v : Vertex) → Memᴰ v (standing_of (run o h)) → IsRead o h v
    run_vertices v m =
        ⊎_elim
        (λ i. is_read v (i.stands.known v (rw (standing_list (readings_of o h) (run o h) i) at m)))
        (λ i. absurd (Memᴰ.not-nil (rw (none_stands (run o h) i.method) at m)))
        run_any

    -- and each that is gathered
    pub run_gathered : (v : Vertex) → Memᴰ v (gathered_of (run o h)) → IsRead o h v
    run_gathered v m =
        ⊎_elim
        (λ i. is_read v (i.gathers.known v (mem_take (gathered_in (run o h).phase) i.gs (rw (gathered_list (readings_of o h) (run o h) i) at m))))
        (λ i. absurd (Memᴰ.not-nil (rw (none_gathered_yet (readings_of o h) (run o h) i) at m)))
        run_any
