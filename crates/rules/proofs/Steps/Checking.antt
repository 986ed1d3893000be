-- A companion told, or a probe of the multidirectional search; and every phase of it. Assumes nothing.
use mathlib.Core.Path.{◌≡◌, refl, sym, ap, ◌∙◌, subst}
use mathlib.Core.Bool.{false, true≢false, cond}
use mathlib.Core.List.{List, []}
use mathlib.Core.Logic.{inl, ⊎_elim}
use Prim.Native.Nat.{ℕ, ◌+◌, ◌-◌, ◌*◌, ◌≤◌, ◌<◌}
use native.Mathlib.Omega.{arith}
use lib.ListN.{get_or}
use lib.Dec.{eqb}
use lib.Ieee.{Float}
use Rattle.std.proofs.lemmas.Bool.Decides.{nat_tests}
use Rattle.std.proofs.lemmas.Bool.{cond_both, cases_Bool}
use Rattle.rules.specs.Simplex.{pack, place, number_in}
use Rattle.rules.specs.View.{view, is_ended, is_probe, is_directed}
use Rattle.rules.specs.Count.{told_in}
use Rattle.rules.specs.Companions.{base, companion_after, stop_after, group_read}
use Rattle.rules.specs.Decide.{is_full, lower, ends_round, restart, decided}
use Rattle.rules.specs.Tally.{count_of, is_open}
use Rattle.rules.specs.declared.Method.{Method}
use Rattle.rules.specs.declared.Vertex.{Vertex}
use Rattle.rules.specs.declared.Search.{Search}
use Rattle.rules.specs.declared.View.TheVariants.{Turns}
use Rattle.rules.specs.declared.Phase.{Phase}
use Rattle.rules.specs.declared.Phase.TheVariants.{Basing, Mirroring, Checking, Probing, Ended}
use Rattle.rules.specs.declared.Cause.TheVariants.{Settled}
use Rattle.rules.specs.declared.Change.TheVariants.{Swapped}
use Rattle.rules.specs.declared.Keeping.TheVariants.{Nothing, Read}
use Rattle.rules.specs.declared.Decision.TheVariants.{Go, Regroup}
use Rattle.rules.proofs.Laws.Places.{number_pack}
use Rattle.rules.proofs.Laws.Grouping.{get_or_group}
use Rattle.rules.proofs.Steps.Invariant.{Gathers}
use Rattle.rules.proofs.Steps.Grouped.{Companion, Directed, AtCheck, AtProbe, AtMulti, MultiOf}
use Rattle.rules.proofs.Steps.Noting.{◌▹◌, NotedWith, known_more, best_falls}
use Rattle.rules.proofs.Steps.Standing.{directed_told, companion_more, companion_at}
use Rattle.rules.proofs.Steps.Turning.{Then, Takes, turn, builds, ends, base_step, stand_on, stand_read, checks, base_cost, base_read}
use Rattle.rules.proofs.Steps.Mirroring.{mirror_step}

module _ (Q : ℕ → (ℕ → Float) → Type 0) (rs : List Vertex) (v : Vertex) (s : Search) (inv : MultiOf Q rs s) (after : NotedWith v rs s) (live : is_ended s.phase ≡ false) where
  -- ---- a companion

  module _ (i : ℕ) (now : s.phase ≡ Checking i) (h : AtCheck i s.setup.n s.standing.numbers s.readings s.counts) where
    turns_check : view s.phase ≡ Turns
    turns_check = rw now refl

    -- no other companion is asked
    asked : (k : ℕ) → s.phase ≡ Checking k → i ≡ k
    asked k e = let same : Checking i ≡ Checking k = sym now ∙ e in cc

    -- a lower one swaps with the base; the others stay, read or unread
    swapped_each : (k : ℕ) → 1 ≤ k → k ≤ s.setup.n → Companion (Then Q v s (Regroup (Swapped i)) k) (rs ▹ v) s.setup (companion_after (Swapped i) v s k) (stop_after (Swapped i) v s k)
    swapped_each k l m =
        let g = inv.grouped h.some in
        ⊎_elim
        (λ e. rw e (inl (base_read Q rs v s inv after live h.some)))
        (λ e.
        rw e
        (subst (λ (c : Vertex). Companion (Then Q v s (Regroup (Swapped i)) k) (rs ▹ v) s.setup c (get_or s.stops k 0)) (sym (companion_at inv.noted h.some g k l m))
        (companion_more rs s.setup (g.f k) v (get_or s.stops k 0) (λ f q. inl (q, (λ d. grind (arith, nat_tests, asked k d), λ u r. r))) (g.each k l m))))
        (cases_Bool (eqb k i))

    -- the reading stands at its place, and the places after it are as they were
    same_after : (j : ℕ) → i + 1 ≤ j → j ≤ s.setup.n → get_or (pack (group_read i v s)).numbers j 0 ≡ get_or s.standing.numbers j 0
    same_after j l m =
        let f : ℕ → Vertex = λ k. cond (eqb k i) v (place s.standing k) in
        let other : eqb j i ≡ false = grind (arith, nat_tests) in
        number_pack (group_read i v s) j ∙ ap number_in (get_or_group (base s) f s.setup.n j (omega arith) m) ∙ rw other refl

    -- it is lower, or the next one is asked, or all are halved
    check_step : Takes Q rs v s (decided (Checking i) s v.cost)
    unfolding decided
    check_step =
        let cost = base_cost Q rs v s inv after live h.some in
        let m = s.setup.n + (i - 1) in
        let fits : m < 2 * s.setup.n = omega (arith, h.low, h.high) in
        let same_gathered : Gathers (rs ▹ v) inv.gs s.gathered = record { are = inv.gathers.are; known = known_more inv.gs rs v inv.gathers.known } in
        cond_both (lower v.cost s) _ _ (Takes Q rs v s)
        (λ e.
        let falls : v.cost < s.best.cost = grind (arith, nat_tests) in
        ends Q rs v s inv after live m turns_check h.some h.told fits (Swapped i) refl (best_falls s.readings v s.best h.some falls) swapped_each)
        (λ e.
        let higher : s.best.cost ≤ v.cost = grind (arith, nat_tests) in
        checks Q rs v s inv after live m turns_check h.some h.told fits higher (i + 1) (Read i) inv.gs (omega arith) (omega (arith, h.low)) same_gathered (stand_read Q rs v s inv after live h.some higher i (λ k f d q. (q, λ e. d (asked k e)))) same_after)

  -- ---- a probe

  module _ (p : ℕ) (now : s.phase ≡ Probing p) (h : AtProbe p s.setup.n s.readings s.counts) where
    -- it is counted apart
    counted_probe : Directed s.setup.n (s.readings + 1) (told_in s.phase s.counts)
    counted_probe = directed_told s.phase 0 s.setup.n s.readings s.counts inv.counts h.some (rw now refl) (rw now refl) h.told (rw now (omega arith))

    still_told : (told_in s.phase s.counts).directed ≤ 2 * s.setup.n * s.counts.patterns
    still_told = rw now (omega (arith, h.told))

    apart_probe : is_open [] (is_probe s.phase + is_directed s.phase) s.readings ≡ false
    apart_probe = rw now refl

    -- the round goes on, or has settled the search
    misses : (next : Phase) → s.best.cost ≤ v.cost → AtMulti next s.setup inv.gs s.standing.numbers (s.readings + 1) (told_in s.phase s.counts) → Takes Q rs v s (Go Nothing next)
    unfolding count_of
    misses next higher here =
        turn Q rs v s inv after live (Go Nothing next) next refl
        (record {
          gs = inv.gs;
          gathers = record { are = inv.gathers.are; known = known_more inv.gs rs v inv.gathers.known };
          grouped = stand_on Q rs v s inv after live h.some higher (λ k f q. inl (q, (λ e. absurd (let other : Probing p ≡ Checking k = sym now ∙ e in cc), λ u r. r)));
          counts = counted_probe;
          phase = here;
          closed = apart_probe;
          alone = refl;
          no_round = λ q. let probe : is_probe s.phase ≡ 1 = rw now refl in absurd (omega arith);
        })

    -- a lower one is the base of new companions; another leads to the next one, or settles the search
    multi_probe_step : Takes Q rs v s (decided (Probing p) s v.cost)
    unfolding decided
    multi_probe_step =
        cond_both (ends_round v.cost s) _ _ (Takes Q rs v s)
        (λ e.
        let falls : v.cost < s.best.cost = grind (arith, nat_tests) in
        subst (λ (m : Method). Takes Q rs v s (restart m)) (sym inv.method) (builds Q rs v s inv after live (best_falls s.readings v s.best h.some falls) counted_probe still_told apart_probe))
        (λ e.
        let higher : s.best.cost ≤ v.cost = grind (arith, nat_tests) in
        cond_both (is_full p s) _ _ (Takes Q rs v s)
        (λ d. misses (Ended Settled) higher tt)
        (λ d. misses (Probing (p + 1)) higher (record { low = grind (arith, nat_tests, h.low); some = omega arith; told = omega (arith, still_told) })))

  -- ---- every phase

  -- the reading goes as the decision of its phase says
  pub turn_step : (p : Phase) → s.phase ≡ p → AtMulti p s.setup inv.gs s.standing.numbers s.readings s.counts → Takes Q rs v s (decided p s v.cost)
  turn_step Basing now h = base_step Q rs v s inv after live now h
  turn_step (Mirroring i) now h = mirror_step Q rs v s inv after live i now h
  turn_step (Checking i) now h = check_step i now h
  turn_step (Probing p) now h = multi_probe_step p now h
  turn_step (Ended cause) now h = absurd (true≢false (rw now at live))
  turn_step p now h = absurd h
