-- What a decision makes of a multidirectional search: companions are built, an iteration goes on, or ends. Assumes nothing.
use Rattle.std.specs.Prelude.{Some}
use mathlib.Core.Path.{◌≡◌, refl, sym, ap, ◌∙◌, subst}
use mathlib.Core.Bool.{Bool, false, cond}
use mathlib.Core.List.Memᴰ
use mathlib.Core.List.{List, [], ◌∷◌, Memᴰ}
use mathlib.Core.Logic.{◌⊎◌, inl, inr}
use Prim.Native.Nat.{ℕ, ◌+◌, ◌-◌, ◌*◌, ◌≤◌, ◌<◌}
use native.Mathlib.Omega.{arith}
use lib.ListN.{get_or}
use lib.Dec.{eqb, leb}
use lib.Ieee.{Float, nan}
use Rattle.std.proofs.lemmas.Bool.Decides.{nat_tests}
use Rattle.std.proofs.lemmas.Bool.{cond_both}
use Rattle.rules.specs.Simplex.{pack, place, cost_of}
use Rattle.rules.specs.View.{view, is_ended, is_probe, is_directed, open_by}
use Rattle.rules.specs.Trial.{made, build_step, axis}
use Rattle.rules.specs.Count.{same, told_in, counted}
use Rattle.rules.specs.Companions.{unread_at, halfway, base, base_after, companion_after, stop_after, group_read, next_unread}
use Rattle.rules.specs.Decide.{f1, checks_from, decided, completed, finished_by}
use Rattle.rules.specs.Accept.{entrant, standing_after, gathered_after, stops_after, tested_phase, is_met, is_spent, spent_phase, counts_after, best_after, acted}
use Rattle.rules.specs.Calls.{standing_of}
use Rattle.rules.specs.Stop.{total}
use Rattle.rules.specs.Tally.{count_of, is_open}
use Rattle.rules.specs.Claims.{Renews}
use Rattle.rules.specs.declared.Method.TheVariants.{NelderMead, Multidirectional}
use Rattle.rules.specs.declared.Vertex.{Vertex}
use Rattle.rules.specs.declared.Counts.{Counts}
use Rattle.rules.specs.declared.Search.{Search}
use Rattle.rules.specs.declared.View.TheVariants.{Turns}
use Rattle.rules.specs.declared.Phase.{Phase}
use Rattle.rules.specs.declared.Phase.TheVariants.{Basing, Mirroring, Checking, Probing}
use Rattle.rules.specs.declared.Piece.{Piece}
use Rattle.rules.specs.declared.Piece.TheVariants.{Pattern}
use Rattle.rules.specs.declared.Change.{Change}
use Rattle.rules.specs.declared.Change.TheVariants.{Built, Halved}
use Rattle.rules.specs.declared.Keeping.{Keeping}
use Rattle.rules.specs.declared.Decision.{Decision}
use Rattle.rules.specs.declared.Decision.TheVariants.{Go, Regroup}
use Rattle.rules.proofs.Laws.Tests.{spent_elim, spent_ends}
use Rattle.rules.proofs.Laws.Grouping.{get_or_stops, found_next}
use Rattle.rules.proofs.Laws.Finishing.{pieces_by}
use Rattle.rules.proofs.Steps.Invariant.{Gathers}
use Rattle.rules.proofs.Steps.Grouped.{Companion, Grouped, Directed, AtMulti, MultiOf, grouped_more}
use Rattle.rules.proofs.Steps.Noting.{◌▹◌, NotedWith, best_mem, known_new, best_stays}
use Rattle.rules.proofs.Steps.Counting.{counted_by, told_count}
use Rattle.rules.proofs.Steps.Stepping.{NoRound, TakesReading, others_in}
use Rattle.rules.proofs.Steps.Standing.{directed_told, directed_counted, companion_more, none_stands, base_at, companion_at}

-- companion i is not the one that is read, and the decision d does not make it anew
abbrev pub Left : Vertex → Search → Decision → ℕ → Type 0
Left v s d i = (s.phase ≡ Checking i → ⊥) × ((f : ℕ → Float) → Renews d v s i f → ⊥)

-- the numbers of which companions may be made then: those of before, where they are left so, and those that the decision makes them of
abbrev pub Then : (ℕ → (ℕ → Float) → Type 0) → Vertex → Search → Decision → ℕ → (ℕ → Float) → Type 0
Then Q v s d i f = (Q i f × Left v s d i) ⊎ Renews d v s i f

-- the reading v is taken as the decision d says
abbrev pub Takes : (ℕ → (ℕ → Float) → Type 0) → List Vertex → Vertex → Search → Decision → Type 0
Takes Q rs v s d = TakesReading (MultiOf (Then Q v s d)) (rs ▹ v) (pieces_by d) (is_probe s.phase) (is_directed s.phase) s (acted d v s)

module _ (Q : ℕ → (ℕ → Float) → Type 0) (rs : List Vertex) (v : Vertex) (s : Search) (inv : MultiOf Q rs s) (after : NotedWith v rs s) (live : is_ended s.phase ≡ false) where
  -- ---- any decision

  -- the parts that the decision d leaves, each with its fact: next is the phase but for the budget
  pub record Leaves (d : Decision) (next : Phase) : Type 0 where
    pub gs : List Vertex
    pub gathers : Gathers (rs ▹ v) gs (gathered_after d (entrant d v s) s)
    pub grouped : Grouped (Then Q v s d) (rs ▹ v) s.setup (best_after s.readings v s.best) (stops_after d (entrant d v s) s) (standing_after d (entrant d v s) s)
    pub counts : Directed s.setup.n (s.readings + 1) (counts_after d s)
    pub phase : AtMulti next s.setup gs (standing_after d (entrant d v s) s).numbers (s.readings + 1) (counts_after d s)
    pub closed : is_open (pieces_by d) (is_probe s.phase + is_directed s.phase) s.readings ≡ false
    pub alone : others_in (pieces_by d) ≡ 0
    pub no_round : is_probe s.phase ≡ 0 → NoRound next

  -- they make the step; the budget is tested here and nowhere else
  pub turn : (d : Decision) (next : Phase) → (acted d v s).phase ≡ spent_phase (is_spent s) next → Leaves d next → Takes Q rs v s d
  unfolding total
  turn d next e h =
      let c = counts_after d s in
      let u = acted d v s in
      let P : Phase → Type 0 = λ p. AtMulti p s.setup h.gs u.standing.numbers (s.readings + 1) c in
      let none : standing_of u ≡ [] = none_stands u inv.method in
      record {
        inv =
            record {
              method = inv.method;
              rule = inv.rule;
              gs = h.gs;
              noted = after;
              gathers = h.gathers;
              blank = λ q. absurd (omega arith);
              grouped = λ l. h.grouped;
              counts = h.counts;
              phase = rw e (spent_elim P (is_spent s) next (λ q l. grind (arith, nat_tests)) h.phase);
            };
        below = rw e (λ l. grind (arith, nat_tests, spent_ends (is_spent s) next l, after.below));
        kept = refl;
        method = refl;
        counts = counted_by (finished_by d) s.phase s.counts;
        unfinished = h.counts.none_open ∙ rw h.closed refl;
        falls = λ a b. rw (none, h.alone) (omega arith);
        first = λ m l. absurd (let other : NelderMead ≡ Multidirectional = sym m ∙ inv.method in cc);
        base = λ m l. base_at after (omega arith) h.grouped;
        no_round = λ q. rw e (spent_elim NoRound (is_spent s) next (λ b l. tt) (h.no_round q));
      }

  -- ---- base and companions stand anew

  -- companions as a change makes them, around the best
  regrouped : (c : Change) → best_after s.readings v s.best ≡ base_after c v s
      → ((i : ℕ) → 1 ≤ i → i ≤ s.setup.n → Companion (Then Q v s (Regroup c) i) (rs ▹ v) s.setup (companion_after c v s i) (stop_after c v s i))
      → Grouped (Then Q v s (Regroup c)) (rs ▹ v) s.setup (best_after s.readings v s.best) (stops_after (Regroup c) v s) (standing_after (Regroup c) v s)
  regrouped c e each =
      record {
        f = companion_after c v s;
        are = rw e refl;
        each = λ i l h. subst (λ (k : ℕ). Companion (Then Q v s (Regroup c) i) (rs ▹ v) s.setup (companion_after c v s i) k) (sym (get_or_stops (stop_after c v s) s.setup.n i l h)) (each i l h);
      }

  -- nothing is gathered then
  none_gathered : Gathers (rs ▹ v) [] (pack [])
  none_gathered = record { are = refl; known = λ w m. absurd (Memᴰ.not-nil m) }

  -- a companion that is made is unread
  pub is_unread : {P : (ℕ → Float) → Type 0} (f : ℕ → Float) → P f → Companion P (rs ▹ v) s.setup (unread_at (made s.setup s.setup.n f)) (made s.setup s.setup.n f).stops
  is_unread f o = inr (record { f = f; origin = o; are = refl; count = refl })

  -- the phase after it opens an iteration, or a probe round
  opened : (met : Bool) → spent_phase (is_spent s) (tested_phase met s.method) ≡ spent_phase (is_spent s) (cond met (Probing 0) (Mirroring 1))
  opened met = rw inv.method refl

  -- companions are built around the reading, which is the best
  pub builds : best_after s.readings v s.best ≡ v → Directed s.setup.n (s.readings + 1) (told_in s.phase s.counts)
      → (told_in s.phase s.counts).directed ≤ 2 * s.setup.n * s.counts.patterns → is_open [] (is_probe s.phase + is_directed s.phase) s.readings ≡ false
      → Takes Q rs v s (Regroup Built)
  unfolding count_of
  builds e counts few closed =
      turn (Regroup Built) (Mirroring 1) (opened false)
      (record {
        gs = [];
        gathers = none_gathered;
        grouped = regrouped Built e (λ i l h. is_unread (λ (a : ℕ). build_step (axis s.setup a) (get_or v.point a nan) i a) (inr (λ a. refl)));
        counts = counts;
        phase = record { low = omega arith; high = after.sane.at_least; many = refl; some = omega arith; told = omega arith };
        closed = closed;
        alone = refl;
        no_round = λ q. tt;
      })

  -- a reading of an iteration, of which m readings were told before
  module _ (m : ℕ) (turns : view s.phase ≡ Turns) (some : 1 ≤ s.readings) (told : s.counts.directed ≤ 2 * s.setup.n * s.counts.patterns + m) (fits : m < 2 * s.setup.n) where
    no_probe : is_probe s.phase ≡ 0
    no_probe = rw (turns, is_probe) refl

    pub one : is_directed s.phase ≡ 1
    one = rw (turns, is_directed) refl

    none_open : open_by s.phase ≡ 0
    none_open = rw (turns, open_by) refl

    -- it is counted apart
    counted_one : Directed s.setup.n (s.readings + 1) (told_in s.phase s.counts)
    counted_one = directed_told s.phase m s.setup.n s.readings s.counts inv.counts some (omega (arith, no_probe, one)) none_open told (omega (arith, one))

    -- and not as open
    apart : (ps : List Piece) → is_open ps (is_probe s.phase + is_directed s.phase) s.readings ≡ false
    apart ps = rw (no_probe, one) (grind (arith, nat_tests))

    -- it goes on
    pub goes_on : (keeping : Keeping) (next : Phase) (gs : List Vertex)
        → Gathers (rs ▹ v) gs (gathered_after (Go keeping next) v s)
        → Grouped (Then Q v s (Go keeping next)) (rs ▹ v) s.setup (best_after s.readings v s.best) s.stops (standing_after (Go keeping next) v s)
        → AtMulti next s.setup gs (standing_after (Go keeping next) v s).numbers (s.readings + 1) (told_in s.phase s.counts) → NoRound next
        → Takes Q rs v s (Go keeping next)
    unfolding count_of
    goes_on keeping next gs gathers grouped here none =
        turn (Go keeping next) next refl
        (record { gs = gs; gathers = gathers; grouped = grouped; counts = counted_one; phase = here; closed = apart []; alone = refl; no_round = λ q. none })

    -- it ends, as this change has it
    pub ends : (c : Change) → completed c ≡ Some Pattern → best_after s.readings v s.best ≡ base_after c v s
        → ((i : ℕ) → 1 ≤ i → i ≤ s.setup.n → Companion (Then Q v s (Regroup c) i) (rs ▹ v) s.setup (companion_after c v s i) (stop_after c v s i))
        → Takes Q rs v s (Regroup c)
    unfolding count_of
    ends c e best each =
        let met = is_met (Regroup c) v s in
        let counts : Counts = counted Pattern (told_in s.phase s.counts) in
        let counted : Directed s.setup.n (s.readings + 1) counts =
        directed_counted s.setup.n (s.readings + 1) (told_in s.phase s.counts) counted_one (omega (arith, inv.counts.some, one)) in
        let same_counts : counts_after (Regroup c) s ≡ counts = rw e refl in
        let few : counts.directed ≤ 2 * s.setup.n * counts.patterns = omega (arith, one) in
        let numbers = (standing_after (Regroup c) v s).numbers in
        turn (Regroup c) (cond met (Probing 0) (Mirroring 1)) (opened met)
        (record {
          gs = [];
          gathers = none_gathered;
          grouped = regrouped c best each;
          counts = rw same_counts counted;
          phase =
              subst (λ (k : Counts). AtMulti (cond met (Probing 0) (Mirroring 1)) s.setup [] numbers (s.readings + 1) k) (sym same_counts)
              (cond_both met _ _ (λ (q : Phase). AtMulti q s.setup [] numbers (s.readings + 1) counts)
              (λ a. record { low = omega (arith, after.sane.at_least); some = omega arith; told = omega arith })
              (λ a. record { low = omega arith; high = after.sane.at_least; many = refl; some = omega arith; told = omega arith }));
          closed = apart _;
          alone = rw e refl;
          no_round = λ q. cond_both met _ _ NoRound (λ a. tt) (λ a. tt);
        })

  -- ---- the base

  -- the first reading of all is the base
  pub base_step : s.phase ≡ Basing → s.readings ≡ 0 → Takes Q rs v s (decided Basing s v.cost)
  unfolding decided
  base_step now first =
      let h = inv.counts in
      let counts : Directed s.setup.n (s.readings + 1) (told_in s.phase s.counts) =
      record {
        none = λ q e. told_count s.phase s.counts q ∙ h.none q e;
        none_open = rw now (omega (arith, h.none_open));
        equation = rw now (omega (arith, h.equation));
        some = rw now (omega (arith, h.some));
        few = rw now (omega (arith, h.few));
      } in
      builds (rw first refl) counts (rw now (omega (arith, h.equation))) (rw (now, first) refl)

  -- ---- a companion is asked next, or all are halved

  -- the base and the companions, where the reading is not lower
  module _ (some : 1 ≤ s.readings) (higher : s.best.cost ≤ v.cost) where
    stays : best_after s.readings v s.best ≡ s.best
    stays = best_stays s.readings v s.best some higher

    -- as they stood
    pub stand_on : {P : ℕ → (ℕ → Float) → Type 0} → ((i : ℕ) (f : ℕ → Float) → Q i f → P i f) → Grouped P (rs ▹ v) s.setup (best_after s.readings v s.best) s.stops s.standing
    stand_on more =
        let g = inv.grouped some in
        rw stays (record { f = g.f; are = g.are; each = λ i l h. companion_more rs s.setup (g.f i) v (get_or s.stops i 0) (more i) (g.each i l h) })

    -- with companion i read
    pub stand_read : {P : ℕ → (ℕ → Float) → Type 0} → (i : ℕ) → ((k : ℕ) (f : ℕ → Float) → (i ≡ k → ⊥) → Q k f → P k f)
        → Grouped P (rs ▹ v) s.setup (best_after s.readings v s.best) s.stops (pack (group_read i v s))
    stand_read {P} i more =
        let g = inv.grouped some in
        let first = base_at inv.noted some g in
        let f : ℕ → Vertex = λ k. cond (eqb k i) v (place s.standing k) in
        let each : (k : ℕ) → 1 ≤ k → k ≤ s.setup.n → Companion (P k) (rs ▹ v) s.setup (f k) (get_or s.stops k 0) =
        λ k l h.
        cond_both (eqb k i) v (place s.standing k) (λ (c : Vertex). Companion (P k) (rs ▹ v) s.setup c (get_or s.stops k 0))
        (λ e. inl (known_new rs v))
        (λ e.
        subst (λ (c : Vertex). Companion (P k) (rs ▹ v) s.setup c (get_or s.stops k 0)) (sym (companion_at inv.noted some g k l h))
        (companion_more rs s.setup (g.f k) v (get_or s.stops k 0) (λ u q. more k u (λ d. grind (arith, nat_tests)) q) (g.each k l h))) in
        rw (stays, first) (record { f = f; are = refl; each = each })

  -- m readings of this iteration were told before, and none of them and not this one was lower
  module _ (m : ℕ) (turns : view s.phase ≡ Turns) (some : 1 ≤ s.readings) (told : s.counts.directed ≤ 2 * s.setup.n * s.counts.patterns + m) (fits : m < 2 * s.setup.n) (higher : s.best.cost ≤ v.cost) where
    -- the companions are halved
    halves : Takes Q rs v s (Regroup Halved)
    halves =
        ends m turns some told fits Halved refl
        (stays some higher ∙ sym (base_at inv.noted some (inv.grouped some)))
        (λ i l h. is_unread (halfway s.standing.points i) (inr (λ a. refl)))

    -- the first unread companion from the i-th on is asked, i readings of companions being told at most. What is kept does not go by the phase that
    -- follows, so Basing stands for it
    pub checks : (i : ℕ) (keeping : Keeping) (gs : List Vertex) → 1 ≤ i → m + 1 ≤ s.setup.n + (i - 1)
        → Gathers (rs ▹ v) gs (gathered_after (Go keeping Basing) v s)
        → Grouped (λ k f. Q k f × (s.phase ≡ Checking k → ⊥)) (rs ▹ v) s.setup (best_after s.readings v s.best) s.stops (standing_after (Go keeping Basing) v s)
        → ((j : ℕ) → i ≤ j → j ≤ s.setup.n → get_or (standing_after (Go keeping Basing) v s).numbers j 0 ≡ get_or s.standing.numbers j 0)
        → Takes Q rs v s (checks_from i keeping s)
    checks i keeping gs low fit gathers grouped same =
        let j = next_unread s.setup.n s.standing.numbers i in
        let r = found_next s.setup.n i s.standing.numbers in
        cond_both (leb j s.setup.n) _ _ (Takes Q rs v s)
        (λ e.
        let high : j ≤ s.setup.n = grind (arith, nat_tests) in
        goes_on m turns some told fits keeping (Checking j) gs gathers (grouped_more (rs ▹ v) s.setup (best_after s.readings v s.best) s.stops (standing_after (Go keeping Basing) v s) (λ k f q. inl (q.0, (q.1, λ u r. r))) grouped)
        (record { low = omega (arith, r.from); high = high; unread = same j r.from high ∙ r.unread (omega arith); some = omega arith; told = omega (arith, r.from, one m turns some told fits) }) tt)
        (λ e. halves)

  -- the base's cost is the best
  pub base_cost : 1 ≤ s.readings → f1 s ≡ s.best.cost
  base_cost some = ap cost_of (base_at inv.noted some (inv.grouped some))

  -- the base is one of the readings
  pub base_read : (some : 1 ≤ s.readings) → Memᴰ (base s) (rs ▹ v)
  base_read some = Memᴰ.append_left (v ∷ []) (Memᴰ.cast (base_at inv.noted some (inv.grouped some)) (best_mem rs s.best (inv.noted.least some)))
