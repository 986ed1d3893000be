-- What one accepted reading does, by its decision. Assumes nothing.
use mathlib.Core.Path.{◌≡◌, refl, sym, ◌∙◌}
use mathlib.Core.Bool.{Bool, false, cond}
use mathlib.Core.List.Memᴰ
use mathlib.Core.List.{List, [], ◌∷◌, map}
use Prim.Native.Nat.{ℕ, zero, suc, ◌+◌, ◌≤◌, ◌<◌}
use native.Mathlib.Omega.{arith}
use lib.ListN.{length, get_or, take}
use Rattle.std.proofs.lemmas.Bool.Decides.{nat_tests}
use Rattle.std.proofs.lemmas.Bool.{cond_both}
use Rattle.rules.specs.Simplex.{blank, pack, place, unpack, cost_of, Ordered}
use Rattle.rules.specs.View.{is_ended, gathered_in, is_probe, is_directed}
use Rattle.rules.specs.Count.{same, told_in, counted}
use Rattle.rules.specs.Stop.{total}
use Rattle.rules.specs.Decide.{finished_by}
use Rattle.rules.specs.Accept.{entrant, gathered_of, replaced, joined, standing_after, gathered_after, tested_phase, is_spent, spent_phase, counts_after, best_after, acted}
use Rattle.rules.specs.Calls.{standing_in, standing_of}
use Rattle.rules.specs.Tally.{count_of, is_open}
use Rattle.rules.specs.declared.Method.{Method}
use Rattle.rules.specs.declared.Method.TheVariants.{NelderMead, Multidirectional}
use Rattle.rules.specs.declared.Vertex.{Vertex}
use Rattle.rules.specs.declared.Simplex.{Simplex}
use Rattle.rules.specs.declared.Counts.{Counts}
use Rattle.rules.specs.declared.Setup.{Setup}
use Rattle.rules.specs.declared.Search.{Search}
use Rattle.rules.specs.declared.Phase.{Phase}
use Rattle.rules.specs.declared.Phase.TheVariants.{Building, Reflecting, Expanding, Contracting, Shrinking, Probing, Ended}
use Rattle.rules.specs.declared.Cause.TheVariants.{Settled}
use Rattle.rules.specs.declared.Piece.{Piece}
use Rattle.rules.specs.declared.Piece.TheVariants.{Build, Reflection, Expansion, Contraction, Shrink, Pattern}
use Rattle.rules.specs.declared.Newcomer.{Newcomer}
use Rattle.rules.specs.declared.Decision.{Decision}
use Rattle.rules.specs.declared.Decision.TheVariants.{Take, Stand}
use Rattle.rules.proofs.Laws.Tests.{spent_elim, spent_ends}
use Rattle.rules.proofs.Laws.Lists.{mem_get_or}
use Rattle.rules.proofs.Laws.Places.{Whole, unpack_take, unpack_pack, number_pack}
use Rattle.rules.proofs.Laws.Finishing.{pieces_by}
use Rattle.rules.proofs.Steps.Invariant.{Known, Leads, Noted, Stands, Gathers, Equation, Undirected, Idle, At, Inv}
use Rattle.rules.proofs.Steps.Noting.{◌▹◌, NotedWith}
use Rattle.rules.proofs.Steps.Counting.{Counted, counted_by, readings_in, closes, equation_told, undirected_told}

-- ---- one reading

-- the sum of the standing costs
abbrev pub standing_costs : Search → ℕ
standing_costs s = total (map cost_of (standing_of s))

-- the other iterations among the pieces
abbrev pub others_in : List Piece → ℕ
others_in ps = count_of Reflection ps + count_of Expansion ps + count_of Contraction ps

-- a phase that does not go on from a probe: no round is under way, and none has settled the search
abbrev pub NoRound : Phase → Type 0
NoRound (Probing (suc p)) = ⊥
NoRound (Ended Settled) = ⊥
NoRound p = Unit {0}

-- a search that has not ended has readings left
abbrev pub BelowBudget : Search → Type 0
BelowBudget s = is_ended s.phase ≡ false → s.readings < s.setup.budget

-- s takes a reading and becomes u: I is the invariant, rs are its readings then, ps the pieces finished, probe and direct tell whether it was a
-- probe or told in a multidirectional iteration
pub record TakesReading (I : List Vertex → Search → Type 0) (rs : List Vertex) (ps : List Piece) (probe direct : ℕ) (s u : Search) : Type 0 where
  pub inv : I rs u
  pub below : BelowBudget u
  pub kept : u.setup ≡ s.setup
  pub method : u.method ≡ s.method
  pub counts : Counted ps probe direct s.counts u.counts
  pub unfinished : u.counts.unfinished ≡ cond (is_open ps (probe + direct) s.readings) (s.counts.unfinished + 1) 0
  pub falls : count_of Build ps ≡ 0 → count_of Shrink ps ≡ 0 → others_in ps + standing_costs u ≤ standing_costs s
  pub first : s.method ≡ NelderMead → (ps ≡ [] → ⊥) → Leads (standing_of u) u.best
  pub base : s.method ≡ Multidirectional → (ps ≡ [] → ⊥) → place u.standing 0 ≡ u.best
  pub no_round : probe ≡ 0 → NoRound u.phase

-- the reading v is taken as the decision d says
abbrev pub Goes : List Vertex → Vertex → Search → Decision → Type 0
Goes rs v s d = TakesReading Inv (rs ▹ v) (pieces_by d) (is_probe s.phase) (is_directed s.phase) s (acted d v s)

-- it is taken in an invariant that says less
pub takes_more : {I J : List Vertex → Search → Type 0} (rs : List Vertex) (ps : List Piece) (probe direct : ℕ) (s u : Search) → (I rs u → J rs u)
    → TakesReading I rs ps probe direct s u → TakesReading J rs ps probe direct s u
takes_more rs ps probe direct s u h g =
    record {
      inv = h g.inv;
      below = g.below;
      kept = g.kept;
      method = g.method;
      counts = g.counts;
      unfinished = g.unfinished;
      falls = g.falls;
      first = g.first;
      base = g.base;
      no_round = g.no_round;
    }

-- ---- the places hold the vertices that the invariant names

module _ {rs vs : List Vertex} {t : Setup} where
  -- vertices that were read have points of eight numbers
  pub whole : {k : ℕ} {b : Vertex} → Noted rs t k b → Known vs rs → Whole vs
  whole h g v m = (h.shapes v (g v m)).eight

  -- they are found again in their places
  pub places_are : {k : ℕ} {b : Vertex} {places : Simplex} (i : ℕ) → Noted rs t k b → Known vs rs → places ≡ pack vs → length vs ≡ i → unpack i places ≡ vs
  places_are i h g e l = rw (e, ← l) (unpack_pack vs (whole h g))

  -- the first of vertices that were read, if there is one, has a number
  first_numbered : {k : ℕ} {b : Vertex} → Noted rs t k b → Known vs rs → 1 ≤ length vs → 1 ≤ (get_or vs 0 blank).number
  first_numbered h g l = (h.shapes _ (g _ (mem_get_or vs 0 blank l))).numbered

  -- as many stand as the rules say
  pub standing_many : {k : ℕ} {b : Vertex} {builds : ℕ} {standing : Simplex} → Noted rs t k b → Stands rs vs t builds standing → length vs ≡ standing_in NelderMead t.n standing
  standing_many {builds = zero} {standing} h g =
      let empty = g.none refl in
      let number : get_or standing.numbers 0 0 ≡ 0 = rw (g.are, empty) (number_pack [] 0) in
      rw (empty, number)
  standing_many {builds = suc m} {standing} h g =
      let all = g.all (omega arith) in
      let number : get_or standing.numbers 0 0 ≡ (get_or vs 0 blank).number = rw g.are (number_pack vs 0) in
      grind (arith, nat_tests, first_numbered h g.known (omega arith))

  standing_are : {k : ℕ} {b : Vertex} {builds : ℕ} {standing : Simplex} → (m : Method) → m ≡ NelderMead → Noted rs t k b → Stands rs vs t builds standing
      → unpack (standing_in m t.n standing) standing ≡ vs
  standing_are {standing = standing} m e h g = rw e (places_are (standing_in NelderMead t.n standing) h g.known g.are (standing_many h g))

-- so the standing simplex is the list that the invariant names
pub standing_list : (rs : List Vertex) (s : Search) (inv : Inv rs s) → standing_of s ≡ inv.vs
standing_list rs s inv = standing_are s.method inv.method inv.noted inv.stands

-- no fewer are gathered than the phase says
gathered_enough : (p : Phase) (t : Setup) (vs gs : List Vertex) (k : ℕ) (c : Counts) (b : Vertex) → At p t vs gs k c b → gathered_in p ≤ length gs
gathered_enough (Building i) t vs gs k c b h = omega (arith, h.many)
gathered_enough Expanding t vs gs k c b h = rw h.1.holds (omega arith)
gathered_enough (Contracting side) t vs gs k c b h = rw h.1.holds (omega arith)
gathered_enough (Shrinking j) t vs gs k c b h = omega (arith, h.many)
gathered_enough p t vs gs k c b h = omega arith

-- so those that it counts are the first of the gathered ones that the invariant names
pub gathered_list : (rs : List Vertex) (s : Search) (inv : Inv rs s) → gathered_of s ≡ take (gathered_in s.phase) inv.gs
gathered_list rs s inv =
    let enough = gathered_enough s.phase s.setup inv.vs inv.gs s.readings s.counts s.best inv.phase in
    rw inv.gathers.are (unpack_take (gathered_in s.phase) inv.gs (whole inv.noted inv.gathers.known) enough)

-- ---- any decision

-- the parts that a decision leaves, each with its fact: next is the phase but for the budget, ps are the pieces that it finishes
pub record Parts (rs : List Vertex) (v : Vertex) (s : Search) (standing gathered : Simplex) (next : Phase) (c : Counts) (ps : List Piece) : Type 0 where
  pub vs : List Vertex
  pub gs : List Vertex
  pub stands : Stands (rs ▹ v) vs s.setup c.builds standing
  pub gathers : Gathers (rs ▹ v) gs gathered
  pub equation : Equation s.setup.n (s.readings + 1) c
  pub undirected : Undirected c
  pub phase : At next s.setup vs gs (s.readings + 1) c (best_after s.readings v s.best)
  pub unfinished : c.unfinished ≡ cond (is_open ps (is_probe s.phase + is_directed s.phase) s.readings) (s.counts.unfinished + 1) 0
  pub falls : count_of Build ps ≡ 0 → count_of Shrink ps ≡ 0 → others_in ps + total (map cost_of vs) ≤ standing_costs s
  pub first : (ps ≡ [] → ⊥) → Leads vs (best_after s.readings v s.best)
  pub no_round : is_probe s.phase ≡ 0 → NoRound next

-- the parts of the decision d
abbrev pub PartsOf : List Vertex → Vertex → Search → Decision → Phase → Type 0
PartsOf rs v s d next = let u = entrant d v s in Parts rs v s (standing_after d u s) (gathered_after d u s) next (counts_after d s) (pieces_by d)

-- they make the step; the budget is tested here and nowhere else
pub step : (rs : List Vertex) (v : Vertex) (s : Search) (d : Decision) (next : Phase) → s.method ≡ NelderMead → (acted d v s).phase ≡ spent_phase (is_spent s) next
    → NotedWith v rs s → PartsOf rs v s d next → Goes rs v s d
step rs v s d next nm e after h =
    let c = counts_after d s in
    let u = entrant d v s in
    let best = best_after s.readings v s.best in
    let are = standing_are s.method nm after h.stands in
    let P : Phase → Type 0 = λ p. At p s.setup h.vs h.gs (s.readings + 1) c best in
    record {
      inv =
          record {
            method = nm;
            vs = h.vs;
            gs = h.gs;
            noted = after;
            stands = h.stands;
            gathers = h.gathers;
            equation = h.equation;
            undirected = h.undirected;
            phase = rw e (spent_elim P (is_spent s) next (λ q l. grind (arith, nat_tests)) h.phase);
          };
      below = rw e (λ l. grind (arith, nat_tests, spent_ends (is_spent s) next l, after.below));
      kept = refl;
      method = refl;
      counts = counted_by (finished_by d) s.phase s.counts;
      unfinished = h.unfinished;
      falls = λ a b. rw are (h.falls a b);
      first = λ m l. rw are (h.first l);
      base = λ m l. absurd (let other : NelderMead ≡ Multidirectional = sym nm ∙ m in cc);
      no_round = λ q. rw e (spent_elim NoRound (is_spent s) next (λ b l. tt) (h.no_round q));
    }

-- ---- the end of a piece: Take and Stand

-- the vertices vs stand, and the readings of the piece p are told
pub record Ending (rs : List Vertex) (v : Vertex) (s : Search) (p : Piece) (vs : List Vertex) : Type 0 where
  pub many : length vs ≡ s.setup.n + 1
  pub sorted : Ordered vs
  pub known : Known vs (rs ▹ v)
  pub leads : Leads vs (best_after s.readings v s.best)
  pub unfinished : (told_in s.phase s.counts).unfinished ≡ readings_in s.setup.n p
  pub stood : 1 ≤ (counted p (told_in s.phase s.counts)).builds
  pub falls : count_of Build (p ∷ []) ≡ 0 → count_of Shrink (p ∷ []) ≡ 0 → others_in (p ∷ []) + total (map cost_of vs) ≤ standing_costs s
  pub of_simplex : same Pattern p ≡ false

module _ (rs : List Vertex) (v : Vertex) (s : Search) (inv : Inv rs s) (after : NotedWith v rs s) (live : is_ended s.phase ≡ false) (p : Piece) where
  -- whether the rule is met or not
  -- the phase after it opens an iteration of Nelder-Mead, or a probe round
  opened : (met : Bool) → spent_phase (is_spent s) (tested_phase met s.method) ≡ spent_phase (is_spent s) (cond met (Probing 0) Reflecting)
  opened met = rw inv.method refl

  finish : (vs : List Vertex) (met : Bool) → Ending rs v s p vs
      → Parts rs v s (pack vs) (pack []) (cond met (Probing 0) Reflecting) (counted p (told_in s.phase s.counts)) (p ∷ [])
  finish vs met h =
      let c = counted p (told_in s.phase s.counts) in
      let best = best_after s.readings v s.best in
      let none = undirected_told rs s inv live in
      let idle : Idle 0 (s.readings + 1) c = record { stood = h.stood; some = omega arith; unfinished = refl } in
      record {
        vs = vs;
        gs = [];
        stands = record { are = refl; none = λ e. absurd (omega (arith, h.stood)); all = λ l. h.many; sorted = h.sorted; known = h.known };
        gathers = record { are = refl; known = λ w m. absurd (Memᴰ.not-nil m) };
        equation = closes p s.setup.n (s.readings + 1) (told_in s.phase s.counts) (equation_told rs s inv live) h.unfinished;
        undirected = record { patterns = rw h.of_simplex none.patterns; directed = none.directed };
        phase = cond_both met _ _ (λ (q : Phase). At q s.setup vs [] (s.readings + 1) c best) (λ e. (idle, h.leads, omega (arith, after.sane.at_least))) (λ e. (idle, h.leads));
        unfinished = refl;
        falls = h.falls;
        first = λ l. h.leads;
        no_round = λ e. cond_both met _ _ NoRound (λ e. tt) (λ e. tt);
      }

  -- the newcomer replaces w
  pub take_step : (who : Newcomer) → Ending rs v s p (replaced (entrant (Take p who) v s) s) → Goes rs v s (Take p who)
  take_step who h = step rs v s (Take p who) (cond _ (Probing 0) Reflecting) inv.method (opened _) after (finish _ _ h)

  -- the gathered vertices stand, the trial among them
  pub stand_step : Ending rs v s p (joined v s) → Goes rs v s (Stand p)
  stand_step h = step rs v s (Stand p) (cond _ (Probing 0) Reflecting) inv.method (opened _) after (finish _ _ h)
