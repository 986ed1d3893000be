-- The rules over a whole history: the invariant, the counts and the falling sum. Assumes nothing.
use Rattle.std.specs.Prelude.{Option}
use mathlib.Core.Path.{◌≡◌, refl, ap, ◌∙◌, subst}
use mathlib.Core.Bool.{true}
use mathlib.Core.Logic.{◌⊎◌, inl, inr, ⊎_elim}
use lib.Ieee.{Float}
use mathlib.Core.List.Memᴰ
use mathlib.Core.List.{List, [], ◌∷◌, ◌++◌, append_assoc, append-nil}
use Prim.Native.Nat.{ℕ, ◌+◌, ◌≤◌}
use native.Mathlib.Omega.{arith}
use Rattle.rules.specs.Simplex.{blank, pack, Ordered}
use Rattle.rules.specs.Stop.{suits}
use Rattle.rules.specs.Opening.{rule_of, fresh}
use Rattle.rules.specs.Accept.{accept}
use Rattle.rules.specs.History.{Event, told, step, run}
use Rattle.rules.specs.Claims.{Untouched, MadeAt}
use Rattle.rules.specs.Tally.{finishes, pieces, count_of, probe_by, probes_in, direct_by, directed_in, open_in}
use Rattle.rules.specs.declared.Rule.{Rule}
use Rattle.rules.specs.declared.Method.{Method}
use Rattle.rules.specs.declared.Method.TheVariants.{NelderMead, Multidirectional}
use Rattle.rules.specs.declared.Axis.{Axis}
use Rattle.rules.specs.declared.Coefficients.{Coefficients}
use Rattle.rules.specs.declared.Counts.{Counts}
use Rattle.rules.specs.declared.Vertex.{Vertex}
use Rattle.rules.specs.declared.Setup.{Setup}
use Rattle.rules.specs.declared.Search.{Search}
use Rattle.rules.specs.declared.Piece.{Piece}
use Rattle.rules.specs.declared.Piece.TheVariants.{Build, Shrink}
use Rattle.rules.proofs.Laws.Openings.{Sane}
use Rattle.rules.proofs.Laws.Histories.{read_by, readings_of, Joined, count_of_append}
use Rattle.rules.proofs.Steps.Invariant.{Noted, Gathers, Inv}
use Rattle.rules.proofs.Steps.Grouped.{NoneYet, MultiOf, AnyOf, Any, any_more}
use Rattle.rules.proofs.Steps.Counting.{Counted, count_by}
use Rattle.rules.proofs.Steps.Stepping.{BelowBudget, TakesReading, others_in, standing_costs}
use Rattle.rules.proofs.Steps.Accepting.{NewBy, LeftBy, event_step_of, event_step}

-- ---- counts of one list of pieces after another

counted_none : (c : Counts) → Counted [] 0 0 c c
unfolding count_of
counted_none c = record { pieces = λ p. omega arith; probes = omega arith; directed = omega arith }

counted_append : (ps qs : List Piece) (k l i j : ℕ) (c d e : Counts) → Counted ps k i c d → Counted qs l j d e → Counted (ps ++ qs) (k + l) (i + j) c e
counted_append ps qs k l i j c d e h g =
    record {
      pieces = λ p. omega (arith, count_of_append p ps qs, h.pieces p, g.pieces p);
      probes = omega (arith, h.probes, g.probes);
      directed = omega (arith, h.directed, g.directed);
    }

-- ---- the run

-- s takes the events of h, one after the other; rs are its readings before
pub record Ran (rs : List Vertex) (s : Search) (h : List Event) : Type 0 where
  pub inv : Any (rs ++ readings_of s h) (run s h)
  pub below : BelowBudget (run s h)
  pub kept : (run s h).setup ≡ s.setup
  pub method : (run s h).method ≡ s.method
  pub counts : Counted (pieces s h) (probes_in s h) (directed_in s h) s.counts (run s h).counts
  pub unfinished : (run s h).counts.unfinished ≡ open_in s.counts.unfinished s h
  pub falls : count_of Build (pieces s h) ≡ 0 → count_of Shrink (pieces s h) ≡ 0 → others_in (pieces s h) + standing_costs (run s h) ≤ standing_costs s

ran_none : (rs : List Vertex) (s : Search) → Any rs s → BelowBudget s → Ran rs s []
unfolding run readings_of pieces probes_in directed_in open_in count_of
ran_none rs s inv below = record { inv = rw append-nil inv; below = below; kept = refl; method = refl; counts = counted_none s.counts; unfinished = refl; falls = λ a b. omega arith }

-- the sum falls over one list of pieces after another
falls_append : (ps qs : List Piece) (a b c : ℕ)
    → (count_of Build ps ≡ 0 → count_of Shrink ps ≡ 0 → others_in ps + b ≤ a) → (count_of Build qs ≡ 0 → count_of Shrink qs ≡ 0 → others_in qs + c ≤ b)
    → count_of Build (ps ++ qs) ≡ 0 → count_of Shrink (ps ++ qs) ≡ 0 → others_in (ps ++ qs) + c ≤ a
falls_append ps qs a b c h g x y = grind (arith, count_of_append, h, g, x, y)

ran_more : (rs : List Vertex) (s : Search) (e : Event) (h : List Event) → TakesReading Any (rs ++ read_by s e) (finishes s e) (probe_by s e) (direct_by s e) s (step s e)
    → Ran (rs ++ read_by s e) (step s e) h → Ran rs s (e ∷ h)
unfolding run readings_of pieces probes_in directed_in open_in
ran_more rs s e h g r =
    let ps = finishes s e in
    let u = step s e in
    record {
      inv = rw append_assoc at r.inv;
      below = r.below;
      kept = r.kept ∙ g.kept;
      method = r.method ∙ g.method;
      counts = counted_append ps (pieces u h) (probe_by s e) (probes_in u h) (direct_by s e) (directed_in u h) s.counts u.counts (run u h).counts g.counts r.counts;
      unfinished = r.unfinished ∙ ap (λ (k : ℕ). open_in k u h) g.unfinished;
      falls = falls_append ps (pieces u h) (standing_costs s) (standing_costs u) (standing_costs (run u h)) g.falls r.falls;
    }

pub ran : (rs : List Vertex) (s : Search) → Any rs s → BelowBudget s → (h : List Event) → Joined s h → Ran rs s h
unfolding Joined
ran rs s inv below [] t = ran_none rs s inv below
ran rs s inv below (e ∷ h) t =
    let g = event_step rs s inv below e t.0 in
    ran_more rs s e h g (ran (rs ++ read_by s e) (step s e) g.inv g.below h t.1)

-- ---- the companions

-- the costs of h leave companion i as it was made
unfoldable pub Stays : Search → List Event → ℕ → Type 0
Stays s [] i = Unit {0}
Stays s (e ∷ h) i = LeftBy s e i × Stays (step s e) h i

-- the numbers of which a cost of h makes companion i, so that it stays to the end
unfoldable pub MadeBy : Search → List Event → ℕ → (ℕ → Float) → Type 0
MadeBy s [] i f = ⊥
MadeBy s (e ∷ h) i f = (NewBy s e i f × Stays (step s e) h i) ⊎ MadeBy (step s e) h i f

-- after h those that are unread are made of such numbers, or have stayed as Q tells
pub ran_made : (Q : ℕ → (ℕ → Float) → Type 0) (rs : List Vertex) (s : Search) → AnyOf Q rs s → BelowBudget s → (h : List Event) → Joined s h
    → AnyOf (λ i f. (Q i f × Stays s h i) ⊎ MadeBy s h i f) (rs ++ readings_of s h) (run s h)
unfolding run readings_of Joined MadeBy Stays
ran_made Q rs s any below [] t = rw append-nil (any_more rs s (λ i f q. inl (q, tt)) any)
ran_made Q rs s any below (e ∷ h) t =
    let g = event_step_of Q rs s any below e t.0 in
    let r = ran_made (λ i f. (Q i f × LeftBy s e i) ⊎ NewBy s e i f) (rs ++ read_by s e) (step s e) g.inv g.below h t.1 in
    rw append_assoc at
    (any_more {P = λ i f. (Q i f × Stays s (e ∷ h) i) ⊎ MadeBy s (e ∷ h) i f} ((rs ++ read_by s e) ++ readings_of (step s e) h) (run (step s e) h)
    (λ i f. ⊎_elim (λ q. ⊎_elim (λ a. inl (a.0, (a.1, q.1))) (λ b. inr (inl (b, q.1))) q.0) (λ m. inr (inr m))) r)

-- what stays is touched by no cost
stays_at : (s : Search) (h : List Event) (i : ℕ) → Stays s h i → (p : List Event) (c : ℕ) (q : List Event) → h ≡ p ++ told c ∷ q → Untouched (run s p) c i
unfolding Stays run
stays_at s [] i m [] c q e = absurd cc
stays_at s [] i m (d ∷ p) c q e = absurd cc
stays_at s (told b ∷ h) i m [] c q e = let same : b ≡ c = cc in subst (λ (k : ℕ). Untouched s k i) same m.0
stays_at s (told b ∷ h) i m (told d ∷ p) c q e =
    let same : b ≡ d = cc in
    let rest : h ≡ p ++ told c ∷ q = cc in
    subst (λ (k : ℕ). Untouched (run (accept s k) p) c i) same (stays_at (accept s b) h i m.1 p c q rest)

-- a companion that is made so names its cost
pub made_at : (s : Search) (h : List Event) (i : ℕ) (f : ℕ → Float) → MadeBy s h i f → MadeAt s h i f
unfolding MadeBy run
made_at s [] i f m = absurd m
made_at s (told c ∷ h) i f m =
    ⊎_elim
    (λ r. record { before = []; cost = c; since = h; splits = refl; renews = r.0; untouched = stays_at (accept s c) h i r.1 })
    (λ n.
    let r = made_at (accept s c) h i f n in
    record {
      before = told c ∷ r.before;
      cost = r.cost;
      since = r.since;
      splits = ap (λ (l : List Event). told c ∷ l) r.splits;
      renews = r.renews;
      untouched = r.untouched;
    })
    m

-- ---- from the opening on

-- nothing is noted
noted_none : (t : Setup) → Sane t → Noted [] t 0 blank
noted_none t sane = record { sane = sane; told = refl; below = omega arith; shapes = λ v m. absurd (Memᴰ.not-nil m); least = λ l. absurd (omega arith); low = omega arith }

-- and nothing is gathered
gathers_none : Gathers [] [] (pack [])
gathers_none = record { are = refl; known = λ v m. m }

module _ (n : ℕ) (axes : List Axis) (rule : Option Rule) (c : Coefficients) (budget : ℕ) where
  fresh_simplex : Sane (fresh NelderMead n axes rule c budget).setup → Inv [] (fresh NelderMead n axes rule c budget)
  unfolding fresh Ordered
  fresh_simplex sane =
      record {
        method = refl;
        vs = [];
        gs = [];
        noted = noted_none _ sane;
        stands = record { are = refl; none = λ e. refl; all = λ l. absurd (omega arith); sorted = tt; known = λ v m. m };
        gathers = gathers_none;
        equation = omega arith;
        undirected = record { patterns = refl; directed = refl };
        phase = grind arith;
      }

  fresh_base : Sane (fresh Multidirectional n axes rule c budget).setup → suits Multidirectional (rule_of rule) ≡ true → MultiOf NoneYet [] (fresh Multidirectional n axes rule c budget)
  unfolding fresh
  fresh_base sane suited =
      record {
        method = refl;
        rule = suited;
        gs = [];
        noted = noted_none _ sane;
        gathers = gathers_none;
        blank = λ e. refl;
        grouped = λ l. absurd (omega arith);
        counts = record { none = λ p e. count_by (λ q. 0) 0 0 0 p; none_open = refl; equation = refl; some = omega arith; few = omega arith };
        phase = refl;
      }

  -- the opened search of either method
  pub fresh_any : (m : Method) → Sane (fresh m n axes rule c budget).setup → suits m (rule_of rule) ≡ true → AnyOf NoneYet [] (fresh m n axes rule c budget)
  fresh_any NelderMead sane suited = inl (fresh_simplex sane)
  fresh_any Multidirectional sane suited = inr (fresh_base sane suited)

  pub fresh_below : (m : Method) → Sane (fresh m n axes rule c budget).setup → BelowBudget (fresh m n axes rule c budget)
  unfolding fresh
  fresh_below m sane e = omega (arith, sane.enough)
