-- An accepted reading keeps the invariant of its method, in every phase. Assumes nothing.
use mathlib.Core.Path.{◌≡◌, refl}
use mathlib.Core.Bool.{false, true≢false}
use mathlib.Core.List.{List, ◌++◌}
use mathlib.Core.Logic.{◌⊎◌, inl, inr, ⊎_elim}
use Prim.Native.Nat.{ℕ, ◌≤◌}
use native.Mathlib.Omega.{arith}
use Rattle.rules.specs.Numbers.{max_cost}
use Rattle.rules.specs.View.{is_ended, is_probe, is_directed}
use lib.Ieee.{Float}
use Rattle.rules.specs.Claims.{Renews, Untouched}
use Rattle.rules.specs.Trial.{brought, target, trial}
use Rattle.rules.specs.Decide.{decided}
use Rattle.rules.specs.Accept.{reading_of, accept}
use Rattle.rules.specs.History.{Event, told, step}
use Rattle.rules.specs.Tally.{ended_by, finishes, probe_in, probe_by, direct_in, direct_by}
use Rattle.rules.specs.declared.Vertex.{Vertex}
use Rattle.rules.specs.declared.Search.{Search}
use Rattle.rules.specs.declared.Phase.{Phase}
use Rattle.rules.specs.declared.Phase.TheVariants.{Building, Reflecting, Expanding, Contracting, Shrinking, Basing, Mirroring, Checking, Probing, Ended}
use Rattle.rules.proofs.Laws.Lists.{length_point, point_again}
use Rattle.rules.proofs.Laws.Finishing.{pieces_by, ended_decided, probe_viewed, direct_viewed}
use Rattle.rules.proofs.Laws.Histories.{read_by, Joins}
use Rattle.rules.proofs.Steps.Invariant.{ReadingShape, Noted, At, Inv}
use Rattle.rules.proofs.Steps.Grouped.{Whichever, AnyOf, Any, any_more, multi_more}
use Rattle.rules.proofs.Steps.Noting.{◌▹◌, NotedWith, note}
use Rattle.rules.proofs.Steps.Stepping.{BelowBudget, TakesReading, takes_more, Goes}
use Rattle.rules.proofs.Steps.Gathering.{build_step, shrink_step}
use Rattle.rules.proofs.Steps.Iterating.{reflect_step, expand_step, contract_step}
use Rattle.rules.proofs.Steps.Probing.{probe_step_lem}
use Rattle.rules.proofs.Steps.Checking.{turn_step}

-- ---- every phase

module _ (rs : List Vertex) (v : Vertex) (s : Search) (inv : Inv rs s) (after : NotedWith v rs s) (live : is_ended s.phase ≡ false) where
  -- the reading goes as the decision of its phase says
  advance : (p : Phase) → s.phase ≡ p → At p s.setup inv.vs inv.gs s.readings s.counts s.best → Goes rs v s (decided p s v.cost)
  advance (Building i) now h = build_step rs v s inv after live i now h
  advance Reflecting now h = reflect_step rs v s inv after live now h.0 h.1
  advance Expanding now h = expand_step rs v s inv after live now h.0 h.1
  advance (Contracting side) now h = contract_step rs v s inv after live side now h.0 h.1
  advance (Shrinking j) now h = shrink_step rs v s inv after live j now h
  advance (Probing p) now h = probe_step_lem rs v s inv after live p now h.0 h.1 h.2
  advance (Ended cause) now h = absurd (true≢false (rw now at live))
  advance Basing now h = absurd h
  advance (Mirroring i) now h = absurd h
  advance (Checking i) now h = absurd h

-- ---- the accepted reading

-- a trial with its cost has the shape of a reading
trial_shape : (s : Search) (c : ℕ) → s.setup.n ≤ 8 → c ≤ max_cost → ReadingShape s.setup.n (reading_of s c)
unfolding trial
trial_shape s c l h =
    let f = λ (a : ℕ). brought s.setup a (target s s.phase a) in
    record { shape = point_again s.setup.n f; eight = length_point s.setup.n f l; low = h; numbered = omega arith }

-- what both methods have noted
pub noted_of : {Q : ℕ → (ℕ → Float) → Type 0} (rs : List Vertex) (s : Search) → AnyOf Q rs s → Noted rs s.setup s.readings s.best
noted_of rs s any = ⊎_elim (λ i. i.noted) (λ i. i.noted) any

-- the numbers of which an event makes companion i
abbrev pub NewBy : Search → Event → ℕ → (ℕ → Float) → Type 0
NewBy s (told c) i f = Renews (decided s.phase s c) (reading_of s c) s i f

-- whether it leaves companion i as it was made
abbrev pub LeftBy : Search → Event → ℕ → Type 0
LeftBy s (told c) i = Untouched s c i

module _ (Q : ℕ → (ℕ → Float) → Type 0) (rs : List Vertex) (s : Search) (any : AnyOf Q rs s) (below : BelowBudget s) where
  -- the numbers of which companions may be made after it
  abbrev pub Later : Event → ℕ → (ℕ → Float) → Type 0
  Later e i f = (Q i f × LeftBy s e i) ⊎ NewBy s e i f

  -- an accepted cost takes its reading
  accept_step : (c : ℕ) → is_ended s.phase ≡ false → c ≤ max_cost
      → TakesReading (AnyOf (Later (told c))) (rs ▹ reading_of s c) (ended_by s.phase s c) (probe_in s.phase) (direct_in s.phase) s (accept s c)
  unfolding accept trial
  accept_step c live low =
      let v = reading_of s c in
      let u = accept s c in
      let d = decided s.phase s c in
      let noted = noted_of rs s any in
      let after : NotedWith v rs s = note rs s.setup s.readings s.best v noted (trial_shape s c noted.sane.at_most8 low) (below live) in
      rw (ended_decided s.phase s c, probe_viewed s.phase, direct_viewed s.phase)
      (⊎_elim
      (λ inv. takes_more (rs ▹ v) (pieces_by d) (is_probe s.phase) (is_directed s.phase) s u (λ i. inl i) (advance rs v s inv after live s.phase refl inv.phase))
      (λ inv. takes_more (rs ▹ v) (pieces_by d) (is_probe s.phase) (is_directed s.phase) s u
      (λ i. inr (multi_more (rs ▹ v) u (λ k f. ⊎_elim (λ q. inl (q.0, record { not_read = q.1.0; not_made = q.1.1 })) (λ r. inr r)) i))
      (turn_step Q rs v s inv after live s.phase refl inv.phase))
      any)

  -- an event of the history takes its readings
  pub event_step_of : (e : Event) → Joins s e → TakesReading (AnyOf (Later e)) (rs ++ read_by s e) (finishes s e) (probe_by s e) (direct_by s e) s (step s e)
  event_step_of (told c) j = accept_step c j.0 j.1

-- whichever numbers the companions are made of
pub event_step : (rs : List Vertex) (s : Search) → Any rs s → BelowBudget s → (e : Event) → Joins s e
    → TakesReading Any (rs ++ read_by s e) (finishes s e) (probe_by s e) (direct_by s e) s (step s e)
event_step rs s any below e j =
    takes_more (rs ++ read_by s e) (finishes s e) (probe_by s e) (direct_by s e) s (step s e)
    (λ a. any_more (rs ++ read_by s e) (step s e) (λ i f q. tt) a)
    (event_step_of Whichever rs s any below e j)
