-- What an opening that is not refused gives, and that an unfinished search asks within its limits. Assumes nothing.
use Rattle.std.specs.Prelude.{Option, Ok, Err}
use mathlib.Core.Path.{◌≡◌, refl, sym, ◌∙◌}
use mathlib.Core.Bool.{Bool, true, false, false≢true, and-eq-true_iff}
use mathlib.Core.List.{List, [], ◌∷◌}
use mathlib.Core.Logic.{◌↔◌, ⊎_elim}
use Prim.Native.Nat.{ℕ, zero, suc, suc-le-suc, ◌+◌, ◌≤◌, ◌<◌}
use native.Mathlib.Nat.{eq-or-lt_of_le}
use native.Mathlib.Omega.{arith}
use lib.ListN.{length, get_or}
use lib.Ieee.{lt}
use borrow.Author.Tests.{leb-true}
use Rattle.std.proofs.lemmas.List.{places}
use Rattle.rules.specs.Binary64.{◌<ᶠ◌}
use Rattle.rules.specs.Numbers.{max_budget}
use Rattle.rules.specs.Trial.{no_axis, axis, brought, target, stops_to, stops_in, trial}
use Rattle.rules.specs.Refusals.{Verdict, check, answered}
use Rattle.rules.specs.Opening.{in_threshold, axis_checks, axes_checks, rule_of, keep, fresh, opened_by, open_verdict, opening}
use Rattle.rules.specs.Stop.{suits}
use Rattle.rules.specs.Calls.{sound_rule}
use Rattle.rules.specs.Claims.{Within, StopsOf}
use Rattle.rules.specs.declared.Method.{Method}
use Rattle.rules.specs.declared.Axis.{Axis}
use Rattle.rules.specs.declared.Coefficients.{Coefficients}
use Rattle.rules.specs.declared.Rule.{Rule}
use Rattle.rules.specs.declared.Rule.TheVariants.{Spread}
use Rattle.rules.specs.declared.Setup.{Setup}
use Rattle.rules.specs.declared.Search.{Search}
use Rattle.rules.specs.declared.Phase.{Phase}
use Rattle.rules.specs.declared.Phase.TheVariants.{Checking}
use Rattle.rules.specs.declared.Refusal.{Refusal}
use Rattle.rules.proofs.Laws.Lists.{get_or_point}
use Rattle.rules.proofs.Laws.Axes.{brought_within}
use Rattle.rules.proofs.Laws.Stopped.{stops_of}

-- ---- checks that pass

-- a check accepts where its test holds and those after it accept
pub check_iff : (b : Bool) (r : Refusal) (v : Verdict) → (check b r v ≡ Ok tt) ↔ ((b ≡ true) × (v ≡ Ok tt))
check_iff true r v = (λ h. (refl, h), λ h. h.1)
check_iff false r v = (λ h. absurd cc, λ h. absurd (false≢true h.0))

-- a call that answers y has checks that pass, and y is what they let through
pub answered_ok : {A : Type 0} (v : Verdict) (x y : A) → answered v x ≡ Ok y → (v ≡ Ok tt) × (y ≡ x)
answered_ok (Ok _) x y e = (refl, cc)
answered_ok (Err r) x y e = cc

-- an axis that passes has lo < hi, and the checks after it accept
axis_passes : (i : ℕ) (x : Axis) (v : Verdict) → axis_checks i x v ≡ Ok tt → ((x.lo <ᶠ x.hi) ≡ true) × (v ≡ Ok tt)
axis_passes i x v h = let k = simp (check_iff, and-eq-true_iff) at h in search

-- k axes from the i-th on that pass have lo < hi each, and the checks after them accept
axes_pass : (k i : ℕ) (xs : List Axis) (v : Verdict) → axes_checks k i xs v ≡ Ok tt
    → ((a : ℕ) → i ≤ a → a < i + k → ((get_or xs a no_axis).lo <ᶠ (get_or xs a no_axis).hi) ≡ true) × (v ≡ Ok tt)
unfolding axes_checks
axes_pass zero i xs v h = (λ a l u. absurd (omega arith), h)
axes_pass (suc k) i xs v h =
    let this = axis_passes _ (get_or xs i no_axis) (axes_checks k (suc i) xs v) h in
    let rest = axes_pass k (suc i) xs v this.1 in
    (λ a l u. ⊎_elim (λ e. rw (← e) this.0) (λ m. rest.0 a m (omega arith)) (eq-or-lt_of_le l), rest.1)

-- a threshold that the opening takes is sound
threshold_sound : (r : Rule) → in_threshold r ≡ true → sound_rule r ≡ true
threshold_sound (Spread e) h = (simp and-eq-true_iff at h).1
threshold_sound r h = refl

-- an answer carries the verdict that it is made by
pub opened_by_verdict : (v : Verdict) (s : Search) → (opened_by v s).verdict ≡ v
opened_by_verdict (Ok _) s = refl
opened_by_verdict (Err r) s = refl

-- ---- the axes that are kept

-- an axis with lo < hi is one of the list: past its end stand NaNs
in_list : (xs : List Axis) (a : ℕ) → ((get_or xs a no_axis).lo <ᶠ (get_or xs a no_axis).hi) ≡ true → a < length xs
unfolding lt
in_list [] a h = absurd (false≢true h)
in_list (x ∷ xs) zero h = omega arith
in_list (x ∷ xs) (suc a) h = suc-le-suc (in_list xs a h)

-- the first n axes are kept as given
kept_axis : (n : ℕ) (xs : List Axis) (a : ℕ) → a < n → a < length xs → get_or (keep n xs) a no_axis ≡ get_or xs a no_axis
kept_axis n xs a l m = grind (arith, places)

-- ---- a search that is opened

-- what the later calls rest on: the axis count and the budget in range, a sound rule, and axes whose limits are in order
pub record Sane (t : Setup) : Type 0 where
  pub at_least : 1 ≤ t.n
  pub at_most8 : t.n ≤ 8
  pub enough : t.n + 1 ≤ t.budget
  pub not_much : t.budget ≤ max_budget
  pub rule : sound_rule t.rule ≡ true
  pub limits : (a : ℕ) → a < t.n → ((axis t a).lo <ᶠ (axis t a).hi) ≡ true

module _ (m : Method) (n : ℕ) (axes : List Axis) (rule : Option Rule) (c : Coefficients) (budget : ℕ) where
  -- where the answer to an opening accepts, the checks accept
  pub opened_verdict : (opening m n axes rule c budget).verdict ≡ Ok tt → open_verdict m n axes rule c budget ≡ Ok tt
  unfolding opening
  opened_verdict h = sym (opened_by_verdict (open_verdict m n axes rule c budget) (fresh m n axes rule c budget)) ∙ h

  -- where the answer to an opening accepts, its search is the fresh one
  pub opened_fresh : (opening m n axes rule c budget).verdict ≡ Ok tt → (opening m n axes rule c budget).search ≡ fresh m n axes rule c budget
  unfolding opening
  opened_fresh h = rw (opened_verdict h)

  module _ (h : open_verdict m n axes rule c budget ≡ Ok tt) where
    -- where the checks of an opening accept, each axis has lo < hi
    below : (a : ℕ) → a < n → ((get_or axes a no_axis).lo <ᶠ (get_or axes a no_axis).hi) ≡ true
    unfolding open_verdict
    below a l =
        let counts = simp (check_iff, and-eq-true_iff) at h in
        (axes_pass _ 0 axes _ counts.1).0 a (omega arith) (omega (arith, leb-true))

    -- where the checks of an opening accept, the search keeps the axes that it was given
    pub opened_axis : (a : ℕ) → a < n → axis (fresh m n axes rule c budget).setup a ≡ get_or axes a no_axis
    unfolding fresh
    opened_axis a l = kept_axis n axes a l (in_list axes a (below a l))

    -- where the checks of an opening accept, the rule is one of the method's
    pub opened_suits : suits m (rule_of rule) ≡ true
    unfolding open_verdict
    opened_suits =
        let counts = simp (check_iff, and-eq-true_iff) at h in
        let rest = simp (check_iff, and-eq-true_iff) at (axes_pass _ 0 axes _ counts.1).1 in
        rest.1.1.0

    -- where the checks of an opening accept, its setup is sane
    pub opened_sane : Sane (fresh m n axes rule c budget).setup
    unfolding fresh open_verdict
    opened_sane =
        let counts = simp (check_iff, and-eq-true_iff) at h in
        let rest = simp (check_iff, and-eq-true_iff) at (axes_pass _ 0 axes _ counts.1).1 in
        record {
          at_least = omega (arith, leb-true);
          at_most8 = omega (arith, leb-true);
          enough = omega (arith, leb-true);
          not_much = omega (arith, leb-true);
          rule = threshold_sound (rule_of rule) rest.1.0;
          limits = λ a l. rw (opened_axis a l) (below a l);
        }

-- ---- the trial

-- every trial lies within its limits
pub trial_within : (s : Search) → Sane s.setup → Within s.setup (trial s).point
unfolding trial
trial_within s h a l = rw (get_or_point s.setup.n (λ b. brought s.setup b (target s s.phase b)) a l) (brought_within (axis s.setup a) (target s s.phase a) (h.limits a l))

-- the stops of every trial but that of a companion are counted where it is asked
stops_now : (p : Phase) (s : Search) → ((i : ℕ) → p ≡ Checking i → ⊥) → stops_in p s ≡ stops_to s.setup (target s p) s.setup.n
stops_now (Checking i) s h = absurd (h i refl)
stops_now p s h = refl

-- and count the axes on which the clamp acts
pub trial_stops : (s : Search) → Sane s.setup → ((i : ℕ) → s.phase ≡ Checking i → ⊥) → StopsOf s.setup (target s s.phase) (trial s)
unfolding trial
trial_stops s h c = rw (stops_now s.phase s c) (stops_of s.setup (target s s.phase) h.limits)
