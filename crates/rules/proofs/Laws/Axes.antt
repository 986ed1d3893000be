-- A number brought into an axis: clamped, or round on a ring. Assumes nothing.
use mathlib.Core.Path.{◌≡◌, refl, sym}
use mathlib.Core.Bool.{true, false, true≢false, and-eq-true_iff}
use mathlib.Core.Logic.{◌↔◌, ◌⊎◌, ⊎_elim}
use lib.Ieee.{Float, nan}
use Rattle.std.proofs.lemmas.Bool.{cases_Bool}
use Rattle.rules.specs.Binary64.{brought_round, ◌<ᶠ◌}
use Rattle.rules.specs.Trial.{brought_in, at_stop, within}
use Rattle.rules.specs.declared.Axis.{Axis}
use Rattle.rules.proofs.Laws.Clamp.{lt_le, clamp_low, clamp_high, clamp_inside, clamp_again, clamp_nan, changes_outside, changes_when, changed_to_limit}
use Rattle.rules.proofs.Laws.Ring.{round_low, round_high, round_inside, round_again, round_nan}

module _ (x : Axis) (v : Float) where
  -- wherever lo < hi the outcome lies within: lo ≤ v ≤ hi, on a ring lo ≤ v < hi
  pub brought_within : (x.lo <ᶠ x.hi) ≡ true → within x (brought_in x v) ≡ true
  brought_within h =
      let o = lt_le x.lo x.hi h in
      ⊎_elim
      (λ e. rw e ((and-eq-true_iff _ _).1 (round_low x.lo x.hi v h, round_high x.lo x.hi v h)))
      (λ e. rw e ((and-eq-true_iff _ _).1 (clamp_low x.lo x.hi v o, clamp_high x.lo x.hi v o)))
      (cases_Bool x.ring)

  -- a number that lies within keeps its bits
  pub brought_inside : within x v ≡ true → brought_in x v ≡ v
  brought_inside h =
      let both = simp and-eq-true_iff at h in
      ⊎_elim
      (λ e. rw e (round_inside x.lo x.hi v both.0 (rw e at both.1)))
      (λ e. rw e (clamp_inside x.lo x.hi v both.0 (rw e at both.1)))
      (cases_Bool x.ring)

  -- one that is brought in twice is brought in once
  pub brought_again : (x.lo <ᶠ x.hi) ≡ true → brought_in x (brought_in x v) ≡ brought_in x v
  brought_again h = ⊎_elim (λ e. rw e (round_again x.lo x.hi v)) (λ e. rw e (clamp_again x.lo x.hi v (lt_le x.lo x.hi h))) (cases_Bool x.ring)

  -- on a ring the outcome is that of the turn
  pub brought_on_ring : x.ring ≡ true → brought_in x v ≡ brought_round x.lo x.hi v
  brought_on_ring e = rw e refl

  -- being brought round is never a stop; on any other axis whatever lies outside is stopped
  pub stop_outside : (at_stop x v ≡ true) ↔ ((x.ring ≡ false) × (within x v ≡ false))
  stop_outside =
      ⊎_elim
      (λ e. rw e (λ h. absurd (true≢false (sym h)), λ h. absurd (true≢false h.0)))
      (λ e. rw e (λ h. (refl, (changes_outside x.lo x.hi v).0 h), λ h. (changes_outside x.lo x.hi v).1 h.1))
      (cases_Bool x.ring)

  module _ (h : at_stop x v ≡ true) where
    -- what is stopped becomes another number
    pub stop_moves : (x.lo <ᶠ x.hi) ≡ true → brought_in x v ≡ v → ⊥
    stop_moves o = let e = (stop_outside.0 h).0 in rw e ((changes_when x.lo x.hi v (lt_le x.lo x.hi o)).0 (rw e at h))

    -- and stands on a limit
    pub stop_on_limit : (brought_in x v ≡ x.lo) ⊎ (brought_in x v ≡ x.hi)
    stop_on_limit = let e = (stop_outside.0 h).0 in rw e (changed_to_limit x.lo x.hi v (rw e at h))

-- a NaN becomes lo, on a ring too
pub brought_nan : (x : Axis) → brought_in x nan ≡ x.lo
brought_nan x = ⊎_elim (λ e. rw e (round_nan x.lo x.hi)) (λ e. rw e (clamp_nan x.lo x.hi)) (cases_Bool x.ring)
