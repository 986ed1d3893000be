-- Laws on a buffer that is filled with the lines of steps. Assumes nothing.
use mathlib.Core.Path.{◌≡◌, refl}
use mathlib.Core.Bool.{false}
use mathlib.Core.List.{List, ◌++◌}
use mathlib.Core.Logic.{◌⊎◌, inl, inr, ⊎_elim}
use Prim.Native.Nat.{ℕ, suc, ◌≤◌, ◌<◌}
use native.Mathlib.Omega.{arith}
use lib.ListN.{length, take}
use Rattle.tune_text.specs.Reading.{is_done}
use Rattle.tune_text.specs.Steps.{stepping, state_after, printed, steps_left}
use Rattle.tune_text.specs.declared.State.{State}
use Rattle.tune_text.proofs.Laws.Running.{falls, state_after_more, printed_more}

-- so many steps from s have led to t, and their lines are the first count bytes of the buffer; less is left, or no step was made
pub record Run (bytes : List ℕ) (s : State) (buffer : List ℕ) (t : State) (count : ℕ) : Type 0 where
  pub steps : ℕ
  pub lines : take count buffer ≡ printed steps bytes s
  pub state : t ≡ state_after steps bytes s
  pub within : count ≤ length buffer
  pub begun : ((t ≡ s) × (count ≡ 0)) ⊎ (steps_left bytes t < steps_left bytes s)

module _ (bytes : List ℕ) (s : State) (buffer : List ℕ) where
  -- before the first step
  pub run_none : Run bytes s buffer s 0
  unfolding state_after printed
  run_none = record { steps = 0; lines = refl; state = refl; within = omega arith; begun = inl (refl, refl) }

  module _ (t : State) (count : ℕ) (h : Run bytes s buffer t count) where
    -- one step more
    pub run_more : is_done t.progress.stage ≡ false → (next : List ℕ) (k : ℕ)
        → take k next ≡ take count buffer ++ (stepping bytes t).line → k ≤ length next → Run bytes s next (stepping bytes t).state k
    run_more d next k e l = record {
      steps = suc h.steps;
      lines = rw (printed_more h.steps bytes s, ← h.state, ← h.lines) e;
      state = rw (state_after_more h.steps bytes s, ← h.state);
      within = l;
      begun = inr (⊎_elim (λ w. rw w.0 (falls bytes s (rw (← w.0) d))) (λ w. omega (arith, falls bytes t d)) h.begun);
    }

-- the laws that filling a buffer takes
pub ruleset runs = (run_none, falls)
