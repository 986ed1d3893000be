-- The turn of a ring, by its own comparisons, for any two floats lo and hi. Assumes nothing.
use mathlib.Core.Path.{◌≡◌, refl, sym, ◌∙◌}
use mathlib.Core.Bool.{true, false, true≢false, ◌&&◌, and-eq-true_iff}
use mathlib.Core.Logic.{⊎_elim}
use lib.Ieee.{Float, nan, add}
use Rattle.std.proofs.lemmas.Bool.{cases_Bool, cond_both}
use Rattle.std.proofs.lemmas.Float.{T_from_true, le_left, lt_of_le_of_lt}
use Rattle.rules.specs.Binary64.{turned, brought_round, ◌≤ᶠ◌, ◌<ᶠ◌}
use Rattle.rules.proofs.Laws.Clamp.{lt_le, le_number, le_nan, pass}

-- what holds of lo, and of whatever lies between lo and hi, holds of a number brought round
round_elim : (P : Float → Type 0) (lo hi v : Float) → P lo → ((u : Float) → (lo ≤ᶠ u) ≡ true → (u <ᶠ hi) ≡ true → P u)
    → P (brought_round lo hi v)
round_elim P lo hi v l m =
    let u = turned lo hi v in
    cond_both ((lo ≤ᶠ u) && (u <ᶠ hi)) u lo P (λ e. let both = simp and-eq-true_iff at e in m u both.0 both.1) (λ e. l)

-- lo is a number where anything is above it
lo_number : (lo hi : Float) → (lo <ᶠ hi) ≡ true → (lo ≤ᶠ lo) ≡ true
lo_number lo hi h = le_number lo (le_left lo hi (T_from_true _ (lt_le lo hi h)))

-- wherever lo < hi, a number brought round is at least lo
pub round_low : (lo hi v : Float) → (lo <ᶠ hi) ≡ true → (lo ≤ᶠ brought_round lo hi v) ≡ true
round_low lo hi v h = round_elim (λ x. (lo ≤ᶠ x) ≡ true) lo hi v (lo_number lo hi h) (λ u p q. p)

-- and below hi
pub round_high : (lo hi v : Float) → (lo <ᶠ hi) ≡ true → (brought_round lo hi v <ᶠ hi) ≡ true
round_high lo hi v h = round_elim (λ x. (x <ᶠ hi) ≡ true) lo hi v h (λ u p q. q)

-- a number that lies there keeps its bits
pub round_inside : (lo hi v : Float) → (lo ≤ᶠ v) ≡ true → (v <ᶠ hi) ≡ true → brought_round lo hi v ≡ v
round_inside lo hi v p q = rw (p, q, p, q) refl

-- where lo < hi is false, whatever comes becomes lo
pub round_unordered : (lo hi v : Float) → (lo <ᶠ hi) ≡ false → brought_round lo hi v ≡ lo
round_unordered lo hi v h =
    round_elim (λ x. x ≡ lo) lo hi v refl
    (λ u p q. absurd (true≢false (sym (pass (lo <ᶠ hi) (lt_of_le_of_lt lo u hi (T_from_true _ p) (T_from_true _ q))) ∙ h)))

-- lo itself stays
round_lo : (lo hi : Float) → brought_round lo hi lo ≡ lo
round_lo lo hi = ⊎_elim (λ h. round_inside lo hi lo (lo_number lo hi h) h) (λ h. round_unordered lo hi lo h) (cases_Bool (lo <ᶠ hi))

-- brought round twice is brought round once
pub round_again : (lo hi v : Float) → brought_round lo hi (brought_round lo hi v) ≡ brought_round lo hi v
round_again lo hi v = round_elim (λ x. brought_round lo hi x ≡ x) lo hi v (round_lo lo hi) (λ u p q. round_inside lo hi u p q)

-- a NaN becomes lo
pub round_nan : (lo hi : Float) → brought_round lo hi nan ≡ lo
unfolding add
round_nan lo hi = rw (le_nan lo, le_nan lo) refl
