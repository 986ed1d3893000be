-- The budget's choice: what holds of both phases holds of the one that the test makes. Assumes nothing.
use mathlib.Core.Path.{◌≡◌, refl}
use mathlib.Core.Bool.{Bool, true, false, true≢false}
use native.Mathlib.Omega.{arith}
use Rattle.std.proofs.lemmas.Bool.Decides.{nat_tests}
use Rattle.std.proofs.lemmas.Bool.{cond_both}
use Rattle.rules.specs.View.{is_ended}
use Rattle.rules.specs.Accept.{stops, spent_phase}
use Rattle.rules.specs.declared.Phase.{Phase}
use Rattle.rules.specs.declared.Phase.TheVariants.{Ended}
use Rattle.rules.specs.declared.Cause.TheVariants.{Budget}

-- a spent budget leaves an ended search
pub spent_ended : (p : Phase) → is_ended p ≡ true → spent_phase true p ≡ p
spent_ended p e = rw e refl

-- a spent budget ends a search that has not ended, with cause budget
pub spent_live : (p : Phase) → is_ended p ≡ false → spent_phase true p ≡ Ended Budget
spent_live p e = rw e refl

-- a phase with the budget tested: ended by it, or as it was
pub spent_elim : (P : Phase → Type 0) (b : Bool) (p : Phase) → (b ≡ true → is_ended p ≡ false → P (Ended Budget)) → P p → P (spent_phase b p)
spent_elim P b p f g = cond_both (stops b p) _ _ P (λ e. f (grind (arith, nat_tests)) (grind (arith, nat_tests))) (λ e. g)

-- a phase that the budget leaves unended is one before which the budget was not spent
pub spent_ends : (b : Bool) (p : Phase) → is_ended (spent_phase b p) ≡ false → b ≡ false
spent_ends b p = cond_both (stops b p) _ _ (λ (q : Phase). is_ended q ≡ false → b ≡ false) (λ h e. absurd (true≢false e)) (λ h e. grind (arith, nat_tests))
