-- Laws on verdicts one after the other, and on the exit of a `?`. Assumes nothing.
use Rattle.std.proofs.Common.{◌≡◌, refl, ap, Bool, true, false, ℕ, ◌+◌, Result, Ok, Err, eqb, leb}
use Rattle.std.specs.Prelude.{IsErrAnd}
use Rattle.rules.specs.Numbers.{max_cost}
use Rattle.rules.specs.Refusals.{Verdict, check}
use Rattle.rules.specs.Calls.{ask_verdict, tell_verdict}
use Rattle.rules.specs.declared.Search.{Search}
use Rattle.rules.specs.declared.Refusal.{Refusal}
use Rattle.rules.specs.declared.Refusal.TheVariants.{CostTooHigh, WrongNumber}

-- a verdict, and that of the checks after it
abbrev pub and_then : Verdict → Verdict → Verdict
and_then (Ok _) v = v
and_then (Err r) v = Err r

-- a check and those after it
pub check_then : (b : Bool) (r : Refusal) (u v : Verdict) → and_then (check b r u) v ≡ check b r (and_then u v)
check_then true r u v = refl
check_then false r u v = refl

-- the checks of a tell are those of an ask, and two more
pub tell_after_ask : (s : Search) (number cost : ℕ)
    → tell_verdict s number cost ≡ and_then (ask_verdict s) (check (eqb number (s.readings + 1)) WrongNumber (check (leb cost max_cost) CostTooHigh (Ok tt)))
unfolding ask_verdict tell_verdict
tell_after_ask s number cost = simp check_then

-- the exit of a `?` returns the refusal that the call before it returned
pub exit : {T : Type 0} (r : Result T Refusal) (x : Refusal) → IsErrAnd r (λ y. y ≡ x) → r ≡ Err x
exit (Ok t) x h = absurd h
exit (Err y) x h = ap (λ z. Err z) h
