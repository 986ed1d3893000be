-- Further worked cases, of later calls: how a search ends, which calls are refused, and the numbers and axes of refusals.
use Rattle.std.specs.Prelude.{List, [], ◌∷◌, map, ℕ, replicate, Float, Option, Some, None, Ok, Err}
use Rattle.rules.specs.Binary64.{0ᶠ, 2ᶠ, 8ᶠ}
use Rattle.rules.specs.Numbers.{usual}
use Rattle.rules.specs.Refusals.{Verdict, number_of, axis_of}
use Rattle.rules.specs.Opening.{fresh}
use Rattle.rules.specs.Calls.{ask_verdict, tell_verdict, best_verdict}
use Rattle.rules.specs.Examples.{after_costs}
use Rattle.rules.specs.Cases.{case_axis}
use Rattle.rules.specs.declared.Method.TheVariants.{NelderMead}
use Rattle.rules.specs.declared.Search.{Search}
use Rattle.rules.specs.declared.Phase.{Phase}
use Rattle.rules.specs.declared.Phase.TheVariants.{Reflecting, Ended}
use Rattle.rules.specs.declared.Cause.TheVariants.{Settled, Budget}
use Rattle.rules.specs.declared.Refusal.{Refusal}
use Rattle.rules.specs.declared.Refusal.TheVariants.{AxisCount, OutOfRange, BadLimits, BadStep, BadCoefficient, BadThreshold, BadBudget, SearchEnded, CostTooHigh, WrongNumber, NoReading, Damaged, RingAtHi, RuleOfMethod}

-- the search of an opening over n axes from −8 to 8 with step 1, no rule named
abbrev pub fresh_with : ℕ → Float → ℕ → Search
fresh_with n start budget = fresh NelderMead n (replicate 8 (case_axis start 8ᶠ)) None usual budget

-- the phase of `fresh_with` after the costs cs
abbrev pub phase_after : ℕ → Float → ℕ → List ℕ → Phase
phase_after n start budget cs = (after_costs (fresh_with n start budget) cs).phase

-- how searches stand by the rules
unfoldable pub endings_given : List Phase
endings_given =
    -- one reading before the budget the search goes on
    phase_after 2 0ᶠ 4 (30 ∷ 20 ∷ 10 ∷ [])
    -- the budget is spent with a build, with r in the first, third and fourth row, with e
    ∷ phase_after 2 0ᶠ 3 (30 ∷ 20 ∷ 10 ∷ [])
    ∷ phase_after 2 0ᶠ 4 (30 ∷ 20 ∷ 10 ∷ 5 ∷ []) ∷ phase_after 2 0ᶠ 4 (30 ∷ 20 ∷ 10 ∷ 20 ∷ []) ∷ phase_after 2 0ᶠ 4 (30 ∷ 20 ∷ 10 ∷ 30 ∷ [])
    ∷ phase_after 2 0ᶠ 5 (30 ∷ 20 ∷ 10 ∷ 5 ∷ 4 ∷ [])
    -- amid a shrink, amid a probe round, at a lower probe, amid a restart's build
    ∷ phase_after 2 0ᶠ 6 (30 ∷ 20 ∷ 10 ∷ 30 ∷ 30 ∷ 9 ∷ [])
    ∷ phase_after 2 2ᶠ 5 (10 ∷ 10 ∷ 10 ∷ 10 ∷ 10 ∷ []) ∷ phase_after 2 2ᶠ 5 (10 ∷ 10 ∷ 10 ∷ 10 ∷ 9 ∷ [])
    ∷ phase_after 2 2ᶠ 7 (10 ∷ 10 ∷ 10 ∷ 10 ∷ 10 ∷ 9 ∷ 12 ∷ [])
    -- the last probe of a round settles the search, at the budget too; one probe before it the budget ends it
    ∷ phase_after 1 0ᶠ 100 (5 ∷ 5 ∷ 5 ∷ 5 ∷ []) ∷ phase_after 1 0ᶠ 4 (5 ∷ 5 ∷ 5 ∷ 5 ∷ []) ∷ phase_after 1 0ᶠ 3 (5 ∷ 5 ∷ 5 ∷ [])
    ∷ []

-- what document 01 says of each search of `endings_given`, in its order
unfoldable pub endings_stated : List Phase
endings_stated =
    Reflecting
    ∷ Ended Budget
    ∷ Ended Budget ∷ Ended Budget ∷ Ended Budget
    ∷ Ended Budget
    ∷ Ended Budget
    ∷ Ended Budget ∷ Ended Budget
    ∷ Ended Budget
    ∷ Ended Settled ∷ Ended Settled ∷ Ended Budget
    ∷ []

-- the number of a verdict's refusal, 0 where it accepts
abbrev pub refused_as : Verdict → ℕ
refused_as (Ok _) = 0
refused_as (Err r) = number_of r

-- a search over two axes with nothing read, of budget 100
abbrev pub unread_search : Search
unread_search = fresh_with 2 0ᶠ 100

-- a search whose budget of 3 is spent
abbrev pub spent_search : Search
spent_search = after_costs (fresh_with 2 0ᶠ 3) (30 ∷ 20 ∷ 10 ∷ [])

-- the refusals of later calls by the rules
unfoldable pub refusals_given : List ℕ
refusals_given =
    -- a tell whose number is not due, and before its cost is looked at; the largest cost and one above it
    refused_as (tell_verdict unread_search 2 30) ∷ refused_as (tell_verdict unread_search 0 16777216)
    ∷ refused_as (tell_verdict unread_search 1 16777215) ∷ refused_as (tell_verdict unread_search 1 16777216)
    -- best with nothing read, and of an ended search
    ∷ refused_as (best_verdict unread_search) ∷ refused_as (best_verdict spent_search)
    -- an ended search: ask, and tell before its number is looked at
    ∷ refused_as (ask_verdict spent_search) ∷ refused_as (tell_verdict spent_search 9 1)
    ∷ []

-- what the table says of each call of `refusals_given`, in its order
unfoldable pub refusals_stated : List ℕ
refusals_stated =
    10 ∷ 10
    ∷ 0 ∷ 9
    ∷ 11 ∷ 0
    ∷ 8 ∷ 8
    ∷ []

-- every refusal, those of an axis with one of their own
abbrev pub every_refusal : List Refusal
every_refusal = AxisCount ∷ OutOfRange 6 ∷ BadLimits 7 ∷ BadStep 8 ∷ BadCoefficient ∷ BadThreshold ∷ BadBudget ∷ SearchEnded ∷ CostTooHigh ∷ WrongNumber ∷ NoReading ∷ Damaged ∷ RingAtHi 5 ∷ RuleOfMethod ∷ []

-- the numbers of `every_refusal` by the rules
abbrev pub numbers_given : List ℕ
numbers_given = map number_of every_refusal

-- the axes of `every_refusal` by the rules
abbrev pub axes_given : List (Option ℕ)
axes_given = map axis_of every_refusal

-- the numbers of the table
abbrev pub numbers_stated : List ℕ
numbers_stated = 1 ∷ 2 ∷ 3 ∷ 4 ∷ 5 ∷ 6 ∷ 7 ∷ 8 ∷ 9 ∷ 10 ∷ 11 ∷ 12 ∷ 13 ∷ 14 ∷ []

-- "Numbers 2 to 4 come with the axis", and "13 with its axis"
abbrev pub axes_stated : List (Option ℕ)
axes_stated = None ∷ Some 6 ∷ Some 7 ∷ Some 8 ∷ None ∷ None ∷ None ∷ None ∷ None ∷ None ∷ None ∷ None ∷ Some 5 ∷ None ∷ []
