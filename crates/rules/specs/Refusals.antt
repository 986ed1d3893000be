-- "Refused calls": what every call uses of the table, the number and the axis of each refusal and the order of the checks.
use Rattle.std.specs.Prelude.{Bool, true, false, ℕ, Option, Some, None, Result, Ok, Err}
use Rattle.rules.specs.declared.Refusal.{Refusal}
use Rattle.rules.specs.declared.Refusal.TheVariants.{AxisCount, OutOfRange, BadLimits, BadStep, BadCoefficient, BadThreshold, BadBudget, SearchEnded, CostTooHigh, WrongNumber, NoReading, Damaged, RingAtHi, RuleOfMethod}

-- the column "number" of the table, for each refusal, and document 02's 13 and 14
abbrev pub number_of : Refusal → ℕ
number_of AxisCount = 1
number_of (OutOfRange axis) = 2
number_of (BadLimits axis) = 3
number_of (BadStep axis) = 4
number_of BadCoefficient = 5
number_of BadThreshold = 6
number_of BadBudget = 7
number_of SearchEnded = 8
number_of CostTooHigh = 9
number_of WrongNumber = 10
number_of NoReading = 11
number_of Damaged = 12
number_of (RingAtHi axis) = 13
number_of RuleOfMethod = 14

-- "Numbers 2 to 4 come with the axis, from 1", and "13 with its axis"
abbrev pub axis_of : Refusal → Option ℕ
axis_of AxisCount = None
axis_of (OutOfRange axis) = Some axis
axis_of (BadLimits axis) = Some axis
axis_of (BadStep axis) = Some axis
axis_of BadCoefficient = None
axis_of BadThreshold = None
axis_of BadBudget = None
axis_of SearchEnded = None
axis_of CostTooHigh = None
axis_of WrongNumber = None
axis_of NoReading = None
axis_of Damaged = None
axis_of (RingAtHi axis) = Some axis
axis_of RuleOfMethod = None

-- what the checks of a call come to: they pass, or one of them refuses
abbrev pub Verdict : Type 0
Verdict = Result (Unit {0}) Refusal

-- "Checks run in table order": one of them, what it refuses with where it fails, and the verdict of those after it
abbrev pub check : Bool → Refusal → Verdict → Verdict
check true r v = v
check false r v = Err r

-- what a call answers: x where its checks pass, else the refusal
abbrev pub answered : {A : Type 0} → Verdict → A → Result A Refusal
answered (Ok _) x = Ok x
answered (Err r) x = Err r
