-- "The program", what a line does: the line of n, budget and spread E, the axis lines, the costs, and the end.
use Rattle.std.specs.Prelude.{Bool, true, false, cond, ◌&&◌, List, [], ℕ, suc, get_or, replicate, set, leb, ltb, eqb, Option, Some, None, Result, Ok, Err}
use Rattle.std.specs.Float.{binary64}
use Rattle.std.specs.Float.Ieee.{of_bits}
use Rattle.rules.specs.Numbers.{usual}
use Rattle.rules.specs.Refusals.{Verdict, number_of}
use Rattle.rules.specs.Opening.{zero_axis, closed, opening}
use Rattle.rules.specs.View.{is_ended}
use Rattle.rules.specs.Calls.{asking, telling, showing}
use Rattle.rules.specs.declared.Axis.{Axis}
use Rattle.rules.specs.declared.Asked.{Asked}
use Rattle.rules.specs.declared.Cause.{Cause}
use Rattle.rules.specs.declared.Refusal.{Refusal}
use Rattle.rules.specs.declared.Vertex.{Vertex}
use Rattle.rules.specs.declared.Opened.{Opened}
use Rattle.rules.specs.declared.Method.TheVariants.{NelderMead}
use Rattle.rules.specs.declared.Phase.{Phase}
use Rattle.rules.specs.declared.Phase.TheVariants.{Ended}
use Rattle.rules.specs.declared.Rule.TheVariants.{Spread}
use Rattle.rules.specs.declared.Search.{Search}
use Rattle.tune_text.specs.Fields.{whole_number, hexadecimal, is_line, values}
use Rattle.tune_text.specs.Lines.{reading_line, best_line, end_line, refused_line, bad_line}
use Rattle.tune_text.specs.declared.Stage.{Stage}
use Rattle.tune_text.specs.declared.Stage.TheVariants.{Head, Axes, Costs, Done}
use Rattle.tune_text.specs.declared.Request.{Request}
use Rattle.tune_text.specs.declared.Progress.{Progress}

-- what a line does: what is read so far, then, and the line that is printed, [] for none
pub record Turned : Type 0 where
  pub progress : Progress
  pub line : List ℕ

-- what is read so far, at another stage
abbrev pub at : Stage → Progress → Progress
at stage p = record { stage = stage; request = p.request; search = p.search }

-- a turn that prints a line "and ends"
abbrev pub last_turn : Progress → List ℕ → Turned
last_turn p line = record { progress = at Done p; line = line }

-- before the first line: nothing is read, and the search is closed
unfoldable pub nothing_read : Progress
nothing_read = record { stage = Head; request = record { n = 0; budget = 0; spread = 0; axes = replicate 8 zero_axis }; search = closed }

-- the opening that the lines ask for: "a line with n, budget and spread E (coefficients are the usual ones)"; the method is Nelder-Mead
abbrev pub opening_of : Request → Opened
opening_of q = opening NelderMead q.n q.axes (Some (Spread q.spread)) usual q.budget

-- the turn of an opening with this verdict: costs follow an accepted one; a refused one is printed and ends
abbrev pub turn_opened : Verdict → Request → Search → Turned
turn_opened (Ok _) q s = record { progress = record { stage = Costs; request = q; search = s }; line = [] }
turn_opened (Err r) q s = record { progress = record { stage = Done; request = q; search = s }; line = refused_line (number_of r) }

-- the turn of the opening that the lines ask for, called once
abbrev pub opening_turn : Request → Turned
opening_turn q = turn_opened (opening_of q).verdict q (opening_of q).search

-- how many axis lines are read: "If n isn't 1 to 8, no axis line is read"
abbrev pub axis_lines : ℕ → ℕ
axis_lines n = cond (leb 1 n && leb n 8) n 0

-- the turn after k axis lines are read: the next one follows, or the opening
unfoldable pub axes_read : ℕ → Request → Search → Turned
axes_read k q s =
    cond (ltb k (axis_lines q.n))
    (record { progress = record { stage = Axes k; request = q; search = s }; line = [] })
    (opening_turn q)

-- the numbers of the first line: n, budget and spread E
abbrev pub request_of : List ℕ → Request
request_of vs = record { n = get_or vs 0 0; budget = get_or vs 1 0; spread = get_or vs 2 0; axes = replicate 8 zero_axis }

-- the numbers of an axis line: "lo, hi, start, step" by "their bits"; "The program's axes are not rings"
abbrev pub axis_from : List ℕ → Axis
axis_from vs = record {
  lo = of_bits binary64 (get_or vs 0 0);
  hi = of_bits binary64 (get_or vs 1 0);
  start = of_bits binary64 (get_or vs 2 0);
  step = of_bits binary64 (get_or vs 3 0);
  ring = false;
}

-- the request with its axis record k, from 0
abbrev pub with_axis : ℕ → Axis → Request → Request
with_axis k a q = record { n = q.n; budget = q.budget; spread = q.spread; axes = set q.axes k a }

-- the turn of a tell with this verdict: "per accepted reading, its number, the point's n coordinates and the cost"
abbrev pub turn_told : Verdict → Progress → Asked → Search → ℕ → Turned
turn_told (Ok _) p a s cost = record {
  progress = record { stage = Costs; request = p.request; search = s };
  line = reading_line p.search.setup.n (record { point = a.trial.point; cost = cost; number = a.number });
}
turn_told (Err r) p a s cost = last_turn p (refused_line (number_of r))

-- the turn of a cost by what ask answers: the cost is told for its trial
abbrev pub turn_asked : Result Asked Refusal → Progress → ℕ → Turned
turn_asked (Ok a) p cost = turn_told (telling p.search a.number cost).verdict p a (telling p.search a.number cost).search cost
turn_asked (Err r) p cost = last_turn p (refused_line (number_of r))

-- the turn of a cost line, whose cost is told
unfoldable pub cost_told : Progress → ℕ → Turned
cost_told p cost = turn_asked (asking p.search) p cost

-- the turn of line i, by the stage
unfoldable pub line_read : Stage → Progress → ℕ → List ℕ → Turned
line_read Head p i line = cond (is_line whole_number 3 line) (axes_read 0 (request_of (values whole_number line)) p.search) (last_turn p (bad_line i))
line_read (Axes k) p i line = cond (is_line hexadecimal 4 line) (axes_read (suc k) (with_axis k (axis_from (values hexadecimal line)) p.request) p.search) (last_turn p (bad_line i))
line_read Costs p i line = cond (is_line whole_number 1 line) (cost_told p (get_or (values whole_number line) 0 0)) (last_turn p (bad_line i))
line_read Done p i line = record { progress = p; line = [] }

-- the cause; none where the search has not ended
abbrev pub ending_of : Phase → Option Cause
ending_of (Ended c) = Some c
ending_of _ = None

-- the best reading, where one was accepted
abbrev pub best_by : Result Vertex Refusal → Search → List ℕ
best_by (Ok v) s = best_line (ending_of s.phase) s.setup.n v
best_by (Err r) s = refused_line (number_of r)

-- the last line of a search
unfoldable pub search_end : Search → List ℕ
search_end s = cond (eqb s.readings 0) (end_line (ending_of s.phase)) (best_by (showing s) s)

-- the last line, by the stage: before the costs it is `end waiting`, "even before the last axis line"
unfoldable pub last_line : Stage → Search → List ℕ
last_line Head s = end_line None
last_line (Axes k) s = end_line None
last_line Costs s = search_end s
last_line Done s = []

-- the search has ended: "Costs after an ending are unread"
abbrev pub is_over : Stage → Search → Bool
is_over Costs s = is_ended s.phase
is_over _ s = false

-- nothing more is read or printed
abbrev pub is_done : Stage → Bool
is_done Done = true
is_done _ = false
