-- "The list and its history": lists of calls on a newly opened search, and the history that they make.
use Rattle.std.specs.Prelude.{Bool, cond, not, ◌&&◌, List, [], ◌∷◌, ◌++◌, ℕ, zero, suc, ◌+◌, ◌<◌, ◌≤◌, length, get_or, leb, eqb}
use Rattle.rules.specs.Numbers.{max_cost}
use Rattle.rules.specs.View.{is_ended}
use Rattle.rules.specs.Trial.{trial}
use Rattle.rules.specs.Accept.{accept}
use Rattle.rules.specs.Calls.{telling}
use Rattle.rules.specs.declared.Vertex.{Vertex}
use Rattle.rules.specs.declared.Search.{Search}

-- "asks, tells and best queries"; a tell has its reading number and its cost
pub data Call : Type 0 where
  ask : Call
  tell : ℕ → ℕ → Call
  best : Call

-- what joins the history: a cost
pub data Event : Type 0 where
  told : ℕ → Event

-- the search after a call: ask and best change nothing
abbrev pub after1 : Search → Call → Search
after1 s ask = s
after1 s (tell k c) = (telling s k c).search
after1 s best = s

-- "each call is handed the search that the call before returned"
unfoldable pub after : Search → List Call → Search
after s [] = s
after s (c ∷ cs) = after (after1 s c) cs

-- the search after an event
abbrev pub step : Search → Event → Search
step s (told c) = accept s c

-- "the rules, run .. over the history"
unfoldable pub run : Search → List Event → Search
run s [] = s
run s (e ∷ es) = run (step s e) es

-- the costs of a history
unfoldable pub costs_in : List Event → List ℕ
costs_in [] = []
costs_in (told c ∷ es) = c ∷ costs_in es

-- the tell k c joins the history h of the opened search o: "the rules .. have not ended the search, its reading number is the
-- number of costs there + 1, and its cost is at most 16,777,215"
abbrev pub joins : Search → List Event → ℕ → ℕ → Bool
joins o h k c = not (is_ended (run o h).phase) && eqb k (length (costs_in h) + 1) && leb c max_cost

-- "its cost joins the history"; "Every other call leaves the history alone"
abbrev pub history1 : Search → List Event → Call → List Event
history1 o h ask = h
history1 o h (tell k c) = cond (joins o h k c) (h ++ (told c ∷ [])) h
history1 o h best = h

-- the history after the calls cs, h being the history before them
unfoldable pub history_from : Search → List Event → List Call → List Event
history_from o h [] = h
history_from o h (c ∷ cs) = history_from o (history1 o h c) cs

-- "The history follows from the calls' arguments alone and starts empty"
abbrev pub history : Search → List Call → List Event
history o cs = history_from o [] cs

-- the history "just before the k-th cost joins", k counted from 0
unfoldable pub before_cost : ℕ → List Event → List Event
before_cost k [] = []
before_cost zero (told c ∷ es) = []
before_cost (suc k) (told c ∷ es) = told c ∷ before_cost k es

-- "reading k is trial k with that cost", k counted from 0: the trial is "the point that the rules ask just before" it joins. Its number counts
-- from 1, after those that o has read
abbrev pub reading : Search → List Event → ℕ → Vertex
reading o h k = record { point = (trial (run o (before_cost k h))).point; cost = get_or (costs_in h) k 0; number = o.readings + k + 1 }

-- "The earliest least reading", number k from 0 of these costs: "no reading is lower, and every earlier one is higher"
pub record EarliestLeast (cs : List ℕ) (k : ℕ) : Type 0 where
  pub told : k < length cs
  pub least : (j : ℕ) → j < length cs → get_or cs k 0 ≤ get_or cs j 0
  pub earliest : (j : ℕ) → j < k → get_or cs k 0 < get_or cs j 0
