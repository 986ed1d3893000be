-- The output one step at a time: what the promise of `step` cites, and what a run of steps prints.
use Rattle.std.specs.Prelude.{false, cond, List, [], ◌++◌, ◌≡◌, ℕ, zero, suc, ◌+◌, ◌-◌, ◌≤◌, ◌<◌, length, take, drop, leb, ltb}
use Rattle.tune_text.specs.Scan.{index_of}
use Rattle.tune_text.specs.Fields.{newline}
use Rattle.tune_text.specs.Lines.{bad_line}
use Rattle.tune_text.specs.Reading.{Turned, nothing_read, at, line_read, last_line, is_over, is_done}
use Rattle.tune_text.specs.Transcript.{longest, stopped}
use Rattle.tune_text.specs.declared.Stage.TheVariants.{Done}
use Rattle.tune_text.specs.declared.State.{State}

-- the first state: before line 1
unfoldable pub first_state : State
first_state = record { position = 0; line = 1; progress = nothing_read }

-- the line after line i; an input that is read has no more than 65,537
abbrev pub line_after : ℕ → ℕ
line_after i = cond (leb i longest) (i + 1) i

-- what a step does: the state after it, and the line that it prints, [] for none
pub record Stepped : Type 0 where
  pub state : State
  pub line : List ℕ

-- the step that prints this line, after which all is done
abbrev pub last_step : State → List ℕ → Stepped
last_step s line = record { state = record { position = s.position; line = s.line; progress = at Done s.progress }; line = line }

-- the step that has read a whole line of k bytes and done its turn
abbrev pub passed : State → ℕ → Turned → Stepped
passed s k t = record { state = record { position = s.position + k + 1; line = line_after s.line; progress = t.progress }; line = t.line }

-- a step on what is left of the input: the bytes before its first newline are a line
unfoldable pub line_step : State → List ℕ → Stepped
line_step s left =
    cond (ltb (index_of newline left) (length left))
    (passed s (index_of newline left) (line_read s.progress.stage s.progress s.line (take (index_of newline left) left)))
    (last_step s (stopped s.progress s.line left))

-- a step: nothing where all is done, `bad 0` for a long input, the last line of a search that has ended, else a line
unfoldable pub stepping : List ℕ → State → Stepped
stepping bytes s =
    cond (is_done s.progress.stage) (record { state = s; line = [] })
    (cond (leb (length bytes) longest)
    (cond (is_over s.progress.stage s.progress.search)
    (last_step s (last_line s.progress.stage s.progress.search))
    (line_step s (drop s.position bytes)))
    (last_step s (bad_line 0)))

-- the state after k steps
unfoldable pub state_after : ℕ → List ℕ → State → State
state_after zero bytes s = s
state_after (suc k) bytes s = state_after k bytes (stepping bytes s).state

-- the lines of k steps, put together
unfoldable pub printed : ℕ → List ℕ → State → List ℕ
printed zero bytes s = []
printed (suc k) bytes s = (stepping bytes s).line ++ printed k bytes (stepping bytes s).state

-- a bound on the steps that are left, which falls with each step
abbrev pub steps_left : List ℕ → State → ℕ
steps_left bytes s = cond (is_done s.progress.stage) 0 (suc (length bytes - s.position))

-- what filling a buffer gives: the lines of so many steps stand at its start, in count bytes, and t is the state after them; where
-- something was left to do and the buffer has room for a line, less is left; and where something is left to do, it has no room for one more
pub record Fills (bytes : List ℕ) (s : State) (buffer : List ℕ) (t : State) (count : ℕ) : Type 0 where
  pub steps : ℕ
  pub lines : take count buffer ≡ printed steps bytes s
  pub state : t ≡ state_after steps bytes s
  pub within : count ≤ length buffer
  pub onward : is_done s.progress.stage ≡ false → 192 ≤ length buffer → steps_left bytes t < steps_left bytes s
  pub full : is_done t.progress.stage ≡ false → length buffer < count + 192
