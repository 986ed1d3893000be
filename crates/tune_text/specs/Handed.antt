-- How the functions hand over what the definitions speak of: fields, lines, turns and steps. Only private contracts cite these.
use Rattle.std.specs.Prelude.{cond, List, ℕ, ◌+◌, ◌≤◌, length, Option, Some, None, Result, Ok, Err}
use Rattle.arrayvec.specs.ArrayVec.{ArrayVec}
use Rattle.rules.specs.Refusals.{number_of}
use Rattle.rules.specs.declared.Refusal.{Refusal}
use Rattle.tune_text.specs.Fields.{is_number, is_line, field_value, values}
use Rattle.tune_text.specs.Lines.{refused_line, bad_line}
use Rattle.tune_text.specs.Reading.{Turned, last_turn}
use Rattle.tune_text.specs.Steps.{Stepped}
use Rattle.tune_text.specs.declared.fields.Form.{Form}
use Rattle.tune_text.specs.declared.Progress.{Progress}
use Rattle.tune_text.specs.declared.State.{State}

-- what reading a field gives: its number, if it has the form
abbrev pub number_read : Form → List ℕ → Option ℕ
number_read f xs = cond (is_number f xs) (Some (field_value f xs)) None

-- what reading a line of k fields gives: its numbers, if it has the form
unfoldable pub numbers_read : Form → ℕ → List ℕ → Option (List ℕ)
numbers_read f k line = cond (is_line f k line) (Some (values f line)) None

-- a line in the making has room for k more bytes; the longest line has 190
abbrev pub Room : ℕ → List ℕ → Type 0
Room k line = length line + k ≤ 192

-- the turn of a line of the input, by what is read so far, then, and the line that was handed over
abbrev pub turn_of : Progress → ArrayVec ℕ → Turned
turn_of p line = record { progress = p; line = line.items }

-- the turn of line i where a function hands over none for a malformed line
abbrev pub turn_or_bad : ℕ → Progress → Option (ArrayVec ℕ) → Turned
turn_or_bad i p (Some line) = turn_of p line
turn_or_bad i p None = last_turn p (bad_line i)

-- the same where a function refuses in place of a line
abbrev pub turn_or_refused : Progress → Result (ArrayVec ℕ) Refusal → Turned
turn_or_refused p (Ok line) = turn_of p line
turn_or_refused p (Err r) = last_turn p (refused_line (number_of r))

-- a step, by the state after it and the line that was handed over
abbrev pub step_of : State → ArrayVec ℕ → Stepped
step_of s line = record { state = s; line = line.items }
