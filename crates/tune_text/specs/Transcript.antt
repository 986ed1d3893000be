-- "The program": the output for every input, line by line.
use Rattle.std.specs.Prelude.{cond, List, [], ◌∷◌, ◌++◌, ℕ, suc, length, leb}
use Rattle.tune_text.specs.Fields.{newline, cut}
use Rattle.tune_text.specs.Lines.{bad_line}
use Rattle.tune_text.specs.Reading.{nothing_read, line_read, last_line, is_over, is_done}
use Rattle.tune_text.specs.declared.Progress.{Progress}

-- "at most 65,536 bytes"
abbrev pub longest : ℕ
longest = 65536

-- what stands after the last newline: nothing, where input "stops early after a whole line", or a line with no newline
abbrev pub stopped : Progress → ℕ → List ℕ → List ℕ
stopped p i [] = last_line p.stage p.search
stopped p i (x ∷ xs) = bad_line i

-- nothing once all is done, the last line of a search that has ended, else what is given
abbrev pub unless_over : Progress → List ℕ → List ℕ
unless_over p lines = cond (is_done p.stage) [] (cond (is_over p.stage p.search) (last_line p.stage p.search) lines)

-- what is printed from line i on, the input being cut into its lines; a cut has a piece at least, so the first case never comes
unfoldable pub lines_from : Progress → ℕ → List (List ℕ) → List ℕ
lines_from p i [] = []
lines_from p i (line ∷ []) = unless_over p (stopped p i line)
lines_from p i (line ∷ (next ∷ rest)) =
    unless_over p ((line_read p.stage p i line).line ++ lines_from (line_read p.stage p i line).progress (suc i) (next ∷ rest))

-- the bytes of the output for the bytes of the input; "Longer input prints `bad 0` alone"
unfoldable pub transcript : List ℕ → List ℕ
transcript bytes = cond (leb (length bytes) longest) (lines_from nothing_read 1 (cut newline bytes)) (bad_line 0)
