-- "The program", the lines of the output, each by its bytes. A whole number stands in decimal, as std's `decimal` has it.
use Rattle.std.specs.Prelude.{List, [], ◌∷◌, ◌++◌, ℕ, zero, suc, min, get_or, decimal, Float, Option, Some, None}
use Rattle.std.specs.Float.{binary64, nan}
use Rattle.std.specs.Float.Ieee.{to_bits}
use Rattle.io.specs.Digits.{last_digits}
use Rattle.rules.specs.declared.Vertex.{Vertex}
use Rattle.rules.specs.declared.Cause.{Cause}
use Rattle.rules.specs.declared.Cause.TheVariants.{Settled, Budget}
use Rattle.tune_text.specs.Ascii.{bytes}
use Rattle.tune_text.specs.Fields.{newline, space}

-- a coordinate: "the 16 hexadecimal digits" of its bits, after a space
abbrev pub spaced_bits : Float → List ℕ
spaced_bits x = space ∷ last_digits 16 16 (to_bits binary64 x)

-- the first k coordinates of a point
unfoldable pub coordinates : ℕ → List Float → List ℕ
coordinates zero x = []
coordinates (suc k) x = coordinates k x ++ spaced_bits (get_or x k nan)

-- "the point's n coordinates and the cost" of a reading; a point has eight
abbrev pub point_and_cost : ℕ → Vertex → List ℕ
point_and_cost n v = coordinates (min n 8) v.point ++ (space ∷ decimal v.cost)

-- "per accepted reading, its number, the point's n coordinates and the cost"
abbrev pub reading_line : ℕ → Vertex → List ℕ
reading_line n v = decimal v.number ++ (point_and_cost n v ++ (newline ∷ []))

-- the word of a cause: `settled` or `budget`
abbrev pub cause_word : Cause → List ℕ
cause_word Settled = bytes "settled"
cause_word Budget = bytes "budget"

-- the word of a last line: that of the cause, or `waiting` where there is none
abbrev pub word : Option Cause → List ℕ
word None = bytes "waiting"
word (Some c) = cause_word c

-- `end `, the cause
abbrev pub end_and : Option Cause → List ℕ
end_and c = bytes "end " ++ word c

-- "last `end`, the cause, best point and cost"; document 02: "The program's last line, if it shows a point, ends with that number"
abbrev pub best_line : Option Cause → ℕ → Vertex → List ℕ
best_line c n v = end_and c ++ (point_and_cost n v ++ (space ∷ (decimal v.number ++ (newline ∷ []))))

-- the last line "without point and cost if no reading was accepted"
abbrev pub end_line : Option Cause → List ℕ
end_line c = end_and c ++ (newline ∷ [])

-- a word and a whole number
abbrev pub numbered_line : List ℕ → ℕ → List ℕ
numbered_line w n = w ++ (decimal n ++ (newline ∷ []))

-- "A refusal prints `refused` and its number"
abbrev pub refused_line : ℕ → List ℕ
refused_line k = numbered_line (bytes "refused ") k

-- "a malformed line `bad` and its line number"
abbrev pub bad_line : ℕ → List ℕ
bad_line i = numbered_line (bytes "bad ") i
