-- "The program": document 01's example and further texts, what the definitions print beside what document 01 says.
use Rattle.std.specs.Prelude.{List, [], ◌∷◌, ℕ}
use Prim.Native.String.{String, ◌++◌}
use Rattle.tune_text.specs.Ascii.{bytes}
use Rattle.tune_text.specs.Transcript.{transcript}

infix 40 ◌prints◌
-- an input and its output
pub data Worked : Type 0 where
  ◌prints◌ : String → String → Worked

-- what the definitions print for the input
abbrev pub printed_by : Worked → List ℕ
printed_by (input prints output) = transcript (bytes input)

-- the output that document 01 says
abbrev pub stated_by : Worked → List ℕ
stated_by (input prints output) = bytes output

-- an axis line: lo −8, hi 8, start 0, step 1
abbrev pub axis_line : String
axis_line = "c020000000000000 4020000000000000 0000000000000000 3ff0000000000000\n"

-- the example; input that is empty or stops after each line; each refusal that an input can meet; lines of another form, on each of the
-- three kinds of line; what follows an ending; leading zeros
abbrev pub worked : List Worked
worked =
    (("1 4 1\n" ++ axis_line ++ "4\n6\n4\n4\n") prints "1 0000000000000000 4\n2 3ff0000000000000 6\n3 bff0000000000000 4\n4 bfe0000000000000 4\nend budget 0000000000000000 4 1\n")
    ∷ ("" prints "end waiting\n")
    ∷ ("2 100 4\n" prints "end waiting\n")
    ∷ (("2 100 4\n" ++ axis_line) prints "end waiting\n")
    ∷ (("2 100 4\n" ++ axis_line ++ axis_line) prints "end waiting\n")
    ∷ (("1 4 1\n" ++ axis_line ++ "4\n") prints "1 0000000000000000 4\nend waiting 0000000000000000 4 1\n")
    ∷ (("1 2 1\n" ++ axis_line ++ "7\n6\nno cost") prints "1 0000000000000000 7\n2 3ff0000000000000 6\nend budget 3ff0000000000000 6 2\n")
    ∷ (("1 9 4\n" ++ axis_line ++ "5\n5\n5\n5\n16777216\n") prints "1 0000000000000000 5\n2 3ff0000000000000 5\n3 3f50000000000000 5\n4 bf50000000000000 5\nend settled 0000000000000000 5 1\n")
    ∷ ("9 4 1\nno axisLine line\n" prints "refused 1\n")
    ∷ ("1 4 1\n7ff8000000000001 4020000000000000 0000000000000000 3ff0000000000000\n" prints "refused 2\n")
    ∷ ("1 4 1\n4020000000000000 4020000000000000 0000000000000000 3ff0000000000000\n" prints "refused 3\n")
    ∷ ("1 4 1\nc020000000000000 4020000000000000 0000000000000000 4022000000000000\n" prints "refused 4\n")
    ∷ (("1 4 0\n" ++ axis_line) prints "refused 6\n")
    ∷ (("1 1 1\n" ++ axis_line) prints "refused 7\n")
    ∷ (("1 4 1\n" ++ axis_line ++ "16777215\n16777216\n") prints "1 0000000000000000 16777215\nrefused 9\n")
    ∷ ("1 4\n" prints "bad 1\n")
    ∷ ("1 4  1\n" prints "bad 1\n")
    ∷ ("1 4 00000000001\n" prints "bad 1\n")
    ∷ ("1 4 1" prints "bad 1\n")
    ∷ ("1 4 1\nC020000000000000 4020000000000000 0000000000000000 3ff0000000000000\n" prints "bad 2\n")
    ∷ ("1 4 1\nc020000000000000 402000000000000 0000000000000000 3ff0000000000000\n" prints "bad 2\n")
    ∷ (("1 4 1\n" ++ axis_line ++ "\n") prints "bad 3\n")
    ∷ (("1 4 1\n" ++ axis_line ++ "+4\n") prints "bad 3\n")
    ∷ (("1 4 1\n" ++ axis_line ++ "4\r\n") prints "bad 3\n")
    ∷ (("1 4 1\n" ++ axis_line ++ "4\n5") prints "1 0000000000000000 4\nbad 4\n")
    ∷ (("01 0000000004 001\n" ++ axis_line ++ "0000000004\n") prints "1 0000000000000000 4\nend waiting 0000000000000000 4 1\n")
    ∷ []
