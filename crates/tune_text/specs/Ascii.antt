-- A text by its bytes, so that the definitions can show a line as document 01 does.
use Rattle.std.specs.Prelude.{List, [] as none, ◌∷◌ as ◌before◌, ℕ}
use Prim.Native.Char.{code}
use Prim.Native.String.{String, [], ◌∷◌}

-- the code of each character, which is its byte: the texts here are ASCII
abbrev pub bytes : String → List ℕ
bytes [] = none
bytes (c ∷ s) = code c before bytes s
