-- "The program", the lines of the input: how a text is cut into lines and a line into fields, and what number a field is.
use Rattle.std.specs.Prelude.{Bool, ◌&&◌, List, map, ℕ, length, leb, eqb}
use Rattle.std.specs.List.{list_all, slice_split}
use Rattle.numerals.specs.Digits.{all_digits, value}
use Rattle.tune_text.specs.declared.fields.Form.{Form}

-- the byte that "ends every line"
abbrev pub newline : ℕ
newline = 10

-- the byte that "stands between fields"
abbrev pub space : ℕ
space = 32

-- a text cut at each byte b: the pieces before it and the piece after the last; a text without b is one piece
unfoldable pub cut : ℕ → List ℕ → List (List ℕ)
cut b xs = slice_split (λ x. eqb x b) xs

-- the form of a field's number, by its base, and how few and how many digits it may have
abbrev pub form : ℕ → ℕ → ℕ → Form
form base least most = record { base = base; least = least; most = most }

-- "Whole numbers are 1 to 10 decimal digits"
abbrev pub whole_number : Form
whole_number = form 10 1 10

-- "the 16 hexadecimal digits of their bits"
abbrev pub hexadecimal : Form
hexadecimal = form 16 16 16

-- a field has the form f
abbrev pub is_number : Form → List ℕ → Bool
is_number f xs = leb f.least (length xs) && leb (length xs) f.most && all_digits f.base xs

-- a line of k fields of the form f; "a line of any other form is malformed"
unfoldable pub is_line : Form → ℕ → List ℕ → Bool
is_line f k line = eqb (length (cut space line)) k && list_all (is_number f) (cut space line)

-- the number of a field
abbrev pub field_value : Form → List ℕ → ℕ
field_value f xs = value f.base 0 xs

-- the numbers of a line, field by field
abbrev pub values : Form → List ℕ → List ℕ
values f line = map (field_value f) (cut space line)
