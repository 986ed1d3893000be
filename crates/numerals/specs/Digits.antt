-- The digits of whole and of hexadecimal numbers, as document 01 writes both.
use Rattle.std.specs.Prelude.{Bool, cond, ◌&&◌, List, ℕ, ◌+◌, ◌-◌, ◌*◌, leb, ltb, fold}
use Rattle.std.specs.List.{list_all}

-- the digit that a byte is, `0` to `9`, then "hexadecimal digits are lowercase", `a` to `f`; 16 for any other byte
abbrev pub digit_of : ℕ → ℕ
digit_of x = cond (leb 48 x && leb x 57) (x - 48) (cond (leb 97 x && leb x 102) (x - 87) 16)

-- every byte of a field is a digit in this base
unfoldable pub all_digits : ℕ → List ℕ → Bool
all_digits base xs = list_all (λ x. ltb (digit_of x) base) xs

-- the number of a field's digits in this base, v being the number of the digits before them
unfoldable pub value : ℕ → ℕ → List ℕ → ℕ
value base v xs = fold (λ n x. n * base + digit_of x) v xs
