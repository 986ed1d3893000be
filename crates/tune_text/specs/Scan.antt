-- Where a byte stands in a text.
use Rattle.std.specs.Prelude.{List, ℕ, eqb}
use Rattle.std.specs.List.{position_or_len}

-- the index of the first byte b of a text, or the text's length where it has none
unfoldable pub index_of : ℕ → List ℕ → ℕ
index_of b xs = position_or_len (λ x. eqb x b) xs
