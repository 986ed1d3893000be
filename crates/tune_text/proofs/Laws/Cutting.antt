-- Laws on the cut of a text at a byte. Assumes nothing.
use mathlib.Core.Path.{◌≡◌, refl}
use mathlib.Core.Bool.{Bool, true, false, cond, not}
use mathlib.Core.List.{List, [], ◌∷◌}
use Prim.Native.Nat.{ℕ, suc, ◌≤◌, ◌<◌}
use native.Mathlib.Numerals.{add-one}
use native.Mathlib.Omega.{arith}
use lib.Dec.{eqb}
use lib.ListN.{length, take, drop}
use Rattle.std.proofs.lemmas.List.Splits.{slice_split_first, slice_split_none, length-slice_split}
use Rattle.std.proofs.lemmas.List.Sums.{fails_before_first}
use Rattle.tune_text.specs.Scan.{index_of}
use Rattle.tune_text.specs.Fields.{cut}

-- a text with no byte
pub index_of-nil : (b : ℕ) → index_of b [] ≡ 0
unfolding index_of
index_of-nil b = refl

-- a choice by a test turned round
turned : (t : Bool) (m k n : ℕ) → m ≡ k → cond (not t) m n ≡ cond t n k
turned true m k n e = refl
turned false m k n e = e

-- the first byte is b, or b stands one further than in what follows it
pub index_of-cons : (b x : ℕ) (xs : List ℕ) → index_of b (x ∷ xs) ≡ cond (eqb x b) 0 (suc (index_of b xs))
unfolding index_of
index_of-cons b x xs = turned (eqb x b) _ _ 0 (omega arith)

module _ (b : ℕ) (xs : List ℕ) where
  -- a text with b in it: the first piece is what stands before the first b, and the others are those of what stands after it
  pub cut_line : index_of b xs < length xs → cut b xs ≡ take (index_of b xs) xs ∷ cut b (drop (suc (index_of b xs)) xs)
  unfolding index_of cut
  cut_line h = rw (← add-one) (slice_split_first (λ x. eqb x b) xs 0 h)

  -- a text without b is its only piece
  pub cut_last : length xs ≤ index_of b xs → cut b xs ≡ xs ∷ []
  unfolding index_of cut
  cut_last h = slice_split_none (λ x. eqb x b) xs (λ k d l. fails_before_first (λ x. eqb x b) xs k d (omega arith))

  -- a text has a piece
  pub cut_some : 0 < length (cut b xs)
  unfolding cut
  cut_some = omega (arith, length-slice_split (λ x. eqb x b) xs)
