-- What stands for a whole number in a line: its twenty digits without the zeros in front of them are what std's `decimal` writes. Assumes nothing.
use mathlib.Core.Path.{◌≡◌, refl}
use mathlib.Core.List.{List, [], ◌∷◌, ◌++◌}
use mathlib.Core.Bool.{cond}
use mathlib.Core.Logic.{⊎_elim}
use Prim.Native.Nat.{ℕ, zero, suc, ◌+◌, ◌/◌, ◌%◌, ◌^◌, ◌<◌}
use native.Mathlib.Nat.{eq-zero-or-pos, pow-suc, pow-le-pow_right, div-lt_iff_lt-mul, zero-lt-suc}
use native.Mathlib.Omega.{arith}
use lib.Dec.{eqb}
use lib.ListN.{get_or}
use borrow.Author.Tests.{lt-ltb, ne_eqb}
use Rattle.std.proofs.lemmas.Bool.Decides.{nat_tests}
use Rattle.std.proofs.lemmas.Fmt.{decimal_digit, decimal_step_wide, first_decimal}
use Rattle.std.specs.Prelude.{decimal}
use Rattle.io.specs.Digits.{last_digits}

-- digits without the zeros in front of them, but for the last digit
unfoldable pub trim : List ℕ → List ℕ
trim [] = []
trim (x ∷ []) = x ∷ []
trim (x ∷ (y ∷ ys)) = cond (eqb x 48) (trim (y ∷ ys)) (x ∷ (y ∷ ys))

-- zeros in front may fall away before more digits follow
trim_front : (xs ys : List ℕ) → trim (xs ++ ys) ≡ trim (trim xs ++ ys)
unfolding trim
trim_front [] ys = refl
trim_front (x ∷ []) ys = refl
trim_front (x ∷ (y ∷ zs)) ys = grind (arith, trim_front (y ∷ zs) ys)

-- nothing falls away from digits and one more, where the first is not zero
trim_led : (xs : List ℕ) (y : ℕ) → 48 < get_or xs 0 0 → trim (xs ++ (y ∷ [])) ≡ xs ++ (y ∷ [])
unfolding trim
trim_led [] y h = absurd (omega arith)
trim_led (x ∷ []) y h = rw (ne_eqb x 48 (λ e. omega arith))
trim_led (x ∷ (z ∷ zs)) y h = rw (ne_eqb x 48 (λ e. omega arith))

-- the digits of a tenth of a number and its last digit are the number in decimal, without the zero of a tenth that is 0
trim_step : (n : ℕ) → n < 10 ^ 20 → trim (decimal (n / 10) ++ ((48 + n % 10) ∷ [])) ≡ decimal n
unfolding trim
trim_step n h =
    ⊎_elim
    (λ (z : n / 10 ≡ 0).
    let e : n % 10 ≡ n = omega arith in
    rw (z, decimal_digit n (omega arith), decimal_digit 0 (omega arith), e))
    (λ (p : 0 < n / 10).
    rw (decimal_step_wide n (omega arith) (omega arith)) (trim_led (decimal (n / 10)) _ (first_decimal (n / 10) p (omega arith))))
    (eq-zero-or-pos (n / 10))

-- as many digits as hold a number, without the zeros in front, are the number in decimal
trim_digits : (k n : ℕ) → k < 20 → n < 10 ^ suc k → trim (last_digits 10 (suc k) n) ≡ decimal n
unfolding trim
trim_digits zero n l h = rw (decimal_digit n (omega arith)) (grind (arith, nat_tests))
trim_digits (suc k) n l h =
    let small : n / 10 < 10 ^ suc k = (div-lt_iff_lt-mul (zero-lt-suc 9)).1 (rw pow-suc at h) in
    let fits : n < 10 ^ 20 = omega (arith, pow-le-pow_right {n = 10} (omega arith) {i = suc (suc k)} {j = 20} (omega arith)) in
    rw (trim_front (last_digits 10 (suc k) (n / 10)) _, trim_digits k (n / 10) (omega arith) small, lt-ltb (n % 10) 10 (omega arith))
    (trim_step n fits)

-- twenty digits without the zeros in front are the number in decimal, for every number that twenty digits hold
pub same_decimal : (n : ℕ) → n < 10 ^ 20 → trim (last_digits 10 20 n) ≡ decimal n
same_decimal n h = trim_digits 19 n (omega arith) h
