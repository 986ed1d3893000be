-- Laws on a field's digits, from the first on, and on how large their number is. Assumes nothing.
use mathlib.Core.Path.{◌≡◌, refl, sym, ap, ◌∙◌}
use mathlib.Core.Bool.{true, ◌&&◌, and-eq-true_iff}
use mathlib.Core.List.{List, [], ◌∷◌, ◌++◌}
use Prim.Native.Nat.{ℕ, suc, ◌+◌, ◌*◌, ◌^◌, ◌≤◌, ◌<◌}
use native.Mathlib.Nat.{pow-zero, pow-suc, pow-le-pow_right, mul-le-mul_left, mul-le-mul_right, suc-mul}
use native.Mathlib.Omega.{arith}
use Rattle.std.proofs.Common.{lit<}
use lib.Dec.{ltb}
use lib.ListN.{length, get_or, take, drop, take-append-drop}
use lib.Seq.{drop-cons}
use borrow.Author.Tests.{ltb-true}
use Rattle.std.proofs.lemmas.List.Sums.{fold-append}
use Rattle.numerals.specs.Digits.{digit_of, all_digits, value}

-- ---- the digits of a field, from the first on

-- a field with no digit
pub all_digits-nil : (base : ℕ) → all_digits base [] ≡ true
unfolding all_digits
all_digits-nil base = refl

-- its first byte is a digit, and the others are
pub all_digits-cons : (base x : ℕ) (xs : List ℕ) → all_digits base (x ∷ xs) ≡ ltb (digit_of x) base && all_digits base xs
unfolding all_digits
all_digits-cons base x xs = refl

-- no digit more
pub value-nil : (base v : ℕ) → value base v [] ≡ v
unfolding value
value-nil base v = refl

-- one digit more
pub value-cons : (base v x : ℕ) (xs : List ℕ) → value base v (x ∷ xs) ≡ value base (v * base + digit_of x) xs
unfolding value
value-cons base v x xs = refl

-- digits and more after them
value_append : (base v : ℕ) (xs ys : List ℕ) → value base v (xs ++ ys) ≡ value base (value base v xs) ys
unfolding value
value_append base v xs ys = fold-append _ v xs ys

-- ---- how large a number is

-- with digits after it a number is no less
value_least : (base v : ℕ) (xs : List ℕ) → 0 < base → v ≤ value base v xs
value_least base v [] l = rw (value-nil base v) (omega arith)
value_least base v (x ∷ xs) l = rw (value-cons base v x xs) (omega (arith, value_least base (v * base + digit_of x) xs l, mul-le-mul_left v l))

-- so a number does not fit 64 bits where the number n of the digits before place i, with the digit there, does not
pub too_large : (base i n : ℕ) (xs : List ℕ) → i < length xs → n ≡ value base 0 (take i xs) → digit_of (get_or xs i 0) < base
    → (n * base + digit_of (get_or xs i 0) < 2 ^ 64 → ⊥) → value base 0 xs < 2 ^ 64 → ⊥
too_large base i n xs l e d k h =
    let m = n * base + digit_of (get_or xs i 0) in
    let split : value base 0 xs ≡ value base m (drop (suc i) xs) =
    ap (value base 0) (sym (take-append-drop i xs)) ∙ value_append base 0 (take i xs) (drop i xs) ∙ rw (← e, drop-cons xs i 0 l) (value-cons base n _ _) in
    k (omega (arith, value_least base m (drop (suc i) xs) (omega arith)))

-- a number of so many digits in a base is below the base to that power; v is the number of the digits before them
below_power : (base v n : ℕ) (xs : List ℕ) → v < base ^ n → all_digits base xs ≡ true → value base v xs < base ^ (n + length xs)
below_power base v n [] l h = let e : n + length {A = ℕ} [] ≡ n = omega arith in rw (value-nil base v, e) l
below_power base v n (x ∷ xs) l h =
    let k = (and-eq-true_iff _ _).0 (rw all_digits-cons at h) in
    let d : digit_of x < base = ltb-true _ _ k.0 in
    let more : v * base + digit_of x < base ^ suc n = rw pow-suc (omega (arith, mul-le-mul_right base l, suc-mul v base)) in
    let e : n + suc (length xs) ≡ suc n + length xs = omega arith in
    rw (value-cons base v x xs, e) (below_power base (v * base + digit_of x) (suc n) xs more k.1)

-- a field of digits has a number below the base to the power of its length
pub value_below : (base : ℕ) (xs : List ℕ) → all_digits base xs ≡ true → value base 0 xs < base ^ length xs
value_below base xs h = let e : 0 + length xs ≡ length xs = omega arith in rw e at (below_power base 0 0 xs (rw pow-zero (lit< tt)) h)

-- it fits 64 bits where numbers of as many digits as it may have do
pub value_fits : (base most : ℕ) (xs : List ℕ) → 1 < base → base ^ most ≤ 2 ^ 64 → length xs ≤ most → all_digits base xs ≡ true → value base 0 xs < 2 ^ 64
value_fits base most xs b f l h = omega (arith, value_below base xs h, pow-le-pow_right {n = base} (omega arith) {i = length xs} {j = most} l)
