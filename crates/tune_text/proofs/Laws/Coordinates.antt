-- Laws on coordinates as text: how many bytes they take, and that the hexadecimal digits of a float's bits are sixteen. Assumes nothing.
use mathlib.Core.Path.{◌≡◌, refl}
use mathlib.Core.List.{List}
use mathlib.Core.Logic.{⊎_elim}
use Prim.Native.Nat.{ℕ, zero, suc, ◌-◌, ◌*◌, ◌^◌, ◌<◌}
use native.Mathlib.Nat.{pow-le-pow_right}
use native.Mathlib.Omega.{arith}
use lib.ListN.{length, length-append, length-take}
use Rattle.std.proofs.lemmas.List.{get_or-take}
use lib.Ieee.{Float}
use Rattle.io.specs.Digits.{IsDigitCount}
use Rattle.std.proofs.lemmas.Bool.{cases_lt}
use Rattle.tune_text.specs.Lines.{coordinates}

-- a coordinate takes seventeen bytes
pub coordinates_length : (k : ℕ) (x : List Float) → length (coordinates k x) ≡ 17 * k
unfolding coordinates
coordinates_length zero x = refl
coordinates_length (suc k) x = simp (length-append, coordinates_length k x) (omega arith)

-- sixteen hexadecimal digits hold 64 bits
pub sixteen : (n k : ℕ) → n < 2 ^ 64 → IsDigitCount 16 16 n k → k ≡ 16
sixteen n k h f =
    ⊎_elim
    (λ l. absurd (omega (arith, f.2 l, pow-le-pow_right {n = 16} (omega arith) {i = 16} {j = k - 1} (omega arith))))
    (λ l. omega (arith, f.0))
    (cases_lt 16 k)

-- the laws on the room that coordinates take
pub ruleset lengths = (coordinates_length, length-append, length-take)
