-- The whole numbers and the coefficients that several sections of document 01 share. Code has them as constants of src/lib.rt.
use Rattle.std.specs.Prelude.{ℕ}
use Rattle.std.specs.Float.{binary64}
use Rattle.std.specs.Float.Ieee.{of_bits}
use Rattle.rules.specs.Binary64.{1ᶠ, 2ᶠ}
use Rattle.rules.specs.declared.Coefficients.{Coefficients}

-- "A cost is a whole number from 0 to 16,777,215"
abbrev pub max_cost : ℕ
max_cost = 16777215

-- the largest budget: refusal 7, "budget not n+1 to 1,000,000"
abbrev pub max_budget : ℕ
max_budget = 1000000

-- the largest E of the rule spread: refusal 6, "for spread, E not 1 to 4,294,967,295"
abbrev pub max_spread : ℕ
max_spread = 4294967295

-- the coefficients α, χ, β and σ that are "Usual: 1, 2, 1/2, 1/2"
abbrev pub usual : Coefficients
usual = record { alpha = 1ᶠ; chi = 2ᶠ; beta = of_bits binary64 0x3fe0_0000_0000_0000; sigma = of_bits binary64 0x3fe0_0000_0000_0000 }
