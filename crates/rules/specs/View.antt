-- "The phase is one of": what the rules ask of a phase apart from its own trial and its own row. A new phase is placed here once.
use Rattle.std.specs.Prelude.{Bool, true, false, cond, ℕ, eqb}
use Rattle.rules.specs.declared.Phase.{Phase}
use Rattle.rules.specs.declared.Phase.TheVariants.{Building, Reflecting, Expanding, Contracting, Shrinking, Basing, Mirroring, Checking, Probing, Ended}
use Rattle.rules.specs.declared.View.{View}
use Rattle.rules.specs.declared.View.TheVariants.{Builds, Iterates, Turns, Probes, Over}

-- what each phase is: a build, an iteration of Nelder-Mead, a multidirectional one, a probe round or the end; while e or a contraction is asked
-- r is gathered, and the base is read as a build's start point is
abbrev pub view : Phase → View
view (Building i) = Builds i
view Reflecting = Iterates 0
view Expanding = Iterates 1
view (Contracting side) = Iterates 1
view (Shrinking j) = Iterates j
view Basing = Builds 0
view (Mirroring i) = Turns
view (Checking i) = Turns
view (Probing p) = Probes p
view (Ended cause) = Over cause

-- "search ended"
abbrev pub is_ended : Phase → Bool
is_ended p = elim (view p) [ Builds i ↦ false | Iterates k ↦ false | Turns ↦ false | Probes q ↦ false | Over cause ↦ true ]

-- how many vertices the unfinished build or iteration has gathered; the reflections of a multidirectional one count as none
abbrev pub gathered_in : Phase → ℕ
gathered_in p = elim (view p) [ Builds i ↦ i | Iterates k ↦ k | Turns ↦ 0 | Probes q ↦ 0 | Over cause ↦ 0 ]

-- what a reading told in this phase adds to Probes: "Probes counts probe readings"
abbrev pub is_probe : Phase → ℕ
is_probe p = elim (view p) [ Builds i ↦ 0 | Iterates k ↦ 0 | Turns ↦ 0 | Probes q ↦ 1 | Over cause ↦ 0 ]

-- what it adds to Open if it ends no piece: "the readings told in the unfinished iteration or restart build; in the first build it leaves
-- out the first reading", which alone is told as trial 0 or as the base
abbrev pub open_by : Phase → ℕ
open_by p = elim (view p) [ Builds i ↦ cond (eqb i 0) 0 1 | Iterates k ↦ 1 | Turns ↦ 0 | Probes q ↦ 0 | Over cause ↦ 0 ]

-- what it adds to the readings in multidirectional iterations
abbrev pub is_directed : Phase → ℕ
is_directed p = elim (view p) [ Builds i ↦ 0 | Iterates k ↦ 0 | Turns ↦ 1 | Probes q ↦ 0 | Over cause ↦ 0 ]
