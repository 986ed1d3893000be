-- The loop of `engine::companion::group` keeps that the base and the first k companions stand in the places, with the stops of these beside.
use Rattle.std.proofs.Common.{◌≡◌}
use Rattle.rules.specs.Simplex.{pack}
use Rattle.rules.specs.Companions.{base_after, companion_after, stop_after, group, stops_by}
use Rattle.rules.proofs.Laws.Places.{Whole}
use Rattle.engine.proofs.companion.group.Given as goal

abbrev pub invariant-loop-k : goal.invariant-loop-k
invariant-loop-k l =
    record {
      stand : l.places ≡ pack (group (base_after l.change l.u l.s) (companion_after l.change l.u l.s) l.k);
      whole : Whole (group (base_after l.change l.u l.s) (companion_after l.change l.u l.s) l.k);
      counted : l.stops ≡ stops_by (stop_after l.change l.u l.s) l.k;
    }
