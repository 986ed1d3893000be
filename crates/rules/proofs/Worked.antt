-- The worked searches trial by trial, the stopping rules at their edges, the opening's refusals edge by edge, what a search carries, refusal 12
-- cause by cause, a trial's stops, rings, and the multidirectional search, by computation. Assumes nothing.
use mathlib.Core.Path.{◌≡◌, refl}
use Rattle.rules.specs.Simplex.{flat, store}
use Rattle.rules.specs.History.{costs_in, before_cost}
use Rattle.rules.specs.Opening.{axes_checks, open_verdict, closed}
use Rattle.rules.specs.Calls.{in_order, all_costs, sound, ask_verdict, tell_verdict, best_verdict, showing}
use Rattle.rules.specs.Tally.{pieces, count_of, probes_in, open_in, directed_in, all_read}
use Rattle.rules.specs.Walks.{walk_by, walks_given, walks_stated}
use Rattle.rules.specs.Thresholds.{thresholds_given, thresholds_stated}
use Rattle.rules.specs.Edges.{edges_given, edges_stated, opened_given, opened_stated, clamps_given, clamps_stated}
use Rattle.rules.specs.Parts.{parts_given, parts_stated, numbers_given, numbers_stated, tallies_given, tallies_stated, runs_given, runs_stated, closed_stated}
use Rattle.rules.specs.Causes.{causes_given, causes_stated, strays_given, strays_stated}
use Rattle.rules.specs.Stops.{stops_given, stops_stated, limited_given, limited_stated, asks_given, asks_stated}
use Rattle.rules.specs.Rings.{brought_given, brought_stated, ring_openings_given, ring_openings_stated, rings_given, rings_stated}
use Rattle.rules.specs.RingWalks.{ring_walks_given, ring_walks_stated, plain_given, plain_stated, ring_judged_given, ring_judged_stated, ring_limited_given, ring_limited_stated}
use Rattle.rules.specs.Bases.{turns_given, turns_stated, turn_ends_given, turn_ends_stated}
use Rattle.rules.specs.Turns.{moments_given, moments_stated, turn_runs_given, turn_runs_stated, centers_given, centers_stated, turn_tallies_given, turn_tallies_stated}
use Rattle.rules.specs.TurnCauses.{turn_openings_given, turn_openings_stated, turn_causes_given, turn_causes_stated, turn_strays_given, turn_strays_stated, turn_stops_given, turn_stops_stated, leads_given, leads_stated, turn_asks_given, turn_asks_stated}
use Rattle.rules.proofs.Examples.{floats, rules, calls}

pub walks : walks_given ≡ walks_stated
unfolding walks_given walks_stated walk_by rules
walks = refl

pub thresholds : thresholds_given ≡ thresholds_stated
unfolding thresholds_given thresholds_stated rules
thresholds = refl

pub edges : edges_given ≡ edges_stated
unfolding edges_given edges_stated axes_checks open_verdict floats
edges = refl

pub opened : opened_given ≡ opened_stated
unfolding opened_given opened_stated axes_checks open_verdict floats
opened = refl

pub clamps : clamps_given ≡ clamps_stated
unfolding clamps_given clamps_stated floats
clamps = refl

pub parts : parts_given ≡ parts_stated
unfolding parts_given parts_stated rules
parts = refl

pub numbers : numbers_given ≡ numbers_stated
unfolding numbers_given numbers_stated rules
numbers = refl

pub tallies : tallies_given ≡ tallies_stated
unfolding tallies_given tallies_stated pieces count_of probes_in open_in rules
tallies = refl

pub runs : runs_given ≡ runs_stated
unfolding runs_given runs_stated rules
runs = refl

pub closed_written : closed ≡ closed_stated
unfolding closed closed_stated flat store
closed_written = refl

pub causes : causes_given ≡ causes_stated
unfolding causes_given causes_stated rules in_order all_costs sound ask_verdict tell_verdict best_verdict
causes = refl

pub strays : strays_given ≡ strays_stated
unfolding strays_given strays_stated rules in_order all_costs sound best_verdict showing costs_in before_cost
strays = refl

pub stops : stops_given ≡ stops_stated
unfolding stops_given stops_stated walk_by rules
stops = refl

pub limited : limited_given ≡ limited_stated
unfolding limited_given limited_stated rules
limited = refl

pub asks : asks_given ≡ asks_stated
unfolding asks_given asks_stated calls
asks = refl

pub brought : brought_given ≡ brought_stated
unfolding brought_given brought_stated floats
brought = refl

pub ring_openings : ring_openings_given ≡ ring_openings_stated
unfolding ring_openings_given ring_openings_stated axes_checks open_verdict floats
ring_openings = refl

pub ring_judged : ring_judged_given ≡ ring_judged_stated
unfolding ring_judged_given ring_judged_stated axes_checks open_verdict floats
ring_judged = refl

pub rings : rings_given ≡ rings_stated
unfolding rings_given rings_stated rules
rings = refl

pub ring_walks : ring_walks_given ≡ ring_walks_stated
unfolding ring_walks_given ring_walks_stated walk_by rules
ring_walks = refl

pub plain : plain_given ≡ plain_stated
unfolding plain_given plain_stated rules
plain = refl

pub ring_limited : ring_limited_given ≡ ring_limited_stated
unfolding ring_limited_given ring_limited_stated rules
ring_limited = refl

pub turns : turns_given ≡ turns_stated
unfolding turns_given turns_stated walk_by rules
turns = refl

pub turn_ends : turn_ends_given ≡ turn_ends_stated
unfolding turn_ends_given turn_ends_stated rules
turn_ends = refl

pub moments : moments_given ≡ moments_stated
unfolding moments_given moments_stated rules
moments = refl

pub turn_runs : turn_runs_given ≡ turn_runs_stated
unfolding turn_runs_given turn_runs_stated rules
turn_runs = refl

pub centers : centers_given ≡ centers_stated
unfolding centers_given centers_stated rules
centers = refl

pub turn_tallies : turn_tallies_given ≡ turn_tallies_stated
unfolding turn_tallies_given turn_tallies_stated pieces count_of all_read probes_in directed_in open_in rules
turn_tallies = refl

pub turn_openings : turn_openings_given ≡ turn_openings_stated
unfolding turn_openings_given turn_openings_stated axes_checks open_verdict floats
turn_openings = refl

pub turn_causes : turn_causes_given ≡ turn_causes_stated
unfolding turn_causes_given turn_causes_stated calls
turn_causes = refl

pub turn_strays : turn_strays_given ≡ turn_strays_stated
unfolding turn_strays_given turn_strays_stated rules
turn_strays = refl

pub turn_stops : turn_stops_given ≡ turn_stops_stated
unfolding turn_stops_given turn_stops_stated rules
turn_stops = refl

pub leads : leads_given ≡ leads_stated
unfolding leads_given leads_stated rules
leads = refl

pub turn_asks : turn_asks_given ≡ turn_asks_stated
unfolding turn_asks_given turn_asks_stated calls
turn_asks = refl
