-- P1 to P12 of document 01 as one list, further cases, openings for every row of the refusal table, endings, refused calls and the
-- refusals' numbers, by computation. Assumes nothing.
use mathlib.Core.Path.{◌≡◌, refl}
use lib.Count.{count_trailing_zeros}
use lib.Ieee.{of_bits, of_fields, to_bits, odd, neg, add, sub, mul, div, sum, round, size, span, climb, units, le, lt, eq, of_int}
use Rattle.rules.specs.Simplex.{up_to, flat, store, unpack, insert}
use Rattle.rules.specs.Trial.{sum_to, centroid, stops_to, trial}
use Rattle.rules.specs.Stop.{total, spread_met, apart, movement, norm, all_within, size_met, met}
use Rattle.rules.specs.Companions.{unread_from}
use Rattle.rules.specs.Decide.{decided}
use Rattle.rules.specs.Accept.{accept}
use Rattle.rules.specs.History.{run}
use Rattle.rules.specs.Opening.{axes_checks, open_verdict, fresh, opening}
use Rattle.rules.specs.Calls.{in_order, all_costs, every, sound, ask_verdict, tell_verdict, best_verdict, asking, telling, showing}
use Rattle.rules.specs.Examples.{given, paper}
use Rattle.rules.specs.Cases.{cases_given, cases_stated, openings_given, openings_stated}
use Rattle.rules.specs.Answers.{endings_given, endings_stated, refusals_given, refusals_stated, numbers_given, numbers_stated, axes_given, axes_stated}
use Rattle.rules.specs.Further.{trials_given, trials_stated, pieces_given, pieces_stated, held_given, held_stated}

-- to unfold this is to compute with floats
unfoldable pub floats : Unit {0}
unfolding count_trailing_zeros of_bits of_fields to_bits odd neg add sub mul div sum round size span climb units le lt eq of_int
floats = tt

-- to unfold this is to run the rules
unfoldable pub rules : Unit {0}
unfolding floats fresh up_to flat store unpack insert sum_to centroid stops_to trial total spread_met apart movement norm all_within size_met met unread_from decided accept run
rules = tt

-- to unfold this is to run the calls
unfoldable pub calls : Unit {0}
unfolding rules axes_checks open_verdict opening in_order all_costs every sound ask_verdict tell_verdict best_verdict asking telling showing
calls = tt

pub examples : given ≡ paper
unfolding given paper rules
examples = refl

pub cases : cases_given ≡ cases_stated
unfolding cases_given cases_stated rules
cases = refl

pub openings : openings_given ≡ openings_stated
unfolding openings_given openings_stated axes_checks open_verdict floats
openings = refl

pub endings : endings_given ≡ endings_stated
unfolding endings_given endings_stated rules
endings = refl

pub refusals : refusals_given ≡ refusals_stated
unfolding refusals_given refusals_stated rules in_order all_costs sound ask_verdict tell_verdict best_verdict
refusals = refl

pub refusal_numbers : numbers_given ≡ numbers_stated
refusal_numbers = refl

pub refusal_axes : axes_given ≡ axes_stated
refusal_axes = refl

pub further_trials : trials_given ≡ trials_stated
unfolding trials_given trials_stated rules
further_trials = refl

pub further_pieces : pieces_given ≡ pieces_stated
unfolding pieces_given pieces_stated rules
further_pieces = refl

pub further_refusals : held_given ≡ held_stated
unfolding held_given held_stated rules in_order all_costs sound ask_verdict
further_refusals = refl
