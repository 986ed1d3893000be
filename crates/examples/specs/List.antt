-- "The list and its history": a list of calls as the program has it, and demand 3 of what it returns.
use Rattle.std.specs.Prelude.{◌≡◌, List, map, Ok}
use Rattle.rules.specs.Opening.{opening}
use Rattle.rules.specs.History.{Call, ask, tell, best, history}
use Rattle.rules.specs.Claims.{Claims}
use Rattle.rules.specs.declared.Opening.{Opening}
use Rattle.rules.specs.declared.Opened.{Opened}
use Rattle.examples.specs.declared.list.Call.{Call as Listed}
use Rattle.examples.specs.declared.list.Call.TheVariants.{Ask, Tell, Best}

-- the rules' call that a call of the program is
abbrev pub call_of : Listed → Call
call_of Ask = ask
call_of (Tell number cost) = tell number cost
call_of Best = best

-- the calls of a list
abbrev pub calls_of : List Listed → List Call
calls_of = map call_of

-- demand 3: the whole record of claims, where the opening is not refused
abbrev pub Claimed : Opening → List Call → Opened → Type 0
Claimed g calls r = r.verdict ≡ Ok tt → let o = (opening g.method g.n g.axes g.rule g.coefficients g.budget).search in Claims o (history o calls) r.search
