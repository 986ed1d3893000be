-- `engine::insert::append` meets its contract: the places before it are cleared of what follows them. Assumes nothing.
use Rattle.std.proofs.Common.{◌++◌, ◌∷◌, [], ◌+◌, List, ap, ◌∙◌, subst}
use Rattle.rules.specs.declared.Vertex.{Vertex}
use Rattle.engine.specs.Places.{Holds}
use Rattle.engine.proofs.Laws.Placing.{after_all}
use Rattle.engine.proofs.insert.append.Goals as goal

pub returns : goal.returns
returns c =
    let v = c.args.v in
    let len = c.args.len in
    let all = after_all c.clear.new.s len v ∙ ap (λ (vs : List Vertex). vs ++ v ∷ []) c.clear.ensures.read in
    subst (Holds (len + 1) c.put_before.new.s) all c.put_before.ensures
