use Rattle.std.proofs.Common.{◌∙◌, sym, ap, unwrap_or}
use Rattle.uc_term.specs.Tree.{var, nodes}
use Rattle.uc_term.proofs.Terms.{nodes_whole}
use Rattle.uc_term.proofs.subst.image_size.Goals as goal

pub returns-in-Some-clause-size : goal.returns-in-Some-clause-size
returns-in-Some-clause-size c =
    let t = c.in-Some.ensures in
    rw c.in-Var.is (sym (nodes_whole c.in-Some.nodes.now t.whole) ∙ ap (λ o. nodes (unwrap_or o (var c.in-Var.x))) (sym t.is))
