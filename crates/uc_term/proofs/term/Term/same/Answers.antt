use Rattle.std.proofs.Common.{sym, ap, ◌∙◌}
use Rattle.uc_term.specs.Flat.{flat, tree_of}
use Rattle.uc_term.specs.Code.{tree_of-flat}
use Rattle.uc_term.proofs.term.Term.same.Goals as goal

pub returns : goal.returns
returns c =
    let a = c.as_nodes.ensures.value in
    let b = c.as_nodes-2.ensures.value in
    (λ same. sym (tree_of-flat c.args.self.now) ∙ ap tree_of (sym a ∙ c.same_nodes.ensures.0 same ∙ b) ∙ tree_of-flat c.args.other.now, λ e. c.same_nodes.ensures.1 (a ∙ ap flat e ∙ sym b))
