use Rattle.std.proofs.Common.{◌∙◌, ap, length}
use Rattle.std.proofs.lemmas.Result.{err_from_is_err_and}
use Rattle.uc_term.specs.declared.subst.Binding.{Binding}
use Rattle.uc_term.proofs.Bindings.{bindings_kept, pairs_kept, bindings_added, pairs_added}
use Rattle.uc_term.proofs.subst.Subst.add.Goals as goal

pub invariant_of-self : goal.invariant_of-self
invariant_of-self c = rw c.in_err-extend_from_slice.ensures.items c.self.invariant

pub invariant_of-self-in_err-push : goal.invariant_of-self-in_err-push
invariant_of-self-in_err-push c = rw (c.in_err-push.ensures.items, c.in_ok-extend_from_slice.ensures.items) (bindings_kept c.self.inside.nodes.items c.args.term.now c.self.inside.bindings.items c.self.invariant)

pub returns-in_err-push-clause-err : goal.returns-in_err-push-clause-err
returns-in_err-push-clause-err c =
    let failed = err_from_is_err_and c.from_residual-in_err-push.result c.from_residual-in_err-push.ensures.1 in
    let kept = pairs_kept c.self.inside.nodes.items c.args.term.now c.self.inside.bindings.items c.self.invariant in
    rw (failed.1, c.in_err-push.ensures.items, c.in_ok-extend_from_slice.ensures.items) (kept ∙ c.self.view_is)

pub invariant_of-self-2 : goal.invariant_of-self-2
invariant_of-self-2 c =
    let ns = c.self.inside.nodes.items in
    let b : Binding = record { variable = c.args.x; start = c.len-start.result; end = c.len-end.result } in
    rw (c.in_ok-push.ensures.items, c.in_ok-extend_from_slice.ensures.items) (bindings_added ns c.args.term.now b (c.len-start.ensures ∙ c.self.inside.nodes.ok.0) (c.len-end.ensures ∙ c.extend_from_slice.new.self.ok.0 ∙ ap length c.in_ok-extend_from_slice.ensures.items) c.self.inside.bindings.items c.self.invariant c.requires.whole c.requires.small)

pub returns-clause-ok : goal.returns-clause-ok
returns-clause-ok c =
    let ns = c.self.inside.nodes.items in
    let b : Binding = record { variable = c.args.x; start = c.len-start.result; end = c.len-end.result } in
    rw (c.in_ok-push.ensures.items, c.in_ok-extend_from_slice.ensures.items, ← c.self.view_is) (pairs_added ns c.args.term.now b (c.len-start.ensures ∙ c.self.inside.nodes.ok.0) (c.len-end.ensures ∙ c.extend_from_slice.new.self.ok.0 ∙ ap length c.in_ok-extend_from_slice.ensures.items) c.self.inside.bindings.items c.self.invariant)
