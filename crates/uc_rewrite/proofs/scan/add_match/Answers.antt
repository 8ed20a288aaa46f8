use Rattle.std.proofs.Common.{subst, sym, ◌∙◌, ◌∷◌, [], append-nil}
use Rattle.uc_term.specs.Equations.{side_of}
use Rattle.uc_term.specs.Flat.{tree_of}
use Rattle.uc_fact.specs.Live.{rule_of}
use Rattle.uc_fact.specs.Retrieval.{FindsNothing, no_rules, is_instance, is_no_instance}
use Rattle.uc_fact.specs.Against.{HasMatch}
use Rattle.uc_rewrite.specs.Scanning.{live_fact}
use Rattle.uc_rewrite.proofs.Scanned.{match_some, match_none, err_of, something, something_by}
use Rattle.uc_rewrite.proofs.scan.add_match.Goals as goal

pub returns-in_ok-push-in-Some-clause-value : goal.returns-in_ok-push-in-Some-clause-value
returns-in_ok-push-in-Some-clause-value c = record {
  list = record { fact = c.args.number; side = c.args.side; subst = c.in-Some.subst } ∷ [];
  new_is = c.in_ok-push-in-Some.ensures.items;
  generalises = is_instance (match_some (tree_of c.as_nodes.result.now) (side_of c.args.side c.args.fact.now) (tree_of c.args.term.now) c.in_ok-subst.field-0 c.in-Some.subst c.in_ok-subst.ensures.value c.in-Some.is (c.as_nodes.ensures.tree ∙ c.side_term.ensures)) no_rules;
}

pub returns-in-None-clause-value : goal.returns-in-None-clause-value
returns-in-None-clause-value c = record {
  list = [];
  new_is = sym (append-nil c.args.list.now.items);
  generalises = is_no_instance (match_none (tree_of c.as_nodes.result.now) (side_of c.args.side c.args.fact.now) (tree_of c.args.term.now) c.in_ok-subst.field-0 c.in_ok-subst.ensures.value c.in-None.is (c.as_nodes.ensures.tree ∙ c.side_term.ensures)) no_rules;
}

pub returns-in_err-subst-clause-memory : goal.returns-in_err-subst-clause-memory
returns-in_err-subst-clause-memory c = err_of c.from_residual.result (FindsNothing (tree_of c.args.term.now) (rule_of c.args.side (live_fact c.args.number c.args.fact.now) ∷ []) → ⊥) (something (tree_of c.args.term.now) (rule_of c.args.side (live_fact c.args.number c.args.fact.now)) (subst (λ z. HasMatch z (tree_of c.args.term.now)) (c.as_nodes.ensures.tree ∙ c.side_term.ensures) c.in_err-subst.ensures.memory))

pub returns-in_err-push-in-Some-clause-memory : goal.returns-in_err-push-in-Some-clause-memory
returns-in_err-push-in-Some-clause-memory c = err_of c.from_residual-in_err-push-in-Some.result (FindsNothing (tree_of c.args.term.now) (rule_of c.args.side (live_fact c.args.number c.args.fact.now) ∷ []) → ⊥) (something_by (tree_of c.args.term.now) (rule_of c.args.side (live_fact c.args.number c.args.fact.now)) c.in-Some.subst (match_some (tree_of c.as_nodes.result.now) (side_of c.args.side c.args.fact.now) (tree_of c.args.term.now) c.in_ok-subst.field-0 c.in-Some.subst c.in_ok-subst.ensures.value c.in-Some.is (c.as_nodes.ensures.tree ∙ c.side_term.ensures)))
