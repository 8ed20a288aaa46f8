use Rattle.std.proofs.Common.{◌+◌, ◌∷◌, ◌++◌, ℕ, List, [], length, map, subst, arith}
use Rattle.uc_problem.specs.declared.problem.Source.{Source}
use Rattle.uc_proof.specs.declared.part.Part.{Part}
use Rattle.uc_proof.specs.declared.part.Part.TheVariants as part
use Rattle.uc_proof.specs.Parts.{is_clause, is_encoding, axioms_where, facts_from, all_parts}
use Rattle.uc_proof.specs.Making.{IsAmong, Adds}
use Rattle.uc_proof.proofs.Among.{selected_length}
use Rattle.uc_proof.proofs.Adding.{adds_both, adds_all, parts_count}
use Rattle.uc_proof.proofs.plan.in_order.Goals as goal

pub returns-clause-selected : goal.returns-clause-selected
returns-clause-selected c =
    let Is : Part → Type 0 = λ p. IsAmong p c.args.needed.now in
    let ss = c.args.encoded.now.sources in
    let cs = c.args.problem.now.goals in
    let a = axioms_where is_clause 0 ss in
    let b = map part.Denial cs in
    let d = axioms_where is_encoding 0 ss in
    let f = facts_from 0 c.args.facts in
    let one : Adds Is a c.new-plan.result.items c.push_axioms.new.plan.items = subst (λ (xs : List Source). Adds Is (axioms_where is_clause 0 xs) c.new-plan.result.items c.push_axioms.new.plan.items) c.as_slice-sources.ensures c.in_ok-push_axioms.ensures in
    let two : Adds Is b c.push_axioms.new.plan.items c.push_denials.new.plan.items = subst (λ (xs : List ℕ). Adds Is (map part.Denial xs) c.push_axioms.new.plan.items c.push_denials.new.plan.items) c.as_slice.ensures c.in_ok-push_denials.ensures in
    let three : Adds Is d c.push_denials.new.plan.items c.push_axioms-2.new.plan.items = subst (λ (xs : List Source). Adds Is (axioms_where is_encoding 0 xs) c.push_denials.new.plan.items c.push_axioms-2.new.plan.items) c.as_slice-sources.ensures c.in_ok-push_axioms-2.ensures in
    let four : Adds Is f c.push_axioms-2.new.plan.items c.push_facts.new.plan.items = c.in_ok-push_facts.ensures in
    let ends = adds_both Is (part.Conclusion ∷ []) (part.Refutation ∷ []) c.push_facts.new.plan.items c.push_needed.new.plan.items c.push_needed-2.new.plan.items c.in_ok-push_needed.ensures c.in_ok-push_needed-2.ensures in
    let last = part.Conclusion ∷ part.Refutation ∷ [] in
    let facts = adds_both Is f last c.push_axioms-2.new.plan.items c.push_facts.new.plan.items c.push_needed-2.new.plan.items four ends in
    let encodings = adds_both Is d (f ++ last) c.push_denials.new.plan.items c.push_axioms-2.new.plan.items c.push_needed-2.new.plan.items three facts in
    let denials = adds_both Is b (d ++ (f ++ last)) c.push_axioms.new.plan.items c.push_denials.new.plan.items c.push_needed-2.new.plan.items two encodings in
    let clauses = adds_both Is a (b ++ (d ++ (f ++ last))) c.new-plan.result.items c.push_axioms.new.plan.items c.push_needed-2.new.plan.items one denials in
    adds_all Is (a ++ (b ++ (d ++ (f ++ last)))) c.new-plan.result.items c.push_needed-2.new.plan.items c.new-plan.ensures.items clauses

pub returns-clause-few : goal.returns-clause-few
returns-clause-few c =
    let Is : Part → Type 0 = λ p. IsAmong p c.args.needed.now in
    let few = selected_length Is (all_parts c.args.problem.now c.args.encoded.now c.args.facts) c.push_needed-2.new.plan.items (length c.args.encoded.now.sources + length c.args.problem.now.goals + c.args.facts + 2) (returns-clause-selected c) (parts_count c.args.encoded.now.sources c.args.problem.now.goals c.args.facts) in
    let most = c.requires in
    omega arith
