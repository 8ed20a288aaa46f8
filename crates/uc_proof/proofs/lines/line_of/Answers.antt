use Rattle.std.proofs.Common.{◌≡◌, List, map, sym, ap, ◌∙◌, subst}
use Rattle.std.specs.Result.{IfOk}
use Rattle.uc_fact.specs.declared.fact.Fact.{Fact}
use Rattle.uc_fact.specs.Live.{equation_of}
use Rattle.uc_proof.specs.declared.part.Part.TheVariants as part
use Rattle.uc_proof.specs.Written.{line_name}
use Rattle.uc_proof.specs.Making.{IsPartReady, IsChainLine}
use Rattle.uc_proof.proofs.Saying.{mapped_is, said_so, denial_said, fact_said}
use Rattle.uc_proof.proofs.lines.line_of.Goals as goal

pub returns-in-Denial : goal.returns-in-Denial
returns-in-Denial c =
    let facts : List Fact = map (λ f. f.now) c.args.facts.now in
    let ready = subst (IsPartReady c.args.problem.now c.args.encoded.now facts c.args.aim.now c.args.plan.now) c.in-Denial.is c.requires.ready in
    said_so c.args.problem.now c.args.encoded.now facts c.args.aim.now c.args.plan.now c.denial_line.result c.in_ok-name.name (line_name c.args.number) (part.Denial c.in-Denial.clause) c.args.part c.in_ok-name.ensures (sym c.in-Denial.is)
    (denial_said c.args.problem.now c.args.encoded.now facts c.args.aim.now c.args.plan.now c.denial_line.result c.in_ok-name.name c.in-Denial.clause ready c.denial_line.ensures)

pub returns-in-Fact : goal.returns-in-Fact
returns-in-Fact c =
    let facts : List Fact = map (λ f. f.now) c.args.facts.now in
    let ready = subst (IsPartReady c.args.problem.now c.args.encoded.now facts c.args.aim.now c.args.plan.now) c.in-Fact.is c.requires.ready in
    let is : c.index-facts-fact.result.now ≡ ready.0 = ap (λ f. f.now) c.index-facts-fact.is ∙ mapped_is (λ f. f.now) c.args.facts.now c.in-Fact.fact c.index-facts-fact.result ready.0 ready.1 in
    said_so c.args.problem.now c.args.encoded.now facts c.args.aim.now c.args.plan.now c.fact_line.result c.in_ok-name.name (line_name c.args.number) (part.Fact c.in-Fact.fact) c.args.part c.in_ok-name.ensures (sym c.in-Fact.is)
    (fact_said c.args.problem.now c.args.encoded.now facts c.args.aim.now c.args.plan.now c.fact_line.result c.in_ok-name.name c.in-Fact.fact ready.0 ready.1
    (subst (λ (f : Fact). IfOk c.fact_line.result (IsChainLine c.args.plan.now f.chain c.in_ok-name.name (equation_of f))) is c.fact_line.ensures))

pub returns-in-Conclusion : goal.returns-in-Conclusion
returns-in-Conclusion c =
    let facts : List Fact = map (λ f. f.now) c.args.facts.now in
    said_so c.args.problem.now c.args.encoded.now facts c.args.aim.now c.args.plan.now c.conclusion_line.result c.in_ok-name.name (line_name c.args.number) part.Conclusion c.args.part c.in_ok-name.ensures (sym c.in-Conclusion.is)
    (c.conclusion_line.ensures c.args.problem.now facts)

pub returns-in-Refutation : goal.returns-in-Refutation
returns-in-Refutation c =
    let facts : List Fact = map (λ f. f.now) c.args.facts.now in
    said_so c.args.problem.now c.args.encoded.now facts c.args.aim.now c.args.plan.now c.refutation_line.result c.in_ok-name.name (line_name c.args.number) part.Refutation c.args.part c.in_ok-name.ensures (sym c.in-Refutation.is)
    (c.refutation_line.ensures c.args.problem.now facts)
