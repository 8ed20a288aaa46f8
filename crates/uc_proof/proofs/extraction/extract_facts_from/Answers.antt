use Rattle.std.proofs.Common.{◌≡◌, List, ℕ, map, sym, ◌∙◌, subst}
use Rattle.uc_fact.specs.declared.fact.Fact.{Fact}
use Rattle.uc_proof.specs.declared.aim.Aim.TheVariants as aim
use Rattle.uc_proof.specs.declared.part.Part.{Part}
use Rattle.uc_proof.specs.Chains.{AreBorn}
use Rattle.uc_proof.specs.Making.{HaveParts}
use Rattle.uc_proof.specs.Extracted.{IsDerivation, AreNumbersOf}
use Rattle.uc_proof.proofs.Right.{all_right}
use Rattle.uc_proof.proofs.InOrder.{derivation_in_order}
use Rattle.uc_proof.proofs.FactLines.{have_parts, have_lines, none_refutes, as_many_numbers}
use Rattle.uc_proof.proofs.extraction.extract_facts_from.Goals as goal

pub derivation-requires-clause-reached : goal.derivation-requires-clause-reached
derivation-requires-clause-reached c = subst (AreBorn (map (λ f. f.now) c.args.facts.now)) (sym (c.from_vec.ensures ∙ c.in_ok-from_slice.ensures.items)) c.requires.live

pub numbers_of-requires : goal.numbers_of-requires
numbers_of-requires c =
    let facts : List Fact = map (λ f. f.now) c.args.facts.now in
    let copied : c.from_vec.result ≡ c.args.live.now = c.from_vec.ensures ∙ c.in_ok-from_slice.ensures.items in
    let made = subst (λ (ns : List ℕ). (d : IsDerivation c.args.problem.now c.args.encoded.now facts (aim.Facts ns) c.in_ok-extracted.extracted.proof.lines c.in_ok-extracted.extracted.files) × (d.plan ≡ c.in_ok-extracted.plan)) copied c.in_ok-extracted.ensures in
    subst (λ (ps : List Part). HaveParts ps c.args.live.now) made.1 (have_parts c.args.problem.now c.args.encoded.now facts c.args.live.now c.in_ok-extracted.extracted.proof.lines c.in_ok-extracted.extracted.files made.0 c.requires.live)

pub returns-clause-derived : goal.returns-clause-derived
returns-clause-derived c =
    let facts : List Fact = map (λ f. f.now) c.args.facts.now in
    let copied : c.from_vec.result ≡ c.args.live.now = c.from_vec.ensures ∙ c.in_ok-from_slice.ensures.items in
    let made = subst (λ (ns : List ℕ). (d : IsDerivation c.args.problem.now c.args.encoded.now facts (aim.Facts ns) c.in_ok-extracted.extracted.proof.lines c.in_ok-extracted.extracted.files) × (d.plan ≡ c.in_ok-extracted.plan)) copied c.in_ok-extracted.ensures in
    record { derivation = made.0; numbers_are = subst (λ (ps : List Part). AreNumbersOf ps c.args.live.now c.in_ok-numbers.numbers) (sym made.1) c.in_ok-numbers.ensures }

pub returns-clause-right : goal.returns-clause-right
returns-clause-right c =
    let facts : List Fact = map (λ f. f.now) c.args.facts.now in
    all_right c.args.problem.now c.args.encoded.now facts (aim.Facts c.args.live.now) c.in_ok-extracted.extracted.proof.lines c.in_ok-extracted.extracted.files c.requires.encoding (returns-clause-derived c).derivation c.requires.facts c.requires.live

pub returns-clause-none_refutes : goal.returns-clause-none_refutes
returns-clause-none_refutes c =
    let facts : List Fact = map (λ f. f.now) c.args.facts.now in
    none_refutes c.args.problem.now c.args.encoded.now facts c.args.live.now c.in_ok-extracted.extracted.proof.lines c.in_ok-extracted.extracted.files (returns-clause-derived c).derivation

pub returns-clause-in_order : goal.returns-clause-in_order
returns-clause-in_order c =
    let facts : List Fact = map (λ f. f.now) c.args.facts.now in
    derivation_in_order c.args.problem.now c.args.encoded.now facts (aim.Facts c.args.live.now) c.in_ok-extracted.extracted.proof.lines c.in_ok-extracted.extracted.files (returns-clause-derived c).derivation

pub returns-clause-lines : goal.returns-clause-lines
returns-clause-lines c =
    let facts : List Fact = map (λ f. f.now) c.args.facts.now in
    let d = returns-clause-derived c in
    have_lines c.args.problem.now c.args.encoded.now facts c.args.live.now c.in_ok-extracted.extracted.proof.lines c.in_ok-extracted.extracted.files d.derivation c.in_ok-numbers.numbers d.numbers_are

pub returns-clause-as_many : goal.returns-clause-as_many
returns-clause-as_many c = as_many_numbers c.in_ok-extracted.plan c.args.live.now c.in_ok-numbers.numbers c.in_ok-numbers.ensures
