use Rattle.std.proofs.Common.{◌≡◌, ◌+◌, ◌<◌, ◌≤◌, ◌∷◌, ◌++◌, [], ℕ, List, length, map, take, get_or, slice_get, Some, refl, sym, ap, ◌∙◌, subst, arith}
use Rattle.std.proofs.lemmas.List.{length-map}
use Rattle.std.proofs.lemmas.Option.{slice_get-get_or}
use Rattle.uc_check.specs.declared.proof.Line.{Line}
use Rattle.uc_fact.specs.declared.fact.Fact.{Fact}
use Rattle.uc_problem.specs.declared.problem.Problem.{Problem}
use Rattle.uc_problem.specs.declared.problem.Encoded.{Encoded}
use Rattle.uc_proof.specs.declared.aim.Aim.{Aim}
use Rattle.uc_proof.specs.declared.part.Part.{Part}
use Rattle.uc_tstp.specs.Printable.{renumbered_line}
use Rattle.uc_proof.specs.Parts.{all_parts}
use Rattle.uc_proof.specs.Files.{part_file}
use Rattle.uc_proof.specs.Making.{IsAmong}
use Rattle.uc_proof.specs.Written.{line_name, Says, AreWritten}
use Rattle.uc_proof.proofs.Among.{selected_length}
use Rattle.uc_proof.proofs.Adding.{parts_count}
use Rattle.uc_proof.proofs.Ready.{names_earlier, aim_within}
use Rattle.uc_proof.proofs.Writing.{written_on}
use Rattle.uc_proof.proofs.Making.{part_ready, made}
use Rattle.uc_proof.proofs.extraction.derivation.Goals as goal

planned_at : (plan parts : List Part) (i : ℕ) (d : Part) → parts ≡ plan → i < length parts → slice_get plan i ≡ Some (get_or parts i d)
planned_at plan parts i d e h = ap (λ l. slice_get l i) (sym e) ∙ slice_get-get_or parts i d h

all_written : (problem : Problem) (encoded : Encoded) (facts : List Fact) (aimed : Aim) (plan parts : List Part) (i : ℕ) (lines all : List Line) → parts ≡ plan → all ≡ lines → AreWritten problem encoded facts aimed parts 0 (take i parts) lines → AreWritten problem encoded facts aimed plan 0 (take i plan) all
all_written problem encoded facts aimed plan parts i lines all e q w =
    subst (λ (ls : List Line). AreWritten problem encoded facts aimed plan 0 (take i plan) ls) (sym q) (subst (λ (ps : List Part). AreWritten problem encoded facts aimed ps 0 (take i ps) lines) e w)

one_more_written : (problem : Problem) (encoded : Encoded) (facts : List Fact) (aimed : Aim) (plan parts : List Part) (i : ℕ) (p d : Part) (lines next : List Line) (said line : Line) → parts ≡ plan → i < length parts → p ≡ get_or parts i d → AreWritten problem encoded facts aimed parts 0 (take i parts) lines → Says problem encoded facts aimed plan (line_name i) p said → line ≡ renumbered_line said → next ≡ lines ++ line ∷ [] → AreWritten problem encoded facts aimed parts 0 (take (i + 1) parts) next
one_more_written problem encoded facts aimed plan parts i p d lines next said line e h is w says q pushed =
    written_on problem encoded facts aimed parts parts i p d lines next line h is w
    (record { said = said; says = subst (λ (ps : List Part). Says problem encoded facts aimed ps (line_name i) p said) (sym e) says; line_is = q }) pushed

pub needed_for-requires-clause-earlier : goal.needed_for-requires-clause-earlier
needed_for-requires-clause-earlier c = names_earlier c.args.encoded.now.axioms (map (λ f. f.now) c.args.facts.now) c.requires.facts

pub needed_for-requires-clause-goal : goal.needed_for-requires-clause-goal
needed_for-requires-clause-goal c = aim_within c.args.problem.now c.args.encoded.now (map (λ f. f.now) c.args.facts.now) c.args.aim.now c.requires.encoding c.requires.reached

pub line_of-requires-clause-few : goal.line_of-requires-clause-few
line_of-requires-clause-few c =
    let few = selected_length (λ p. IsAmong p c.in_ok-needed.needed) (all_parts c.args.problem.now c.args.encoded.now (length c.args.facts.now)) c.in_ok-plan.plan (length c.args.encoded.now.sources + length c.args.problem.now.goals + length c.args.facts.now + 2) c.in_ok-plan.ensures (parts_count c.args.encoded.now.sources c.args.problem.now.goals (length c.args.facts.now)) in
    let most = c.requires.few in
    let within = c.loop-number-test.true in
    let same : length c.parts-parts.result.now ≡ length c.in_ok-plan.plan = ap length c.parts-parts.ensures in
    omega arith

pub line_of-requires-clause-ready : goal.line_of-requires-clause-ready
line_of-requires-clause-ready c =
    part_ready c.args.problem.now c.args.encoded.now (map (λ f. f.now) c.args.facts.now) c.args.aim.now c.in_ok-needed.needed c.in_ok-plan.plan (length c.args.facts.now) (sym (length-map c.args.facts.now (λ f. f.now)))
    c.in_ok-needed.ensures c.in_ok-plan.ensures c.requires.encoding c.requires.facts c.requires.reached c.loop-number.number _ (planned_at c.in_ok-plan.plan c.parts-parts.result.now c.loop-number.number _ c.parts-parts.ensures c.loop-number-test.true)

pub loop-number-preserved : goal.loop-number-preserved
loop-number-preserved c =
    one_more_written c.args.problem.now c.args.encoded.now (map (λ f. f.now) c.args.facts.now) c.args.aim.now c.in_ok-plan.plan c.parts-parts.result.now c.loop-number.number _ _ c.loop-number.lines.items c.push.new.self.items c.in_ok-line.line c.in_ok-renumbered.field-0
    c.parts-parts.ensures c.loop-number-test.true refl c.loop-number.invariant c.in_ok-line.ensures c.in_ok-renumbered.ensures c.in_ok-push.ensures.items

pub returns : goal.returns
returns c =
    made c.args.problem.now c.args.encoded.now (map (λ f. f.now) c.args.facts.now) c.args.aim.now c.in_ok-needed.needed c.in_ok-plan.plan (length c.args.facts.now) (sym (length-map c.args.facts.now (λ f. f.now)))
    c.in_ok-needed.ensures c.in_ok-plan.ensures c.loop-number.number c.from_vec.result c.in_ok-files.files (subst (λ (ps : List Part). length ps ≤ c.loop-number.number) c.parts-parts.ensures c.loop-number-test.false)
    (all_written c.args.problem.now c.args.encoded.now (map (λ f. f.now) c.args.facts.now) c.args.aim.now c.in_ok-plan.plan c.parts-parts.result.now c.loop-number.number c.loop-number.lines.items c.from_vec.result c.parts-parts.ensures c.from_vec.ensures c.loop-number.invariant)
    (c.in_ok-files.ensures ∙ ap (map (part_file c.args.problem.now c.args.encoded.now)) c.parts-parts.ensures)
