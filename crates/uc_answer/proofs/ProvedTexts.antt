-- From an ended search to the text of a proof, and to what it proves.
use Rattle.std.proofs.Common.{ℕ, ◌≡◌, ◌<◌, ◌+◌, ◌^◌, List, length, slice_get, Option, Some, None, Result, Ok, Err, refl, sym, ap, ◌∙◌, subst, arith}
use Rattle.std.specs.Result.{IfOk}
use Rattle.std.specs.declared.alloc.AllocError.{AllocError}
use Rattle.std.proofs.lemmas.Option.{slice_get_within}
use Rattle.uc_term.specs.declared.fresh.Fresh.{Fresh}
use Rattle.uc_term.specs.Table.{Table}
use Rattle.uc_check.specs.declared.proof.Line.{Line}
use Rattle.uc_check.specs.declared.checker.Checked.TheVariants.{Accepted}
use Rattle.uc_check.specs.Checks.{AreRightBefore, EndsInRefutation, accepted}
use Rattle.uc_check.specs.Clauses.{AreFresh, HasGoalIfEncoded}
use Rattle.uc_check.proofs.Sound.{accepted_follows}
use Rattle.uc_tstp.specs.Printing.{AreLinesOf, proof_text}
use Rattle.uc_tstp.specs.Printable.{IsPrintableProof, AreInOrder}
use Rattle.uc_tstp.specs.Reading.{ReadsProof}
use Rattle.uc_fact.specs.declared.chain.Chain.{Chain}
use Rattle.uc_fact.specs.declared.fact.Fact.{Fact}
use Rattle.uc_order.specs.declared.spec.OrderSpec.{OrderSpec}
use Rattle.uc_rewrite.specs.Replay.{FactsReplay}
use Rattle.uc_shelf.specs.Entries.{born}
use Rattle.uc_problem.specs.declared.problem.Problem.{Problem}
use Rattle.uc_problem.specs.declared.problem.Encoded.{Encoded}
use Rattle.uc_problem.specs.Holds.{Agrees}
use Rattle.uc_problem.specs.Marks.{Marks}
use Rattle.uc_problem.proofs.FreshMarks.{are_fresh}
use Rattle.uc_problem.proofs.OpenGoals.{has_goal}
use Rattle.uc_machine.specs.declared.event.Verdict.TheVariants.{Proved}
use Rattle.uc_machine.specs.Lists.{map_option}
use Rattle.uc_machine.specs.State.{State, Target}
use Rattle.uc_proof.specs.Chains.{conclusion_of, ProvesGoal}
use Rattle.uc_proof.specs.declared.aim.Aim.TheVariants as aim
use Rattle.uc_proof.specs.Needed.{IsNeeded}
use Rattle.uc_proof.specs.Parts.{all_parts}
use Rattle.uc_proof.specs.Extracted.{IsExtracted}
use Rattle.uc_proof.proofs.Among.{selected_length}
use Rattle.uc_proof.proofs.Adding.{parts_count}
use Rattle.uc_proof.proofs.Printing.{printable_lines, names_of_lines}
use Rattle.uc_words.specs.declared.command.Command.{Command}
use Rattle.uc_answer.specs.PrintableProblems.{CanBePrinted}
use Rattle.uc_answer.specs.VerdictLines.{HasEnded, IsProofText}
use Rattle.uc_answer.specs.Promises.{Certifies}
use Rattle.uc_answer.proofs.SearchEnds.{replay, parts_of, chain_of, parts_printable, chain_printable, proved_goal, proves_goal}
use Rattle.uc_proof.proofs.TableLines.{proof_lines_of, as_many_files}

pub fresh_for : (table : Table) (problem : Problem) → Agrees table problem → (fresh : Option Fresh) → Marks table problem (Ok fresh) → AreFresh fresh problem.clauses
fresh_for table problem agrees None m = tt
fresh_for table problem agrees (Some marks) m = are_fresh table problem marks agrees m.2

pub goal_for : (table : Table) (problem : Problem) (fresh : Option Fresh) → Marks table problem (Ok fresh) → HasGoalIfEncoded fresh problem.clauses
goal_for table problem None m = tt
goal_for table problem (Some marks) m = has_goal problem.clauses m.0

-- what a target's chain is
same_chain : (chain : Target → Chain) (o : Option Target) (target : Target) (c : Chain) → o ≡ Some target → map_option chain o ≡ Some c → chain target ≡ c
same_chain chain o target c e f = let p : Some (chain target) ≡ Some c = sym (ap (map_option chain) e) ∙ f in cc

module _ (table : Table) (command : Command) (problem : Problem) (encoded : Encoded) (spec : OrderSpec) (s : State) (goal : ℕ) (h : HasEnded table command problem encoded spec (Proved goal) s) where
  abbrev target : Target
  target = (proved_goal table command problem encoded spec (Proved goal) s h goal refl).target

  target_is : slice_get s.goals goal ≡ Some target
  target_is = (proved_goal table command problem encoded spec (Proved goal) s h goal refl).target_is

  pub goal_inside : goal < length encoded.goals
  goal_inside = slice_get_within encoded.goals goal _ (proved_goal table command problem encoded spec (Proved goal) s h goal refl).equation_is

  pub facts_replay : (facts : List Fact) → facts ≡ born s.entries → FactsReplay encoded.axioms facts
  facts_replay facts e = subst (FactsReplay encoded.axioms) (sym e) (replay table command problem encoded spec (Proved goal) s h).facts

  module _ (facts : List Fact) (left right : Chain) (are : facts ≡ born s.entries) (is_left : map_option (λ (g : Target). g.left) (slice_get s.goals goal) ≡ Some left) (is_right : map_option (λ (g : Target). g.right) (slice_get s.goals goal) ≡ Some right) where
    left_is : target.left ≡ left
    left_is = same_chain (λ g. g.left) (slice_get s.goals goal) target left target_is is_left

    right_is : target.right ≡ right
    right_is = same_chain (λ g. g.right) (slice_get s.goals goal) target right target_is is_right

    pub proves : ProvesGoal encoded facts goal left right
    proves = subst (λ (fs : List Fact). ProvesGoal encoded fs goal left right) (sym are) (subst (λ (c : Chain). ProvesGoal encoded (born s.entries) goal c right) left_is (subst (λ (c : Chain). ProvesGoal encoded (born s.entries) goal target.left c) right_is (proves_goal table command problem encoded spec (Proved goal) s h goal refl)))

    module _ (lines : List Line) (files : List (List ℕ)) (x : IsExtracted problem encoded facts left right goal lines files) where
      there : IsExtracted problem encoded (born s.entries) target.left target.right goal lines files
      there = subst (λ (c : Chain). IsExtracted problem encoded (born s.entries) target.left c goal lines files) (sym right_is) (subst (λ (c : Chain). IsExtracted problem encoded (born s.entries) c right goal lines files) (sym left_is) (subst (λ (fs : List Fact). IsExtracted problem encoded fs left right goal lines files) are x))

      pub lines_of_table : AreLinesOf table lines
      lines_of_table = proof_lines_of table problem encoded (born s.entries) (aim.Goal (conclusion_of target.left target.right) goal) lines files (parts_of table command problem encoded spec (Proved goal) s h) (chain_of table command problem encoded spec (Proved goal) s h goal target target_is) there

      pub many_files : length files ≡ length lines
      many_files = as_many_files problem encoded facts (aim.Goal (conclusion_of left right) goal) lines files x

      module _ (name text : List ℕ) where
        pub text_so : text ≡ proof_text table name files lines → IsProofText table command name problem encoded spec s goal text
        text_so e = record { target = target; target_is = target_is; lines = lines; files = files; extracted = there; text_is = e }

        module _ (few : length encoded.sources + length problem.goals + length facts + 2 < 2 ^ 32) (right_lines : AreRightBefore problem.clauses encoded.fresh lines (length lines)) (refutes : EndsInRefutation lines) (in_order : AreInOrder lines) (reads : IsPrintableProof table name files lines → AreInOrder lines → ReadsProof table text (Ok (record { lines = lines }))) (can : CanBePrinted table name problem) where
          few_parts : length x.plan < 2 ^ 32
          few_parts = omega (arith, few, selected_length (IsNeeded encoded facts (aim.Goal (conclusion_of left right) goal)) (all_parts problem encoded (length facts)) x.plan (length encoded.sources + length problem.goals + length facts + 2) x.selected (parts_count encoded.sources problem.goals (length facts)))

          printable : IsPrintableProof table name files lines
          printable = record {
            name = can.name;
            names = names_of_lines problem encoded facts (aim.Goal (conclusion_of left right) goal) lines files x few_parts;
            lines = printable_lines table problem encoded (born s.entries) (aim.Goal (conclusion_of target.left target.right) goal) lines files there (parts_printable table command problem encoded spec (Proved goal) s h can.clauses) (chain_printable table command problem encoded spec (Proved goal) s h can.clauses goal target target_is);
          }

          pub certifies : Certifies table problem text
          certifies = record {
            marks = encoded.fresh;
            marked = h.encodes.0;
            proof = record { lines = lines };
            reads = reads printable in_order;
            are_right = right_lines;
            refutes = refutes;
            follows = accepted_follows problem.clauses encoded.fresh lines (fresh_for table problem h.agrees encoded.fresh h.encodes.0) (goal_for table problem encoded.fresh h.encodes.0) Accepted (accepted right_lines refutes) refl;
          }

      -- the text that is printed
      pub proof_told : (name : List ℕ) (r : Result (List ℕ) AllocError) → length encoded.sources + length problem.goals + length facts + 2 < 2 ^ 32 → AreRightBefore problem.clauses encoded.fresh lines (length lines) → EndsInRefutation lines → AreInOrder lines → IfOk r (λ text. text ≡ proof_text table name files lines) → (IsPrintableProof table name files lines → AreInOrder lines → IfOk r (λ text. ReadsProof table text (Ok (record { lines = lines })))) → IfOk r (λ text. IsProofText table command name problem encoded spec s goal text × (CanBePrinted table name problem → Certifies table problem text))
      proof_told name (Ok text) few right_lines refutes in_order e reads = (text_so name text e, certifies name text few right_lines refutes in_order reads)
      proof_told name (Err fault) few right_lines refutes in_order e reads = tt
