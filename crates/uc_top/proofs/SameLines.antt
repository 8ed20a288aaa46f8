-- Two decisions for one problem by one order have one line for a question.
use Rattle.std.proofs.Common.{◌⊎◌, inl, inr, ℕ, zero, suc, ◌≡◌, List, [], slice_get, Some, None, sym, ap, ◌∙◌, subst}
use Rattle.uc_term.specs.declared.equation.Equation.{Equation}
use Rattle.uc_term.specs.Tree.{Tree}
use Rattle.uc_term.specs.Table.{Table}
use Rattle.uc_edge.specs.Files.{Files}
use Rattle.uc_check.specs.Clauses.{axioms_of}
use Rattle.uc_problem.specs.declared.problem.Problem.{Problem}
use Rattle.uc_problem.specs.Filling.{IsFilled}
use Rattle.uc_problem.proofs.FilledOnce.{filled_once, filled_problem_once}
use Rattle.uc_order.specs.declared.spec.OrderSpec.{OrderSpec}
use Rattle.uc_order.specs.Laws.{Meaning, Laws}
use Rattle.uc_decide.specs.declared.reply.Reply.{Reply}
use Rattle.uc_decide.specs.Asking.{IsRight, IsVerdict}
use Rattle.uc_decide.proofs.Verdicts.{one_verdict}
use Rattle.uc_words.specs.declared.command.Command.{Command}
use Rattle.uc_words.specs.Reads.{Reads}
use Rattle.uc_ordering.specs.Meaning.{meaning_of}
use Rattle.uc_ordering.proofs.Fitting.{fits}
use Rattle.uc_answer.specs.ReplyLines.{reply_line}
use Rattle.uc_answer.specs.RightReplies.{AreRight, none_is_wrong, one_is_right}
use Rattle.uc_answer.proofs.OrderLaws.{spec_laws}
use Rattle.uc_top.specs.DecideRuns.{IsAnswered, IsOut, TellsLine, Tells, KeepsDecision}
use Rattle.uc_top.proofs.OwnSignatures.{is_signature}
use Rattle.uc_top.proofs.WithinLimits.{weight_within}

-- the reply at its number is right
pub right_at : {m : Meaning} {axioms : List Equation} {questions : List (Tree × Tree)} {replies : List Reply} (i : ℕ) (sides : Tree × Tree) (reply : Reply) → AreRight m axioms questions replies → slice_get questions i ≡ Some sides → slice_get replies i ≡ Some reply → IsRight m axioms sides.0 sides.1 reply
right_at i sides reply none_is_wrong at there = absurd cc
right_at {m} {axioms} zero sides reply (one_is_right {sides = first} {reply = other} r rest) at there =
    let asked : first ≡ sides = cc in
    let told : other ≡ reply = cc in
    subst (λ (x : Reply). IsRight m axioms sides.0 sides.1 x) told (subst (λ (q : Tree × Tree). IsRight m axioms q.0 q.1 other) asked r)
right_at (suc i) sides reply (one_is_right r rest) at there = right_at i sides reply rest at there

-- what an answered line says
pub record IsToldLine (table : Table) (axioms : List Equation) (spec : OrderSpec) (sides : Tree × Tree) (line : List ℕ) : Type 0 where
  pub reply : Reply
  pub right : IsRight (meaning_of table spec) axioms sides.0 sides.1 reply
  pub verdict : IsVerdict reply
  pub line_is : line ≡ reply_line table reply

pub told_at : {table : Table} {command : Command} {name : List ℕ} {problem : Problem} {spec : OrderSpec} {questions : List (Tree × Tree)} {status : ℕ} {answer : List ℕ} (told : IsAnswered table command problem spec questions status answer ⊎ IsOut table command name problem spec status answer) (i : ℕ) (sides : Tree × Tree) (line : List ℕ) → slice_get questions i ≡ Some sides → TellsLine told i line → IsToldLine table (axioms_of problem.clauses) spec sides line
told_at (inl answered) i sides line at (reply, there, verdict, is) = record { reply = reply; right = right_at i sides reply answered.are_right at there; verdict = verdict; line_is = is }
told_at (inr out) i sides line at tells = absurd tells

-- in one table, by the same axioms and the same order
pub one_told : (table : Table) (axioms : List Equation) (spec : OrderSpec) → Laws (meaning_of table spec) → (sides : Tree × Tree) (m n : List ℕ) → IsToldLine table axioms spec sides m → IsToldLine table axioms spec sides n → m ≡ n
one_told table axioms spec laws sides m n a b =
    let replies : a.reply ≡ b.reply = one_verdict (meaning_of table spec) laws axioms sides.0 sides.1 a.reply b.reply a.right b.right a.verdict b.verdict in
    a.line_is ∙ ap (reply_line table) replies ∙ sym b.line_is

-- whatever files the problem is loaded from
pub same_line : (files others : Files) (words : List (List ℕ)) (k l : Command) (name another : List ℕ) (asked questions : List (List ℕ)) (s t : ℕ) (a b : List ℕ) (x : KeepsDecision files k name asked s a) (y : KeepsDecision others l another questions t b) (i j : ℕ) (sides : Tree × Tree) (line other : List ℕ) → Reads words k → x.table ≡ y.table → axioms_of x.is_decided.problem.clauses ≡ axioms_of y.is_decided.problem.clauses → x.is_decided.decided.spec ≡ y.is_decided.decided.spec → slice_get x.is_decided.decided.questions i ≡ Some sides → slice_get y.is_decided.decided.questions j ≡ Some sides → Tells x i line → Tells y j other → line ≡ other
same_line files others words k l name another asked questions s t a b x y i j sides line other reads tables axioms specs at there m n =
    let within = weight_within words k reads in
    let p = x.is_decided in
    let q = y.is_decided in
    let laws : Laws (meaning_of x.table p.decided.spec) = spec_laws x.table p.problem.signature.symbols p.decided.spec (fits x.table p.problem.signature k.order within.0 within.1 (is_signature x.table p.problem p.holds.agrees) None p.decided.spec p.decided.chosen tt) in
    let right = told_at q.decided.told j sides other there n in
    let by_table = subst (λ u. IsToldLine u (axioms_of q.problem.clauses) q.decided.spec sides other) (sym tables) right in
    let by_axioms = subst (λ (es : List Equation). IsToldLine x.table es q.decided.spec sides other) (sym axioms) by_table in
    one_told x.table (axioms_of p.problem.clauses) p.decided.spec laws sides line other (told_at p.decided.told i sides line at m) (subst (λ (o : OrderSpec). IsToldLine x.table (axioms_of p.problem.clauses) o sides other) (sym specs) by_axioms)

-- the same problem of the same files
pub same_file_line : (files : Files) (words : List (List ℕ)) (k l : Command) (name : List ℕ) (asked others : List (List ℕ)) (s t : ℕ) (a b : List ℕ) (x : KeepsDecision files k name asked s a) (y : KeepsDecision files l name others t b) (i j : ℕ) (sides : Tree × Tree) (line other : List ℕ) → Reads words k → k.root ≡ l.root → x.is_decided.decided.spec ≡ y.is_decided.decided.spec → slice_get x.is_decided.decided.questions i ≡ Some sides → slice_get y.is_decided.decided.questions j ≡ Some sides → Tells x i line → Tells y j other → line ≡ other
same_file_line files words k l name asked others s t a b x y i j sides line other reads roots specs at there m n =
    let p = x.is_decided in
    let q = y.is_decided in
    let filled = subst (λ r. IsFilled files r name [] y.table q.problem) (sym roots) q.filled in
    let tables : x.table ≡ y.table = filled_once files k.root name [] x.table y.table x.distinct y.distinct p.problem q.problem p.filled filled in
    let problems : p.problem ≡ q.problem = filled_problem_once files k.root name [] x.table y.table x.distinct y.distinct p.problem q.problem p.filled filled in
    same_line files files words k l name name asked others s t a b x y i j sides line other reads tables (ap (λ (r : Problem). axioms_of r.clauses) problems) specs at there m n
