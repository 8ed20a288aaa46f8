-- A question has one line by a certificate and by a search for the same problem, where both orders agree.
use Rattle.std.proofs.Common.{ℕ, zero, suc, ◌≡◌, ◌≤◌, ◌++◌, List, [], ◌∷◌, slice_get, codes, Option, Some, None, refl, ap, ap₂, ◌∙◌, subst}
use Rattle.uc_term.specs.declared.equation.Equation.{Equation}
use Rattle.uc_term.specs.declared.node.Sym.{Sym}
use Rattle.uc_term.specs.Over.{IsGround, AreGround}
use Rattle.uc_term.specs.Table.{Table, Grows, Has, arity_of}
use Rattle.uc_term.specs.Tree.{Tree, var, app, Trees, none, more}
use Rattle.uc_term.proofs.Grown.{name-grows}
use Rattle.uc_edge.specs.Files.{Files}
use Rattle.uc_check.specs.Clauses.{axioms_of}
use Rattle.uc_clause.specs.Meaning.{variables_of}
use Rattle.uc_clause.specs.Names.{spelling}
use Rattle.uc_clause.specs.Printing.{term_text, args_text, rest_text}
use Rattle.uc_clause.proofs.Means.{means_grows, extends_not}
use Rattle.uc_problem.specs.declared.problem.Problem.{Problem}
use Rattle.uc_problem.specs.Filling.{IsFilled}
use Rattle.uc_problem.proofs.FilledOnce.{filled_once, filled_problem_once}
use Rattle.uc_order.specs.Members.{In}
use Rattle.uc_order.specs.Laws.{Meaning, Laws, HasSym, IsGroundOf}
use Rattle.uc_order.specs.declared.spec.OrderSpec.{OrderSpec}
use Rattle.uc_decide.specs.declared.reply.Reply.{Reply}
use Rattle.uc_decide.specs.declared.reply.Reply.TheVariants.{Equal, Different, Spent, Grown}
use Rattle.uc_decide.specs.Asking.{IsRight, IsVerdict}
use Rattle.uc_words.specs.declared.command.Command.{Command}
use Rattle.uc_words.specs.declared.command.OrderWords.{OrderWords}
use Rattle.uc_words.specs.Reads.{Reads}
use Rattle.uc_ordering.specs.Choice.{IsChosen}
use Rattle.uc_ordering.specs.Meaning.{meaning_of}
use Rattle.uc_certify.specs.declared.certified.Certified.TheVariants.{Yes}
use Rattle.uc_certify.proofs.OwnLeast.{own_right}
use Rattle.uc_answer.specs.Lines.{spaced}
use Rattle.uc_answer.specs.Promises.{IsOwnGround}
use Rattle.uc_answer.specs.QuestionWords.{IsQuestionWord, AreQuestions, no_question, one_question}
use Rattle.uc_answer.specs.ReplyLines.{reply_line}
use Rattle.uc_answer.proofs.OneQuestion.{question_once}
use Rattle.uc_answer.proofs.SpecSymbols.{over_from}
use Rattle.uc_top.specs.CertifyRuns.{HasTested}
use Rattle.uc_top.specs.DecideRuns.{Tells, IsDecidedBy, KeepsDecision}
use Rattle.uc_top.specs.SharedOrders.{SharesOrder}
use Rattle.uc_top.specs.SystemRuns.{AreOwnQuestions, IsAnsweredByCertificate, TellsByCertificate}
use Rattle.uc_top.proofs.OwnOrders.{m_laws, own_laws, own_has, own_symbol, own_arity, own_order, order_extends, to_read}
use Rattle.uc_top.proofs.SameLines.{IsToldLine, told_at, right_at, one_told}
use Rattle.uc_top.proofs.WithinLimits.{weight_within}

-- LINES

-- A line of terms over symbols that a table has is the same in every later table.
module _ (old new : Table) (grows : Grows old new) (has : Sym → Type 0) (arity : Sym → ℕ) (old_has : (f : Sym) → has f → Has old f) where
  mutual
    text_same : (t : Tree) → IsGround has arity t → term_text new t ≡ term_text old t
    text_same (var x) g = absurd g
    text_same (app f ts) g = ap₂ ◌++◌ (ap spelling (name-grows old new grows f (old_has f g.0))) (args_same ts g.2)

    args_same : (ts : Trees) → AreGround has arity ts → args_text new ts ≡ args_text old ts
    args_same none g = refl
    args_same (more t ts) g = ap₂ (λ a b. 40 ∷ a ++ b) (text_same t g.0) (rest_same ts g.1)

    rest_same : (ts : Trees) → AreGround has arity ts → rest_text new ts ≡ rest_text old ts
    rest_same none g = refl
    rest_same (more t ts) g = ap₂ (λ a b. 44 ∷ a ++ b) (text_same t g.0) (rest_same ts g.1)

module _ (old new : Table) (grows : Grows old new) (k : Meaning) (axioms : List Equation) (old_has : (f : Sym) → HasSym k f → Has old f) where
  line_same : (s t : Tree) (reply : Reply) → IsRight k axioms s t reply → reply_line new reply ≡ reply_line old reply
  line_same s t (Equal n) r = ap (λ x. codes "equal" ++ spaced (x ++ codes "\n")) (text_same old new grows (HasSym k) k.arity old_has n r.1.ground)
  line_same s t (Different left right) r = ap₂ (λ x y. codes "different" ++ spaced x ++ spaced (y ++ codes "\n")) (text_same old new grows (HasSym k) k.arity old_has left r.1.ground) (text_same old new grows (HasSym k) k.arity old_has right r.2.ground)
  line_same s t (Spent n) r = refl
  line_same s t Grown r = refl

-- QUESTIONS

own_at : (table : Table) (problem : Problem) (questions : List (Tree × Tree)) (i : ℕ) (sides : Tree × Tree) → AreOwnQuestions table problem questions → slice_get questions i ≡ Some sides → IsOwnGround table problem sides.0 × IsOwnGround table problem sides.1
own_at table problem [] i sides h at = absurd cc
own_at table problem (q ∷ qs) zero sides h at = let same : q ≡ sides = cc in subst (λ (x : Tree × Tree). IsOwnGround table problem x.0 × IsOwnGround table problem x.1) same h.0
own_at table problem (q ∷ qs) (suc i) sides h at = own_at table problem qs i sides h.1 at

-- a word that is a question is one in every later table
module _ (old new : Table) (grows : Grows old new) (known : List Sym) where
  question_later : (word : List ℕ) (sides : Tree × Tree) → IsQuestionWord old known word sides → IsQuestionWord new known word sides
  question_later word sides q =
      let r = q.reads in
      let seen = variables_of word r.tokens r.parse in
      let left = means_grows word r.tokens old new seen seen grows (extends_not seen) r.means.means_left in
      let right = means_grows word r.tokens old new seen seen grows (extends_not seen) r.means.means_right in
      record { reads = record { tokens = r.tokens; are_tokens = r.are_tokens; parse = r.parse; end = r.end; reads = r.reads; means = record { means_left = left; means_right = right } }; is_fit = q.is_fit }

-- the question that a word is
question_at : (table : Table) (known : List Sym) {words : List (List ℕ)} {questions : List (Tree × Tree)} (i : ℕ) (word : List ℕ) → AreQuestions table known words questions → slice_get words i ≡ Some word → (sides : Tree × Tree) × (slice_get questions i ≡ Some sides) × IsQuestionWord table known word sides
question_at table known i word no_question at = absurd cc
question_at table known zero word (one_question {word = first} {sides = sides} q qs) at = let same : first ≡ word = cc in (sides, refl, subst (λ (w : List ℕ). IsQuestionWord table known w sides) same q)
question_at table known (suc i) word (one_question q qs) at = question_at table known i word qs at

-- THE LAW

-- A certificate that passes all tests, and the order of a search for the same problem, in the table that loading it leaves.
module _ (files : Files) (root : Option (List ℕ)) (name file : List ℕ) (passed : HasTested files root name file Yes) (words : OrderWords) (some : 1 ≤ words.w0) (most : words.w0 ≤ 1000000) (own_spec : OrderSpec) (chosen : IsChosen passed.loaded passed.problem.signature words None own_spec) (shares : SharesOrder passed.loaded passed.table passed.read passed.problem passed.encoded.fresh words own_spec passed.certificate.text.spec) where
  abbrev own : Meaning
  own = meaning_of passed.loaded own_spec

  abbrev axioms : List Equation
  axioms = axioms_of passed.problem.clauses

  abbrev known : List Sym
  known = passed.problem.signature.symbols

  laws : Laws own
  laws = own_laws files root name file passed words some most own_spec chosen

  grows : Grows passed.loaded passed.read
  grows = to_read files root name file passed

  has : (f : Sym) → HasSym own f → Has passed.loaded f
  has f h = own_has files root name file passed words some most own_spec chosen f (own_symbol files root name file passed words some most own_spec chosen f h).0

  -- a term over the problem's own symbols is one over the search's order
  own_term : (t : Tree) → IsOwnGround passed.read passed.problem t → IsGroundOf own t
  own_term t g = over_from (In known) (HasSym own) (arity_of passed.read) own.arity (own_arity files root name file passed words some most own_spec chosen) (λ _. ⊥) (λ _. ⊥) (λ x h. h) t g

  -- what the certificate's order and the encoded axioms make of a reply, the search's order and the problem's own axioms do
  module _ (sides : Tree × Tree) (are_own : IsOwnGround passed.read passed.problem sides.0 × IsOwnGround passed.read passed.problem sides.1) (reply : Reply) (right : IsRight (meaning_of passed.read passed.certificate.text.spec) passed.encoded.axioms sides.0 sides.1 reply) where
    right_here : IsRight own axioms sides.0 sides.1 reply
    right_here = own_right (meaning_of passed.read passed.certificate.text.spec) own (m_laws files root name file passed) laws (order_extends files root name file passed words some most own_spec chosen shares) passed.table passed.problem (own_order files root name file passed words some most own_spec chosen) passed.encoded passed.encodes sides.0 sides.1 reply (own_term sides.0 are_own.0) (own_term sides.1 are_own.1) right

    told_here : (line : List ℕ) → IsVerdict reply → line ≡ reply_line passed.read reply → IsToldLine passed.loaded axioms own_spec sides line
    told_here line verdict is = record {
      reply = reply;
      right = right_here;
      verdict = verdict;
      line_is = is ∙ line_same passed.loaded passed.read grows own axioms has sides.0 sides.1 reply right_here;
    }

  -- the line of a search for the question is the certificate's
  one_line_for : (sides : Tree × Tree) (line other : List ℕ) → IsToldLine passed.loaded axioms own_spec sides line → IsToldLine passed.loaded axioms own_spec sides other → line ≡ other
  one_line_for sides line other a b = one_told passed.loaded axioms own_spec laws sides line other a b

-- two runs of `decide`, one by a search and one by a certificate
module _ (files : Files) (all : List (List ℕ)) (command other_command : Command) (name file : List ℕ) (asked questions : List (List ℕ)) (status other_status : ℕ) (answer other_answer : List ℕ) (x : KeepsDecision files command name asked status answer) (y : IsAnsweredByCertificate files other_command name file questions other_status other_answer) (reads : Reads all command) (roots : command.root ≡ other_command.root) where
  abbrev passed : HasTested files other_command.root name file Yes
  passed = y.has.passed

  abbrev p : IsDecidedBy x.table files command name asked status answer
  p = x.is_decided

  filled : IsFilled files other_command.root name [] x.table p.problem
  filled = subst (λ r. IsFilled files r name [] x.table p.problem) roots p.filled

  tables : x.table ≡ passed.loaded
  tables = filled_once files other_command.root name [] x.table passed.loaded x.distinct passed.loaded_distinct p.problem passed.problem filled passed.is_loaded.filled

  problems : p.problem ≡ passed.problem
  problems = filled_problem_once files other_command.root name [] x.table passed.loaded x.distinct passed.loaded_distinct p.problem passed.problem filled passed.is_loaded.filled

  chosen_there : IsChosen passed.loaded passed.problem.signature command.order None p.decided.spec
  chosen_there = subst (λ (q : Problem). IsChosen passed.loaded q.signature command.order None p.decided.spec) problems (subst (λ (t : Table). IsChosen t p.problem.signature command.order None p.decided.spec) tables p.decided.chosen)

  module _ (shares : SharesOrder passed.loaded passed.table passed.read passed.problem passed.encoded.fresh command.order p.decided.spec passed.certificate.text.spec) (i j : ℕ) (line other : List ℕ) (tells : Tells x i line) (tells_too : TellsByCertificate y j other) where
    pub same_for : (sides : Tree × Tree) → slice_get p.decided.questions i ≡ Some sides → slice_get y.questions j ≡ Some sides → line ≡ other
    same_for sides at there =
        let within = weight_within all command reads in
        let told = told_at p.decided.told i sides line at tells in
        let by_table = subst (λ (t : Table). IsToldLine t (axioms_of p.problem.clauses) p.decided.spec sides line) tables told in
        let by_problem = subst (λ (q : Problem). IsToldLine passed.loaded (axioms_of q.clauses) p.decided.spec sides line) problems by_table in
        let reply = tells_too.0 in
        let right = right_at j sides reply y.are_right there tells_too.1 in
        let are_own = own_at passed.read passed.problem y.questions j sides y.are_own there in
        let by_certificate = told_here files other_command.root name file passed command.order within.0 within.1 p.decided.spec chosen_there shares sides are_own reply right other tells_too.2 tells_too.3 in
        one_line_for files other_command.root name file passed command.order within.0 within.1 p.decided.spec chosen_there shares sides line other by_problem by_certificate

    pub same_for_word : (word : List ℕ) → slice_get asked i ≡ Some word → slice_get questions j ≡ Some word → line ≡ other
    same_for_word word at there =
        let here = question_at x.table p.problem.signature.symbols i word p.decided.are_questions at in
        let certified = question_at passed.read passed.problem.signature.symbols j word y.are_questions there in
        let loaded = subst (λ (q : Problem). IsQuestionWord passed.loaded q.signature.symbols word here.0) problems (subst (λ (t : Table). IsQuestionWord t p.problem.signature.symbols word here.0) tables here.2) in
        let later = question_later passed.loaded passed.read (to_read files other_command.root name file passed) passed.problem.signature.symbols word here.0 loaded in
        let same : certified.0 ≡ here.0 = question_once word passed.read passed.read_distinct passed.problem.signature.symbols here.0 certified.0 later certified.2 in
        same_for here.0 here.1 (certified.1 ∙ ap Some same)
