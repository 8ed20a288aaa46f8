-- The terms of a question are ground, over the symbols that it may have; and words of known symbols leave the table.
use Rattle.std.proofs.Common.{ℕ, zero, suc, ◌≡◌, ◌++◌, Bool, true, false, not, List, [], ◌∷◌, slice_get, Some, refl, ap, ◌∙◌, subst}
use Rattle.std.specs.List.{list_any}
use Rattle.uc_term.specs.declared.node.Sym.{Sym}
use Rattle.uc_term.specs.declared.node.Node.{Node}
use Rattle.uc_term.specs.Tree.{Tree, var, app, Trees, none, more}
use Rattle.uc_term.specs.Flat.{flat, flat_all}
use Rattle.uc_term.specs.Over.{IsOver, AreOver, IsGround, AreGround}
use Rattle.uc_term.specs.Table.{Table, Grows, Has, IsOf, arity_of}
use Rattle.uc_term.specs.Gathering.{HasAll}
use Rattle.uc_clause.specs.Rules.{Outcome, read}
use Rattle.uc_clause.specs.Parse.{Parse, Sides}
use Rattle.uc_clause.specs.Items.{term_alone, equals_alone}
use Rattle.uc_clause.specs.Interning.{with_term, with_sides, InternsTerm, InternsEquation}
use Rattle.uc_clause.proofs.Once.{tokens_once}
use Rattle.uc_clause.proofs.Alone.{term_alone_once, equals_alone_once}
use Rattle.uc_clause.proofs.Kept.{term_kept}
use Rattle.uc_kbo.proofs.Tables.{each_in}
use Rattle.uc_term.specs.Signatures.{same_symbol}
use Rattle.uc_term.proofs.Finds.{position_none}
use Rattle.uc_order.specs.Members.{In, Each}
use Rattle.uc_order.specs.declared.spec.OrderSpec.{OrderSpec}
use Rattle.uc_ordering.specs.Fits.{Fits}
use Rattle.uc_ordering.specs.Meaning.{meaning_of}
use Rattle.uc_answer.specs.TermWords.{is_foreign, IsTermWord}
use Rattle.uc_answer.specs.QuestionWords.{is_unfit, IsQuestionWord, AreQuestions, no_question, one_question}
use Rattle.uc_answer.specs.RightReplies.{AreGroundQuestions}
use Rattle.uc_answer.proofs.HadSymbols.{each_has}
use Rattle.uc_answer.proofs.OverSignature.{any_in, split_left, split_right}
use Rattle.uc_answer.proofs.SpecSymbols.{order_ground}
use Rattle.uc_answer.proofs.TermWords.{means_of, term_of}

is_false : (b : Bool) → (b ≡ true → ⊥) → b ≡ false
is_false true h = absurd (h refl)
is_false false h = refl

not_false : (b : Bool) → not b ≡ false → b ≡ true
not_false true e = refl
not_false false e = absurd cc

same_sides : {p q : Sides} {k l : ℕ} → Path (Outcome Sides) (read p k) (read q l) → p ≡ q
same_sides e = cc

same_term : {p q : Parse} {k l : ℕ} → Path (Outcome Parse) (read p k) (read q l) → p ≡ q
same_term e = cc

-- a term of known symbols
abbrev IsKnown : List Sym → Node → Type 0
IsKnown known node = is_foreign known node ≡ false

none_foreign : (known : List Sym) (nodes : List Node) → ((i : ℕ) (x : Node) → slice_get nodes i ≡ Some x → is_foreign known x ≡ true → ⊥) → Each (IsKnown known) nodes
none_foreign known [] h = tt
none_foreign known (x ∷ xs) h = (is_false (is_foreign known x) (h zero x refl), none_foreign known xs (λ i y e. h (suc i) y e))

module _ (table : Table) (known : List Sym) where
  mutual
    known_over : (t : Tree) → IsOf table t → Each (IsKnown known) (flat t) → IsOver (In known) (arity_of table) (λ _. Unit {0}) t
    known_over (var x) h n = tt
    known_over (app f ts) h n = (any_in f known (not_false (list_any (same_symbol f) known) n.0), h.1, known_all_over ts h.2 n.1)

    known_all_over : (ts : Trees) → AreOver (Has table) (arity_of table) (λ _. Unit {0}) ts → Each (IsKnown known) (flat_all ts) → AreOver (In known) (arity_of table) (λ _. Unit {0}) ts
    known_all_over none h n = tt
    known_all_over (more t ts) h n = (known_over t h.0 (split_left (IsKnown known) (flat t) (flat_all ts) n), known_all_over ts h.1 (split_right (IsKnown known) (flat t) (flat_all ts) n))

  abbrev IsFit : Node → Type 0
  IsFit node = is_unfit known node ≡ false

  none_unfit : (nodes : List Node) → ((i : ℕ) (x : Node) → slice_get nodes i ≡ Some x → is_unfit known x ≡ true → ⊥) → Each IsFit nodes
  none_unfit [] h = tt
  none_unfit (x ∷ xs) h = (is_false (is_unfit known x) (h zero x refl), none_unfit xs (λ i y e. h (suc i) y e))

  mutual
    fit_ground : (t : Tree) → IsOf table t → Each IsFit (flat t) → IsGround (In known) (arity_of table) t
    fit_ground (var x) h n = let bad : true ≡ false = n.0 in absurd cc
    fit_ground (app f ts) h n = (any_in f known (not_false (list_any (same_symbol f) known) n.0), h.1, fit_all_ground ts h.2 n.1)

    fit_all_ground : (ts : Trees) → AreOver (Has table) (arity_of table) (λ _. Unit {0}) ts → Each IsFit (flat_all ts) → AreGround (In known) (arity_of table) ts
    fit_all_ground none h n = tt
    fit_all_ground (more t ts) h n = (fit_ground t h.0 (split_left IsFit (flat t) (flat_all ts) n), fit_all_ground ts h.1 (split_right IsFit (flat t) (flat_all ts) n))

  pub question_ground : (word : List ℕ) (sides : Tree × Tree) → IsQuestionWord table known word sides → IsGround (In known) (arity_of table) sides.0 × IsGround (In known) (arity_of table) sides.1
  question_ground word sides q =
      let fit = none_unfit (flat sides.0 ++ flat sides.1) (position_none (is_unfit known) (flat sides.0 ++ flat sides.1) q.is_fit) in (
        fit_ground sides.0 (means_of word q.reads.tokens table q.reads.means.means_left) (split_left IsFit (flat sides.0) (flat sides.1) fit),
        fit_ground sides.1 (means_of word q.reads.tokens table q.reads.means.means_right) (split_right IsFit (flat sides.0) (flat sides.1) fit),
      )

  -- and so over an order that fits these symbols
  pub questions_ground : (spec : OrderSpec) → Fits table known spec → {words : List (List ℕ)} {questions : List (Tree × Tree)} → AreQuestions table known words questions → AreGroundQuestions (meaning_of table spec) questions
  questions_ground spec fits no_question = tt
  questions_ground spec fits (one_question {word = word} {sides = sides} q rest) =
      let p = question_ground word sides q in
      ((order_ground table known spec fits sides.0 p.0, order_ground table known spec fits sides.1 p.1), questions_ground spec fits rest)

-- The symbols that are known are the old table's. So a word of known symbols, as it is read in a later table, leaves the old one.
module _ (old later : Table) (known : List Sym) (grows : Grows old later) (has : HasAll old known) where
  known_has : (f : Sym) → In known f → Has old f
  known_has f i = each_in (Has old) known f (each_has old known has) i

  pub question_keeps : (word : List ℕ) (sides : Tree × Tree) (new : Table) → InternsEquation word old new → IsQuestionWord later known word sides → new ≡ old
  question_keeps word sides new i q =
      let p = question_ground later known word sides q in
      let r = q.reads in
      let tokens : i.tokens ≡ r.tokens = tokens_once i.are_tokens r.are_tokens in
      let reads = subst (λ ts. equals_alone word ts 0 (read i.parse i.end)) tokens i.reads in
      let parses : i.parse ≡ r.parse = same_sides (equals_alone_once word r.tokens 0 (read i.parse i.end) (read r.parse r.end) reads r.reads) in
      let left = term_kept old later grows (In known) known_has (arity_of later) (λ _. ⊥) word r.tokens _ r.means.means_left p.0 in
      let right = term_kept old later grows (In known) known_has (arity_of later) (λ _. ⊥) word r.tokens _ r.means.means_right p.1 in
      i.new_is ∙ ap (λ ts. with_sides word ts old i.parse) tokens ∙ ap (with_sides word r.tokens old) parses ∙ ap (λ t. with_term word r.tokens t r.parse.right) left ∙ right

  pub word_keeps : (word : List ℕ) (t : Tree) (new : Table) → InternsTerm word old new → IsTermWord later known word t → new ≡ old
  word_keeps word t new i k =
      let r = k.reads in
      let over = known_over later known t (term_of word later t r) (none_foreign known (flat t) (position_none (is_foreign known) (flat t) k.is_known)) in
      let tokens : i.tokens ≡ r.tokens = tokens_once i.are_tokens r.are_tokens in
      let reads = subst (λ ts. term_alone word ts 0 (read i.parse i.end)) tokens i.reads in
      let parses : i.parse ≡ r.parse = same_term (term_alone_once word r.tokens 0 (read i.parse i.end) (read r.parse r.end) reads r.reads) in
      i.new_is ∙ ap (λ ts. with_term word ts old i.parse) tokens ∙ ap (with_term word r.tokens old) parses ∙ term_kept old later grows (In known) known_has (arity_of later) (λ _. Unit {0}) word r.tokens _ r.means over
