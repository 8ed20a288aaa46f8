-- The first node of a question that it may not have, and where it stands in the word; and questions in a table that grows.
use Rattle.std.proofs.Common.{ℕ, zero, suc, ◌+◌, ◌^◌, ◌≡◌, ◌<◌, ◌≤◌, ◌==◌, not, Bool, cond, List, [], ◌∷◌, ◌++◌, length, length-append, position, get_or, slice_get, take, Option, Some, None, refl, sym, ap, ◌∙◌, subst, arith}
use Rattle.std.specs.List.{prefix_len}
use Rattle.std.proofs.lemmas.Grind.{common_steps}
use Rattle.std.proofs.lemmas.List.{take_more}
use Rattle.std.proofs.lemmas.List.Folds.{prefix_len-append}
use Rattle.std.proofs.lemmas.List.Sums.{prefix_len-le-length}
use Rattle.std.proofs.lemmas.Option.{slice_get-get_or}
use Rattle.uc_term.specs.declared.node.Sym.{Sym}
use Rattle.uc_term.specs.declared.node.Node.{Node}
use Rattle.uc_term.specs.declared.node.Node.TheVariants.{Var, App}
use Rattle.uc_term.specs.Tree.{Tree}
use Rattle.uc_term.specs.Flat.{flat}
use Rattle.uc_term.specs.Table.{Table, Grows, Has, IsOf, name_of}
use Rattle.uc_term.proofs.Terms.{take_of_length-le}
use Rattle.uc_clause.specs.declared.token.Place.{Place}
use Rattle.uc_clause.specs.declared.token.Token.{Token}
use Rattle.uc_clause.specs.Terminals.{place_or_end}
use Rattle.uc_clause.specs.Parse.{leaves}
use Rattle.uc_clause.specs.Reading.{ReadsEquation}
use Rattle.uc_clause.proofs.Means.{extends_not, means_grows}
use Rattle.uc_answer.specs.declared.term_word.WordFault.{WordFault}
use Rattle.uc_answer.specs.TermWords.{place_or_first, node_place}
use Rattle.uc_answer.specs.QuestionWords.{nodes_of, is_unfit, first_unfit, IsQuestionWord, HasUnfit, HasUnknown, HasVariable, IsQuestionFault, AreShort, AreQuestions, no_question, one_question, IsFirstFault}
use Rattle.uc_answer.proofs.NodeTokens.{side_node_at}
use Rattle.uc_answer.proofs.TermWords.{some_within, within_some, means_of, leaves_are, symbol_of, has_both}

-- THE FIRST OF TWO LISTS

module _ {X : Type 0} (p : X → Bool) (xs ys : List X) where
  joint : prefix_len (λ x. not (p x)) (xs ++ ys) ≡ cond (prefix_len (λ x. not (p x)) xs == length xs) (length xs + prefix_len (λ x. not (p x)) ys) (prefix_len (λ x. not (p x)) xs)
  joint = prefix_len-append (λ x. not (p x)) xs ys

  pub first_of_left : (n : ℕ) → position p xs ≡ Some n → position p (xs ++ ys) ≡ Some n
  first_of_left n e = let both = joint in let long = length-append xs ys in grind (arith, common_steps)

  pub first_of_right : (n : ℕ) → position p xs ≡ None → position p ys ≡ Some n → position p (xs ++ ys) ≡ Some (length xs + n)
  first_of_right n none e =
      let most = prefix_len-le-length (λ x. not (p x)) xs in
      let both = joint in
      let long = length-append xs ys in
      grind (arith, common_steps)

  pub first_of_neither : position p xs ≡ None → position p ys ≡ None → position p (xs ++ ys) ≡ None
  first_of_neither none e =
      let most = prefix_len-le-length (λ x. not (p x)) xs in
      let both = joint in
      let long = length-append xs ys in
      grind (arith, common_steps)

pub position_within : {X : Type 0} (p : X → Bool) (xs : List X) (n : ℕ) → position p xs ≡ Some n → n < length xs
position_within p xs n e = grind (arith, common_steps)

pub none_of : {X : Type 0} (o : Option X) → ((x : X) → o ≡ Some x → ⊥) → o ≡ None
none_of None n = refl
none_of (Some x) n = absurd (n x refl)

pub unfit_within : (known : List Sym) (sides : Tree × Tree) (number : ℕ) → first_unfit known sides ≡ Some number → number < length (nodes_of sides)
unfit_within known sides number e = position_within (is_unfit known) (nodes_of sides) number e

-- WHERE IT STANDS

pub question_of : (word : List ℕ) (table : Table) (sides : Tree × Tree) → ReadsEquation word table sides → IsOf table sides.0 × IsOf table sides.1
question_of word table sides r = (means_of word r.tokens table r.means.means_left, means_of word r.tokens table r.means.means_right)

same_place : (word : List ℕ) (a b : Option Token) (token : Token) → a ≡ Some token → b ≡ Some token → place_or_first a ≡ place_or_end word b
same_place word a b token e k = ap place_or_first e ∙ sym (ap (place_or_end word) k)

module _ (table : Table) (word : List ℕ) (sides : Tree × Tree) (r : ReadsEquation word table sides) (number : ℕ) where
  pub symbol_is : (f : Sym) (n : ℕ) → slice_get (nodes_of sides) number ≡ Some (App f n) → Has table f
  symbol_is f n e =
      let of = question_of word table sides r in
      has_both table (flat sides.0) (flat sides.1) number f n (λ i h. symbol_of table sides.0 i f n of.0 h) (λ i h. symbol_of table sides.1 i f n of.1 h) e

  module _ (known : List Sym) (first : first_unfit known sides ≡ Some number) (place : Place) (place_is : place ≡ node_place r.tokens number) where
    has_unfit : (node : Node) → slice_get (nodes_of sides) number ≡ Some node → HasUnfit table known word node place
    has_unfit node at =
        let left = leaves_are word r.tokens table r.means.means_left in
        let right = leaves_are word r.tokens table r.means.means_right in
        let long : length (leaves r.parse.left ++ leaves r.parse.right) ≡ length (nodes_of sides) = omega (arith, left, right, length-append (leaves r.parse.left) (leaves r.parse.right), length-append (flat sides.0) (flat sides.1)) in
        let leaf = within_some (leaves r.parse.left ++ leaves r.parse.right) number (omega (arith, long, some_within (nodes_of sides) number node at)) in
        let token = side_node_at word r.tokens number leaf.0 r.reads leaf.1 in
        record {
          sides = sides;
          reads = r;
          number = number;
          is_first = first;
          node_is = at;
          token = leaf.0;
          leaf = leaf.1;
          place_is = place_is ∙ same_place word _ _ token.0 token.2 token.1;
        }

    pub has_unknown : (f : Sym) (n : ℕ) (name : List ℕ) → slice_get (nodes_of sides) number ≡ Some (App f n) → name ≡ name_of table f → HasUnknown table known word place name
    has_unknown f n name at named = record { symbol = f; arity = n; unfit = has_unfit (App f n) at; name_is = named }

    pub has_variable : (x : ℕ) → slice_get (nodes_of sides) number ≡ Some (Var x) → HasVariable table known word place
    has_variable x at = record { variable = x; unfit = has_unfit (Var x) at }

-- WHILE THE TABLE GROWS

pub equation_later : (word : List ℕ) (old new : Table) (sides : Tree × Tree) → Grows old new → ReadsEquation word old sides → ReadsEquation word new sides
equation_later word old new sides g r = record {
  tokens = r.tokens;
  are_tokens = r.are_tokens;
  parse = r.parse;
  end = r.end;
  reads = r.reads;
  means = record {
    means_left = means_grows word r.tokens old new _ _ g (extends_not _) r.means.means_left;
    means_right = means_grows word r.tokens old new _ _ g (extends_not _) r.means.means_right;
  };
}

module _ (old new : Table) (known : List Sym) (grows : Grows old new) where
  pub questions_later : {words : List (List ℕ)} {questions : List (Tree × Tree)} → AreQuestions old known words questions → AreQuestions new known words questions
  questions_later no_question = no_question
  questions_later (one_question {word = word} {sides = sides} q qs) = one_question (record { reads = equation_later word old new sides grows q.reads; is_fit = q.is_fit }) (questions_later qs)

module _ (table : Table) (known : List Sym) where
  -- one question more behind the others
  pub question_behind : {words : List (List ℕ)} {questions : List (Tree × Tree)} (word : List ℕ) (sides : Tree × Tree) → AreQuestions table known words questions → IsQuestionWord table known word sides → AreQuestions table known (words ++ word ∷ []) (questions ++ sides ∷ [])
  question_behind word sides no_question q = one_question q no_question
  question_behind word sides (one_question p ps) q = one_question p (question_behind word sides ps q)

  pub none_yet : AreQuestions table known [] []
  none_yet = no_question

-- ONE WORD AFTER ANOTHER

pub take_next : {X : Type 0} (xs : List X) (i : ℕ) (x : X) → i < length xs → x ≡ get_or xs i x → take (i + 1) xs ≡ take i xs ++ x ∷ []
take_next xs i x h at = take_more xs i x h ∙ ap (λ y. take i xs ++ y ∷ []) (sym at)

pub short_at : (words : List (List ℕ)) (i : ℕ) (word : List ℕ) → i < length words → word ≡ get_or words i word → AreShort words → length word < 2 ^ 31
short_at [] i word h at short = absurd (omega (arith, h))
short_at (w ∷ ws) zero word h at short = subst (λ (x : List ℕ). length x < 2 ^ 31) (sym at) short.0
short_at (w ∷ ws) (suc i) word h at short = short_at ws i word (omega (arith, h)) at short.1

module _ (known : List Sym) (words : List (List ℕ)) (number : ℕ) (word : List ℕ) (questions : List (Tree × Tree)) where
  pub first_fault : (table : Table) (why : WordFault) → number < length words → word ≡ get_or words number word → AreQuestions table known (take number words) questions → IsQuestionFault table known word why → IsFirstFault table known words number why
  first_fault table why h at qs fault = record {
    before = questions;
    are_questions = qs;
    word = word;
    word_is = slice_get-get_or words number word h ∙ ap Some (sym at);
    fault = fault;
  }

  pub one_question_more : (old new : Table) (sides : Tree × Tree) → number < length words → word ≡ get_or words number word → Grows old new → AreQuestions old known (take number words) questions → IsQuestionWord new known word sides → AreQuestions new known (take (number + 1) words) (questions ++ sides ∷ [])
  one_question_more old new sides h at g qs q = subst (λ ws. AreQuestions new known ws (questions ++ sides ∷ [])) (sym (take_next words number word h at)) (question_behind new known word sides (questions_later old new known g qs) q)

pub all_read : (table : Table) (known : List Sym) (words : List (List ℕ)) (number : ℕ) (questions : List (Tree × Tree)) → length words ≤ number → AreQuestions table known (take number words) questions → AreQuestions table known words questions
all_read table known words number questions h qs = subst (λ ws. AreQuestions table known ws questions) (take_of_length-le words number h) qs
