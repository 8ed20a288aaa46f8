-- Words are one list of questions over a signature, or the first that is none is refused for one reason.
use Rattle.std.proofs.Common.{ℕ, zero, suc, ◌≡◌, List, [], ◌∷◌, ◌++◌, slice_get, Option, Some, None, refl, sym, ap, ap₂, ◌∙◌, subst}
use Rattle.uc_term.specs.declared.node.Sym.{Sym}
use Rattle.uc_term.specs.declared.node.Node.{Node}
use Rattle.uc_term.specs.declared.node.Node.TheVariants.{Var, App}
use Rattle.uc_term.specs.Tree.{Tree}
use Rattle.uc_term.specs.Table.{Table, IsDistinct, name_of}
use Rattle.uc_term.specs.Gathering.{HasAll}
use Rattle.uc_clause.specs.declared.token.Place.{Place}
use Rattle.uc_clause.specs.declared.fault.ClauseFault.{ClauseFault}
use Rattle.uc_clause.specs.declared.fault.ClauseFault.TheVariants.{Syntax}
use Rattle.uc_clause.specs.declared.grammar.stop.Why.{Why}
use Rattle.uc_clause.specs.Terminals.{place_at}
use Rattle.uc_clause.specs.Rules.{Outcome, read, stop}
use Rattle.uc_clause.specs.Parse.{Sides, leaves}
use Rattle.uc_clause.specs.Items.{equals_alone}
use Rattle.uc_clause.specs.Reading.{ReadsEquation, SaysSides, Refuses, isnt_tokens, isnt_read}
use Rattle.uc_clause.proofs.Once.{tokens_once, tokens_or_stops, stops_once}
use Rattle.uc_clause.specs.Interning.{InternsEquation}
use Rattle.uc_clause.proofs.Alone.{equals_alone_once, says_sides_once}
use Rattle.uc_clause.proofs.InternedOnce.{equation_interns_once}
use Rattle.uc_problem.proofs.Later.{Grows-refl}
use Rattle.uc_answer.specs.declared.term_word.WordFault.{WordFault}
use Rattle.uc_answer.specs.declared.term_word.WordFault.TheVariants.{Unread, UnknownSymbol, NotGround, NoMemory}
use Rattle.uc_answer.specs.QuestionWords.{nodes_of, first_unfit, IsQuestionWord, HasUnfit, HasUnknown, HasVariable, IsQuestionFault, AreQuestions, no_question, one_question, IsFirstFault}
use Rattle.uc_answer.proofs.InternedDistinct.{read_equation_distinct}
use Rattle.uc_answer.proofs.GroundQuestions.{question_keeps}

same_stop : {why other : Why} {k l : ℕ} → Path (Outcome Sides) (stop why k) (stop other l) → (why ≡ other) × (k ≡ l)
same_stop e = (cc, cc)

same_read : {p q : Sides} {k l : ℕ} → Path (Outcome Sides) (read p k) (read q l) → p ≡ q
same_read e = cc

read_or_stop : {p : Sides} {k l : ℕ} {why : Why} → Path (Outcome Sides) (read p k) (stop why l) → ⊥
read_or_stop e = absurd cc

some_same : {A : Type 0} {o : Option A} {a b : A} → o ≡ Some a → o ≡ Some b → a ≡ b
some_same {A} {o} {a} {b} p q = let r : Some a ≡ Some b = sym p ∙ q in cc

some_or_none : {A : Type 0} {o : Option A} {a : A} → o ≡ Some a → o ≡ None → ⊥
some_or_none {A} {o} {a} p q = absurd (let r : Some a ≡ None = sym p ∙ q in cc)

same_symbol_at : {f g : Sym} {n m : ℕ} → Path Node (App f n) (App g m) → f ≡ g
same_symbol_at e = cc

symbol_or_variable : {f : Sym} {n x : ℕ} → Path Node (App f n) (Var x) → ⊥
symbol_or_variable e = absurd cc

-- A WORD

module _ (word : List ℕ) where
  equation_refused_once : {a b : ClauseFault} → Refuses equals_alone word a → Refuses equals_alone word b → a ≡ b
  equation_refused_once (isnt_tokens x) (isnt_tokens y) = ap Syntax (stops_once x y)
  equation_refused_once (isnt_tokens x) (isnt_read are y) = absurd (tokens_or_stops are x)
  equation_refused_once (isnt_read are x) (isnt_tokens y) = absurd (tokens_or_stops are y)
  equation_refused_once (isnt_read {tokens = ts} {why = why} {k = k} are x) (isnt_read {tokens = us} {why = other} {k = l} others y) =
      let tokens : us ≡ ts = tokens_once others are in
      let stops = same_stop (equals_alone_once word ts 0 (stop why k) (stop other l) x (subst (λ vs. equals_alone word vs 0 (stop other l)) tokens y)) in
      let whys : why ≡ other = stops.0 in
      let ks : k ≡ l = stops.1 in
      rw (whys, ks, tokens) refl

  module _ (table : Table) where
    equation_or_refused : {s : Tree × Tree} {e : ClauseFault} → ReadsEquation word table s → Refuses equals_alone word e → ⊥
    equation_or_refused r (isnt_tokens x) = tokens_or_stops r.are_tokens x
    equation_or_refused r (isnt_read {tokens = ts} {why = why} {k = k} are x) =
        let tokens : ts ≡ r.tokens = tokens_once are r.are_tokens in
        read_or_stop (equals_alone_once word r.tokens 0 (read r.parse r.end) (stop why k) r.reads (subst (λ us. equals_alone word us 0 (stop why k)) tokens x))

    module _ {s t : Tree × Tree} (r : ReadsEquation word table s) (q : ReadsEquation word table t) where
      same_tokens : q.tokens ≡ r.tokens
      same_tokens = tokens_once q.are_tokens r.are_tokens

      same_parse : q.parse ≡ r.parse
      same_parse = sym (same_read (equals_alone_once word r.tokens 0 (read r.parse r.end) (read q.parse q.end) r.reads (subst (λ us. equals_alone word us 0 (read q.parse q.end)) same_tokens q.reads)))

      same_sides : IsDistinct table → t ≡ s
      same_sides distinct = sym (says_sides_once word r.tokens table distinct r.parse s t r.means (subst (λ us. SaysSides table word us r.parse t) same_tokens (subst (λ p. SaysSides table word q.tokens p t) same_parse q.means)))

    module _ (distinct : IsDistinct table) (known : List Sym) where
      unfit_once : {n m : Node} {p q : Place} → HasUnfit table known word n p → HasUnfit table known word m q → (n ≡ m) × (p ≡ q)
      unfit_once {n} {m} {p} {q} a b =
          let sides : b.sides ≡ a.sides = same_sides a.reads b.reads distinct in
          let numbers : b.number ≡ a.number = some_same (sym (ap (first_unfit known) sides) ∙ b.is_first) a.is_first in
          let nodes : m ≡ n = some_same (sym (ap₂ (λ t k. slice_get (nodes_of t) k) sides numbers) ∙ b.node_is) a.node_is in
          let tokens : b.token ≡ a.token = some_same (sym (ap₂ (λ (s : Sides) (k : ℕ). slice_get (leaves s.left ++ leaves s.right) k) (same_parse a.reads b.reads) numbers) ∙ b.leaf) a.leaf in
          (sym nodes, a.place_is ∙ sym (ap₂ (place_at word) (same_tokens a.reads b.reads) tokens) ∙ sym b.place_is)

      unknown_once : {p q : Place} {m n : List ℕ} → HasUnknown table known word p m → HasUnknown table known word q n → (p ≡ q) × (m ≡ n)
      unknown_once a b =
          let both = unfit_once a.unfit b.unfit in
          let symbols : a.symbol ≡ b.symbol = same_symbol_at both.0 in
          (both.1, a.name_is ∙ ap (name_of table) symbols ∙ sym b.name_is)

      variable_once : {p q : Place} → HasVariable table known word p → HasVariable table known word q → p ≡ q
      variable_once a b = (unfit_once a.unfit b.unfit).1

      unknown_or_variable : {p q : Place} {m : List ℕ} → HasUnknown table known word p m → HasVariable table known word q → ⊥
      unknown_or_variable a b = symbol_or_variable (unfit_once a.unfit b.unfit).0

      fit_or_unfit : {s : Tree × Tree} {n : Node} {p : Place} → IsQuestionWord table known word s → HasUnfit table known word n p → ⊥
      fit_or_unfit k a = some_or_none a.is_first (ap (first_unfit known) (same_sides k.reads a.reads distinct) ∙ k.is_fit)

      pub question_once : (s t : Tree × Tree) → IsQuestionWord table known word s → IsQuestionWord table known word t → t ≡ s
      question_once s t k l = same_sides k.reads l.reads distinct

-- WORDS

-- by the table before the words are read, which has the known symbols
module _ (table : Table) (distinct : IsDistinct table) (known : List Sym) (has : HasAll table known) where
  module _ (word : List ℕ) where
    module _ {read other : Table} (i : InternsEquation word table read) (j : InternsEquation word table other) where
      same_read_table : other ≡ read
      same_read_table = equation_interns_once j i

      unknown_there : {p q : Place} {m n : List ℕ} → HasUnknown read known word p m → HasUnknown other known word q n → (p ≡ q) × (m ≡ n)
      unknown_there {q = q} {n = n} x y = unknown_once word read (read_equation_distinct word table read i distinct) known x (subst (λ (t : Table). HasUnknown t known word q n) same_read_table y)

      variable_there : {p q : Place} → HasVariable read known word p → HasVariable other known word q → p ≡ q
      variable_there {q = q} x y = variable_once word read (read_equation_distinct word table read i distinct) known x (subst (λ (t : Table). HasVariable t known word q) same_read_table y)

      not_both_there : {p q : Place} {m : List ℕ} → HasUnknown read known word p m → HasVariable other known word q → ⊥
      not_both_there {q = q} x y = unknown_or_variable word read (read_equation_distinct word table read i distinct) known x (subst (λ (t : Table). HasVariable t known word q) same_read_table y)

    fault_once : (a b : WordFault) → (a ≡ NoMemory → ⊥) → (b ≡ NoMemory → ⊥) → IsQuestionFault table known word a → IsQuestionFault table known word b → a ≡ b
    fault_once (Unread e) (Unread f) na nb x y = ap Unread (equation_refused_once word x y)
    fault_once (Unread e) (UnknownSymbol p m) na nb x y = absurd (equation_or_refused word y.0 y.2.unfit.reads x)
    fault_once (Unread e) (NotGround p) na nb x y = absurd (equation_or_refused word y.0 y.2.unfit.reads x)
    fault_once (UnknownSymbol p m) (Unread f) na nb x y = absurd (equation_or_refused word x.0 x.2.unfit.reads y)
    fault_once (UnknownSymbol p m) (UnknownSymbol q n) na nb x y = let s = unknown_there x.1 y.1 x.2 y.2 in ap₂ UnknownSymbol s.0 s.1
    fault_once (UnknownSymbol p m) (NotGround q) na nb x y = absurd (not_both_there x.1 y.1 x.2 y.2)
    fault_once (NotGround p) (Unread f) na nb x y = absurd (equation_or_refused word x.0 x.2.unfit.reads y)
    fault_once (NotGround p) (UnknownSymbol q n) na nb x y = absurd (not_both_there y.1 x.1 y.2 x.2)
    fault_once (NotGround p) (NotGround q) na nb x y = ap NotGround (variable_there x.1 y.1 x.2 y.2)
    fault_once NoMemory b na nb x y = absurd (na refl)
    fault_once a NoMemory na nb x y = absurd (nb refl)

    -- a question has no such node, in the table that reading it leaves as it is
    fit_there : {s : Tree × Tree} {node : Node} {p : Place} {read : Table} → IsQuestionWord table known word s → InternsEquation word table read → HasUnfit read known word node p → ⊥
    fit_there {s} {node} {p} {read} k i a =
        let same : read ≡ table = question_keeps table table known (Grows-refl table) has word s read i k in
        fit_or_unfit word table distinct known k (subst (λ (t : Table). HasUnfit t known word node p) same a)

    question_or_fault : (e : WordFault) (s : Tree × Tree) → (e ≡ NoMemory → ⊥) → IsQuestionWord table known word s → IsQuestionFault table known word e → ⊥
    question_or_fault (Unread why) s n k x = equation_or_refused word table k.reads x
    question_or_fault (UnknownSymbol p m) s n k x = fit_there k x.1 x.2.unfit
    question_or_fault (NotGround p) s n k x = fit_there k x.1 x.2.unfit
    question_or_fault NoMemory s n k x = n refl

  pub questions_once : {words : List (List ℕ)} {xs ys : List (Tree × Tree)} → AreQuestions table known words xs → AreQuestions table known words ys → ys ≡ xs
  questions_once no_question no_question = refl
  questions_once (one_question {word = word} {sides = s} q qs) (one_question {sides = t} r rs) = ap₂ (λ x xs. x ∷ xs) (question_once word table distinct known s t q r) (questions_once qs rs)

  head_question : {word : List ℕ} {words : List (List ℕ)} {xs : List (Tree × Tree)} → AreQuestions table known (word ∷ words) xs → (s : Tree × Tree) × IsQuestionWord table known word s
  head_question (one_question {sides = s} q qs) = (s, q)

  tail_questions : {word : List ℕ} {words : List (List ℕ)} {xs : List (Tree × Tree)} → AreQuestions table known (word ∷ words) xs → (others : List (Tree × Tree)) × AreQuestions table known words others
  tail_questions (one_question {others = others} q qs) = (others, qs)

  same_word : {a b : List ℕ} → Path (Option (List ℕ)) (Some a) (Some b) → b ≡ a
  same_word e = cc

  later_fault : {word : List ℕ} {words : List (List ℕ)} {n : ℕ} {why : WordFault} → IsFirstFault table known (word ∷ words) (suc n) why → IsFirstFault table known words n why
  later_fault f = let rest = tail_questions f.are_questions in record { before = rest.0; are_questions = rest.1; word = f.word; word_is = f.word_is; fault = f.fault }

  here_fault : {word : List ℕ} {words : List (List ℕ)} {why : WordFault} → IsFirstFault table known (word ∷ words) zero why → IsQuestionFault table known word why
  here_fault {word} {words} {why} f = subst (λ w. IsQuestionFault table known w why) (same_word f.word_is) f.fault

  pub questions_or_fault : (words : List (List ℕ)) (n : ℕ) (why : WordFault) (xs : List (Tree × Tree)) → (why ≡ NoMemory → ⊥) → AreQuestions table known words xs → IsFirstFault table known words n why → ⊥
  questions_or_fault [] n why xs some q f = absurd (let e = f.word_is in cc)
  questions_or_fault (word ∷ words) zero why xs some q f = let first = head_question q in question_or_fault word why first.0 some first.1 (here_fault f)
  questions_or_fault (word ∷ words) (suc n) why xs some q f = let rest = tail_questions q in questions_or_fault words n why rest.0 some rest.1 (later_fault f)

  pub first_fault_once : (words : List (List ℕ)) (n m : ℕ) (a b : WordFault) → (a ≡ NoMemory → ⊥) → (b ≡ NoMemory → ⊥) → IsFirstFault table known words n a → IsFirstFault table known words m b → (n ≡ m) × (a ≡ b)
  first_fault_once [] n m a b na nb f g = absurd (let e = f.word_is in cc)
  first_fault_once (word ∷ words) zero zero a b na nb f g = (refl, fault_once word a b na nb (here_fault f) (here_fault g))
  first_fault_once (word ∷ words) zero (suc m) a b na nb f g = let first = head_question g.are_questions in absurd (question_or_fault word a first.0 na first.1 (here_fault f))
  first_fault_once (word ∷ words) (suc n) zero a b na nb f g = let first = head_question f.are_questions in absurd (question_or_fault word b first.0 nb first.1 (here_fault g))
  first_fault_once (word ∷ words) (suc n) (suc m) a b na nb f g = let rest = first_fault_once words n m a b na nb (later_fault f) (later_fault g) in (ap suc rest.0, rest.1)
