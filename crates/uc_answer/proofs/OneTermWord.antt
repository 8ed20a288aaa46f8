-- A word is one term over a signature, or refused for one reason.
use Rattle.std.proofs.Common.{ℕ, ◌≡◌, List, slice_get, Option, Some, None, refl, sym, ap, ap₂, ◌∙◌, subst}
use Rattle.uc_term.specs.declared.node.Sym.{Sym}
use Rattle.uc_term.specs.declared.node.Node.{Node}
use Rattle.uc_term.specs.declared.node.Node.TheVariants.{App}
use Rattle.uc_term.specs.Tree.{Tree}
use Rattle.uc_term.specs.Flat.{flat}
use Rattle.uc_term.specs.Table.{Table, IsDistinct, name_of}
use Rattle.uc_term.specs.Gathering.{HasAll}
use Rattle.uc_clause.specs.declared.token.Place.{Place}
use Rattle.uc_clause.specs.declared.fault.ClauseFault.{ClauseFault}
use Rattle.uc_clause.specs.declared.fault.ClauseFault.TheVariants.{Syntax}
use Rattle.uc_clause.specs.declared.grammar.stop.Why.{Why}
use Rattle.uc_clause.specs.Terminals.{place_at}
use Rattle.uc_clause.specs.Rules.{Outcome, read, stop}
use Rattle.uc_clause.specs.Parse.{Parse, leaves}
use Rattle.uc_clause.specs.Items.{term_alone}
use Rattle.uc_clause.specs.Reading.{ReadsTerm, SaysTerm, Refuses, isnt_tokens, isnt_read}
use Rattle.uc_clause.proofs.Once.{tokens_once, tokens_or_stops, stops_once}
use Rattle.uc_clause.proofs.Alone.{term_alone_once, says_term_once}
use Rattle.uc_clause.proofs.InternedOnce.{term_interns_once}
use Rattle.uc_problem.proofs.Later.{Grows-refl}
use Rattle.uc_answer.specs.declared.term_word.WordFault.{WordFault}
use Rattle.uc_answer.specs.declared.term_word.WordFault.TheVariants.{Unread, UnknownSymbol, NotGround, NoMemory}
use Rattle.uc_answer.specs.TermWords.{first_foreign, IsTermWord, HasForeign, IsWordFault}
use Rattle.uc_answer.proofs.InternedDistinct.{read_term_distinct}
use Rattle.uc_answer.proofs.GroundQuestions.{word_keeps}

same_stop : {why other : Why} {k l : ℕ} → Path (Outcome Parse) (stop why k) (stop other l) → (why ≡ other) × (k ≡ l)
same_stop e = (cc, cc)

same_read : {p q : Parse} {k l : ℕ} → Path (Outcome Parse) (read p k) (read q l) → p ≡ q
same_read e = cc

read_or_stop : {p : Parse} {k l : ℕ} {why : Why} → Path (Outcome Parse) (read p k) (stop why l) → ⊥
read_or_stop e = absurd cc

some_same : {A : Type 0} {o : Option A} {a b : A} → o ≡ Some a → o ≡ Some b → a ≡ b
some_same {A} {o} {a} {b} p q = let r : Some a ≡ Some b = sym p ∙ q in cc

some_or_none : {A : Type 0} {o : Option A} {a : A} → o ≡ Some a → o ≡ None → ⊥
some_or_none {A} {o} {a} p q = absurd (let r : Some a ≡ None = sym p ∙ q in cc)

same_symbol_at : {f g : Sym} {n m : ℕ} → Path Node (App f n) (App g m) → f ≡ g
same_symbol_at e = cc

module _ (word : List ℕ) where
  term_refused_once : {a b : ClauseFault} → Refuses term_alone word a → Refuses term_alone word b → a ≡ b
  term_refused_once (isnt_tokens x) (isnt_tokens y) = ap Syntax (stops_once x y)
  term_refused_once (isnt_tokens x) (isnt_read are y) = absurd (tokens_or_stops are x)
  term_refused_once (isnt_read are x) (isnt_tokens y) = absurd (tokens_or_stops are y)
  term_refused_once (isnt_read {tokens = ts} {why = why} {k = k} are x) (isnt_read {tokens = us} {why = other} {k = l} others y) =
      let tokens : us ≡ ts = tokens_once others are in
      let stops = same_stop (term_alone_once word ts 0 (stop why k) (stop other l) x (subst (λ vs. term_alone word vs 0 (stop other l)) tokens y)) in
      let whys : why ≡ other = stops.0 in
      let ks : k ≡ l = stops.1 in
      rw (whys, ks, tokens) refl

  module _ (table : Table) where
    pub term_or_refused : {t : Tree} {e : ClauseFault} → ReadsTerm word table t → Refuses term_alone word e → ⊥
    term_or_refused r (isnt_tokens x) = tokens_or_stops r.are_tokens x
    term_or_refused r (isnt_read {tokens = ts} {why = why} {k = k} are x) =
        let tokens : ts ≡ r.tokens = tokens_once are r.are_tokens in
        read_or_stop (term_alone_once word r.tokens 0 (read r.parse r.end) (stop why k) r.reads (subst (λ us. term_alone word us 0 (stop why k)) tokens x))

    module _ {t u : Tree} (r : ReadsTerm word table t) (q : ReadsTerm word table u) where
      same_tokens : q.tokens ≡ r.tokens
      same_tokens = tokens_once q.are_tokens r.are_tokens

      same_parse : q.parse ≡ r.parse
      same_parse = sym (same_read (term_alone_once word r.tokens 0 (read r.parse r.end) (read q.parse q.end) r.reads (subst (λ us. term_alone word us 0 (read q.parse q.end)) same_tokens q.reads)))

      pub same_term : IsDistinct table → u ≡ t
      same_term distinct = sym (says_term_once word r.tokens table distinct r.parse t u r.means (subst (λ us. SaysTerm table word us r.parse u) same_tokens (subst (λ p. SaysTerm table word q.tokens p u) same_parse q.means)))

    module _ (distinct : IsDistinct table) (known : List Sym) where
      foreign_once : {p q : Place} {m n : List ℕ} → HasForeign table known word p m → HasForeign table known word q n → (p ≡ q) × (m ≡ n)
      foreign_once {p} {q} {m} {n} a b =
          let terms : b.term ≡ a.term = same_term a.reads b.reads distinct in
          let numbers : b.number ≡ a.number = some_same (sym (ap (first_foreign known) terms) ∙ b.is_first) a.is_first in
          let nodes : App b.symbol b.arity ≡ App a.symbol a.arity = some_same (sym (ap₂ (λ t k. slice_get (flat t) k) terms numbers) ∙ b.node) a.node in
          let symbols : b.symbol ≡ a.symbol = same_symbol_at nodes in
          let tokens : b.token ≡ a.token = some_same (sym (ap₂ (λ s k. slice_get (leaves s) k) (same_parse a.reads b.reads) numbers) ∙ b.leaf) a.leaf in
          (a.place_is ∙ sym (ap₂ (place_at word) (same_tokens a.reads b.reads) tokens) ∙ sym b.place_is, a.name_is ∙ sym (ap (name_of table) symbols) ∙ sym b.name_is)

      known_or_foreign : {t : Tree} {p : Place} {m : List ℕ} → IsTermWord table known word t → HasForeign table known word p m → ⊥
      known_or_foreign k a = some_or_none a.is_first (ap (first_foreign known) (same_term k.reads a.reads distinct) ∙ k.is_known)

      pub term_once : (t u : Tree) → IsTermWord table known word t → IsTermWord table known word u → u ≡ t
      term_once t u k l = same_term k.reads l.reads distinct

-- by the table before the word is read, which has the known symbols
module _ (word : List ℕ) (table : Table) (distinct : IsDistinct table) (known : List Sym) (has : HasAll table known) where
  pub fault_once : (a b : WordFault) → (a ≡ NoMemory → ⊥) → (b ≡ NoMemory → ⊥) → IsWordFault table known word a → IsWordFault table known word b → a ≡ b
  fault_once (Unread e) (Unread f) na nb x y = ap Unread (term_refused_once word x y)
  fault_once (Unread e) (UnknownSymbol p m) na nb x y = absurd (term_or_refused word y.0 y.2.reads x)
  fault_once (UnknownSymbol p m) (Unread f) na nb x y = absurd (term_or_refused word x.0 x.2.reads y)
  fault_once (UnknownSymbol p m) (UnknownSymbol q n) na nb x y =
      let same : y.0 ≡ x.0 = term_interns_once y.1 x.1 in
      let s = foreign_once word x.0 (read_term_distinct word table x.0 x.1 distinct) known x.2 (subst (λ (t : Table). HasForeign t known word q n) same y.2) in
      ap₂ UnknownSymbol s.0 s.1
  fault_once (NotGround p) b na nb x y = absurd x
  fault_once a (NotGround q) na nb x y = absurd y
  fault_once NoMemory b na nb x y = absurd (na refl)
  fault_once a NoMemory na nb x y = absurd (nb refl)

  pub term_or_fault : (e : WordFault) (t : Tree) → (e ≡ NoMemory → ⊥) → IsTermWord table known word t → IsWordFault table known word e → ⊥
  term_or_fault (Unread why) t n k x = term_or_refused word table k.reads x
  term_or_fault (UnknownSymbol p m) t n k x =
      let same : x.0 ≡ table = word_keeps table table known (Grows-refl table) has word t x.0 x.1 k in
      known_or_foreign word table distinct known k (subst (λ (u : Table). HasForeign u known word p m) same x.2)
  term_or_fault (NotGround p) t n k x = x
  term_or_fault NoMemory t n k x = n refl
