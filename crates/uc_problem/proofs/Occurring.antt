-- Where the symbol of a fault stands in the clauses.
use Rattle.std.proofs.Common.{◌≡◌, ℕ, zero, suc, ◌+◌, List, [], ◌∷◌, slice_get, Some, Result, Err, refl, sym, ap, subst, arith, inl, inr}
use Rattle.uc_term.specs.declared.node.Sym.{Sym}
use Rattle.uc_term.specs.declared.node.Pos.{Pos}
use Rattle.uc_term.specs.declared.node.Node.{Node}
use Rattle.uc_term.specs.declared.node.Node.TheVariants.{Var, App}
use Rattle.uc_term.specs.declared.fault.TermFault.{TermFault}
use Rattle.uc_term.specs.declared.fault.TermFault.TheVariants as of_terms
use Rattle.uc_term.specs.Tree.{Tree}
use Rattle.uc_term.specs.Flat.{flat}
use Rattle.uc_term.specs.Table.{Table}
use Rattle.uc_term.specs.Signatures.{Occurrence, occurrences_in, occurrences_from, occurrences_of, Gathers, all_seen, seen_before, is_new, clashes, is_too_many}
use Rattle.uc_term.proofs.Gets.{get-append_cases}
use Rattle.uc_clause.specs.declared.clause.Sourced.{Sourced}
use Rattle.uc_problem.specs.Holds.{terms_of}
use Rattle.uc_problem.specs.Assembly.{HasSymbolAt}

-- this occurrence is one of them
pub record IsAmong (os : List Occurrence) (o : Occurrence) : Type 0 where
  pub number : ℕ
  pub is : slice_get os number ≡ Some o

later_among : (o x : Occurrence) (os : List Occurrence) → IsAmong os o → IsAmong (x ∷ os) o
later_among o x os a = record { number = suc a.number; is = a.is }

-- gathering fails for a clash or for one symbol too many, and else for nothing
pub no_other : (table : Table) {seen : List Sym} {os : List Occurrence} {r : Result (List Sym) TermFault} → Gathers table seen os r → (r ≡ Err of_terms.TooLarge → ⊥) × (r ≡ Err of_terms.NoSuchPosition → ⊥)
no_other table (seen_before k g) = no_other table g
no_other table (is_new n m g) = no_other table g
no_other table g = (λ e. absurd cc, λ e. absurd cc)

-- the occurrence of a fault
pub record FaultAt (os : List Occurrence) (term : ℕ) (pos : Pos) : Type 0 where
  pub occurrence : Occurrence
  pub among : IsAmong os occurrence
  pub term_is : occurrence.term ≡ term
  pub place_is : occurrence.place ≡ pos.0

later_fault : (x : Occurrence) (os : List Occurrence) (term : ℕ) (pos : Pos) → FaultAt os term pos → FaultAt (x ∷ os) term pos
later_fault x os term pos f = record { occurrence = f.occurrence; among = later_among f.occurrence x os f.among; term_is = f.term_is; place_is = f.place_is }

-- where a fault of the signature is
abbrev pub IsFaultAt : TermFault → ℕ → Pos → Type 0
IsFaultAt (of_terms.ArityClash term pos first second) t p = (term ≡ t) × (pos ≡ p)
IsFaultAt (of_terms.TooMany term pos) t p = (term ≡ t) × (pos ≡ p)
IsFaultAt _ t p = ⊥

here : (o : Occurrence) (os : List Occurrence) (term : ℕ) (pos : Pos) → (o.term ≡ term) × (record { 0 = o.place } ≡ pos) → FaultAt (o ∷ os) term pos
here o os term pos h = record { occurrence = o; among = record { number = 0; is = refl }; term_is = h.0; place_is = ap (λ (p : Pos). p.0) h.1 }

same_error : {a b : TermFault} → ◌≡◌ {A = Result (List Sym) TermFault} (Err a) (Err b) → b ≡ a
same_error e = cc

pub fault_at : {table : Table} {seen : List Sym} {os : List Occurrence} {r : Result (List Sym) TermFault} → Gathers table seen os r → (fault : TermFault) (term : ℕ) (pos : Pos) → r ≡ Err fault → IsFaultAt fault term pos → FaultAt os term pos
fault_at all_seen fault term pos e h = absurd cc
fault_at (seen_before {o = o} {os = os} k g) fault term pos e h = later_fault o os term pos (fault_at g fault term pos e h)
fault_at (is_new {o = o} {os = os} n m g) fault term pos e h = later_fault o os term pos (fault_at g fault term pos e h)
fault_at {table = table} (clashes {o = o} {os = os} {f = f} k n) fault term pos e h =
    here o os term pos (subst (λ (x : TermFault). IsFaultAt x term pos) (same_error e) h)
fault_at (is_too_many {o = o} {os = os} n m) fault term pos e h =
    here o os term pos (subst (λ (x : TermFault). IsFaultAt x term pos) (same_error e) h)

-- the node of an occurrence in a list of nodes
pub record NodeAt (ns : List Node) (term from : ℕ) (o : Occurrence) : Type 0 where
  pub at : ℕ
  pub count : ℕ
  pub term_is : o.term ≡ term
  pub place_is : o.place ≡ from + at
  pub node_is : slice_get ns at ≡ Some (App o.symbol count)

later_node : (n : Node) (ns : List Node) (term from : ℕ) (o : Occurrence) → NodeAt ns term (from + 1) o → NodeAt (n ∷ ns) term from o
later_node n ns term from o a = record { at = suc a.at; count = a.count; term_is = a.term_is; place_is = omega (arith, a.place_is); node_is = a.node_is }

pub node_at : (ns : List Node) (term from i : ℕ) (o : Occurrence) → slice_get (occurrences_in term from ns) i ≡ Some o → NodeAt ns term from o
node_at [] term from i o e = absurd cc
node_at (Var x ∷ ns) term from i o e = later_node (Var x) ns term from o (node_at ns term (from + 1) i o e)
node_at (App f n ∷ ns) term from zero o e =
    let same : record { term = term; place = from; symbol = f } ≡ o = cc in
    record {
      at = 0;
      count = n;
      term_is = ap (λ (x : Occurrence). x.term) (sym same);
      place_is = omega (arith, ap (λ (x : Occurrence). x.place) same);
      node_is = ap (λ (x : Occurrence). Some (App x.symbol n)) same;
    }
node_at (App f n ∷ ns) term from (suc i) o e = later_node (App f n) ns term from o (node_at ns term (from + 1) i o e)

-- the term of an occurrence, and its node
pub record TermAt (ts : List Tree) (first : ℕ) (o : Occurrence) : Type 0 where
  pub at : ℕ
  pub tree : Tree
  pub count : ℕ
  pub term_is : o.term ≡ first + at
  pub tree_is : slice_get ts at ≡ Some tree
  pub node_is : slice_get (flat tree) o.place ≡ Some (App o.symbol count)

this_term : (t : Tree) (ts : List Tree) (first : ℕ) (o : Occurrence) → NodeAt (flat t) first 0 o → TermAt (t ∷ ts) first o
this_term t ts first o a =
    let place : a.at ≡ o.place = omega (arith, a.place_is) in
    record { at = 0; tree = t; count = a.count; term_is = omega (arith, a.term_is); tree_is = refl; node_is = subst (λ (k : ℕ). slice_get (flat t) k ≡ Some (App o.symbol a.count)) place a.node_is }

later_term : (t : Tree) (ts : List Tree) (first : ℕ) (o : Occurrence) → TermAt ts (first + 1) o → TermAt (t ∷ ts) first o
later_term t ts first o a = record { at = suc a.at; tree = a.tree; count = a.count; term_is = omega (arith, a.term_is); tree_is = a.tree_is; node_is = a.node_is }

pub term_at : (ts : List Tree) (first i : ℕ) (o : Occurrence) → slice_get (occurrences_from first ts) i ≡ Some o → TermAt ts first o
term_at [] first i o e = absurd cc
term_at (t ∷ ts) first i o e = elim (get-append_cases (occurrences_in first 0 (flat t)) (occurrences_from (first + 1) ts) i o e) [
  | inl a ↦ this_term t ts first o (node_at (flat t) first 0 i o a)
  | inr b ↦ later_term t ts first o (term_at ts (first + 1) b.0 o b.1)
]

pub symbol_at : (table : Table) (clauses : List Sourced) (fault : TermFault) (term : ℕ) (pos : Pos) → Gathers table [] (occurrences_of (terms_of clauses)) (Err fault) → IsFaultAt fault term pos → HasSymbolAt clauses term pos
symbol_at table clauses fault term pos g h =
    let f = fault_at g fault term pos refl h in
    let t = term_at (terms_of clauses) 0 f.among.number f.occurrence f.among.is in
    let number : t.at ≡ term = omega (arith, t.term_is, f.term_is) in
    record {
      symbol = f.occurrence.symbol;
      stands = record {
        tree = t.tree;
        count = t.count;
        tree_at = subst (λ (k : ℕ). slice_get (terms_of clauses) k ≡ Some t.tree) number t.tree_is;
        node_at = subst (λ (k : ℕ). slice_get (flat t.tree) k ≡ Some (App f.occurrence.symbol t.count)) f.place_is t.node_is;
      };
    }

pub clash_at : (table : Table) (clauses : List Sourced) (term first second : ℕ) (pos : Pos) → Gathers table [] (occurrences_of (terms_of clauses)) (Err (of_terms.ArityClash term pos first second)) → HasSymbolAt clauses term pos
clash_at table clauses term first second pos g = symbol_at table clauses (of_terms.ArityClash term pos first second) term pos g (refl, refl)

pub too_many_at : (table : Table) (clauses : List Sourced) (term : ℕ) (pos : Pos) → Gathers table [] (occurrences_of (terms_of clauses)) (Err (of_terms.TooMany term pos)) → HasSymbolAt clauses term pos
too_many_at table clauses term pos g = symbol_at table clauses (of_terms.TooMany term pos) term pos g (refl, refl)
