-- Constants of the first names that no symbol of terms has, added one after the other.
use Rattle.std.proofs.Common.{◌≡◌, ℕ, zero, suc, ◌+◌, List, [], ◌∷◌, ◌++◌, length, append-nil, append_assoc, Option, unwrap_or, Result, Ok, Err, IfOk, refl, sym, ap, ap₂, ◌∙◌, subst}
use Rattle.std.specs.Prelude.{◌||◌, bytes_eq, Vec}
use Rattle.std.specs.List.{list_any}
use Rattle.std.specs.declared.alloc.Global.{Global}
use Rattle.std.proofs.lemmas.Option.{slice_get_within}
use Rattle.uc_term.specs.declared.node.Node.{Node}
use Rattle.uc_term.specs.declared.node.Node.TheVariants.{Var, App}
use Rattle.uc_term.specs.declared.node.Sym.{Sym}
use Rattle.uc_term.specs.Tree.{Tree}
use Rattle.uc_term.specs.Flat.{flat}
use Rattle.uc_term.specs.Table.{Table, Entry, Has, IsSymbol, IsInterned, Grows, arity_of}
use Rattle.uc_term.specs.Gathering.{HasNodes, AreOf}
use Rattle.uc_term.proofs.Gets.{get-append_left}
use Rattle.uc_term.proofs.Grown.{has_nodes, name-grows, interned_grows, adds_at_most}
use Rattle.uc_problem.specs.declared.flat.FlatClause.{FlatClause}
use Rattle.uc_problem.specs.NameSets.{has_text}
use Rattle.uc_problem.specs.Conjecture.{constants_needed, flat_terms, constant_name, is_named, is_taken, AreNamed, no_constant, a_constant, AreConstants}
use Rattle.uc_problem.specs.Closing.{AreTaken, IsNextFree}
use Rattle.uc_problem.specs.Filling.{AddsOne, AddsAll, adds_none, adds_first}
use Rattle.uc_problem.proofs.Later.{Grows-refl, Grows-trans}
use Rattle.uc_problem.proofs.ClosedTerms.{HasConstants}

symbol_later : (old new : Table) → Grows old new → (f : Sym) (name : List ℕ) (n : ℕ) → IsSymbol old f name n → IsSymbol new f name n
symbol_later old new g f name n s = subst (λ (t : Table). IsSymbol t f name n) (sym g.1) (get-append_left old g.0 f.0 (record { name = name; arity = n }) s)

-- what is taken among terms over a table is so in each later one
module _ (old new : Table) (grows : Grows old new) (name : List ℕ) where
  named-grows : (ns : List Node) → HasNodes old ns → list_any (is_named new name) ns ≡ list_any (is_named old name) ns
  named-grows [] h = refl
  named-grows (Var x ∷ ns) h = named-grows ns (λ i f n e. h (suc i) f n e)
  named-grows (App f n ∷ ns) h = ap₂ (λ l b. bytes_eq l name || b) (name-grows old new grows f (h zero f n refl)) (named-grows ns (λ i g m e. h (suc i) g m e))

  pub taken-grows : (ts : List Tree) → AreOf old ts → is_taken new ts name ≡ is_taken old ts name
  taken-grows [] h = refl
  taken-grows (t ∷ ts) h = ap₂ (λ a b. a || b) (named-grows (flat t) (has_nodes old t (h zero t refl))) (taken-grows ts (λ i u e. h (suc i) u e))

-- constants so far, and those that are added behind them
abbrev pub AddsBehind : Table → Table → List Sym → Type 0
AddsBehind old now cs = (new : Table) (rest : List Sym) → AddsAll now new rest → AddsAll old new (cs ++ rest)

abbrev pub NamesBehind : Table → List Tree → ℕ → List Sym → Type 0
NamesBehind now ts from cs = (new : Table) (rest : List Sym) → Grows now new → AreNamed new ts from rest → AreNamed new ts 1 (cs ++ rest)

pub adds_nothing_yet : (table : Table) → AddsBehind table table []
adds_nothing_yet table new rest adds = adds

pub names_nothing_yet : (table : Table) (ts : List Tree) → NamesBehind table ts 1 []
names_nothing_yet table ts new rest grows named = named

pub added : (old now : Table) (cs : List Sym) → AddsBehind old now cs → AddsAll old now cs
added old now cs behind = subst (AddsAll old now) (append-nil cs) (behind now [] adds_none)

pub named : (now : Table) (ts : List Tree) (from : ℕ) (cs : List Sym) → NamesBehind now ts from cs → AreNamed now ts 1 cs
named now ts from cs behind = subst (AreNamed now ts 1) (append-nil cs) (behind now [] (Grows-refl now) no_constant)

-- one more
module _ (now next : Table) (cs all : List Sym) (f : Sym) (pushed : all ≡ cs ++ f ∷ []) (name : List ℕ) (interned : IsInterned now next name 0 f) where
  pub adds_one : (old : Table) → AddsBehind old now cs → AddsBehind old next all
  adds_one old behind new rest adds =
      let one : AddsOne now next f = record { has = slice_get_within next f.0 _ interned.0; adds = adds_at_most now next name 0 f interned } in
      subst (AddsAll old new) (sym (ap (λ l. l ++ rest) pushed ∙ append_assoc cs (f ∷ []) rest)) (behind new (f ∷ rest) (adds_first one adds))

  module _ (old : Table) (ts : List Tree) (keys : List (Vec ℕ Global)) (of : AreOf old ts) (are : AreTaken old ts keys) (grows : Grows old now) (from number : ℕ) (next_free : IsNextFree keys from number name) where
    pub names_one : NamesBehind now ts from cs → NamesBehind next ts (number + 1) all
    names_one behind new rest later names =
        let to_next : Grows now next = interned_grows now next name 0 f interned in
        let to_new : Grows now new = Grows-trans now next new to_next later in
        let in_new : (n : List ℕ) → is_taken new ts n ≡ has_text keys n = λ n. taken-grows old new (Grows-trans old now new grows to_new) n ts of ∙ sym (are n) in
        let is : IsSymbol new f (constant_name number) 0 = subst (λ (n : List ℕ). IsSymbol new f n 0) next_free.is_name (symbol_later next new later f name 0 interned.0) in
        let here : AreNamed new ts from (f ∷ rest) = a_constant next_free.later (λ k l h. in_new (constant_name k) ∙ next_free.taken k l h) (in_new (constant_name number) ∙ next_free.free) is names in
        subst (AreNamed new ts 1) (sym (ap (λ l. l ++ rest) pushed ∙ append_assoc cs (f ∷ []) rest)) (behind new (f ∷ rest) to_new here)

-- the constants of these names are constants
pub named_constants : (table : Table) (ts : List Tree) {from : ℕ} {cs : List Sym} → AreNamed table ts from cs → HasConstants table cs
named_constants table ts no_constant i c e = absurd cc
named_constants table ts (a_constant {c = d} later taken free is more) zero c e =
    let same : d ≡ c = cc in
    subst (λ (f : Sym). Has table f × (0 ≡ arity_of table f)) same
    (slice_get_within table d.0 _ is, sym (ap (λ (o : Option Entry). (unwrap_or o (record { name = []; arity = 0 })).arity) is))
named_constants table ts (a_constant later taken free is more) (suc i) c e = named_constants table ts more i c e

-- the constants of clauses, or none
pub are_constants : {E : Type 0} (table : Table) (flats : List FlatClause) (n : ℕ) (r : Result (Vec Sym Global) E) → n ≡ constants_needed flats → IfOk r (λ constants. length constants.items ≡ n) → IfOk r (λ constants. AreNamed table (flat_terms flats) 1 constants.items) → IfOk r (λ constants. AreConstants table flats constants.items)
are_constants table flats n (Ok constants) e many names = record { many = many ∙ e; named = names }
are_constants table flats n (Err fault) e many names = tt

pub no_constants : (table : Table) (flats : List FlatClause) (constants : List Sym) → constants ≡ [] → constants_needed flats ≡ 0 → AreConstants table flats constants
no_constants table flats constants e none = rw (e) (record { many = sym none; named = no_constant })

pub adds_no_constants : (table : Table) (constants : List Sym) → constants ≡ [] → AddsAll table table constants
adds_no_constants table constants e = rw (e) adds_none
