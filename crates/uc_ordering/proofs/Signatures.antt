-- What the symbols of a signature keep.
use Rattle.std.proofs.Common.{◌≡◌, ℕ, zero, suc, ◌-◌, Bool, true, false, List, [], ◌∷◌, ◌++◌, ◌==◌, length, take, append-nil, unwrap_or, codes, bytes_eq, Option, Some, None, Result, Ok, if◌then◌else◌, refl, sym, ap, ◌∙◌, subst, arith, ◌⊎◌, inl, inr}
use Rattle.std.specs.Cmp.Lexicographic.{bytes_decides}
use Rattle.std.proofs.lemmas.Option.{slice_get_within}
use Rattle.std.proofs.lemmas.List.{take_at, length-append}
use Rattle.std.proofs.lemmas.Bool.{eqb-true}
use Rattle.uc_term.specs.declared.node.Sym.{Sym}
use Rattle.uc_term.specs.declared.fault.TermFault.{TermFault}
use Rattle.uc_term.specs.declared.signature.Signature.{Signature}
use Rattle.uc_term.specs.Table.{Table, Entry, Has, Grows, IsSymbol, name_of, arity_of}
use Rattle.uc_term.specs.Gathering.{HasAll}
use Rattle.uc_term.specs.Signatures.{Occurrence, Gathers, all_seen, seen_before, is_new, clashes, is_too_many, first_named, first_constant, Completes, has_constant, gets_constant, tried_name}
use Rattle.uc_term.proofs.Grown.{gathers-grows, have_from}
use Rattle.uc_order.specs.Members.{In, in_front, in_rest, Each, AreDistinct}
use Rattle.uc_kbo.specs.Faults.{HasConstant}
use Rattle.uc_ordering.specs.Choice.{own_symbols}
use Rattle.uc_ordering.specs.Premises.{IsSignature}
use Rattle.uc_ordering.proofs.Lists.{In-left, In-right, In-cases, distinct-append}

some_same : {X : Type 0} {a b : X} → Some a ≡ Some b → a ≡ b
some_same {X} {a} {b} e = cc

ok_same : {a b : List Sym} → ◌≡◌ {A = Result (List Sym) TermFault} (Ok a) (Ok b) → a ≡ b
ok_same e = cc

-- HasAll goes by places
has_each : (table : Table) (fs : List Sym) → HasAll table fs → Each (Has table) fs
has_each table [] h = tt
has_each table (f ∷ fs) h = (h zero f refl, has_each table fs (λ i g e. h (suc i) g e))

module _ (table : Table) where
  pub symbol_name : (f : Sym) (name : List ℕ) (n : ℕ) → IsSymbol table f name n → name_of table f ≡ name
  symbol_name f name n e = ap (λ (o : Option Entry). (unwrap_or o (record { name = []; arity = 0 })).name) e

  pub symbol_arity : (f : Sym) (name : List ℕ) (n : ℕ) → IsSymbol table f name n → arity_of table f ≡ n
  symbol_arity f name n e = ap (λ (o : Option Entry). (unwrap_or o (record { name = []; arity = 0 })).arity) e

  -- the symbol that is found has the name
  pub found_is : (fs : List Sym) (name : List ℕ) (f : Sym) → first_named table name fs ≡ Some f → In fs f × (name_of table f ≡ name)
  found_is [] name f e = absurd cc
  found_is (g ∷ gs) name f e = go (bytes_eq (name_of table g) name) refl e (found_is gs name f)
    where
      here : g ≡ f → name_of table g ≡ name → In (g ∷ gs) f × (name_of table f ≡ name)
      here same q = (let P : Sym → Type 0 = In (g ∷ gs) in subst P same in_front, ap (name_of table) (sym same) ∙ q)

      go : (b : Bool) → bytes_eq (name_of table g) name ≡ b → (if b then Some g else first_named table name gs) ≡ Some f → (first_named table name gs ≡ Some f → In gs f × (name_of table f ≡ name)) → In (g ∷ gs) f × (name_of table f ≡ name)
      go true q e later = here (some_same e) ((bytes_decides (name_of table g) name).0 q)
      go false q e later = let r = later e in (in_rest r.0, r.1)

  -- a name that none of them has
  pub named_none : (fs : List Sym) (f : Sym) → In fs f → first_named table (name_of table f) fs ≡ None → ⊥
  named_none [] f i e = elim i [ ]
  named_none (_ ∷ fs) f in_front e = absurd (let r = rw ((bytes_decides (name_of table f) (name_of table f)).1 refl) at e in let q : Some f ≡ None = r in cc)
  named_none (g ∷ fs) f (in_rest i) e = go (bytes_eq (name_of table g) (name_of table f)) e (named_none fs f i)
    where
      go : (b : Bool) → (if b then Some g else first_named table (name_of table f) fs) ≡ None → (first_named table (name_of table f) fs ≡ None → ⊥) → ⊥
      go true e later = absurd cc
      go false e later = later e

  named-left : (fs gs : List Sym) (name : List ℕ) (f : Sym) → first_named table name fs ≡ Some f → first_named table name (fs ++ gs) ≡ Some f
  named-left [] gs name f e = absurd cc
  named-left (g ∷ fs) gs name f e = go (bytes_eq (name_of table g) name) e (named-left fs gs name f)
    where
      go : (b : Bool) → (if b then Some g else first_named table name fs) ≡ Some f → (first_named table name fs ≡ Some f → first_named table name (fs ++ gs) ≡ Some f) → (if b then Some g else first_named table name (fs ++ gs)) ≡ Some f
      go true e later = e
      go false e later = later e

  named-right : (fs gs : List Sym) (name : List ℕ) → first_named table name fs ≡ None → first_named table name (fs ++ gs) ≡ first_named table name gs
  named-right [] gs name e = refl
  named-right (g ∷ fs) gs name e = go (bytes_eq (name_of table g) name) e (named-right fs gs name)
    where
      go : (b : Bool) → (if b then Some g else first_named table name fs) ≡ None → (first_named table name fs ≡ None → first_named table name (fs ++ gs) ≡ first_named table name gs) → (if b then Some g else first_named table name (fs ++ gs)) ≡ first_named table name gs
      go true e later = absurd cc
      go false e later = later e

  named_self : (f : Sym) → first_named table (name_of table f) (f ∷ []) ≡ Some f
  named_self f = rw ((bytes_decides (name_of table f) (name_of table f)).1 refl) refl

  -- no symbol stands twice, and each is found by its name
  pub record Apart (fs : List Sym) : Type 0 where
    pub distinct : AreDistinct fs
    pub found : (f : Sym) → In fs f → first_named table (name_of table f) fs ≡ Some f

  one_apart : (fs : List Sym) (f : Sym) → Apart fs → first_named table (name_of table f) fs ≡ None → Apart (fs ++ f ∷ [])
  one_apart fs f a none = record {
    distinct = distinct-append fs (f ∷ []) a.distinct ((λ i. elim i [ ]), tt) (λ g i j. lone g j i);
    found = λ g i. by_place g (In-cases fs (f ∷ []) g i);
  }
    where
      lone : (g : Sym) → In (f ∷ []) g → In fs g → ⊥
      lone _ in_front i = absurd (let r : Some f ≡ None = sym (a.found f i) ∙ none in cc)
      lone g (in_rest j) i = elim j [ ]

      itself : (g : Sym) → In (f ∷ []) g → first_named table (name_of table g) (fs ++ f ∷ []) ≡ Some g
      itself _ in_front = named-right fs (f ∷ []) (name_of table f) none ∙ named_self f
      itself g (in_rest j) = elim j [ ]

      by_place : (g : Sym) → In fs g ⊎ In (f ∷ []) g → first_named table (name_of table g) (fs ++ f ∷ []) ≡ Some g
      by_place g (inl i) = named-left fs (f ∷ []) (name_of table g) g (a.found g i)
      by_place g (inr j) = itself g j

  gathered_apart : {seen : List Sym} {os : List Occurrence} {r : Result (List Sym) TermFault} → Gathers table seen os r → (fs : List Sym) → r ≡ Ok fs → Apart seen → Apart fs
  gathered_apart all_seen fs e a = subst Apart (ok_same e) a
  gathered_apart (seen_before k g) fs e a = gathered_apart g fs e a
  gathered_apart {seen = seen} (is_new {o = o} n m g) fs e a = gathered_apart g fs e (one_apart seen o.symbol a n)
  gathered_apart (clashes k n) fs e a = absurd cc
  gathered_apart (is_too_many n m) fs e a = absurd cc

  none_apart : Apart []
  none_apart = record { distinct = tt; found = λ f i. elim i [ ] }

  constant_in : (fs : List Sym) (c : Sym) → first_constant table fs ≡ Some c → In fs c × (arity_of table c ≡ 0)
  constant_in [] c e = absurd cc
  constant_in (f ∷ fs) c e = go (arity_of table f == 0) refl e (constant_in fs c)
    where
      here : f ≡ c → arity_of table f ≡ 0 → In (f ∷ fs) c × (arity_of table c ≡ 0)
      here same z = (let P : Sym → Type 0 = In (f ∷ fs) in subst P same in_front, ap (arity_of table) (sym same) ∙ z)

      go : (b : Bool) → (arity_of table f == 0) ≡ b → (if b then Some f else first_constant table fs) ≡ Some c → (first_constant table fs ≡ Some c → In fs c × (arity_of table c ≡ 0)) → In (f ∷ fs) c × (arity_of table c ≡ 0)
      go true q e later = here (some_same e) (eqb-true (arity_of table f) 0 q)
      go false q e later = let r = later e in (in_rest r.0, r.1)

  -- what is kept of a signature and its own symbols
  pub record Signed (own : List Sym) (signature : Signature) : Type 0 where
    pub own_is : own_symbols signature ≡ own
    pub has : Each (Has table) signature.symbols
    pub apart : Apart own
    pub distinct : AreDistinct signature.symbols
    pub own_in : (f : Sym) → In own f → In signature.symbols f
    pub cases : (f : Sym) → In signature.symbols f → In own f ⊎ (first_named table (name_of table f) own ≡ None)
    pub constant : HasConstant table signature.symbols

  all_but_one : (fs : List Sym) (c : Sym) → take (length (fs ++ c ∷ []) - 1) (fs ++ c ∷ []) ≡ fs
  all_but_one fs c = ap (λ n. take n (fs ++ c ∷ [])) (let l = length-append fs (c ∷ []) in omega (arith, l)) ∙ take_at fs (c ∷ []) (length fs) refl

  completed : (fs : List Sym) (signature : Signature) → Each (Has table) fs → Apart fs → Completes table fs signature → Signed fs signature
  completed fs _ h a (has_constant {c = c} e) = record {
    own_is = refl;
    has = h;
    apart = a;
    distinct = a.distinct;
    own_in = λ f i. i;
    cases = λ f i. inl i;
    constant = (c, constant_in fs c e);
  }
  completed fs _ h a (gets_constant {c = c} e fresh) =
      let name = symbol_name c (tried_name (codes "least") fresh.number) 0 fresh.symbol in
      let free : first_named table (name_of table c) fs ≡ None = ap (λ n. first_named table n fs) name ∙ fresh.free in
      record {
        own_is = all_but_one fs c;
        has = each_append fs h (slice_get_within table c.0 _ fresh.symbol);
        apart = a;
        distinct = (one_apart fs c a free).distinct;
        own_in = λ f i. In-left fs (c ∷ []) f i;
        cases = λ f i. by_place f free (In-cases fs (c ∷ []) f i);
        constant = (c, (In-right fs (c ∷ []) c in_front, symbol_arity c _ 0 fresh.symbol));
      }
    where
      each_append : (gs : List Sym) → Each (Has table) gs → Has table c → Each (Has table) (gs ++ c ∷ [])
      each_append [] h k = (k, tt)
      each_append (g ∷ gs) h k = (h.0, each_append gs h.1 k)

      only : (f : Sym) → first_named table (name_of table c) fs ≡ None → In (c ∷ []) f → first_named table (name_of table f) fs ≡ None
      only _ free in_front = free
      only f free (in_rest j) = elim j [ ]

      by_place : (f : Sym) → first_named table (name_of table c) fs ≡ None → In fs f ⊎ In (c ∷ []) f → In fs f ⊎ (first_named table (name_of table f) fs ≡ None)
      by_place f free (inl i) = inl i
      by_place f free (inr j) = inr (only f free j)

  pub signed : (signature : Signature) → IsSignature table signature → (own : List Sym) × Signed own signature
  signed signature s =
      let i = s.signature_is in
      let grows : Grows table table = ([], sym (append-nil table)) in
      let has = (gathers-grows table table grows i.gathers refl (λ n f e. absurd cc) (have_from table table grows s.terms 0 s.over)).1 in
      (i.symbols, completed i.symbols signature (has_each table i.symbols has) (gathered_apart i.gathers i.symbols refl none_apart) i.completes)

  pub signed_own : (signature : Signature) → IsSignature table signature → Signed (own_symbols signature) signature
  signed_own signature i = let r = signed signature i in subst (λ (o : List Sym). Signed o signature) (sym r.1.own_is) r.1
