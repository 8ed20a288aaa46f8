-- The encoding's symbols are three, and occur in no clause.
use Rattle.std.proofs.Common.{◌≡◌, ℕ, zero, suc, ◌+◌, ◌==◌, Bool, true, false, List, [], ◌∷◌, ◌++◌, length, get_or, slice_get, unwrap_or, codes, bytes_eq, Option, Some, None, Result, Ok, if◌then◌else◌, refl, sym, ap, ◌∙◌, subst, arith, ◌⊎◌, inl, inr}
use Rattle.std.specs.Cmp.Lexicographic.{bytes_decides}
use Rattle.std.proofs.lemmas.Bool.{eqb-true, eq-eqb}
use Rattle.std.proofs.lemmas.Option.{slice_get_within}
use Rattle.uc_term.specs.declared.node.Sym.{Sym}
use Rattle.uc_term.specs.declared.fresh.Fresh.{Fresh}
use Rattle.uc_term.specs.declared.signature.Signature.{Signature}
use Rattle.uc_term.specs.declared.fault.TermFault.{TermFault}
use Rattle.uc_term.specs.Tree.{Tree, var, app, Trees, none, more}
use Rattle.uc_term.specs.Flat.{flat, flat_all}
use Rattle.uc_term.specs.Table.{Table, Entry, Has, Grows, IsSymbol, name_of}
use Rattle.uc_term.specs.Gathering.{HasAll}
use Rattle.uc_term.specs.Signatures.{Occurrence, occurrences_in, occurrences_from, occurrences_of, Gathers, all_seen, seen_before, is_new, first_named, tried_name, IsFree, IsFreshFor, Completes, has_constant, gets_constant}
use Rattle.uc_term.specs.Encoding.{ordinary, part, AreDistinct, Lacks, AllLack}
use Rattle.uc_term.proofs.Gets.{get-append_left, get-append_right}
use Rattle.uc_term.proofs.Tables.{get_pushed}
use Rattle.uc_term.proofs.Gathered.{any_get, occurrences_in-append}
use Rattle.uc_term.proofs.Grown.{gathers-grows, have_from}
use Rattle.uc_clause.specs.declared.clause.Sourced.{Sourced}
use Rattle.uc_check.specs.Clauses.{AreFresh, LackInClauses}
use Rattle.uc_problem.specs.declared.problem.Problem.{Problem}
use Rattle.uc_problem.specs.Holds.{Agrees, terms_of}
use Rattle.uc_problem.specs.Marks.{AreMarks}
use Rattle.uc_problem.proofs.Later.{Grows-refl}
use Rattle.uc_problem.proofs.Sound.{has_later}
use Rattle.uc_problem.proofs.Growth.{fresh_later}

-- a symbol is one of them
abbrev pub In : Sym → List Sym → Type 0
In f fs = (i : ℕ) × (slice_get fs i ≡ Some f)

abbrev pub AllIn : List Sym → List Occurrence → Type 0
AllIn fs [] = Unit {0}
AllIn fs (o ∷ os) = In o.symbol fs × AllIn fs os

ok_same : {a b : List Sym} → ◌≡◌ {A = Result (List Sym) TermFault} (Ok a) (Ok b) → a ≡ b
ok_same e = cc

-- what was seen is among all symbols, and so is what occurs
seen_kept : {table : Table} {seen : List Sym} {os : List Occurrence} {r : Result (List Sym) TermFault} → Gathers table seen os r → (fs : List Sym) (f : Sym) → r ≡ Ok fs → In f seen → In f fs
seen_kept all_seen fs f e i = subst (In f) (ok_same e) i
seen_kept (seen_before k g) fs f e i = seen_kept g fs f e i
seen_kept {seen = seen} (is_new {o = o} n m g) fs f e i = seen_kept g fs f e (i.0, get-append_left seen (o.symbol ∷ []) i.0 f i.1)
seen_kept v fs f e i = absurd cc

pub all_gathered : {table : Table} {seen : List Sym} {os : List Occurrence} {r : Result (List Sym) TermFault} → Gathers table seen os r → (fs : List Sym) → r ≡ Ok fs → AllIn fs os
all_gathered all_seen fs e = tt
all_gathered {seen = seen} (seen_before {o = o} k g) fs e = (seen_kept g fs o.symbol e (any_get o.symbol seen k), all_gathered g fs e)
all_gathered {seen = seen} (is_new {o = o} n m g) fs e = (seen_kept g fs o.symbol e (get-append_right seen (o.symbol ∷ []) 0 o.symbol refl), all_gathered g fs e)
all_gathered v fs e = absurd cc

pub parts_in : (fs : List Sym) (xs ys : List Occurrence) → AllIn fs (xs ++ ys) → AllIn fs xs × AllIn fs ys
parts_in fs [] ys a = (tt, a)
parts_in fs (x ∷ xs) ys a = let r = parts_in fs xs ys a.1 in ((a.0, r.0), r.1)

-- terms whose symbols are all ordinary
module _ (m : Fresh) (fs : List Sym) (plain : (f : Sym) → In f fs → part m f ≡ ordinary) where
  mutual
    lacks : (t : Tree) (term from : ℕ) → AllIn fs (occurrences_in term from (flat t)) → Lacks m t
    lacks (var x) term from a = tt
    lacks (app f ts) term from a = (plain f a.0, all_lack ts term (from + 1) a.1)

    all_lack : (ts : Trees) (term from : ℕ) → AllIn fs (occurrences_in term from (flat_all ts)) → AllLack m ts
    all_lack none term from a = tt
    all_lack (more t ts) term from a =
        let r = parts_in fs (occurrences_in term from (flat t)) (occurrences_in term (from + length (flat t)) (flat_all ts)) (subst (AllIn fs) (occurrences_in-append term from (flat t) (flat_all ts)) a) in
        (lacks t term from r.0, all_lack ts term (from + length (flat t)) r.1)

  pub lack_in_clauses : (ss : List Sourced) (n : ℕ) → AllIn fs (occurrences_from n (terms_of ss)) → LackInClauses m ss
  lack_in_clauses [] n a i s e = absurd cc
  lack_in_clauses (x ∷ xs) n a i s e =
      let l = parts_in fs (occurrences_in n 0 (flat x.clause.left)) (occurrences_from (n + 1) (x.clause.right ∷ terms_of xs)) a in
      let r = parts_in fs (occurrences_in (n + 1) 0 (flat x.clause.right)) (occurrences_from (n + 1 + 1) (terms_of xs)) l.1 in
      go i e (lacks x.clause.left n 0 l.0) (lacks x.clause.right (n + 1) 0 r.0) (lack_in_clauses xs (n + 1 + 1) r.1)
    where
      go : (i : ℕ) → slice_get (x ∷ xs) i ≡ Some s → Lacks m x.clause.left → Lacks m x.clause.right → LackInClauses m xs → Lacks m s.clause.left × Lacks m s.clause.right
      go zero e a b later = let same : x ≡ s = cc in subst (λ (y : Sourced). Lacks m y.clause.left × Lacks m y.clause.right) same (a, b)
      go (suc i) e a b later = later i s e

-- names that are free are none of theirs
module _ (table : Table) where
  pub free_differs : (fs : List Sym) (name : List ℕ) (i : ℕ) (f : Sym) → IsFree table fs name → slice_get fs i ≡ Some f → name_of table f ≡ name → ⊥
  free_differs [] name i f free e q = absurd cc
  free_differs (g ∷ gs) name i f free e q = go (bytes_eq (name_of table g) name) refl free i e (free_differs gs name)
    where
      go : (b : Bool) → bytes_eq (name_of table g) name ≡ b → (if b then Some g else first_named table name gs) ≡ None → (i : ℕ) → slice_get (g ∷ gs) i ≡ Some f → ((i : ℕ) (f : Sym) → IsFree table gs name → slice_get gs i ≡ Some f → name_of table f ≡ name → ⊥) → ⊥
      go true p free i e later = absurd cc
      go false p free zero e later =
          let same : g ≡ f = cc in
          let yes : bytes_eq (name_of table g) name ≡ true = (bytes_decides (name_of table g) name).1 (ap (name_of table) same ∙ q) in
          let both : true ≡ false = sym yes ∙ p in
          absurd cc
      go false p free (suc i) e later = later i f free e q

  symbol_name : (f : Sym) (name : List ℕ) (n : ℕ) → IsSymbol table f name n → name_of table f ≡ name
  symbol_name f name n s = ap (λ (o : Option Entry). (unwrap_or o (record { name = []; arity = 0 })).name) s

  arity_at : (f g : Sym) (name other : List ℕ) (n k : ℕ) → IsSymbol table f name n → IsSymbol table g other k → f.0 ≡ g.0 → n ≡ k
  arity_at f g name other n k s t e =
      ap (λ (o : Option Entry). (unwrap_or o (record { name = []; arity = 0 })).arity) (sym s ∙ ap (slice_get table) e ∙ t)

  name_at : (f g : Sym) (name other : List ℕ) (n k : ℕ) → IsSymbol table f name n → IsSymbol table g other k → f.0 ≡ g.0 → name ≡ other
  name_at f g name other n k s t e =
      ap (λ (o : Option Entry). (unwrap_or o (record { name = []; arity = 0 })).name) (sym s ∙ ap (slice_get table) e ∙ t)

differ : (a b : ℕ) → (a ≡ b → ⊥) → (a == b) ≡ false
differ a b n = go (a == b) refl
  where
    go : (t : Bool) → (a == b) ≡ t → t ≡ false
    go true e = absurd (n (eqb-true a b e))
    go false e = refl

true_begins : (n : ℕ) → get_or (tried_name (codes "true") n) 0 0 ≡ 116
true_begins zero = refl
true_begins (suc n) = refl

false_begins : (n : ℕ) → get_or (tried_name (codes "false") n) 0 0 ≡ 102
false_begins zero = refl
false_begins (suc n) = refl

module _ (table : Table) (problem : Problem) (m : Fresh) (marks : AreMarks table problem m) where
  eq_not_yes : m.eq.0 ≡ m.yes.0 → ⊥
  eq_not_yes e = let q : 2 ≡ 0 = arity_at table m.eq m.yes _ _ 2 0 marks.eq.symbol marks.yes.symbol e in absurd (omega (arith, q))

  eq_not_no : m.eq.0 ≡ m.no.0 → ⊥
  eq_not_no e = let q : 2 ≡ 0 = arity_at table m.eq m.no _ _ 2 0 marks.eq.symbol marks.no.symbol e in absurd (omega (arith, q))

  no_not_yes : m.no.0 ≡ m.yes.0 → ⊥
  no_not_yes e =
      let q = name_at table m.no m.yes _ _ 0 0 marks.no.symbol marks.yes.symbol e in
      let bytes : 102 ≡ 116 = sym (false_begins marks.no.number) ∙ ap (λ l. get_or l 0 0) q ∙ true_begins marks.yes.number in
      absurd (omega (arith, bytes))

  pub are_distinct : AreDistinct m
  are_distinct = record {
    eq_is = rw (differ m.eq.0 m.yes.0 eq_not_yes, differ m.eq.0 m.no.0 eq_not_no, eq-eqb m.eq.0 m.eq.0 refl) refl;
    yes_is = rw (eq-eqb m.yes.0 m.yes.0 refl) refl;
    no_is = rw (differ m.no.0 m.yes.0 no_not_yes, eq-eqb m.no.0 m.no.0 refl) refl;
  }

  -- a symbol of the signature is none of the three
  other : (word : List ℕ) (n : ℕ) (f g : Sym) → IsFreshFor table word n problem.signature.symbols g → In f problem.signature.symbols → f.0 ≡ g.0 → ⊥
  other word n f g fresh i e =
      let same : f ≡ g = ap (λ (x : ℕ). let s : Sym = record { 0 = x } in s) e in
      free_differs table problem.signature.symbols (tried_name word fresh.number) i.0 f fresh.free i.1 (ap (name_of table) same ∙ symbol_name table g (tried_name word fresh.number) n fresh.symbol)

  pub plain : (f : Sym) → In f problem.signature.symbols → part m f ≡ ordinary
  plain f i = rw (differ f.0 m.yes.0 (other _ 0 f m.yes marks.yes i), differ f.0 m.no.0 (other _ 0 f m.no marks.no i), differ f.0 m.eq.0 (other _ 2 f m.eq marks.eq i)) refl

-- the symbols of the signature
signature_in : (table : Table) (fs : List Sym) (signature : Signature) (f : Sym) → Completes table fs signature → In f fs → In f signature.symbols
signature_in table fs _ f (has_constant e) i = i
signature_in table fs _ f (gets_constant {c = c} e fresh) i = (i.0, get-append_left fs (c ∷ []) i.0 f i.1)

more_in : (fs gs : List Sym) (os : List Occurrence) → ((f : Sym) → In f fs → In f gs) → AllIn fs os → AllIn gs os
more_in fs gs [] h a = tt
more_in fs gs (o ∷ os) h a = (h o.symbol a.0, more_in fs gs os h a.1)

pub are_fresh : (table : Table) (problem : Problem) (m : Fresh) → Agrees table problem → AreMarks table problem m → AreFresh (Some m) problem.clauses
are_fresh table problem m a marks =
    let s = a.signature in (
      are_distinct table problem m marks,
      lack_in_clauses m problem.signature.symbols (plain table problem m marks) problem.clauses 0
          (more_in s.symbols problem.signature.symbols (occurrences_of (terms_of problem.clauses)) (λ f i. signature_in table s.symbols problem.signature f s.completes i) (all_gathered s.gathers s.symbols refl)),
    )

-- the signature's symbols are the table's
all_have : (table : Table) (fs : List Sym) (signature : Signature) → Completes table fs signature → HasAll table fs → HasAll table signature.symbols
all_have table fs _ (has_constant e) h = h
all_have table fs _ (gets_constant {c = c} e fresh) h = λ i f at. go i f (get_pushed fs c i f at)
  where
    go : (i : ℕ) (f : Sym) → (slice_get fs i ≡ Some f) ⊎ ((i ≡ length fs) × (f ≡ c)) → Has table f
    go i f (inl a) = h i f a
    go i f (inr b) = subst (Has table) (sym b.1) (slice_get_within table c.0 _ fresh.symbol)

pub signature_has : (table : Table) (problem : Problem) → Agrees table problem → HasAll table problem.signature.symbols
signature_has table problem a =
    let s = a.signature in
    let g = gathers-grows table table (Grows-refl table) s.gathers refl (λ i f e. absurd cc) (have_from table table (Grows-refl table) (terms_of problem.clauses) 0 a.over) in
    all_have table s.symbols problem.signature s.completes g.1

pub all_later : (t u : Table) (fs : List Sym) → Grows t u → HasAll t fs → HasAll u fs
all_later t u fs g h i f e = has_later t u g f (h i f e)

pub marks_later : (t u : Table) (problem : Problem) (m : Fresh) → Grows t u → HasAll t problem.signature.symbols → AreMarks t problem m → AreMarks u problem m
marks_later t u problem m g h a = record {
  eq = fresh_later t u g (codes "eq") 2 problem.signature.symbols m.eq h a.eq;
  yes = fresh_later t u g (codes "true") 0 problem.signature.symbols m.yes h a.yes;
  no = fresh_later t u g (codes "false") 0 problem.signature.symbols m.no h a.no;
}
