-- The terms of joins are of the table in which they are read.
use Rattle.std.proofs.Common.{◌≡◌, ℕ, zero, suc, ◌<◌, List, [], ◌∷◌, length, refl, sym, ap, ◌∙◌, arith, Option, Some, None}
use Rattle.std.specs.Prelude.{slice_get, unwrap_or}
use Rattle.uc_term.specs.declared.node.Sym.{Sym}
use Rattle.uc_term.specs.Tree.{Tree, var, app, Trees, none, more, count}
use Rattle.uc_term.specs.Over.{AreOver}
use Rattle.uc_term.specs.Table.{Table, Entry, Has, IsSymbol, IsOf, arity_of}
use Rattle.uc_clause.specs.declared.token.Token.{Token}
use Rattle.uc_clause.specs.Parse.{Parse, Parses}
use Rattle.uc_order.specs.Members.{Each}
use Rattle.uc_order.specs.Laws.{Meaning, HasSym}
use Rattle.uc_certificate.specs.declared.certificate.Move.{Move}
use Rattle.uc_certificate.specs.declared.certificate.Case.{Case}
use Rattle.uc_certificate.specs.declared.certificate.End.{End}
use Rattle.uc_certificate.specs.declared.certificate.End.TheVariants.{Same, Instance, Orders, Ac}
use Rattle.uc_certificate.specs.declared.certificate.Join.{Join}
use Rattle.uc_certificate.specs.Arities.{KeepsArities, AllKeepArities, MovesKeepArities, CaseKeepsArities, EndKeepsArities, JoinKeepsArities, JoinsKeepArities}
use Rattle.uc_certificate.specs.Having.{MovesHave, CaseHas, EndHas, JoinHas, JoinsHave}
use Rattle.uc_certificate.specs.JoinParse as parse
use Rattle.uc_certificate.specs.JoinParse.{Ending, by_same, by_instance, by_orders, by_ac}
use Rattle.uc_certificate.specs.JoinMeaning.{MeanAll, none_mean, more_mean, MeansTerm, MeanTerms, variable_is, functor_is, no_terms, more_terms, MeansMove, MeansCase, MeansEnd, MeansJoin, MeanJoins}

each_meant : {P V : Type 0} {Means : P → V → Type 0} (So : V → Type 0) → ((p : P) (v : V) → Means p v → So v) → {ps : List P} {vs : List V} → MeanAll Means ps vs → Each So vs
each_meant So f none_mean = tt
each_meant So f (more_mean {p = p} {v = v} m all) = (f p v m, each_meant So f all)

below : (table : Table) (i : ℕ) (e : Entry) → slice_get table i ≡ Some e → i < length table
below [] i e h = absurd cc
below (x ∷ table) zero e h = omega arith
below (x ∷ table) (suc i) e h = omega (arith, below table i e h)

module _ (bytes : List ℕ) (tokens : List Token) (table : Table) where
  arity_is : (f : Sym) (name : List ℕ) (n : ℕ) → IsSymbol table f name n → n ≡ arity_of table f
  arity_is f name n s = sym (ap (λ (o : Option Entry). (unwrap_or o (record { name = []; arity = 0 })).arity) s)

  mutual
    term_of : {p : Parse} {t : Tree} → MeansTerm bytes tokens table p t → IsOf table t
    term_of (variable_is e) = tt
    term_of (functor_is {f = f} {ts = ts} s all) = (below table f.0 _ s, arity_is f _ (count ts) s, terms_of all)

    terms_of : {ps : Parses} {ts : Trees} → MeanTerms bytes tokens table ps ts → AreOver (Has table) (arity_of table) (λ _. Unit {0}) ts
    terms_of no_terms = tt
    terms_of (more_terms m all) = (term_of m, terms_of all)

  move_of : (p : parse.Move) (m : Move) → MeansMove bytes tokens table p m → IsOf table m.to
  move_of p m h = term_of h.to

  case_of : (p : parse.Case) (c : Case) → MeansCase bytes tokens table p c → CaseHas (IsOf table) c
  case_of p c h = (each_meant (λ (m : Move). IsOf table m.to) move_of h.left, each_meant (λ (m : Move). IsOf table m.to) move_of h.right)

  end_of : (p : Ending) (e : End) → MeansEnd bytes tokens table p e → EndHas (IsOf table) e
  end_of p Same h = tt
  end_of p (Instance n) h = tt
  end_of p (Ac triples) h = tt
  end_of (by_orders cases) (Orders list) h = each_meant (CaseHas (IsOf table)) case_of h
  end_of (by_ac triples) (Orders list) h = elim h [ ]
  end_of by_same (Orders list) h = elim h [ ]
  end_of (by_instance n) (Orders list) h = elim h [ ]

  join_of : (p : parse.Join) (j : Join) → MeansJoin bytes tokens table p j → JoinHas (IsOf table) j
  join_of p j h = (each_meant (λ (m : Move). IsOf table m.to) move_of h.left, each_meant (λ (m : Move). IsOf table m.to) move_of h.right, end_of p.ending j.end h.end)

  pub joins_of : {ps : List parse.Join} {js : List Join} → MeanJoins bytes tokens table ps js → JoinsHave (IsOf table) js
  joins_of m = each_meant (JoinHas (IsOf table)) join_of m

-- ARITIES KEPT

each_on : {V : Type 0} (So Also : V → Type 0) → ((v : V) → So v → Also v) → (vs : List V) → Each So vs → Each Also vs
each_on So Also f [] h = tt
each_on So Also f (v ∷ vs) h = (f v h.0, each_on So Also f vs h.1)

-- in a table that has for each symbol of the signature its arity, terms of the table keep arities
module _ (m : Meaning) (table : Table) (same : (f : Sym) → HasSym m f → m.arity f ≡ arity_of table f) where
  mutual
    term_keeps : (t : Tree) → IsOf table t → KeepsArities m t
    term_keeps (var x) h = tt
    term_keeps (app f ts) h = ((λ s. h.1 ∙ sym (same f s)), terms_keep ts h.2)

    terms_keep : (ts : Trees) → AreOver (Has table) (arity_of table) (λ _. Unit {0}) ts → AllKeepArities m ts
    terms_keep none h = tt
    terms_keep (more t ts) h = (term_keeps t h.0, terms_keep ts h.1)

  moves_keep : (ms : List Move) → MovesHave (IsOf table) ms → MovesKeepArities m ms
  moves_keep ms h = each_on (λ (x : Move). IsOf table x.to) (λ (x : Move). KeepsArities m x.to) (λ x s. term_keeps x.to s) ms h

  case_keeps : (c : Case) → CaseHas (IsOf table) c → CaseKeepsArities m c
  case_keeps c h = (moves_keep c.left h.0, moves_keep c.right h.1)

  end_keeps : (e : End) → EndHas (IsOf table) e → EndKeepsArities m e
  end_keeps Same h = tt
  end_keeps (Instance n) h = tt
  end_keeps (Ac triples) h = tt
  end_keeps (Orders cases) h = each_on (CaseHas (IsOf table)) (CaseKeepsArities m) case_keeps cases h

  join_keeps : (j : Join) → JoinHas (IsOf table) j → JoinKeepsArities m j
  join_keeps j h = (moves_keep j.left h.0, moves_keep j.right h.1, end_keeps j.end h.2)

  pub joins_keep : (js : List Join) → JoinsHave (IsOf table) js → JoinsKeepArities m js
  joins_keep js h = each_on (JoinHas (IsOf table)) (JoinKeepsArities m) join_keeps js h
