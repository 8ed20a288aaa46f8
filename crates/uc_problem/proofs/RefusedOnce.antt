-- A problem is refused for one reason, whatever tables its files were read in, and one that fills a table isn't refused.
use Rattle.std.proofs.Common.{◌≡◌, ℕ, ◌++◌, List, [], ◌∷◌, map, Option, None, Ok, refl, sym, ap, ◌∙◌, subst}
use Rattle.uc_term.specs.declared.node.Sym.{Sym}
use Rattle.uc_term.specs.Table.{Table, IsDistinct, Grows}
use Rattle.uc_term.specs.Signatures.{Gathers, occurrences_of}
use Rattle.uc_edge.specs.Files.{Files}
use Rattle.uc_clause.specs.declared.clause.Sourced.{Sourced}
use Rattle.uc_problem.specs.declared.counts.Counts.{Counts}
use Rattle.uc_problem.specs.declared.flat.FlatClause.{FlatClause}
use Rattle.uc_problem.specs.declared.fault.LoadFault.{LoadFault}
use Rattle.uc_problem.specs.declared.problem.Problem.{Problem}
use Rattle.uc_problem.specs.Candidates.{folder_of}
use Rattle.uc_problem.specs.Conjecture.{spot_of, conjectures, second_conjecture, flat_terms}
use Rattle.uc_problem.specs.Loading.{Loaded, LoadsProblem}
use Rattle.uc_problem.specs.Holds.{Flattens, terms_of, HasNoSignature}
use Rattle.uc_problem.specs.Filling.{FillsClosed, IsFilled}
use Rattle.uc_problem.specs.Refusing.{ReadsShapes, Stops, IsRefused, stops, has_second, has_no_signature}
use Rattle.uc_problem.proofs.Later.{Grows-trans}
use Rattle.uc_problem.proofs.Outcomes.{err_once, ok_or_err}
use Rattle.uc_problem.proofs.LoadsOnce.{given_once, problem_once}
use Rattle.uc_problem.proofs.HoldsOnce.{same_second, one_or_two, unsigned_once, signed_or_not}
use Rattle.uc_problem.proofs.AddedOnce.{distinct_earlier, adds_grows}
use Rattle.uc_problem.proofs.AlikeSymbols.{AreAlike, none_alike, alike_later, gathers_alike}
use Rattle.uc_problem.proofs.ClosedOnce.{adds_all_grows, constants_alike, taken_alike, occurrences_alike}
use Rattle.uc_problem.proofs.FilledOnce.{behind, tables_closed_once, clauses_closed_once}
use Rattle.uc_problem.proofs.Shapes.{clause_shape, flat_shape, shapes_once}

-- conjectures stand where they do whatever the terms are
conjectures_shape : (flats : List FlatClause) → conjectures (map clause_shape flats) ≡ conjectures flats
conjectures_shape [] = refl
conjectures_shape (s ∷ ss) = ap (λ spots. spot_of s.file s.conjecture ++ spots) (conjectures_shape ss)

module _ (files : Files) (root : Option (List ℕ)) (name : List ℕ) where
  -- loading takes one way
  shapes_are_once : {a b : Loaded} → LoadsProblem ReadsShapes files None (folder_of name) root name a → LoadsProblem ReadsShapes files None (folder_of name) root name b → a ≡ b
  shapes_are_once x y = problem_once ReadsShapes shapes_once files (folder_of name) root x y

  pub flat_or_stops : {t : Table} {flats : List FlatClause} {counts : Counts} {why : LoadFault} → Flattens t files root name (Ok (flats, counts)) → Stops files None root name why → ⊥
  flat_or_stops {t} x y = ok_or_err (shapes_are_once (flat_shape t files root name x) y)

  conjectures_once : {t u : Table} {cs ds : List FlatClause} {m n : Counts} → Flattens t files root name (Ok (cs, m)) → Flattens u files root name (Ok (ds, n)) → conjectures cs ≡ conjectures ds
  conjectures_once {t} {u} {cs} {ds} x y =
      let shapes : map clause_shape cs ≡ map clause_shape ds = (given_once (shapes_are_once (flat_shape t files root name x) (flat_shape u files root name y))).0 in
      sym (conjectures_shape cs) ∙ ap conjectures shapes ∙ conjectures_shape ds

  module _ (old : Table) where
    pub refused_for_once : {a b : LoadFault} → IsRefused files root name old a → IsRefused files root name old b → a ≡ b
    refused_for_once (stops x) (stops y) = err_once (shapes_are_once x y)
    refused_for_once (stops x) (has_second y e) = absurd (flat_or_stops y x)
    refused_for_once (stops x) (has_no_signature f d h) = absurd (flat_or_stops f.reads x)
    refused_for_once (has_second x e) (stops y) = absurd (flat_or_stops x y)
    refused_for_once (has_second x e) (has_second y f) = ap second_conjecture (same_second e (conjectures_once x y ∙ f))
    refused_for_once (has_second x e) (has_no_signature f d h) = absurd (one_or_two f.closed.one (conjectures_once f.reads x ∙ e))
    refused_for_once (has_no_signature f d h) (stops y) = absurd (flat_or_stops f.reads y)
    refused_for_once (has_no_signature f d h) (has_second y e) = absurd (one_or_two f.closed.one (conjectures_once f.reads y ∙ e))
    refused_for_once {b = b} (has_no_signature {new = new} {clauses = cs} f d h) (has_no_signature {new = other} {clauses = ds} g e k) =
        let tables : new ≡ other = tables_closed_once files root name old new other f g d e in
        let clauses : cs ≡ ds = (clauses_closed_once files root name old new other f g d e).0 in
        unsigned_once new cs h (subst (λ ss. HasNoSignature new ss b) (sym clauses) (subst (λ t. HasNoSignature t ds b) (sym tables) k))

    -- the clauses of a problem gather in each table that the files and the constants make, and so they have a signature there
    module _ (new : Table) (problem : Problem) (x : IsFilled files root name old new problem) where
      signed_there : {other : Table} {clauses : List Sourced} {conjecture : Option ℕ} → IsDistinct other → FillsClosed files root name old other clauses conjecture → (gs : List Sym) × Gathers other [] (occurrences_of (terms_of clauses)) (Ok gs)
      signed_there {other} distinct y =
          let closed : Table = x.closed in
          let fills = x.fills in
          let there = behind files root name old other closed y fills (distinct_earlier y.flat other (adds_all_grows y.adds) distinct) in
          let to_closed : Grows y.flat closed = adds_all_grows there.1 in
          let to_other : Grows y.flat other = adds_all_grows y.adds in
          let last : Grows closed new = adds_grows closed new problem.signature.least x.least in
          let alike : AreAlike closed other there.0.constants y.closed.constants = constants_alike y.flats closed other (taken_alike y.flat closed other to_closed to_other (flat_terms y.flats) y.over) there.0 y.closed in
          let occur = occurrences_alike y.flat new other (Grows-trans y.flat closed new to_closed last) to_other (alike_later closed other new last alike) y.flats 0 y.over in
          let gathers = subst (λ ss. Gathers new [] (occurrences_of (terms_of ss)) (Ok x.agrees.signature.symbols)) there.0.clauses_are x.agrees.signature.gathers in
          let r = gathers_alike new other distinct none_alike occur gathers refl in
          (r.0, subst (λ ss. Gathers other [] (occurrences_of (terms_of ss)) (Ok r.0)) (sym y.closed.clauses_are) r.1)

      pub filled_or_refused : {why : LoadFault} → IsRefused files root name old why → ⊥
      filled_or_refused (stops y) = flat_or_stops x.fills.reads y
      filled_or_refused (has_second y e) = one_or_two x.fills.closed.one (conjectures_once x.fills.reads y ∙ e)
      filled_or_refused (has_no_signature {new = other} {clauses = clauses} f d h) = signed_or_not other clauses (signed_there d f).1 h
