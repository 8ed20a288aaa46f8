-- The goal that denies a conjecture follows from the axioms exactly where the conjecture does.
use Rattle.std.proofs.Common.{◌≡◌, ◌↔◌, ℕ, zero, suc, ◌+◌, ◌*◌, ◌^◌, ◌<◌, ◌≤◌, Bool, true, false, List, [], ◌∷◌, length, slice_get, Option, Some, None, if◌then◌else◌, refl, sym, ap, ◌∙◌, subst, arith}
use Rattle.uc_term.specs.declared.node.Sym.{Sym}
use Rattle.uc_term.specs.declared.equation.Equation.{Equation}
use Rattle.uc_term.specs.Tree.{Tree, apply}
use Rattle.uc_term.specs.Table.{Table}
use Rattle.uc_term.specs.Conversion.{Conv}
use Rattle.uc_term.specs.Signatures.{occurrences_of}
use Rattle.uc_term.proofs.Gets.{map-get}
use Rattle.uc_edge.specs.Files.{Files}
use Rattle.uc_check.specs.Clauses.{equation_of, axioms_of}
use Rattle.uc_clause.specs.declared.token.Place.{Place}
use Rattle.uc_clause.specs.declared.clause.Clause.{Clause}
use Rattle.uc_clause.specs.declared.clause.Sourced.{Sourced}
use Rattle.uc_fof.specs.Constants.{AreApart, constant_for, LacksThem, AreForeign}
use Rattle.uc_fof.proofs.ConstantLaw.{by_constants, from_constants}
use Rattle.uc_problem.specs.declared.flat.FlatClause.{FlatClause}
use Rattle.uc_problem.specs.declared.problem.Problem.{Problem}
use Rattle.uc_problem.specs.Conjecture.{number_or, conjecture_from, count_or, constants_needed, flat_terms, closed_if, closed_one, closed_all}
use Rattle.uc_problem.specs.Holds.{Holds, terms_of}
use Rattle.uc_problem.proofs.FreshMarks.{AllIn, all_gathered}
use Rattle.uc_problem.proofs.Outcomes.{some_once}
use Rattle.uc_problem.proofs.ConstantsApart.{HaveOnly, flats_only, gathered_few, apart, terms_lack}
use Rattle.uc_problem.proofs.ConjectureRead.{DeniedIf, AreDenied, flats_denied}

-- a conjecture has no more variables than two terms may have
needed_few : (flats : List FlatClause) → AreDenied flats → constants_needed flats ≤ 8192
needed_few [] d = omega arith
needed_few (s ∷ ss) d = go s.conjecture d.0 (needed_few ss d.1)
  where
    go : (o : Option Place) → DeniedIf o s.clause → constants_needed ss ≤ 8192 → count_or s.clause o (constants_needed ss) ≤ 8192
    go None d rest = rest
    go (Some place) d rest = d.few

-- the clause of the conjecture's number was a conjecture
not_before : (n m : ℕ) (flats : List FlatClause) → conjecture_from n flats ≡ Some m → n ≤ m
not_before n m [] e = absurd cc
not_before n m (s ∷ ss) e = go s.conjecture e (not_before (n + 1) m ss)
  where
    go : (o : Option Place) → number_or n o (conjecture_from (n + 1) ss) ≡ Some m → (conjecture_from (n + 1) ss ≡ Some m → n + 1 ≤ m) → n ≤ m
    go None e rest = omega (arith, rest e)
    go (Some place) e rest = let same : n ≡ m = cc in omega (arith, same)

record IsSaid (o : Option Place) : Type 0 where
  place : Place
  is : o ≡ Some place

said_at : (n i : ℕ) (flats : List FlatClause) (flat : FlatClause) → conjecture_from n flats ≡ Some (n + i) → slice_get flats i ≡ Some flat → IsSaid flat.conjecture
said_at n i [] flat e at = absurd cc
said_at n i (s ∷ ss) flat e at = go s.conjecture refl i e at (λ j p q. said_at (n + 1) j ss flat p q)
  where
    go : (o : Option Place) → s.conjecture ≡ o → (i : ℕ) → number_or n o (conjecture_from (n + 1) ss) ≡ Some (n + i) → slice_get (s ∷ ss) i ≡ Some flat → ((j : ℕ) → conjecture_from (n + 1) ss ≡ Some (n + 1 + j) → slice_get ss j ≡ Some flat → IsSaid flat.conjecture) → IsSaid flat.conjecture
    go (Some place) q zero e at rest = let same : s ≡ flat = cc in subst (λ (x : FlatClause). IsSaid x.conjecture) same (record { place = place; is = q })
    go (Some place) q (suc i) e at rest = let same : n ≡ n + suc i = cc in absurd (omega (arith, same))
    go None q zero e at rest = let late = not_before (n + 1) (n + 0) ss e in absurd (omega (arith, late))
    go None q (suc i) e at rest = let same : n + suc i ≡ n + 1 + i = omega arith in rest i (e ∙ ap Some same) at

module _ (cs : List Sym) where
  -- the clauses in flat order have none of these symbols
  abbrev Lack : List FlatClause → Type 0
  Lack [] = Unit {0}
  Lack (s ∷ ss) = (LacksThem cs s.clause.left × LacksThem cs s.clause.right) × Lack ss

  all_lack : (ss : List FlatClause) → ((i : ℕ) (t : Tree) → slice_get (flat_terms ss) i ≡ Some t → LacksThem cs t) → Lack ss
  all_lack [] free = tt
  all_lack (s ∷ ss) free = ((free 0 s.clause.left refl, free 1 s.clause.right refl), all_lack ss (λ i t e. free (suc (suc i)) t e))

  lack_at : (ss : List FlatClause) (i : ℕ) (s : FlatClause) → Lack ss → slice_get ss i ≡ Some s → LacksThem cs s.clause.left × LacksThem cs s.clause.right
  lack_at [] i s l e = absurd cc
  lack_at (x ∷ xs) zero s l e = let same : x ≡ s = cc in subst (λ (y : FlatClause). LacksThem cs y.clause.left × LacksThem cs y.clause.right) same l.0
  lack_at (x ∷ xs) (suc i) s l e = lack_at xs i s l.1 e

  -- the axioms are among those that were no conjecture
  with_axiom : (c : Clause) (es : List Equation) → LacksThem cs c.left × LacksThem cs c.right → AreForeign cs es → (b : Bool) → AreForeign cs (if b then equation_of c ∷ es else es)
  with_axiom c es l rest true zero e at = let same : equation_of c ≡ e = cc in subst (λ (x : Equation). LacksThem cs x.left × LacksThem cs x.right) same l
  with_axiom c es l rest true (suc i) e at = rest i e at
  with_axiom c es l rest false i e at = rest i e at

  foreign : (ss : List FlatClause) → AreDenied ss → Lack ss → AreForeign cs (axioms_of (closed_all cs ss))
  foreign [] d l = λ i e at. absurd cc
  foreign (s ∷ ss) d l = go s.conjecture d.0 (foreign ss d.1 l.1)
    where
      go : (o : Option Place) → DeniedIf o s.clause → AreForeign cs (axioms_of (closed_all cs ss)) → AreForeign cs (if (closed_if cs o s.clause).positive then equation_of (closed_if cs o s.clause) ∷ axioms_of (closed_all cs ss) else axioms_of (closed_all cs ss))
      go None d rest = with_axiom s.clause (axioms_of (closed_all cs ss)) l.0 rest s.clause.positive
      go (Some place) d rest = subst (λ b. AreForeign cs (if b then equation_of (closed_if cs (Some place) s.clause) ∷ axioms_of (closed_all cs ss) else axioms_of (closed_all cs ss))) (sym d.negative) rest

  closed_sides : (o : Option Place) (c : Clause) → IsSaid o → ((closed_if cs o c).left ≡ apply (constant_for cs) c.left) × ((closed_if cs o c).right ≡ apply (constant_for cs) c.right)
  closed_sides None c said = absurd (let is = said.is in cc)
  closed_sides (Some place) c said = (refl, refl)

module _ (table : Table) (files : Files) (root : Option (List ℕ)) (name : List ℕ) (problem : Problem) (holds : Holds table files root name problem) where
  abbrev constants : List Sym
  constants = holds.gives.closed.constants

  abbrev flats : List FlatClause
  flats = holds.gives.flats

  clauses_are : problem.clauses ≡ closed_all constants flats
  clauses_are = holds.gives.closed.clauses_are

  denied : AreDenied flats
  denied = flats_denied table files root name flats holds.gives.counts holds.gives.flat

  only : HaveOnly holds.agrees.signature.symbols (flat_terms flats)
  only =
      let symbols = holds.agrees.signature.symbols in
      let gathered = all_gathered holds.agrees.signature.gathers symbols refl in
      flats_only symbols constants flats 0 (subst (λ ss. AllIn symbols (occurrences_of (terms_of ss))) clauses_are gathered)

  are_apart : AreApart constants
  are_apart =
      let symbols = holds.agrees.signature.symbols in
      let few = gathered_few holds.agrees.signature.gathers symbols refl (omega arith) in
      let small : 1 + length constants * 60001 < 2 ^ 63 = omega (arith, holds.gives.closed.are.many, needed_few flats denied) in
      apart table (flat_terms flats) symbols only few holds.gives.closed.are.named small

  lack : Lack constants flats
  lack = all_lack constants flats (λ i t e. terms_lack table (flat_terms flats) holds.gives.closed.are.named i t e)

  are_foreign : AreForeign constants (axioms_of problem.clauses)
  are_foreign = subst (λ ss. AreForeign constants (axioms_of ss)) (sym clauses_are) (foreign constants flats denied lack)

  module _ (number : ℕ) (flat : FlatClause) (goal : Sourced) (conjecture : problem.conjecture ≡ Some number) (flat_at : slice_get holds.gives.flats number ≡ Some flat) (goal_at : slice_get problem.clauses number ≡ Some goal) where
    goal_is : goal ≡ closed_one constants flat
    goal_is = some_once goal_at (ap (λ ss. slice_get ss number) clauses_are ∙ map-get (closed_one constants) flats number flat flat_at)

    said : IsSaid flat.conjecture
    said = said_at 0 number flats flat (sym holds.gives.closed.conjecture_is ∙ conjecture ∙ ap Some (let e : number ≡ 0 + number = omega arith in e)) flat_at

    left_is : goal.clause.left ≡ apply (constant_for constants) flat.clause.left
    left_is = ap (λ (s : Sourced). s.clause.left) goal_is ∙ (closed_sides constants flat.conjecture flat.clause said).0

    right_is : goal.clause.right ≡ apply (constant_for constants) flat.clause.right
    right_is = ap (λ (s : Sourced). s.clause.right) goal_is ∙ (closed_sides constants flat.conjecture flat.clause said).1

    pub goal_stands : Conv (axioms_of problem.clauses) flat.clause.left flat.clause.right ↔ Conv (axioms_of problem.clauses) goal.clause.left goal.clause.right
    goal_stands =
        let axioms = axioms_of problem.clauses in
        let sides = lack_at constants flats number flat lack flat_at in (
          λ c. subst (λ l. Conv axioms l goal.clause.right) (sym left_is) (subst (λ r. Conv axioms (apply (constant_for constants) flat.clause.left) r) (sym right_is) (by_constants constants axioms are_foreign flat.clause.left flat.clause.right c)),
          λ c. from_constants constants axioms are_foreign are_apart flat.clause.left flat.clause.right sides.0 sides.1 (subst (λ l. Conv axioms l (apply (constant_for constants) flat.clause.right)) left_is (subst (λ r. Conv axioms goal.clause.left r) right_is c)),
        )
