-- Where no clause of a problem is too large or has too many variables, no axiom of its encoding is so.
use Rattle.std.proofs.Common.{ℕ, zero, suc, ◌≡◌, ◌<◌, ◌≤◌, ◌+◌, ◌&&◌, ◌||◌, nat_lt, Bool, true, false, List, [], ◌∷◌, ◌++◌, map, slice_get, Option, Some, None, Ok, if◌then◌else◌, refl, sym, ap, subst, arith}
use Rattle.std.specs.List.{list_any}
use Rattle.std.proofs.lemmas.Bool.Decides.{nat_tests}
use Rattle.uc_term.specs.declared.fresh.Fresh.{Fresh}
use Rattle.uc_term.specs.declared.equation.Equation.{Equation}
use Rattle.uc_term.specs.Tree.{nodes}
use Rattle.uc_term.specs.Table.{Table}
use Rattle.uc_term.specs.Encoding.{reflexive, refuted}
use Rattle.uc_order.specs.Members.{Each}
use Rattle.uc_clause.specs.declared.clause.Sourced.{Sourced}
use Rattle.uc_check.specs.Clauses.{equation_of, axioms_of}
use Rattle.uc_problem.specs.declared.problem.Problem.{Problem}
use Rattle.uc_problem.specs.declared.problem.Encoded.{Encoded}
use Rattle.uc_problem.specs.Marks.{Marks, is_open_goal, is_too_large}
use Rattle.uc_problem.specs.Encodes.{equations_where, encoding_of, Encodes}
use Rattle.uc_runs.specs.Written.{AreSmall}
use Rattle.uc_term.specs.Variables.{variables}
use Rattle.uc_fact.proofs.Agreeing.{each_append}
use Rattle.uc_certificate.specs.JoinLines.{MOST_VARIABLES}
use Rattle.uc_certificate.specs.Printable.{AreFew}
use Rattle.uc_certify.specs.Naming.{HaveFewVariables}
use Rattle.uc_answer.specs.PrintableProblems.{IsPrintableSourced, ArePrintableSourced}

or_left : (a b : Bool) → (a || b) ≡ false → a ≡ false
or_left true b e = e
or_left false b e = refl

or_right : (a b : Bool) → (a || b) ≡ false → b ≡ false
or_right true b e = absurd cc
or_right false b e = e

abbrev IsSmall : Equation → Type 0
IsSmall e = (nodes e.left ≤ 4096) × (nodes e.right ≤ 4096)

abbrev HasFew : Equation → Type 0
HasFew e = AreFew (variables e.left) × AreFew (variables e.right)

-- of no more nodes and variables
record IsFit (e : Equation) : Type 0 where
  small : IsSmall e
  few : HasFew e

both : (xs ys : List Equation) → Each IsFit xs → Each IsFit ys → Each IsFit (xs ++ ys)
both [] ys h k = k
both (x ∷ xs) ys h k = (h.0, both xs ys h.1 k)

fit_at : (es : List Equation) → Each IsFit es → (n : ℕ) (e : Equation) → slice_get es n ≡ Some e → IsFit e
fit_at [] h n e at = absurd cc
fit_at (x ∷ xs) h zero e at = let same : x ≡ e = cc in subst IsFit same h.0
fit_at (x ∷ xs) h (suc n) e at = fit_at xs h.1 n e at

module _ (table : Table) where
  fit_clause : (s : Sourced) → IsPrintableSourced table s → IsFit (equation_of s.clause)
  fit_clause s h = record { small = (h.2.left, h.2.right); few = (h.2.few_left, h.2.few_right) }

  axioms_fit : (ss : List Sourced) → ArePrintableSourced table ss → Each IsFit (axioms_of ss)
  axioms_fit [] h = tt
  axioms_fit (s ∷ ss) h = go s.clause.positive (axioms_fit ss h.1)
    where
      go : (b : Bool) → Each IsFit (axioms_of ss) → Each IsFit (if b then equation_of s.clause ∷ axioms_of ss else axioms_of ss)
      go true later = (fit_clause s h.0, later)
      go false later = later

  -- an open goal that isn't too large, put under one symbol
  pair_fit : (marks : Fresh) (e : Equation) → HasFew e → nat_lt 4095 (nodes e.left + nodes e.right) ≡ false → IsFit (refuted marks e)
  pair_fit marks e h q = record {
    small = (let few : nodes e.left + nodes e.right ≤ 4095 = grind (arith, nat_tests) in omega (arith, few), omega arith);
    few = (each_append (λ x. x < MOST_VARIABLES) (variables e.left) (variables e.right ++ []) h.0 (each_append (λ x. x < MOST_VARIABLES) (variables e.right) [] h.1 tt), tt);
  }

  goals_fit : (marks : Fresh) (ss : List Sourced) → ArePrintableSourced table ss → list_any is_too_large ss ≡ false → Each IsFit (map (refuted marks) (equations_where is_open_goal ss))
  goals_fit marks [] can h = tt
  goals_fit marks (s ∷ ss) can h = go (is_open_goal s) (or_left (is_too_large s) (list_any is_too_large ss) h) (goals_fit marks ss can.1 (or_right (is_too_large s) (list_any is_too_large ss) h))
    where
      go : (b : Bool) → (b && nat_lt 4095 (nodes s.clause.left + nodes s.clause.right)) ≡ false → Each IsFit (map (refuted marks) (equations_where is_open_goal ss)) → Each IsFit (map (refuted marks) (if b then equation_of s.clause ∷ equations_where is_open_goal ss else equations_where is_open_goal ss))
      go true q later = (pair_fit marks (equation_of s.clause) (fit_clause s can.0).few q, later)
      go false q later = later

  module _ (problem : Problem) (h : ArePrintableSourced table problem.clauses) where
    encoding_fit : (fresh : Option Fresh) → Marks table problem (Ok fresh) → Each IsFit (encoding_of problem fresh).axioms
    encoding_fit None m = axioms_fit problem.clauses h
    encoding_fit (Some marks) m = both (axioms_of problem.clauses) (reflexive marks ∷ map (refuted marks) (equations_where is_open_goal problem.clauses)) (axioms_fit problem.clauses h) (record { small = (omega arith, omega arith); few = ((omega arith, (omega arith, tt)), tt) }, goals_fit marks problem.clauses h m.1)

module _ (table : Table) (problem : Problem) (answer : Encoded) (e : Encodes table problem (Ok answer)) (h : ArePrintableSourced table problem.clauses) where
  all_fit : Each IsFit answer.axioms
  all_fit = subst (Each IsFit) (sym (ap (λ (x : Encoded). x.axioms) e.1)) (encoding_fit table problem h answer.fresh e.0)

  pub encoded_small : AreSmall answer.axioms
  encoded_small n x at = (fit_at answer.axioms all_fit n x at).small

  pub encoded_few : HaveFewVariables answer.axioms
  encoded_few n x at = (fit_at answer.axioms all_fit n x at).few
