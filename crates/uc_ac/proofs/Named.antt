-- Among the equations of named facts each symbol has its three facts.
use Rattle.std.proofs.Common.{◌≡◌, ℕ, List, [], ◌∷◌, ◌++◌, Some, slice_get, option_to_list, refl, sym, subst}
use Rattle.uc_term.specs.declared.node.Sym.{Sym}
use Rattle.uc_term.specs.declared.equation.Equation.{Equation}
use Rattle.uc_term.proofs.Gets.{get-append_left, get-append_right}
use Rattle.uc_order.specs.Members.{In, in_front, in_rest, Each}
use Rattle.uc_fact.specs.Live.{Live, fact_at}
use Rattle.uc_fact.specs.declared.ac_facts.AcFacts.{AcFacts}
use Rattle.uc_ac.specs.declared.ac_law.AcLaw.{AcLaw}
use Rattle.uc_ac.specs.declared.ac_law.AcLaw.TheVariants.{Assoc, Comm, Extended}
use Rattle.uc_ac.specs.AcLaw.{IsLaw}
use Rattle.uc_ac.specs.AcFacts.{IsFactThat, AreAcFacts, symbols_of, three_equations, named_equations}
use Rattle.uc_ac.proofs.Exchanging.{HasOneThat, HasAcFacts}

module _ (Is : Equation → Type 0) where
  in_left : (xs ys : List Equation) → HasOneThat xs Is → HasOneThat (xs ++ ys) Is
  in_left xs ys h = (h.0, h.1, get-append_left xs ys h.0 h.1 h.2, h.3)

  in_right : (xs ys : List Equation) → HasOneThat ys Is → HasOneThat (xs ++ ys) Is
  in_right xs ys h = let r = get-append_right xs ys h.0 h.1 h.2 in (r.0, h.1, r.1, h.3)

named : (law : AcLaw) (f : Sym) (live : List Live) (n : ℕ) → IsFactThat live law f n → HasOneThat (option_to_list (fact_at live n)) (IsLaw law f)
named law f live n h = (0, h.0, subst (λ o. slice_get (option_to_list o) 0 ≡ Some h.0) (sym h.1) refl, h.2)

module _ (live : List Live) where
  its_facts : (facts : AcFacts) → AreAcFacts live facts → HasAcFacts (three_equations live facts) facts.symbol
  its_facts facts h =
      let a = option_to_list (fact_at live facts.assoc) in
      let c = option_to_list (fact_at live facts.comm) in
      let x = option_to_list (fact_at live facts.extended) in
      record {
        has_assoc = in_left _ (a ++ c) x (in_left _ a c (named Assoc facts.symbol live facts.assoc h.assoc_is));
        has_comm = in_left _ (a ++ c) x (in_right _ a c (named Comm facts.symbol live facts.comm h.comm_is));
        has_extended = in_right _ (a ++ c) x (named Extended facts.symbol live facts.extended h.extended_is);
      }

  before : (xs ys : List Equation) (f : Sym) → HasAcFacts xs f → HasAcFacts (xs ++ ys) f
  before xs ys f h = record { has_assoc = in_left _ xs ys h.has_assoc; has_comm = in_left _ xs ys h.has_comm; has_extended = in_left _ xs ys h.has_extended }

  behind : (xs ys : List Equation) (f : Sym) → HasAcFacts ys f → HasAcFacts (xs ++ ys) f
  behind xs ys f h = record { has_assoc = in_right _ xs ys h.has_assoc; has_comm = in_right _ xs ys h.has_comm; has_extended = in_right _ xs ys h.has_extended }

  pub named_facts : (list : List AcFacts) → Each (AreAcFacts live) list → (f : Sym) → In (symbols_of list) f → HasAcFacts (named_equations live list) f
  named_facts [] e f i = elim i [ ]
  named_facts (facts ∷ list) e _ in_front = before (three_equations live facts) (named_equations live list) facts.symbol (its_facts facts e.0)
  named_facts (facts ∷ list) e f (in_rest i) = behind (three_equations live facts) (named_equations live list) f (named_facts list e.1 f i)
