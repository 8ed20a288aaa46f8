-- What holds of each move from a term with such variables alone holds of each move of the joins that are made of such terms.
use Rattle.std.proofs.Common.{◌≡◌, ℕ, ◌⊎◌, inl, inr, List, [], ◌∷◌, refl, sym, subst}
use Rattle.std.specs.Prelude.{◌≢◌}
use Rattle.std.specs.List.{AllByRecursion}
use Rattle.uc_term.specs.declared.equation.Equation.{Equation}
use Rattle.uc_term.specs.Over.{IsOver}
use Rattle.uc_term.specs.Tree.{Tree, var}
use Rattle.uc_term.specs.Variables.{Occurs}
use Rattle.uc_fact.specs.Ground.{AreOfSignature}
use Rattle.uc_fact.specs.Live.{numbered}
use Rattle.uc_fact.specs.declared.joinable.Joinable.TheVariants.{Joined}
use Rattle.uc_fact.specs.declared.joinable.Reason.{Reason}
use Rattle.uc_fact.specs.declared.joinable.Reason.TheVariants as reason
use Rattle.uc_order.specs.Members.{In, Each}
use Rattle.uc_order.specs.VarOrders.{Classes, HasOnly, orders_of, represented, representative}
use Rattle.uc_order.specs.Laws.{Meaning, HasSym, Laws}
use Rattle.uc_order.proofs.Respected.{representative-among}
use Rattle.uc_rewrite.specs.declared.normal.Normal.{Normal}
use Rattle.uc_rewrite.specs.Normalising.{IsNormalOf}
use Rattle.uc_ground.specs.Joining.{AreVariables}
use Rattle.uc_ground.proofs.Tried.{all_members, known_left, known_right}
use Rattle.uc_runs.proofs.OverTerms.{instance_over, normal_over}
use Rattle.uc_certificate.specs.declared.certificate.Case.{Case}
use Rattle.uc_certificate.specs.declared.certificate.End.{End}
use Rattle.uc_certificate.specs.declared.certificate.End.TheVariants.{Same, Instance, Orders, Ac}
use Rattle.uc_certificate.specs.declared.certificate.Join.{Join}
use Rattle.uc_certificate.specs.declared.certificate.Move.{Move}
use Rattle.uc_certify.specs.Moving.{IsMove, AreMoves}
use Rattle.uc_certify.specs.Making.{AreMovesOf, IsMadeCase, AreMadeCases, AreAllCases, SaysWhy, IsMade}
use Rattle.uc_certify.proofs.Decided.{over_into}
use Rattle.uc_certify.proofs.FewVariables.{known_if}
use Rattle.uc_certify.proofs.FilledOrders.{IsFilled, AreFilled, among_known, orders_filled, HasOne, one_order}
use Rattle.uc_certify.proofs.AcEnds.{some_triple}
use Rattle.uc_certify.proofs.MadeEnds.{Answered, answered}
use Rattle.uc_certify.proofs.MadeMoves.{moves_made, least_over, all_over}

-- joins whose moves are so, and whose classes have a variable and known ones alone
module _ (Known : ℕ → Type 0) (IsSo : Move → Type 0) where
  pub record IsSuchCase (case : Case) : Type 0 where
    pub cases : AllByRecursion (IsFilled Known) case.cases
    pub left : AllByRecursion IsSo case.left
    pub right : AllByRecursion IsSo case.right

  -- there is a case, or a triple
  abbrev pub IsSuchEnd : End → Type 0
  IsSuchEnd Same = Unit {0}
  IsSuchEnd (Instance number) = Unit {0}
  IsSuchEnd (Orders cases) = (cases ≢ []) × AllByRecursion IsSuchCase cases
  IsSuchEnd (Ac triples) = triples ≢ []

  pub record IsSuchJoin (join : Join) : Type 0 where
    pub left : AllByRecursion IsSo join.left
    pub right : AllByRecursion IsSo join.right
    pub end : IsSuchEnd join.end

module _ (m : Meaning) (laws : Laws m) (facts : List Equation) (over : AreOfSignature (HasSym m) m.arity facts) (Known : ℕ → Type 0) where
  abbrev pub OverKnown : Tree → Type 0
  OverKnown = IsOver (HasSym m) m.arity Known

  module _ (IsSo : Move → Type 0) (so : (Greater : Tree → Tree → Type 0) (before : Tree) (move : Move) → OverKnown before → IsMove m facts Greater Known before move → IsSo move) where
    moves_so : (Greater : Tree → Tree → Type 0) (before : Tree) (moves : List Move) → AreMoves m facts Greater Known before moves → OverKnown before → AllByRecursion IsSo moves
    moves_so Greater before [] a o = tt
    moves_so Greater before (x ∷ xs) a o = (so Greater before x o a.0, moves_so Greater x.to xs a.1 a.0.over)

    normal_so : (Greater : Tree → Tree → Type 0) (t : Tree) (n : Normal) (moves : List Move) → IsNormalOf Greater m.least (numbered facts) 4096 t n → AreMovesOf t n.chain.steps moves → OverKnown t → AllByRecursion IsSo moves
    normal_so Greater t n moves i a o = moves_so Greater t moves (moves_made m laws facts over Greater Known 4096 t n.term n.chain.steps n.stop moves i.normalises a o).0 o

    -- two ends
    module _ (s t : Tree) (s_over : OverKnown s) (t_over : OverKnown t) where
      represented_over : (cases : Classes) (u : Tree) → AreFilled Known cases → HasOnly cases u → OverKnown u → OverKnown (represented cases u)
      represented_over cases u f h o =
          instance_over (HasSym m) m.arity Known (λ x. var (representative cases x)) u
          (over_into (HasSym m) (HasSym m) m.arity m.arity (λ g i. (i, refl)) Known u o)
          (λ x p. among_known Known cases (representative cases x) f (representative-among x cases (h x p)))

      case_so : (case : Case) → IsMadeCase m (numbered facts) s t case.cases case → AreFilled Known case.cases → HasOnly case.cases s → HasOnly case.cases t → IsSuchCase Known IsSo case
      case_so case c f hs ht = record {
        cases = f;
        left = normal_so (m.under case.cases) (represented case.cases s) c.left case.left c.left_is c.left_moves (represented_over case.cases s f hs s_over);
        right = normal_so (m.under case.cases) (represented case.cases t) c.right case.right c.right_is c.right_moves (represented_over case.cases t f ht t_over);
      }

      cases_so : (orders : List Classes) (cases : List Case) → AreMadeCases m (numbered facts) s t orders cases → Each (AreFilled Known) orders → Each (λ (c : Classes). HasOnly c s × HasOnly c t) orders → AllByRecursion (IsSuchCase Known IsSo) cases
      cases_so [] [] h f k = tt
      cases_so [] (c ∷ cs) h f k = absurd h
      cases_so (o ∷ os) [] h f k = absurd h
      cases_so (o ∷ os) (c ∷ cs) h f k =
          let is : o ≡ c.cases = sym h.0.cases_are in
          let own = subst (λ (x : Classes). IsMadeCase m (numbered facts) s t x c) is h.0 in
          let filled = subst (AreFilled Known) is f.0 in
          let only = subst (λ (x : Classes). HasOnly x s × HasOnly x t) is k.0 in
          (case_so c own filled only.0 only.1, cases_so os cs h.1 f.1 k.1)

      some_case : (orders : List Classes) (cases : List Case) → AreMadeCases m (numbered facts) s t orders cases → HasOne orders → cases ≢ []
      some_case [] cases h one = absurd one
      some_case (o ∷ os) [] h one = absurd h
      some_case (o ∷ os) (c ∷ cs) h one = λ e. cc

      all_so : (cases : List Case) → AreAllCases m (numbered facts) s t cases → IsSuchEnd Known IsSo (Orders cases)
      all_so cases a =
          let only = each_only a.vars a.vars_are (orders_of a.vars) (all_members (orders_of a.vars)) in
          let filled = orders_filled Known a.vars (λ x i. known x ((a.vars_are.each x).0 i)) in
          (some_case (orders_of a.vars) cases a.made (one_order a.vars), cases_so (orders_of a.vars) cases a.made filled only)
        where
          known : (x : ℕ) → Occurs x s ⊎ Occurs x t → Known x
          known x (inl o) = known_if (HasSym m) m.arity Known s s_over x o
          known x (inr o) = known_if (HasSym m) m.arity Known t t_over x o

          each_only : (vars : List ℕ) → AreVariables s t vars → (os : List Classes) → Each (In (orders_of vars)) os → Each (λ (c : Classes). HasOnly c s × HasOnly c t) os
          each_only vars v [] e = tt
          each_only vars v (c ∷ os) e = ((known_left s t vars v c e.0, known_right s t vars v c e.0), each_only vars v os e.1)

      end_so : (why : Reason) (end : End) → Answered m (numbered facts) s t why → SaysWhy m (numbered facts) s t why end → IsSuchEnd Known IsSo end
      end_so why Same a h = tt
      end_so why (Instance number) a h = tt
      end_so reason.Orders (Orders cases) a h = all_so cases h
      end_so reason.Same (Orders cases) a h = absurd h
      end_so (reason.Instance k) (Orders cases) a h = absurd h
      end_so (reason.Ac list) (Orders cases) a h = absurd h
      end_so (reason.Ac list) (Ac triples) a h = some_triple (numbered facts) s t list triples a h
      end_so reason.Same (Ac triples) a h = absurd h
      end_so (reason.Instance k) (Ac triples) a h = absurd h
      end_so reason.Orders (Ac triples) a h = absurd h

    end_over : (t : Tree) (n : Normal) → IsNormalOf m.greater m.least (numbered facts) 4096 t n → OverKnown t → OverKnown n.term
    end_over t n i o = (normal_over (HasSym m) m.arity Known m.greater m.least (least_over m laws facts over m.greater Known) (numbered facts) (all_over m laws facts over m.greater Known) 4096 t n.term n.chain.steps n.stop i.normalises o).1

    pub join_so : (l r : Tree) (join : Join) → IsMade m (numbered facts) l r join → OverKnown l → OverKnown r → IsSuchJoin Known IsSo join
    join_so l r join made lo ro =
        let f = made.found in
        record {
          left = normal_so m.greater l f.left join.left f.left_is made.left_moves lo;
          right = normal_so m.greater r f.right join.right f.right_is made.right_moves ro;
          end = end_so f.left.term f.right.term (end_over l f.left f.left_is lo) (end_over r f.right f.right_is ro) f.why join.end (answered m (numbered facts) f.left.term f.right.term (Joined f.why) f.why f.answer_is refl) made.end;
        }
