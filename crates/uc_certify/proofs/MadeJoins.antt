-- The joins that are made pass all tests.
use Rattle.std.proofs.Common.{◌≡◌, ℕ, zero, suc, ◌+◌, Result, Ok, Err, get_or, List, [], ◌∷◌, ◌++◌, drop, length, slice_get, Some, refl, sym, ap, ◌∙◌, subst, append_assoc, append-nil}
use Rattle.uc_term.specs.declared.equation.Equation.{Equation}
use Rattle.uc_term.specs.Over.{IsTerm}
use Rattle.uc_term.specs.Tree.{Tree}
use Rattle.std.specs.Result.{IfOk}
use Rattle.uc_clause.specs.declared.clause.Sourced.{Sourced}
use Rattle.uc_check.specs.declared.proof.Line.{Line}
use Rattle.uc_check.specs.Checks.{AreRightBefore}
use Rattle.uc_order.specs.declared.spec.OrderSpec.{OrderSpec}
use Rattle.uc_problem.specs.declared.problem.Encoded.{Encoded}
use Rattle.uc_system.specs.Reading.{precedence_of}
use Rattle.uc_fact.specs.Ground.{AreOfSignature}
use Rattle.uc_fact.specs.Live.{numbered}
use Rattle.uc_fact.specs.declared.joinable.Joinable.TheVariants.{Joined}
use Rattle.uc_order.specs.Members.{Each}
use Rattle.uc_order.specs.Laws.{Meaning, HasSym, Laws}
use Rattle.uc_pair.specs.declared.formation.Formation.TheVariants.{Pair}
use Rattle.uc_pair.specs.declared.formed.Formed.{Formed}
use Rattle.uc_rewrite.specs.declared.normal.Normal.{Normal}
use Rattle.uc_rewrite.specs.Normalising.{IsNormalOf}
use Rattle.uc_runs.proofs.OverTerms.{normal_over}
use Rattle.uc_runs.proofs.OverFound.{pair_over}
use Rattle.uc_certificate.specs.declared.certificate.Join.{Join}
use Rattle.uc_certificate.specs.declared.certificate.What.{What}
use Rattle.uc_certificate.specs.declared.certificate.What.TheVariants.{Axiom, Overlap}
use Rattle.uc_certify.specs.declared.certified.Certified.TheVariants.{Yes}
use Rattle.uc_certify.specs.declared.expected.Member.{Member}
use Rattle.uc_certify.specs.declared.expected.Member.TheVariants as member
use Rattle.uc_certify.specs.Moving.{moved}
use Rattle.uc_certify.specs.Joining.{Joins, IsRightEnd, Names, AreSides, of_axiom, of_overlap, IsRightJoin}
use Rattle.uc_certify.specs.Expecting.{AreExpected}
use Rattle.uc_certify.specs.Certifying.{AreSameSymbols, AreDerivedBefore, AreTested, all_joined, is_right, IsCertified, by_joins}
use Rattle.uc_certify.specs.Gathering.{IsKnownMember}
use Rattle.uc_certify.specs.Making.{IsMade, IsFoundJoined, AllAreFoundJoined, NamesIt, IsMadeFor, AreMadeFor, AreAllMade}
use Rattle.uc_certify.proofs.MadeMoves.{moves_made, least_over, all_over}
use Rattle.uc_certify.proofs.MadeEnds.{answered, end_right}

abbrev Any : ℕ → Type 0
Any x = Unit {0}

module _ (m : Meaning) (laws : Laws m) (facts axioms : List Equation) (over : AreOfSignature (HasSym m) m.arity facts) (axioms_over : AreOfSignature (HasSym m) m.arity axioms) where
  abbrev Over : Tree → Type 0
  Over = IsTerm (HasSym m) m.arity

  normal_end_over : (t : Tree) (n : Normal) → IsNormalOf m.greater m.least (numbered facts) 4096 t n → Over t → Over n.term
  normal_end_over t n i o = (normal_over (HasSym m) m.arity Any m.greater m.least (least_over m laws facts over m.greater Any) (numbered facts) (all_over m laws facts over m.greater Any) 4096 t n.term n.chain.steps n.stop i.normalises o).1

  join_right : (l r : Tree) (join : Join) → IsMade m (numbered facts) l r join → Over l → Over r → Joins m facts l r join
  join_right l r join made lo ro =
      let f = made.found in
      let left = moves_made m laws facts over m.greater Any 4096 l f.left.term f.left.chain.steps f.left.stop join.left f.left_is.normalises made.left_moves lo in
      let right = moves_made m laws facts over m.greater Any 4096 r f.right.term f.right.chain.steps f.right.stop join.right f.right_is.normalises made.right_moves ro in
      let end = end_right m laws facts over f.left.term f.right.term (normal_end_over l f.left f.left_is lo) (normal_end_over r f.right f.right_is ro) f.why join.end (answered m (numbered facts) f.left.term f.right.term (Joined f.why) f.why f.answer_is refl) made.end in
      record {
        left_moves = left.0;
        right_moves = right.0;
        ends = subst (λ (u : Tree). IsRightEnd m facts u (moved r join.right) join.end) (sym left.1) (subst (λ (u : Tree). IsRightEnd m facts f.left.term u join.end) (sym right.1) end);
      }

  pub sides_over : (x : Member) (l r : Tree) → AreSides facts axioms x l r → Over l × Over r
  sides_over _ _ _ (of_axiom {k = k} {e = e} at) = axioms_over k e at
  sides_over _ _ _ (of_overlap {formed = formed} {a = a} {b = b} {left = l} {right = r} {chain = chain} at bt pair) =
      let p = pair_over m a b formed.overlap (Pair l r chain) (over formed.overlap.outer a at) (over formed.overlap.inner b bt) pair in
      (p.0, p.1)

  pub right_join : (x : Member) (join : Join) → IsMadeFor m facts axioms x join → IsRightJoin m facts axioms x join
  right_join x join made =
      let o = sides_over x made.left made.right made.sides in
      record { names = made.names; left = made.left; right = made.right; sides = made.sides; joins = join_right made.left made.right join made.made o.0 o.1 }

  pub all_tested : (members : List Member) (joins : List Join) (n : ℕ) → AreMadeFor m facts axioms members joins → Each (IsFoundJoined m facts axioms) members → AreTested m facts axioms members joins n Yes
  all_tested [] [] n made found = all_joined
  all_tested [] (j ∷ js) n made found = absurd made
  all_tested (x ∷ xs) [] n made found = absurd made
  all_tested (x ∷ xs) (j ∷ js) n made found = is_right found.0.small (right_join x j made.0) (all_tested xs js (n + 1) made.1 found.1)

  -- so the certificate passes all tests
  pub certified_made : (spec : OrderSpec) (lines : List Line) (numbers : List ℕ) (joins : List Join) → AreAllMade m facts axioms joins → AllAreFoundJoined m facts axioms → (clauses : List Sourced) (encoded : Encoded) → encoded.axioms ≡ axioms → AreSameSymbols (precedence_of spec) encoded.signature.symbols → AreRightBefore clauses encoded.fresh lines (length lines) → AreDerivedBefore numbers lines facts (length facts) → IsCertified m clauses encoded (record { text = record { spec = spec; system = record { facts = facts } }; lines = record { lines = lines }; facts = numbers; joins = joins }) Yes
  certified_made spec lines numbers joins made found clauses encoded ax same right derived =
      by_joins same right derived (subst (λ (es : List Equation). AreExpected m.greater facts es made.members) (sym ax) made.are_expected)
      (subst (λ (es : List Equation). AreTested m facts es made.members joins 0 Yes) (sym ax) (all_tested made.members joins 0 made.made (found made.members made.are_expected)))

-- what two clauses say of one result
pub both_ok : {A E : Type 0} (r : Result A E) (P Q R : A → Type 0) → ((x : A) → P x → Q x → R x) → IfOk r P → IfOk r Q → IfOk r R
both_ok (Ok x) P Q R h p q = h x p q
both_ok (Err e) P Q R h p q = tt

pub get_is : {A : Type 0} (xs : List A) (n : ℕ) (x d : A) → slice_get xs n ≡ Some x → get_or xs n d ≡ x
get_is [] n x d e = absurd cc
get_is (y ∷ ys) zero x d e = let q : Some y ≡ Some x = e in cc
get_is (y ∷ ys) (suc n) x d e = get_is ys n x d e

-- the joins, one by one
module _ (m : Meaning) (facts axioms : List Equation) where
  pub record Joining (members : List Member) (i : ℕ) (joins : List Join) : Type 0 where
    pub done : (more : List Join) → AreMadeFor m facts axioms (drop i members) more → AreMadeFor m facts axioms members (joins ++ more)
    pub known : Each (IsKnownMember facts axioms) (drop i members)
    pub found : Each (IsFoundJoined m facts axioms) (drop i members)

  pub joining_begins : (members : List Member) (joins : List Join) → Each (IsKnownMember facts axioms) members → Each (IsFoundJoined m facts axioms) members → joins ≡ [] → Joining members 0 joins
  joining_begins members joins k f e = record { done = λ more h. subst (λ (js : List Join). AreMadeFor m facts axioms members (js ++ more)) (sym e) h; known = k; found = f }

  module _ (members : List Member) (i : ℕ) (x : Member) (joins : List Join) (w : Joining members i joins) (at : drop i members ≡ x ∷ drop (i + 1) members) where
    pub known_here : IsKnownMember facts axioms x
    known_here = (subst (Each (IsKnownMember facts axioms)) at w.known).0

    pub found_here : IsFoundJoined m facts axioms x
    found_here = (subst (Each (IsFoundJoined m facts axioms)) at w.found).0

    pub joining_on : (join : Join) (next : List Join) → IsMadeFor m facts axioms x join → next ≡ joins ++ join ∷ [] → Joining members (i + 1) next
    joining_on join next h e = record {
      done = λ more k.
          subst (AreMadeFor m facts axioms members) (sym (ap (λ l. l ++ more) e ∙ append_assoc joins (join ∷ []) more))
          (w.done (join ∷ more) (subst (λ (xs : List Member). AreMadeFor m facts axioms xs (join ∷ more)) (sym at) (h, k)));
      known = (subst (Each (IsKnownMember facts axioms)) at w.known).1;
      found = (subst (Each (IsFoundJoined m facts axioms)) at w.found).1;
    }

  pub joining_ends : (members : List Member) (i : ℕ) (joins : List Join) → Joining members i joins → drop i members ≡ [] → AreMadeFor m facts axioms members joins
  joining_ends members i joins w e = subst (AreMadeFor m facts axioms members) (append-nil joins) (w.done [] (subst (λ (xs : List Member). AreMadeFor m facts axioms xs []) (sym e) tt))

  -- what names the overlap names the member
  pub names_overlap : (formed : Formed) (fact : Equation) (what : What) → slice_get facts formed.overlap.outer ≡ Some fact → NamesIt formed.overlap fact what → Names facts (member.Overlap formed) what
  names_overlap formed fact (Axiom number) at n = absurd n
  names_overlap formed fact (Overlap outer outer_side inner inner_side path) at n = record { outer_is = n.0; outer_side_is = n.1; inner_is = n.2; inner_side_is = n.3; fact = fact; fact_is = at; path_is = n.4 }
