-- What follows from the answer of the tests of two ends, and that it is one.
use Rattle.std.proofs.Common.{◌≡◌, ℕ, suc, ◌==◌, Bool, true, false, List, [], ◌∷◌, Some, None, if◌then◌else◌}
use Rattle.uc_term.specs.declared.node.Sym.{Sym}
use Rattle.uc_term.specs.declared.equation.Equation.{Equation}
use Rattle.uc_term.specs.Tree.{Tree}
use Rattle.uc_order.specs.Laws.{Meaning, Laws, HasSym}
use Rattle.uc_order.specs.Members.{In, in_front, in_rest, Each}
use Rattle.uc_fact.specs.Live.{Live, fact_at, equations_of}
use Rattle.uc_fact.specs.Ground.{AreOfSignature, IsJoinable}
use Rattle.uc_fact.specs.declared.ac_facts.AcFacts.{AcFacts}
use Rattle.uc_fact.specs.declared.joinable.Joinable.{Joinable}
use Rattle.uc_fact.specs.declared.joinable.Joinable.TheVariants.{Joined}
use Rattle.uc_fact.specs.declared.joinable.Reason.TheVariants.{Ac}
use Rattle.uc_ground.specs.Joining.{IsJoined}
use Rattle.uc_ground.proofs.Joins.{joins}
use Rattle.uc_ground.proofs.Unique.{one_answer as one_ground}
use Rattle.uc_ac.specs.AcLaw.{IsLaw}
use Rattle.uc_ac.specs.declared.ac_law.AcLaw.{AcLaw}
use Rattle.uc_ac.specs.AcEqual.{AcEqual}
use Rattle.uc_ac.specs.AcFacts.{IsFactThat, AreAcFacts, symbols_of}
use Rattle.uc_ac.specs.Joining.{AreLeastFacts, IsAcAnswer, has_facts}
use Rattle.uc_ac.specs.Ends.{IsEndsAnswer, equal_by_facts, not_equal_so}
use Rattle.uc_ac.proofs.Reordering.{Each-map}
use Rattle.uc_ac.proofs.Exchanging.{HasOneThat, HasAcFacts}
use Rattle.uc_ac.proofs.Joins.{ac_joinable}
use Rattle.uc_ac.proofs.Answered.{are_facts, one_answer}

-- a fact that lives is one of the equations
is_there : (Is : Equation → Type 0) (live : List Live) (k : ℕ) (e : Equation) → fact_at live k ≡ Some e → Is e → HasOneThat (equations_of live) Is
is_there Is [] k e h i = absurd cc
is_there Is (f ∷ fs) k e h i = go (f.number == k) h (λ h. is_there Is fs k e h i)
  where
    go : (b : Bool) → (if b then Some f.equation else fact_at fs k) ≡ Some e → (fact_at fs k ≡ Some e → HasOneThat (equations_of fs) Is) → HasOneThat (equations_of (f ∷ fs)) Is
    go true h rest = (0, e, h, i)
    go false h rest = let r = rest h in (suc r.0, r.1, r.2, r.3)

module _ (live : List Live) where
  lives : (law : AcLaw) (f : Sym) (k : ℕ) → IsFactThat live law f k → HasOneThat (equations_of live) (IsLaw law f)
  lives law f k h = is_there (IsLaw law f) live k h.0 h.1 h.2

  -- each symbol of a list has its three facts among those that live
  pub live_facts : (list : List AcFacts) → Each (AreAcFacts live) list → (f : Sym) → In (symbols_of list) f → HasAcFacts (equations_of live) f
  live_facts [] e f i = elim i [ ]
  live_facts (facts ∷ list) e _ in_front = record {
    has_assoc = lives _ facts.symbol facts.assoc e.0.assoc_is;
    has_comm = lives _ facts.symbol facts.comm e.0.comm_is;
    has_extended = lives _ facts.symbol facts.extended e.0.extended_is;
  }
  live_facts (facts ∷ list) e f (in_rest i) = live_facts list e.1 f i

  module _ (m : Meaning) (laws : Laws m) (s t : Tree) where
    -- terms that are equal up to brackets and order are joinable by the facts that live
    pub equal_joins : (list : List AcFacts) → Each (AreAcFacts live) list → AcEqual (symbols_of list) s t → IsJoinable m.greater (HasSym m) m.arity (equations_of live) s t
    equal_joins list h e = ac_joinable m laws (equations_of live) (symbols_of list) (live_facts list h) s t e

    pub facts_join : (list : List AcFacts) → IsAcAnswer live s t (Some list) → IsJoinable m.greater (HasSym m) m.arity (equations_of live) s t
    facts_join _ (has_facts {facts = facts} {list = list} h e) = equal_joins (facts ∷ list) (Each-map (AreLeastFacts live) (AreAcFacts live) (facts ∷ list) (are_facts live) h.least) e

    -- an answer that the ends are joined is sure
    pub ends_join : AreOfSignature (HasSym m) m.arity (equations_of live) → (answer : Joinable) → IsEndsAnswer m live s t answer → IsJoined answer → IsJoinable m.greater (HasSym m) m.arity (equations_of live) s t
    ends_join over _ (equal_by_facts {list = list} a) j = facts_join list a
    ends_join over answer (not_equal_so n a) j = joins m laws live over s t answer a j

  -- the answer is one
  module _ (m : Meaning) (s t : Tree) where
    same_facts : (xs ys : List AcFacts) → IsAcAnswer live s t (Some xs) → IsAcAnswer live s t (Some ys) → Joined (Ac xs) ≡ Joined (Ac ys)
    same_facts xs ys a b = let e = one_answer live s t (Some xs) (Some ys) a b in cc

    not_both : {A : Type 0} (xs : List AcFacts) → IsAcAnswer live s t (Some xs) → IsAcAnswer live s t None → A
    not_both xs a n = let e = one_answer live s t (Some xs) None a n in absurd cc

    pub one_ends : (a b : Joinable) → IsEndsAnswer m live s t a → IsEndsAnswer m live s t b → a ≡ b
    one_ends _ _ (equal_by_facts {list = xs} a) (equal_by_facts {list = ys} b) = same_facts xs ys a b
    one_ends _ b (equal_by_facts {list = xs} h) (not_equal_so n k) = not_both xs h n
    one_ends a _ (not_equal_so n k) (equal_by_facts {list = ys} h) = not_both ys h n
    one_ends a b (not_equal_so n h) (not_equal_so k i) = one_ground m live s t a b h i
