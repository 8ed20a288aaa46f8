-- What replies say of the axioms, where a system decides what follows from them.
use Rattle.std.proofs.Common.{◌≡◌, ℕ, List, refl, sym, ap, ap₂, subst, ◌⊎◌, inl, inr}
use Rattle.uc_term.specs.declared.node.Sym.{Sym}
use Rattle.uc_term.specs.declared.equation.Equation.{Equation}
use Rattle.uc_term.specs.Tree.{Tree, var, app, Trees, none, more, apply, apply_all}
use Rattle.uc_term.specs.Over.{IsGround, AreGround}
use Rattle.uc_term.specs.Conversion.{Conv, SomeFollows}
use Rattle.uc_term.specs.Within.{stay}
use Rattle.uc_term.proofs.Conversion.{Conv-sym, Conv-trans}
use Rattle.uc_fact.specs.Ordered.{IsIrreducible}
use Rattle.uc_order.specs.Laws.{Meaning, Laws, HasSym, IsGroundOf}
use Rattle.uc_decide.specs.declared.reply.Reply.{Reply}
use Rattle.uc_decide.specs.declared.reply.Reply.TheVariants.{Equal, Different, Spent, Grown}
use Rattle.uc_decide.specs.NormalForms.{HasNormalForm}
use Rattle.uc_decide.specs.Deciding.{Decides, IsLeastOf, AreAllApart}
use Rattle.uc_decide.specs.Asking.{HasNormalForms, IsRight, IsVerdict}
use Rattle.uc_decide.proofs.Ordered.{normal_if}
use Rattle.uc_decide.proofs.GroundSteps.{normal_ground, normal_itself}

-- an instance of a ground term is the term
module _ (has : Sym → Type 0) (arity : Sym → ℕ) (σ : ℕ → Tree) where
  mutual
    apply-ground : (t : Tree) → IsGround has arity t → apply σ t ≡ t
    apply-ground (var x) g = absurd g
    apply-ground (app f ts) g = ap (app f) (apply_all-ground ts g.2)

    apply_all-ground : (ts : Trees) → AreGround has arity ts → apply_all σ ts ≡ ts
    apply_all-ground none g = refl
    apply_all-ground (more t ts) g = ap₂ more (apply-ground t g.0) (apply_all-ground ts g.1)

module _ (m : Meaning) (es axioms : List Equation) (d : Decides m es axioms) where
  -- a normal form is the least of its class
  pub least_of : (u n : Tree) → IsGroundOf m u → HasNormalForm m es u n → IsLeastOf m axioms u n
  least_of u n g f =
      let gn = normal_ground m es f g in
      record {
        ground = gn;
        equal = (d.shared u n n n g gn f (normal_itself m es f)).0 refl;
        least = λ v h c. d.least u v n g h f c;
      }

  pub right : (s t : Tree) (reply : Reply) → IsGroundOf m s → IsGroundOf m t → HasNormalForms m es s t reply → IsRight m axioms s t reply
  right s t (Equal n) gs gt h = ((d.shared s t n n gs gt h.0 h.1).0 refl, least_of s n gs h.0, least_of t n gt h.1)
  right s t (Different l r) gs gt h = ((λ c. h.2 ((d.shared s t l r gs gt h.0 h.1).1 c)), least_of s l gs h.0, least_of t r gt h.1)
  right s t (Spent n) gs gt h = tt
  right s t Grown gs gt h = tt

module _ (m : Meaning) (laws : Laws m) (es axioms : List Equation) (d : Decides m es axioms) where
  stays : (n : Tree) → IsIrreducible m.greater m.least es n → HasNormalForm m es n n
  stays n h = record { leads = stay; ends = normal_if m laws es n h }

  -- an instance of a ground goal is the goal
  pub no_goal : (goals : List Equation) → AreAllApart m es axioms goals → SomeFollows axioms goals → ⊥
  no_goal goals all s =
      let a = all s.number s.goal s.goal_is in
      let e = apply-ground (HasSym m) m.arity s.follows.σ s.goal.left a.s_ground in
      let q = apply-ground (HasSym m) m.arity s.follows.σ s.goal.right a.t_ground in
      let c : Conv axioms s.goal.left s.goal.right = subst (λ (z : Tree). Conv axioms s.goal.left z) q (subst (λ (z : Tree). Conv axioms z (apply s.follows.σ s.goal.right)) e s.follows.conversion) in
      let between : Conv axioms a.left a.right = Conv-trans axioms (Conv-sym axioms a.left_equal) (Conv-trans axioms c a.right_equal) in
      a.differ ((d.shared a.left a.right a.left a.right a.left_ground a.right_ground (stays a.left a.left_stays) (stays a.right a.right_stays)).1 between)

module _ (m : Meaning) (laws : Laws m) (axioms : List Equation) where
  one_least : (u n k : Tree) → IsLeastOf m axioms u n → IsLeastOf m axioms u k → n ≡ k
  one_least u n k a b = go (a.least k b.ground b.equal) (b.least n a.ground a.equal)
    where
      go : (n ≡ k) ⊎ m.greater k n → (k ≡ n) ⊎ m.greater n k → n ≡ k
      go (inl e) h = e
      go (inr g) (inl e) = sym e
      go (inr g) (inr h) = absurd (laws.irreflexive n (laws.transitive n k n h g))

  pub one_verdict : (s t : Tree) (x y : Reply) → IsRight m axioms s t x → IsRight m axioms s t y → IsVerdict x → IsVerdict y → x ≡ y
  one_verdict s t (Equal n) (Equal k) a b v w = ap Equal (one_least s n k a.1 b.1)
  one_verdict s t (Equal n) (Different l r) a b v w = absurd (b.0 a.0)
  one_verdict s t (Equal n) (Spent k) a b v w = absurd w
  one_verdict s t (Equal n) Grown a b v w = absurd w
  one_verdict s t (Different l r) (Equal n) a b v w = absurd (a.0 b.0)
  one_verdict s t (Different l r) (Different k q) a b v w = ap₂ Different (one_least s l k a.1 b.1) (one_least t r q a.2 b.2)
  one_verdict s t (Different l r) (Spent k) a b v w = absurd w
  one_verdict s t (Different l r) Grown a b v w = absurd w
  one_verdict s t (Spent n) y a b v w = absurd v
  one_verdict s t Grown y a b v w = absurd v
