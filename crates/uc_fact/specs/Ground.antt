-- Ground steps: replacement of equals by smaller ones in terms without variables; normal forms, and what is joinable
-- (Bachmair, Dershowitz and Plaisted, Completion without failure).
use Rattle.std.specs.Prelude.{ℕ, ◌≡◌, List, slice_get, Some}
use Rattle.uc_term.specs.declared.node.Sym.{Sym}
use Rattle.uc_term.specs.declared.equation.Equation.{Equation}
use Rattle.uc_term.specs.Tree.{Tree, apply}
use Rattle.uc_term.specs.Over.{IsTerm, IsGround}
use Rattle.uc_term.specs.Within.{Within, Steps, Joined}
use Rattle.uc_term.specs.Conversion.{Turn}

-- what is greater, and the symbols of the signature with their arities
module _ (Greater : Tree → Tree → Type 0) (has : Sym → Type 0) (arity : Sym → ℕ) where
  -- u and v are ground, over the signature; they are the two sides, in either order, of an instance of an equation, and u is
  -- greater
  pub record Down (es : List Equation) (u v : Tree) : Type 0 where
    pub turn : Turn es u v
    pub u_ground : IsGround has arity u
    pub v_ground : IsGround has arity v
    pub greater : Greater u v

  -- one subterm replaced so
  abbrev pub GStep : List Equation → Tree → Tree → Type 0
  GStep es = Within (Down es)

  -- no ground step leads on from the term
  abbrev pub IsNormal : List Equation → Tree → Type 0
  IsNormal es u = (v : Tree) → GStep es u v → ⊥

  -- a list of ground steps leads from u to n, and none leads on
  pub record IsNormalForm (es : List Equation) (u n : Tree) : Type 0 where
    pub leads : Steps (GStep es) u n
    pub ends : IsNormal es n

  -- for each substitution that makes both ground over the signature, lists of ground steps lead from both to one term
  abbrev pub IsJoinable : List Equation → Tree → Tree → Type 0
  IsJoinable es s t = (σ : ℕ → Tree) → IsGround has arity (apply σ s) → IsGround has arity (apply σ t) → Joined (GStep es) (apply σ s) (apply σ t)

-- both sides of each equation are terms over the signature
abbrev pub AreOfSignature : (Sym → Type 0) → (Sym → ℕ) → List Equation → Type 0
AreOfSignature has arity es = (number : ℕ) (e : Equation) → slice_get es number ≡ Some e → IsTerm has arity e.left × IsTerm has arity e.right
