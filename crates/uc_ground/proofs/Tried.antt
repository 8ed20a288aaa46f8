-- The orders of the variables of two terms, one after another.
use Rattle.std.proofs.Common.{ℕ, List, [], ◌∷◌, inl, inr}
use Rattle.uc_term.specs.Tree.{Tree}
use Rattle.uc_order.specs.Members.{In, in_front, in_rest, Each}
use Rattle.uc_order.specs.VarOrders.{Classes, HasOnly, orders_of}
use Rattle.uc_order.proofs.Exactly.{has_all}
use Rattle.uc_ground.specs.Joining.{AreVariables}

each_rest : (P : Classes → Type 0) (c : Classes) (xs : List Classes) → Each (In xs) xs → Each (In (c ∷ xs)) xs
each_rest P c xs e = go xs e
  where
    go : (ys : List Classes) → Each (In xs) ys → Each (In (c ∷ xs)) ys
    go [] e = tt
    go (y ∷ ys) e = (in_rest e.0, go ys e.1)

pub all_members : (xs : List Classes) → Each (In xs) xs
all_members [] = tt
all_members (x ∷ xs) = (in_front, each_rest (In xs) x xs (all_members xs))

module _ (s t : Tree) (vars : List ℕ) (v : AreVariables s t vars) (cases : Classes) (i : In (orders_of vars) cases) where
  pub known_left : HasOnly cases s
  known_left x o = has_all vars x ((v.each x).1 (inl o)) cases i

  pub known_right : HasOnly cases t
  known_right x o = has_all vars x ((v.each x).1 (inr o)) cases i
