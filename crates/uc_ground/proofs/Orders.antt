-- The first of the orders of some variables.
use Rattle.std.proofs.Common.{◌≡◌, ◌<◌, ℕ, List, [], ◌∷◌, length, drop, refl, sym, ap, ◌∙◌, subst, arith}
use Rattle.uc_order.specs.Members.{In, in_front, Each}
use Rattle.uc_order.specs.VarOrders.{Classes, placed, grown, orders_of}
use Rattle.uc_ground.specs.Orders.{alone_before, first_of, others_of}
use Rattle.uc_ground.proofs.Tried.{all_members}

-- with this element in front
record Begins {A : Type 0} (x : A) (xs : List A) : Type 0 where
  rest : List A
  is : xs ≡ x ∷ rest

placed_first : (v : ℕ) (o : Classes) → Begins ((v ∷ []) ∷ o) (placed v o)
placed_first v [] = record { rest = []; is = refl }
placed_first v (c ∷ cs) = record { rest = _; is = refl }

grown_first : (o : Classes) (os : List Classes) (vs : List ℕ) → Begins (alone_before o vs) (grown (o ∷ os) vs)
grown_first o os [] = record { rest = os; is = refl }
grown_first o os (v ∷ vs) = rw (placed_first v o).is (grown_first ((v ∷ []) ∷ o) _ vs)

begins : (vars : List ℕ) → Begins (first_of vars) (orders_of vars)
begins vars = grown_first [] [] vars

pub split : (vars : List ℕ) → orders_of vars ≡ first_of vars ∷ others_of vars
split vars = let b = begins vars in b.is ∙ ap (λ l. first_of vars ∷ l) (sym (ap (drop 1) b.is))

pub some_order : (vars : List ℕ) → 0 < length (orders_of vars)
some_order vars = omega (arith, ap length (split vars))

pub first_is_in : (vars : List ℕ) → In (orders_of vars) (first_of vars)
first_is_in vars = subst (λ l. In l (first_of vars)) (sym (split vars)) in_front

pub others_are_in : (vars : List ℕ) → Each (In (orders_of vars)) (others_of vars)
others_are_in vars = (subst (Each (In (orders_of vars))) (split vars) (all_members (orders_of vars))).1
