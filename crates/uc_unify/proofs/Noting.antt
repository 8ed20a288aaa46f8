-- The first places of variables, place by place.
use Rattle.std.proofs.Common.{◌≡◌, ◌≢◌, ℕ, ◌+◌, ◌<◌, List, [], ◌∷◌, ◌++◌, length, sym, subst, arith, ◌⊎◌, inl, inr}
use Rattle.std.proofs.lemmas.List.{get_or_append_left}
use Rattle.std.proofs.Math.Seq.{get_or-append_seam}
use Rattle.uc_term.specs.declared.node.Node.{Node}
use Rattle.uc_unify.specs.Closure.{class, IsFirstPlace}
use Rattle.uc_unify.proofs.Linking.{same_or}

pub firsts_more : (ns : List Node) (firsts new : List ℕ) (p first : ℕ) → length firsts ≡ p → ((q : ℕ) → q < p → IsFirstPlace ns q (class firsts q)) → IsFirstPlace ns p first → new ≡ firsts ++ first ∷ [] → (q : ℕ) → q < p + 1 → IsFirstPlace ns q (class new q)
firsts_more ns firsts new p first long before here e q l = subst (λ (list : List ℕ). IsFirstPlace ns q (class list q)) (sym e) (go (same_or q p))
  where
    at_end : class (firsts ++ first ∷ []) p ≡ first
    at_end = subst (λ (r : ℕ). class (firsts ++ first ∷ []) r ≡ first) long (get_or-append_seam firsts first [] 0)

    go : (q ≡ p) ⊎ (q ≢ p) → IsFirstPlace ns q (class (firsts ++ first ∷ []) q)
    go (inl s) = subst (λ (r : ℕ). IsFirstPlace ns r (class (firsts ++ first ∷ []) r)) (sym s) (subst (IsFirstPlace ns p) (sym at_end) here)
    go (inr d) = subst (IsFirstPlace ns q) (sym (get_or_append_left firsts (first ∷ []) 0 q (subst (λ (n : ℕ). q < n) (sym long) less))) (before q less)
      where
        or : (q < p) ⊎ (q ≡ p) → q < p
        or (inl k) = k
        or (inr s) = absurd (d s)

        less : q < p
        less = or (grind arith)
