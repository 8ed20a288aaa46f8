-- What is left of a comparison, from one level to the next.
use Rattle.std.proofs.Common.{◌↔◌, ℕ, ◌≤◌, IsTrue, true, false, refl, List, arith}
use Rattle.uc_term.specs.Flat.{tree_of}
use Rattle.uc_order.specs.VarOrders.{Classes, representative, IsHigher}
use Rattle.uc_lpo.specs.declared.compare.Rest.{Rest}
use Rattle.uc_lpo.specs.declared.compare.Rest.TheVariants.{Known, Pair}
use Rattle.uc_lpo.specs.PathOrder.{PathOrder}
use Rattle.uc_lpo.specs.Ranks.{rank_of}
use Rattle.uc_lpo.specs.Shown.{shown}
use Rattle.uc_lpo.specs.Rests.{Says, IsWithin, Goes}

never : IsTrue false → ⊥
never h = cc

pub within_more : (rest : Rest) (m n : ℕ) → m ≤ n → IsWithin m rest → IsWithin n rest
within_more (Known b) m n h w = tt
within_more (Pair s t) m n h w = (w.0, w.1, w.2, w.3, w.4, w.5, omega (arith, w.6, h))

module _ (ranks : List ℕ) (classes : Classes) where
  pub says_map : (rest : Rest) (P Q : Type 0) → P ↔ Q → Says ranks classes rest P → Says ranks classes rest Q
  says_map (Known b) P Q e a = (λ p. e.0 (a.0 p), λ q. a.1 (e.1 q))
  says_map (Pair s t) P Q e a = (λ p. e.0 (a.0 p), λ q. a.1 (e.1 q))

  -- where no later argument reaches, and all are exceeded, the first arguments that differ decide
  pub goes_on : (first : Rest) (R E : Type 0) → (R → ⊥) → E → Goes ranks classes first first R E
  goes_on (Known true) R E n e = (λ _. e, λ _. refl)
  goes_on (Known false) R E n e = (λ h. absurd (never h), λ r. absurd (n r))
  goes_on (Pair s t) R E n e = (n, e, (λ l. l, λ l. l))

  -- V: the first arguments that differ are greater; R, E: as in `Goes`; G: the terms are greater
  pub joined : (first rest : Rest) (V R E G : Type 0) → Says ranks classes first V → Goes ranks classes first rest R E → (V → E ↔ G) → ((V → ⊥) → R ↔ G) → (R → G) → (G → E) → ((R → ⊥) → E → V ↔ G) → Says ranks classes rest G
  joined (Known true) rest V R E G a g over under reached exceeded turned = says_map rest E G (over (a.0 refl)) g
  joined (Known false) rest V R E G a g over under reached exceeded turned = says_map rest R G (under (λ v. never (a.1 v))) g
  joined (Pair s t) (Known true) V R E G a g over under reached exceeded turned = (λ _. reached g, λ _. refl)
  joined (Pair s t) (Known false) V R E G a g over under reached exceeded turned = (λ h. absurd (never h), λ q. absurd (g.1 (exceeded q)))
  joined (Pair s t) (Pair u v) V R E G a g over under reached exceeded turned =
      let W : Type 0 = PathOrder (rank_of ranks) (IsHigher classes) (shown (representative classes) (tree_of s.now)) (shown (representative classes) (tree_of t.now)) in
      let b = turned g.0 g.1 in
      says_map (Pair u v) W G (λ w. b.0 (a.0 w), λ q. a.1 (b.1 q)) g.2
