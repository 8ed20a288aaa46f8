-- A pair whose variables are numbered is joinable exactly if the overlap's pair is.
use Rattle.std.proofs.Common.{◌≡◌, ℕ, suc, ◌+◌, ◌==◌, ◌||◌, Bool, true, false, List, [], ◌∷◌, ◌++◌, get_or, if◌then◌else◌, refl, sym, ap, ◌∙◌, subst, ◌⊎◌, inl, inr, arith}
use Rattle.std.proofs.lemmas.Bool.{eqb-true}
use Rattle.uc_term.specs.declared.equation.Equation.{Equation}
use Rattle.uc_term.specs.Tree.{Tree, var, apply}
use Rattle.uc_term.specs.Variables.{Occurs, variables, is_among, place_of, renumbered_by}
use Rattle.uc_term.proofs.Terms.{apply-apply}
use Rattle.uc_term.proofs.Agree.{same_if}
use Rattle.uc_term.proofs.Firsts.{is_among-append}
use Rattle.uc_order.specs.Laws.{Meaning, IsGroundOf}
use Rattle.uc_fact.specs.declared.fact.Overlap.{Overlap}
use Rattle.uc_fact.specs.declared.chain.Chain.{Chain}
use Rattle.uc_fact.specs.Live.{Live}
use Rattle.uc_fact.proofs.Occurring.{among, either}
use Rattle.uc_rewrite.proofs.Completing.{among_firsts}
use Rattle.uc_pair.specs.declared.formation.Formation.TheVariants.{Pair}
use Rattle.uc_pair.specs.Overlapping.{peak, left_of, right_of}
use Rattle.uc_pair.specs.Pairs.{names_of, forms_pair, IsPairOf}
use Rattle.uc_decide.specs.Converging.{AreJoinable, IsJoinableOverlap}

-- the name at a name's place
name_there : (xs : List ℕ) (x : ℕ) → is_among x xs ≡ true → get_or xs (place_of xs x) 0 ≡ x
name_there [] x h = absurd cc
name_there (y ∷ ys) x h = go (x == y) refl (either (x == y) (is_among x ys) h) (name_there ys x)
  where
    go : (b : Bool) → (x == y) ≡ b → ((x == y) ≡ true) ⊎ (is_among x ys ≡ true) → (is_among x ys ≡ true → get_or ys (place_of ys x) 0 ≡ x) → get_or (y ∷ ys) (if b then 0 else place_of ys x + 1) 0 ≡ x
    go true e s rest = sym (eqb-true x y e)
    go false e (inl s) rest = absurd cc
    go false e (inr s) rest = let q : place_of ys x + 1 ≡ suc (place_of ys x) = omega arith in rw q (rest s)

left_among : (a b : Bool) → a ≡ true → (a || b) ≡ true
left_among true b e = refl
left_among false b e = absurd cc

right_among : (a b : Bool) → b ≡ true → (a || b) ≡ true
right_among true b e = refl
right_among false b e = e

-- the variables of both sides have names
module _ (l r top : Tree) where
  name_of : (x : ℕ) → is_among x (variables l ++ (variables r ++ variables top)) ≡ true → get_or (names_of l r top) (place_of (names_of l r top) x) 0 ≡ x
  name_of x h = name_there (names_of l r top) x (among_firsts [] (variables l ++ (variables r ++ variables top)) x h refl)

  of_left : (x : ℕ) → Occurs x l → is_among x (variables l ++ (variables r ++ variables top)) ≡ true
  of_left x o = is_among-append x (variables l) (variables r ++ variables top) ∙ left_among (is_among x (variables l)) (is_among x (variables r ++ variables top)) (among x l o)

  of_right : (x : ℕ) → Occurs x r → is_among x (variables l ++ (variables r ++ variables top)) ≡ true
  of_right x o =
      is_among-append x (variables l) (variables r ++ variables top)
      ∙ right_among (is_among x (variables l)) (is_among x (variables r ++ variables top)) (is_among-append x (variables r) (variables top) ∙ left_among (is_among x (variables r)) (is_among x (variables top)) (among x r o))

  -- so an instance of a side is one of the side with its variables numbered
  module _ (σ : ℕ → Tree) where
    abbrev named : ℕ → Tree
    named y = σ (get_or (names_of l r top) y 0)

    instance_numbered : (t : Tree) → ((x : ℕ) → Occurs x t → is_among x (variables l ++ (variables r ++ variables top)) ≡ true) → apply named (renumbered_by (names_of l r top) t) ≡ apply σ t
    instance_numbered t h = apply-apply named (λ x. var (place_of (names_of l r top) x)) t ∙ same_if (λ x. named (place_of (names_of l r top) x)) σ t (λ x o. ap σ (name_of x (h x o)))

module _ (m : Meaning) (live : List Live) where
  back : (l r top left right : Tree) → left ≡ renumbered_by (names_of l r top) l → right ≡ renumbered_by (names_of l r top) r → AreJoinable m live left right → AreJoinable m live l r
  back l r top left right left_is right_is j σ gl gr =
      let τ = named l r top σ in
      let el : apply τ left ≡ apply σ l = ap (apply τ) left_is ∙ instance_numbered l r top σ l (of_left l r top) in
      let er : apply τ right ≡ apply σ r = ap (apply τ) right_is ∙ instance_numbered l r top σ r (of_right l r top) in
      rw (← el, ← er) (j τ (subst (IsGroundOf m) (sym el) gl) (subst (IsGroundOf m) (sym er) gr))

  pub pair_joins : (a b : Equation) (overlap : Overlap) (left right : Tree) (chain : Chain) → IsPairOf a b overlap (Pair left right chain) → AreJoinable m live left right → IsJoinableOverlap m live a b overlap
  pair_joins a b overlap left right chain (forms_pair o fits p) j = record { overlaps = o; joinable = back (left_of o) (right_of o) (peak o) left right p.numbered.left_is p.numbered.right_is j }
