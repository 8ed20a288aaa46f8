-- How a pair is formed.
use Rattle.std.proofs.Common.{◌≡◌, ℕ, ◌+◌, List, Bool, [], ◌∷◌, ◌++◌, Option, Some, None, refl, sym, ap, ◌∙◌, subst, arith, append_assoc, append-nil, ◌⊎◌, inl, inr}
use Rattle.uc_term.specs.Tree.{Tree, var, apply, put}
use Rattle.uc_term.specs.Variables.{variables, firsts, firsts_after, place_of, renumbered_by}
use Rattle.uc_term.proofs.Firsts.{firsts-append}
use Rattle.uc_fact.specs.declared.fact.Overlap.{Overlap}
use Rattle.uc_fact.specs.declared.chain.Step.{Step}
use Rattle.uc_fact.specs.declared.chain.By.TheVariants.{Fact}
use Rattle.uc_pair.specs.declared.formation.Formation.{Formation}
use Rattle.uc_pair.specs.declared.formation.Formation.TheVariants.{Pair, TooLarge}
use Rattle.uc_pair.specs.declared.instances.RenamedApart.{RenamedApart}
use Rattle.uc_pair.specs.declared.instances.Placed.{Placed}
use Rattle.uc_pair.specs.Numbering.{placed_by}
use Rattle.uc_pair.specs.Overlapping.{IsLarge, IsSmall}
use Rattle.uc_pair.specs.Judging.{IsReplacedBy, IsReplaced}
use Rattle.uc_pair.specs.Pairs.{names_of, is_left, is_right, chain_by, IsNumbered}
use Rattle.uc_pair.specs.Forming.{IsPairByTerms, IsNumberedPair}
use Rattle.uc_pair.proofs.Renaming.{same_everywhere}

no_offset : (names : List ℕ) (t : Tree) → placed_by names 0 t ≡ renumbered_by names t
no_offset names t = same_everywhere (λ x. var (place_of names x + 0)) (λ x. var (place_of names x)) t (λ x. ap var (omega arith))

-- three terms numbered one after another
module _ (l r top : Tree) (empty first second names : List ℕ) (e : empty ≡ []) (f : first ≡ empty ++ firsts_after empty (variables l)) (s : second ≡ first ++ firsts_after first (variables r)) (n : names ≡ second ++ firsts_after second (variables top)) where
  first_is : first ≡ firsts (variables l)
  first_is = f ∙ ap (λ x. x ++ firsts_after x (variables l)) e

  second_is : second ≡ firsts (variables l ++ variables r)
  second_is = s ∙ ap (λ x. x ++ firsts_after x (variables r)) first_is ∙ sym (firsts-append (variables l) (variables r))

  pub names_are : names ≡ names_of l r top
  names_are = n ∙ ap (λ x. x ++ firsts_after x (variables top)) second_is ∙ sym (firsts-append (variables l ++ variables r) (variables top)) ∙ ap firsts (append_assoc (variables l) (variables r) (variables top))

  pub left_numbered : (t : Tree) → ((rest : List ℕ) → t ≡ placed_by (first ++ rest) 0 l) → t ≡ renumbered_by (names_of l r top) l
  left_numbered t h =
      let all : first ++ (firsts_after first (variables r) ++ firsts_after second (variables top)) ≡ names = sym (append_assoc first (firsts_after first (variables r)) (firsts_after second (variables top))) ∙ ap (λ x. x ++ firsts_after second (variables top)) (sym s) ∙ sym n in
      h (firsts_after first (variables r) ++ firsts_after second (variables top)) ∙ ap (λ x. placed_by x 0 l) (all ∙ names_are) ∙ no_offset (names_of l r top) l

  pub right_numbered : (t : Tree) → ((rest : List ℕ) → t ≡ placed_by (second ++ rest) 0 r) → t ≡ renumbered_by (names_of l r top) r
  right_numbered t h = h (firsts_after second (variables top)) ∙ ap (λ x. placed_by x 0 r) (sym n ∙ names_are) ∙ no_offset (names_of l r top) r

  pub top_numbered : (t : Tree) → ((rest : List ℕ) → t ≡ placed_by (names ++ rest) 0 top) → t ≡ renumbered_by (names_of l r top) top
  top_numbered t h = h [] ∙ ap (λ x. placed_by x 0 top) (append-nil names ∙ names_are) ∙ no_offset (names_of l r top) top

-- the two steps
pub two_steps : (overlap : Overlap) (there : ℕ) (left right start top to copy : Tree) (x y : Bool) (nothing a b steps : List Step) → nothing ≡ [] → a ≡ nothing ++ record { by = Fact overlap.outer; left_to_right = x; position = record { 0 = 0 }; to = top } ∷ [] → b ≡ a ++ record { by = Fact overlap.inner; left_to_right = y; position = record { 0 = there }; to = copy } ∷ [] → steps ≡ b → x ≡ is_right overlap.outer_side → y ≡ is_left overlap.inner_side → copy ≡ right → top ≡ to → start ≡ left → record { start = start; steps = steps } ≡ chain_by overlap there left to right
two_steps overlap there left right start top to copy x y nothing a b steps n ea eb es ex ey ec et el =
    let list = es ∙ eb ∙ ap (λ l. l ++ record { by = Fact overlap.inner; left_to_right = y; position = record { 0 = there }; to = copy } ∷ []) (ea ∙ ap (λ l. l ++ record { by = Fact overlap.outer; left_to_right = x; position = record { 0 = 0 }; to = top } ∷ []) n) in
    rw (← ex, ← ey, ← ec, ← et, ← el) (ap (λ l. record { start = start; steps = l }) list)

-- the answers of the call that makes a pair
pub right_gone : (σ : ℕ → Tree) (t l v : Tree) (place : ℕ) (found : Option Placed) → ((p : Placed) → found ≡ Some p → ⊥) → IsReplaced σ t place v found → IsLarge (apply σ t) ⊎ (IsLarge (apply σ l) ⊎ IsLarge (apply σ (put t place v)))
right_gone σ t l v place None n (inl a) = inl a
right_gone σ t l v place None n (inr b) = inr (inr b)
right_gone σ t l v place (Some p) n r = absurd (n p refl)

pub pair_from : (overlap : Overlap) (terms : RenamedApart) (σ : ℕ → Tree) (top l : Tree) (placed : Placed) → top ≡ apply σ terms.outer_from → l ≡ apply σ terms.outer_to → IsSmall (apply σ terms.outer_to) → IsReplacedBy σ terms.outer_from overlap.position.0 terms.inner_to placed → (formation : Formation) → IsNumberedPair overlap top l placed.term placed.there.0 formation → IsPairByTerms overlap terms σ formation
pair_from overlap terms σ top l placed et el small r TooLarge n = absurd n
pair_from overlap terms σ top l placed et el small r (Pair left right chain) n = record {
  top_small = r.whole_small;
  left_small = small;
  right_small = r.small;
  path = r.path;
  there = placed.there.0;
  path_is = r.path_is;
  there_is = r.there_is;
  numbered = subst (λ x. IsNumbered overlap x (apply σ terms.outer_to) (apply σ (put terms.outer_from overlap.position.0 terms.inner_to)) placed.there.0 left right chain) et
      (subst (λ y. IsNumbered overlap top y (apply σ (put terms.outer_from overlap.position.0 terms.inner_to)) placed.there.0 left right chain) el
      (subst (λ z. IsNumbered overlap top l z placed.there.0 left right chain) r.term_is n));
}
