-- The overlaps of two facts, less those that are left out (Bachmair, Dershowitz and Plaisted, Completion without failure).
use Rattle.std.specs.Prelude.{ℕ, ◌≡◌, ◌↔◌, ◌+◌, ◌<◌, ◌≤◌, ◌⊎◌, ◌++◌, List, [], ◌∷◌}
use Rattle.uc_term.specs.declared.equation.Equation.{Equation}
use Rattle.uc_term.specs.declared.equation.Side.TheVariants.{Left, Right}
use Rattle.uc_term.specs.Tree.{Tree, nodes, subterm}
use Rattle.uc_term.specs.Variables.{Occurs, IsApp}
use Rattle.uc_fact.specs.Live.{Rule}
use Rattle.uc_order.specs.declared.order.Cmp.{Cmp}
use Rattle.uc_order.specs.declared.order.Cmp.TheVariants as ByCmp
use Rattle.uc_pair.specs.declared.formed.Size.{Size}
use Rattle.uc_pair.specs.declared.formed.Formed.{Formed}
use Rattle.uc_pair.specs.Overlapping.{Overlapping, IsApart, HasSize, IsLarge, IsSmall, peak, left_of, inner_from, inner_to, overlap_at, read_from}

-- the first rule comes before the second: facts are compared first, and Left comes before Right
pub data ComesBefore (r s : Rule) : Type 0 where
  by_number : r.number < s.number → ComesBefore r s
  by_side : r.number ≡ s.number → r.side ≡ Left → s.side ≡ Right → ComesBefore r s

-- they are one rule, whose other side has no variable that its side lacks
pub record IsCopy (outer inner : Rule) : Type 0 where
  pub one_number : inner.number ≡ outer.number
  pub one_side : inner.side ≡ outer.side
  pub no_further : (x : ℕ) → Occurs x outer.to → Occurs x outer.from

-- At the root, where the inner side is no variable, the same pair comes from the rules the other way round; or a side is unified
-- with its own copy, and the other side has no variable that it lacks.
pub data IsRepeated (outer inner : Rule) (place : ℕ) : Type 0 where
  inner_is_later : place ≡ 0 → IsApp inner.from → ComesBefore outer inner → IsRepeated outer inner place
  with_its_copy : place ≡ 0 → IsApp inner.from → IsCopy outer inner → IsRepeated outer inner place

-- what is greater
module _ (Greater : Tree → Tree → Type 0) where
  -- s is t, or less
  abbrev pub AtMost : Tree → Tree → Type 0
  AtMost s t = Greater t s ⊎ (s ≡ t)

  -- how the left side of an equation compares to the right one
  pub record IsWayOf (equation : Equation) (way : Cmp) : Type 0 where
    pub greater : (way ≡ ByCmp.Greater) ↔ Greater equation.left equation.right
    pub less : (way ≡ ByCmp.Less) ↔ Greater equation.right equation.left
    pub equal : (way ≡ ByCmp.Equal) ↔ (equation.left ≡ equation.right)

  -- The instance u of a side l is at most the instance v of the other side r; where one of the instances is too large for a
  -- term, the sides themselves are compared.
  pub data GoesUp (l r u v : Tree) : Type 0 where
    by_instances : IsSmall u → IsSmall v → AtMost u v → GoesUp l r u v
    by_sides : IsLarge u ⊎ IsLarge v → AtMost l r → GoesUp l r u v

  -- one of the two rules goes up or stays from the peak: its instance there is less than the other side's, or the same
  pub data LeadsUp {outer inner : Rule} {place : ℕ} (o : Overlapping outer inner place) : Type 0 where
    outer_up : GoesUp outer.from outer.to (peak o) (left_of o) → LeadsUp o
    inner_up : GoesUp inner.from inner.to (inner_from o) (inner_to o) → LeadsUp o

  -- The rule leads down nowhere, since one side is at most the other; so are their instances.
  abbrev pub NeverDown : Rule → Type 0
  NeverDown rule = AtMost rule.from rule.to

  -- The overlaps at the places of the outer side from one on, in preorder, each with its size. At each place there is none, since
  -- it is a variable's or the parts don't unify; or it is left out, since it is repeated or leads up, by whichever most general
  -- unifier; or it is listed. Where one of the rules leads down nowhere, so that each overlap leads up, there needn't be one.
  pub data Lists (outer inner : Rule) : ℕ → List Formed → Type 0 where
    no_more_places : {place : ℕ} → nodes outer.from ≤ place → Lists outer inner place []
    at_variable : {place : ℕ} {list : List Formed} → place < nodes outer.from → (IsApp (subterm outer.from place) → ⊥) → Lists outer inner (place + 1) list → Lists outer inner place list
    no_unifier : {place : ℕ} {list : List Formed} → place < nodes outer.from → IsApart outer inner place → Lists outer inner (place + 1) list → Lists outer inner place list
    repeats : {place : ℕ} {list : List Formed} → place < nodes outer.from → IsRepeated outer inner place → Lists outer inner (place + 1) list → Lists outer inner place list
    goes_nowhere : {place : ℕ} {list : List Formed} → place < nodes outer.from → NeverDown outer ⊎ NeverDown inner → ((o : Overlapping outer inner place) → LeadsUp o) → Lists outer inner (place + 1) list → Lists outer inner place list
    leads_up : {place : ℕ} {list : List Formed} → Overlapping outer inner place → ((o : Overlapping outer inner place) → LeadsUp o) → Lists outer inner (place + 1) list → Lists outer inner place list
    is_listed : {place : ℕ} {size : Size} {list : List Formed} (o : Overlapping outer inner place) → (IsRepeated outer inner place → ⊥) → (LeadsUp o → ⊥) → HasSize o size → Lists outer inner (place + 1) list → Lists outer inner place (record { overlap = overlap_at outer inner place; size = size } ∷ list)

  -- those of several pairs of an outer and an inner rule, one behind the other
  pub data ListsEach : List (Rule × Rule) → List Formed → Type 0 where
    no_rules : ListsEach [] []
    next_rules : {outer inner : Rule} {rules : List (Rule × Rule)} {list others : List Formed} → Lists outer inner 0 list → ListsEach rules others → ListsEach ((outer, inner) ∷ rules) (list ++ others)

  -- The overlaps of the outer fact a of number i with the inner fact b of number j: by outer side, inner side, and position in
  -- preorder.
  abbrev pub AreOverlaps : ℕ → Equation → ℕ → Equation → List Formed → Type 0
  AreOverlaps i a j b = ListsEach ((read_from i Left a, read_from j Left b) ∷ (read_from i Left a, read_from j Right b) ∷ (read_from i Right a, read_from j Left b) ∷ (read_from i Right a, read_from j Right b) ∷ [])
