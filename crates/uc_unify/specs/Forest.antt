-- Classes of places as trees. (Union and find.)
use Rattle.std.specs.Prelude.{ℕ, ◌≡◌, ◌<◌, ◌≤◌, ◌↔◌, Bool, true, false, List, length, slice_index}
use Rattle.uc_term.specs.declared.node.Node.{Node}
use Rattle.uc_unify.specs.Closure.{class, AreClasses, Advances, HasNoInstances, count_from}

-- the place above a place in its tree; a root's is the root itself
abbrev pub parent : List ℕ → ℕ → ℕ
parent parents p = slice_index parents p

-- no parent is behind its place
abbrev pub AreParents : List ℕ → Type 0
AreParents parents = (p : ℕ) → p < length parents → parent parents p ≤ p

-- all places of a tree have one label
abbrev pub IsLabelling : List ℕ → (ℕ → ℕ) → Type 0
IsLabelling parents label = (p : ℕ) → p < length parents → label (parent parents p) ≡ label p

-- the trees have the same roots and places
pub record AreSameTrees (old new : List ℕ) : Type 0 where
  pub long : length new ≡ length old
  pub parents : AreParents new
  pub roots : (p : ℕ) → p < length old → (parent new p ≡ p) ↔ (parent old p ≡ p)
  pub labels : (label : ℕ → ℕ) → IsLabelling old label → IsLabelling new label
  pub count : count_from 0 new ≡ count_from 0 old

-- the place's root in trees that are the same as the old ones
pub record IsRootOf (old new : List ℕ) (place root : ℕ) : Type 0 where
  pub within : root < length new
  pub is_root : parent new root ≡ root
  pub same : (label : ℕ → ℕ) → IsLabelling old label → label root ≡ label place

-- the trees are the classes, and the head of a root is the place that stands for the class
pub record IsForest (parents heads classes : List ℕ) : Type 0 where
  pub long_parents : length parents ≡ length classes
  pub long_heads : length heads ≡ length classes
  pub parents_are : AreParents parents
  pub one_class : IsLabelling parents (class classes)
  pub head : (p : ℕ) → p < length classes → parent parents p ≡ p → slice_index heads p ≡ class classes p
  pub one_root : (p q : ℕ) → p < length classes → q < length classes → parent parents p ≡ p → parent parents q ≡ q → class classes p ≡ class classes q → p ≡ q

-- the trees are classes of places of the list
pub record HasForest (ns : List Node) (parents heads : List ℕ) : Type 0 where
  pub classes : List ℕ
  pub are_classes : AreClasses ns classes
  pub forest : IsForest parents heads classes

-- the trees are the classes that the pairs ask for, the last of which is dealt with; or no instances are the same at each pair
abbrev pub IsUnited : List Node → List ℕ → List (ℕ × ℕ) → List ℕ → List ℕ → List (ℕ × ℕ) → Bool → Type 0
IsUnited ns classes pairs parents heads new_pairs true = (new_classes : List ℕ) × IsForest parents heads new_classes × Advances ns classes pairs new_classes new_pairs
IsUnited ns classes pairs parents heads new_pairs false = HasNoInstances ns classes pairs
