-- Classes of places of flat lists: the places whose subterms must have one instance. (Unification closure: Huet; Baader and
-- Snyder, Unification Theory, section 2.3.)
use Rattle.std.specs.Prelude.{ℕ, zero, suc, ◌≡◌, ◌+◌, ◌*◌, ◌<◌, ◌≤◌, ◌==◌, ◌⊎◌, Bool, true, false, List, [], ◌∷◌, length, drop, slice_get, slice_index, Some, if◌then◌else◌}
use Rattle.uc_term.specs.declared.node.Node.{Node}
use Rattle.uc_term.specs.declared.node.Node.TheVariants.{Var, App}
use Rattle.uc_term.specs.declared.node.Sym.{Sym}
use Rattle.uc_term.specs.Tree.{Tree, app, Trees, none, more, apply, nodes}
use Rattle.uc_term.specs.Flat.{tree_of}
use Rattle.uc_unify.specs.Unifiers.{HasNoUnifier}

-- the term that begins at a place
abbrev pub at : List Node → ℕ → Tree
at ns p = tree_of (drop p ns)

-- the place behind it
abbrev pub next : List Node → ℕ → ℕ
next ns p = p + nodes (at ns p)

-- the values at so many terms, one behind the other
abbrev pub values : (ℕ → Tree) → List Node → ℕ → ℕ → Trees
values V ns p zero = none
values V ns p (suc n) = more (V p) (values V ns (next ns p) n)

-- where a symbol stands, the value is made of the arguments' values
abbrev pub IsMadeAt : List Node → (ℕ → Tree) → ℕ → Type 0
IsMadeAt ns V p = (f : Sym) (n : ℕ) → slice_get ns p ≡ Some (App f n) → V p ≡ app f (values V ns (p + 1) n)

-- the place that stands for a place
abbrev pub class : List ℕ → ℕ → ℕ
class classes p = slice_index classes p

-- the values are the same throughout each class
abbrev pub Respects : List ℕ → (ℕ → Tree) → Type 0
Respects classes V = (p : ℕ) → p < length classes → V p ≡ V (class classes p)

-- the values at the places that stand for a class are made of those of arguments
abbrev pub AreMade : List Node → List ℕ → (ℕ → Tree) → Type 0
AreMade ns classes V = (p : ℕ) → p < length classes → class classes p ≡ p → IsMadeAt ns V p

-- the two places of each pair have one value
abbrev pub AllSame : List (ℕ × ℕ) → (ℕ → Tree) → Type 0
AllSame [] V = Unit {0}
AllSame (p ∷ ps) V = (V p.0 ≡ V p.1) × AllSame ps V

-- both places of each pair are below n
abbrev pub AllBelow : ℕ → List (ℕ × ℕ) → Type 0
AllBelow n [] = Unit {0}
AllBelow n (p ∷ ps) = (p.0 < n) × (p.1 < n) × AllBelow n ps

-- the instance at each place
abbrev pub instances : List Node → (ℕ → Tree) → ℕ → Tree
instances ns τ p = apply τ (at ns p)

-- the pairs of so many terms behind two places, one behind the other
abbrev pub pairs_from : List Node → ℕ → ℕ → ℕ → List (ℕ × ℕ)
pairs_from ns p q zero = []
pairs_from ns p q (suc n) = (p, q) ∷ pairs_from ns (next ns p) (next ns q) n

-- each place has a place that stands for it and for itself, and all places of a variable have one
pub record AreClasses (ns : List Node) (classes : List ℕ) : Type 0 where
  pub long : length classes ≡ length ns
  pub within : (p : ℕ) → p < length ns → class classes p < length ns
  pub stands : (p : ℕ) → p < length ns → class classes (class classes p) ≡ class classes p
  pub one : (p q x : ℕ) → slice_get ns p ≡ Some (Var x) → slice_get ns q ≡ Some (Var x) → class classes p ≡ class classes q

-- how many places from i on have themselves
abbrev pub count_from : ℕ → List ℕ → ℕ
count_from i [] = 0
count_from i (c ∷ cs) = (if c == i then 1 else 0) + count_from (i + 1) cs

-- how much is left to do, where each place has one above it, itself at a root
abbrev pub left_of : List ℕ → List (ℕ × ℕ) → ℕ
left_of parents pairs = 16384 * count_from 0 parents + length pairs

-- The values that the new classes and pairs ask for are those that the old ones did.
pub record Advances (ns : List Node) (classes : List ℕ) (pairs : List (ℕ × ℕ)) (new_classes : List ℕ) (new_pairs : List (ℕ × ℕ)) : Type 0 where
  pub are_classes : AreClasses ns new_classes
  pub below : AllBelow (length ns) new_pairs
  pub sound : (V : ℕ → Tree) → Respects new_classes V → AllSame new_pairs V → AreMade ns new_classes V → Respects classes V × AllSame pairs V × AreMade ns classes V
  pub complete : (τ : ℕ → Tree) → Respects classes (instances ns τ) → AllSame pairs (instances ns τ) → Respects new_classes (instances ns τ) × AllSame new_pairs (instances ns τ)

-- no instances are the same throughout the classes and at each pair
abbrev pub HasNoInstances : List Node → List ℕ → List (ℕ × ℕ) → Type 0
HasNoInstances ns classes pairs = (τ : ℕ → Tree) → Respects classes (instances ns τ) → AllSame pairs (instances ns τ) → ⊥

-- The classes are closed: values that are the same throughout them, and made of arguments at the places that stand for them,
-- are made so everywhere, and are the same at the two places; and the instances of each unifier are the same throughout them.
pub record IsClosed (ns : List Node) (second : ℕ) (classes : List ℕ) : Type 0 where
  pub are_classes : AreClasses ns classes
  pub sound : (V : ℕ → Tree) → Respects classes V → AreMade ns classes V → ((p : ℕ) → p < length ns → IsMadeAt ns V p) × (V 0 ≡ V second)
  pub complete : (τ : ℕ → Tree) → instances ns τ 0 ≡ instances ns τ second → Respects classes (instances ns τ)

-- the classes are closed; or no substitution makes the terms at place 0 and at the second place equal
abbrev pub AreJoined : List Node → ℕ → List ℕ → Bool → Type 0
AreJoined ns second classes true = IsClosed ns second classes
AreJoined ns second classes false = HasNoUnifier (at ns 0) (at ns second)

-- the places behind the terms from a place on
pub record AreEndsFrom (ns : List Node) (from : ℕ) (ends : List ℕ) : Type 0 where
  pub long : length ends ≡ length ns
  pub ends_are : (p : ℕ) → from ≤ p → p < length ns → slice_index ends p ≡ next ns p

abbrev pub AreEnds : List Node → List ℕ → Type 0
AreEnds ns ends = AreEndsFrom ns 0 ends

-- a symbol with this number of arguments stands at the place
abbrev pub HasArguments : List Node → ℕ → ℕ → Type 0
HasArguments ns p n = (f : Sym) × (slice_get ns p ≡ Some (App f n))

-- the place that stands for a place at first: the place itself, or an earlier one of the same variable
abbrev pub IsFirstPlace : List Node → ℕ → ℕ → Type 0
IsFirstPlace ns p first = ((first ≡ p) × ((x : ℕ) → slice_get ns p ≡ Some (Var x) → (q : ℕ) → q < p → slice_get ns q ≡ Some (Var x) → ⊥)) ⊎ ((first < p) × ((x : ℕ) × (slice_get ns p ≡ Some (Var x)) × (slice_get ns first ≡ Some (Var x)) × ((q : ℕ) → q < first → slice_get ns q ≡ Some (Var x) → ⊥)))

-- each place has its first one
pub record AreFirst (ns : List Node) (classes : List ℕ) : Type 0 where
  pub long : length classes ≡ length ns
  pub first : (p : ℕ) → p < length ns → IsFirstPlace ns p (class classes p)

-- a variable's first place, if there is one before the place
abbrev pub IsNoted : List Node → ℕ → ℕ → ℕ → Type 0
IsNoted ns p x first = ((first < p) × (slice_get ns first ≡ Some (Var x)) × ((q : ℕ) → q < first → slice_get ns q ≡ Some (Var x) → ⊥)) ⊎ ((first ≡ length ns) × ((q : ℕ) → q < p → slice_get ns q ≡ Some (Var x) → ⊥))

abbrev pub AreNoted : List Node → ℕ → List ℕ → Type 0
AreNoted ns p noted = (x : ℕ) → x < length noted → IsNoted ns p x (slice_index noted x)
