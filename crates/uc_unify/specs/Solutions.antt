-- The terms that closed classes stand for.
use Rattle.std.specs.Prelude.{ℕ, zero, suc, ◌≡◌, ◌+◌, ◌<◌, ◌≤◌, ◌++◌, ◌∷◌, [], drop, min, ◌==◌, ◌⊎◌, Bool, true, false, count_by, List, slice_get, slice_index, length, Some, None}
use Rattle.uc_term.specs.declared.node.Node.{Node}
use Rattle.uc_term.specs.declared.node.Node.TheVariants.{Var, App}
use Rattle.uc_term.specs.declared.node.Sym.{Sym}
use Rattle.uc_term.specs.Tree.{Tree, var, app, Trees, none, more, count, nodes}
use Rattle.uc_term.specs.Flat.{flat_all, trees_of}
use Rattle.uc_term.specs.Subst.{found}
use Rattle.uc_unify.specs.Closure.{next, class}

-- the terms of one list before those of another
abbrev pub join : Trees → Trees → Trees
join none us = us
join (more t ts) us = more t (join ts us)

-- so many terms are open from a place on, besides those that were
abbrev pub IsOpened : ℕ → ℕ → List (ℕ × ℕ) → List (ℕ × ℕ) → Type 0
IsOpened p n old new = ((n ≡ 0) × (new ≡ old)) ⊎ ((0 < n) × (new ≡ old ++ (p, n) ∷ []))

module _ (ns : List Node) (classes : List ℕ) where
  mutual
    -- The term that the place's class stands for: the variable that stands for the class, or the symbol that does with the terms
    -- of its arguments' classes.
    pub data Solves : ℕ → Tree → Type 0 where
      is_free : {p x : ℕ} → slice_get ns (class classes p) ≡ Some (Var x) → Solves p (var x)
      is_made : {p n : ℕ} {f : Sym} {ts : Trees} → slice_get ns (class classes p) ≡ Some (App f n) → SolvesAll (class classes p + 1) n ts → Solves p (app f ts)

    -- the same of so many places, one behind the other
    pub data SolvesAll : ℕ → ℕ → Trees → Type 0 where
      no_more : {p : ℕ} → SolvesAll p zero none
      one_more : {p n : ℕ} {t : Tree} {ts : Trees} → Solves p t → SolvesAll (next ns p) n ts → SolvesAll p (suc n) (more t ts)

  -- the size is that of the term at the place; greater ones than a term may have count as one
  pub record HasSize (p size : ℕ) : Type 0 where
    pub term : Tree
    pub solves : Solves p term
    pub size_is : size ≡ min (nodes term) 4097

  -- each size but 0 is that of a place's term
  pub record AreSized (sizes : List ℕ) : Type 0 where
    pub long : length sizes ≡ length ns
    pub sized : (p : ℕ) → p < length ns → (slice_index sizes p ≡ 0) ⊎ HasSize p (slice_index sizes p)

  -- the place r is one of so many places, one behind the other
  abbrev pub IsOneOf : ℕ → ℕ → ℕ → Type 0
  IsOneOf p zero r = ⊥
  IsOneOf p (suc n) r = (r ≡ p) ⊎ IsOneOf (next ns p) n r

  -- an argument at the place has no size yet
  pub record IsStuck (sizes : List ℕ) (p : ℕ) : Type 0 where
    pub f : Sym
    pub n : ℕ
    pub r : ℕ
    pub symbol : slice_get ns p ≡ Some (App f n)
    pub argument : IsOneOf (p + 1) n r
    pub no_size : slice_index sizes (class classes r) ≡ 0

  -- what the size of a place that stands for itself comes to
  abbrev pub IsSizeAt : List ℕ → ℕ → ℕ → Type 0
  IsSizeAt sizes p zero = IsStuck sizes p
  IsSizeAt sizes p (suc size) = HasSize p (suc size)

  -- each place that stands for itself and has no size is stuck
  abbrev pub AreStuck : List ℕ → Type 0
  AreStuck sizes = (p : ℕ) → p < length ns → class classes p ≡ p → slice_index sizes p ≡ 0 → IsStuck sizes p

  -- fewer places have no size than before; or the sizes are as they were, and the place is stuck where it has none
  abbrev pub IsSizing : ℕ → List ℕ → List ℕ → Bool → Type 0
  IsSizing p old new true = count_by (λ size. size == 0) new < count_by (λ size. size == 0) old
  IsSizing p old new false = (new ≡ old) × (class classes p ≡ p → slice_index new p ≡ 0 → IsStuck new p)

  -- the same of all places
  abbrev pub AreSizing : List ℕ → List ℕ → Bool → Type 0
  AreSizing old new true = count_by (λ size. size == 0) new < count_by (λ size. size == 0) old
  AreSizing old new false = (new ≡ old) × AreStuck new

  -- terms stand at these places, so many from each on, that are to be written from the last place to the first
  abbrev pub Opens : List (ℕ × ℕ) → Trees → Type 0
  Opens [] all = all ≡ none
  Opens (o ∷ os) all = (before : Trees) × (here : Trees) × Opens os before × SolvesAll o.0 o.1 here × (o.1 ≤ count (trees_of (drop o.0 ns))) × (0 < o.1) × (all ≡ join before here)

  -- the first node of the first of the open terms is written
  pub record IsWritten (p n : ℕ) (old_list : List Node) (old_open : List (ℕ × ℕ)) (new_list : List Node) (new_open : List (ℕ × ℕ)) : Type 0 where
    pub longer : length new_list ≡ length old_list + 1
    pub rest : (here others : Trees) → SolvesAll p n here → Opens old_open others → (all : Trees) × Opens new_open all × (new_list ++ flat_all all ≡ old_list ++ flat_all (join here others))

  -- the place has a term, which isn't too large
  pub record IsWritable (p : ℕ) : Type 0 where
    pub term : Tree
    pub solves : Solves p term
    pub small : nodes term ≤ 4096

  -- the substitution gives each variable of the list the term of its place, and no other variable one
  pub record IsSolution (σ : ℕ → Tree) : Type 0 where
    pub here : (p x : ℕ) (t : Tree) → slice_get ns p ≡ Some (Var x) → Solves p t → σ x ≡ t
    pub others : (x : ℕ) → ((p : ℕ) → slice_get ns p ≡ Some (Var x) → ⊥) → σ x ≡ var x

  -- the place's term is the variable, which has a term, or is given the place's one
  abbrev pub AddsSolution : ℕ → ℕ → List (ℕ × Tree) → List (ℕ × Tree) → Type 0
  AddsSolution p x old new = (Solves p (var x) × (new ≡ old)) ⊎ (((t : Tree) × (found old x ≡ Some t)) × (new ≡ old)) ⊎ ((found old x ≡ None) × ((t : Tree) × Solves p t × (new ≡ old ++ (x, t) ∷ [])))

-- the class of each place has a size; or one of them has none
abbrev pub AllSized : List ℕ → List ℕ → Bool → Type 0
AllSized classes sizes true = (p : ℕ) → p < length classes → slice_index sizes (class classes p) ≡ 0 → ⊥
AllSized classes sizes false = (p : ℕ) × (p < length classes) × (slice_index sizes (class classes p) ≡ 0)

-- the class of each place has the size of its term
pub record HaveSizes (ns : List Node) (classes sizes : List ℕ) : Type 0 where
  pub sized : AreSized ns classes sizes
  pub all_are : AllSized classes sizes true

-- the class of a place has no size where each without one is stuck
pub record HaveNoSizes (ns : List Node) (classes : List ℕ) : Type 0 where
  pub sizes : List ℕ
  pub sized : AreSized ns classes sizes
  pub stuck : AreStuck ns classes sizes
  pub one_has_none : AllSized classes sizes false

-- the class of each place has the size of its term; or the class of a place has no size
abbrev pub AreSizes : List Node → List ℕ → List ℕ → Bool → Type 0
AreSizes ns classes sizes true = HaveSizes ns classes sizes
AreSizes ns classes sizes false = HaveNoSizes ns classes
