-- Prefixes of the cells of a table in lexicographic order, and which of them a search visits.
use Rattle.std.specs.Prelude.{ℕ, ◌<◌, ◌≤◌, ◌≡◌, ◌⊎◌, List, [], ◌∷◌, ◌++◌, length}
use Rattle.uc_order.specs.Members.{In}
use Rattle.uc_table.specs.Tables.{AreValues}

-- p goes before q in lexicographic order, a proper prefix before what it begins
abbrev pub Before : List ℕ → List ℕ → Type 0
Before p [] = ⊥
Before [] (w ∷ q) = Unit {0}
Before (v ∷ p) (w ∷ q) = (v < w) ⊎ ((v ≡ w) × Before p q)

-- the longest proper prefix of a nonempty one
abbrev pub front : List ℕ → List ℕ
front [] = []
front (v ∷ []) = []
front (v ∷ w ∷ p) = v ∷ front (w ∷ p)

-- in lexicographic order, each once
abbrev pub AreOrdered : List (List ℕ) → Type 0
AreOrdered [] = Unit {0}
AreOrdered (p ∷ ps) = ((q : List ℕ) → In ps q → Before p q) × AreOrdered ps

-- The values are below the size, there are so many cells, and these prefixes are refuted.
module _ (size cells : ℕ) (Refuted : List ℕ → Type 0) where
  -- a whole table that isn't refuted
  pub record IsOpen (t : List ℕ) : Type 0 where
    pub whole : length t ≡ cells
    pub below : AreValues size t
    pub open_is : Refuted t → ⊥

  -- a nonempty prefix whose longest proper prefix isn't refuted, with no whole table before it that isn't refuted
  pub record IsVisited (p : List ℕ) : Type 0 where
    pub nonempty : 0 < length p
    pub fits : length p ≤ cells
    pub below : AreValues size p
    pub open_front : Refuted (front p) → ⊥
    pub is_first : (t : List ℕ) → IsOpen t → Before t p → ⊥

  -- these are the first of the visited prefixes, in order
  pub record AreFirst (ps : List (List ℕ)) : Type 0 where
    pub ordered : AreOrdered ps
    pub visited : (p : List ℕ) → In ps p → IsVisited p
    pub earlier : (p q : List ℕ) → In ps p → IsVisited q → Before q p → In ps q

  -- these are all visited prefixes, in order
  pub record AreAll (ps : List (List ℕ)) : Type 0 where
    pub ordered : AreOrdered ps
    pub visited : (p : List ℕ) → In ps p → IsVisited p
    pub all : (p : List ℕ) → IsVisited p → In ps p

  -- all visited prefixes before this value at this open prefix are these, and no whole open table goes before it
  pub record IsSeen (p : List ℕ) (next : ℕ) (ps : List (List ℕ)) : Type 0 where
    pub ordered : AreOrdered ps
    pub visited : (q : List ℕ) → In ps q → IsVisited q
    pub before : (q : List ℕ) → In ps q → Before q (p ++ next ∷ [])
    pub all : (q : List ℕ) → IsVisited q → Before q (p ++ next ∷ []) → In ps q
    pub none : (t : List ℕ) → IsOpen t → Before t (p ++ next ∷ []) → ⊥
