-- When two terms may unify.
use Rattle.std.specs.Prelude.{ℕ, ◌≡◌, ◌+◌, ◌<◌, ◌≤◌, ◌⊎◌, List, drop, length}
use Rattle.uc_term.specs.declared.node.Node.{Node}
use Rattle.uc_term.specs.Tree.{Tree, Trees, count, apply, apply_all, nodes, subterm}
use Rattle.uc_term.specs.Flat.{tree_of, trees_of}
use Rattle.uc_term.specs.Variables.{IsApp}
use Rattle.uc_pair.specs.declared.fitting.Part.{Part}

-- no instance of the one is an instance of the other
abbrev pub NeverMeet : Tree → Tree → Type 0
NeverMeet s t = (σ τ : ℕ → Tree) → apply σ s ≡ apply τ t → ⊥

-- where instances of the two terms meet, so do the instances of what is left of them
pub record MeetAhead (s t : Tree) (ss ts : Trees) : Type 0 where
  pub counts : count ss ≡ count ts
  pub each : (σ τ : ℕ → Tree) → apply σ s ≡ apply τ t → apply_all σ ss ≡ apply_all τ ts

-- the same at places of the two flat lists
abbrev pub MeetFrom : List Node → List Node → ℕ → ℕ → Type 0
MeetFrom s t p q = MeetAhead (tree_of s) (tree_of t) (trees_of (drop p s)) (trees_of (drop q t))

-- the walk over both lists goes on to these places
pub record WalksOn (s t : List Node) (p : ℕ) (next : ℕ × ℕ) : Type 0 where
  pub meets : MeetFrom s t next.0 next.1
  pub later : p < next.0
  pub inside : next.0 ≤ length s

-- a variable stands at the place, or the part there never meets the other term
abbrev pub HasNoFit : Tree → Tree → ℕ → Type 0
HasNoFit s t p = (IsApp (subterm s p) → ⊥) ⊎ NeverMeet (subterm s p) t

-- it is a part of the term
pub record IsPart (t : Tree) (part : Part) : Type 0 where
  pub inside : part.place < nodes t
  pub end_is : part.end ≡ part.place + nodes (subterm t part.place)
  pub short : part.end ≤ 4096

-- at which a symbol stands
pub record IsFit (t : Tree) (part : Part) : Type 0 where
  pub is_part : IsPart t part
  pub symbol : IsApp (subterm t part.place)

abbrev pub IsFitAt : Tree → ℕ → Part → Type 0
IsFitAt t place part = (part.place ≡ place) × IsFit t part

-- it is the first part that may fit, from a place on
pub record IsNextFit (s t : Tree) (from : ℕ) (part : Part) : Type 0 where
  pub fit : IsFit s part
  pub later : from ≤ part.place
  pub none_before : (p : ℕ) → from ≤ p → p < part.place → HasNoFit s t p

-- from a place on no part fits
abbrev pub FitsNowhere : Tree → Tree → ℕ → Type 0
FitsNowhere s t from = (p : ℕ) → from ≤ p → p < nodes s → HasNoFit s t p
