-- A relation between terms used at one place of a term, and lists of its steps.
use Rattle.uc_term.specs.declared.node.Sym.{Sym}
use Rattle.uc_term.specs.Tree.{Tree, app, Trees, more}

mutual
  -- v is u with one subterm a replaced by b, where R a b
  pub data Within (R : Tree → Tree → Type 0) : Tree → Tree → Type 0 where
    at_root : {u v : Tree} → R u v → Within R u v
    under : {f : Sym} {us vs : Trees} → WithinOne R us vs → Within R (app f us) (app f vs)

  -- the lists are equal in all places but one, and the terms there are related so
  pub data WithinOne (R : Tree → Tree → Type 0) : Trees → Trees → Type 0 where
    at_first : {u v : Tree} {ts : Trees} → Within R u v → WithinOne R (more u ts) (more v ts)
    at_later : {t : Tree} {us vs : Trees} → WithinOne R us vs → WithinOne R (more t us) (more t vs)

-- a list of steps of R, the empty one too, leads from u to v
pub data Steps (R : Tree → Tree → Type 0) : Tree → Tree → Type 0 where
  stay : {u : Tree} → Steps R u u
  go_by : {u v w : Tree} → R u v → Steps R v w → Steps R u w

-- lists of steps lead from both to one term
pub record Joined (R : Tree → Tree → Type 0) (u v : Tree) : Type 0 where
  pub meet : Tree
  pub from_left : Steps R u meet
  pub from_right : Steps R v meet
