-- Terms that come of another one by leaving symbols out. (Homeomorphic embedding: Baader and Nipkow, Term Rewriting and All That,
-- section 5.4.)
use Rattle.std.specs.Prelude.{ℕ, ◌≡◌, ◌+◌, ◌*◌, ◌<◌, Bool, false, IsTrue, List, length, slice_index_or}
use Rattle.uc_term.specs.declared.node.Sym.{Sym}
use Rattle.uc_term.specs.declared.node.Node.{Node}
use Rattle.uc_term.specs.Tree.{Tree, var, app, Trees, none, more}
use Rattle.uc_unify.specs.Closure.{at}

mutual
  -- the first term is embedded in the second one: it is the same variable, or is embedded in one of its arguments, or has its
  -- symbol and arguments that are embedded in its arguments
  pub data Embedded : Tree → Tree → Type 0 where
    is_variable : {x : ℕ} → Embedded (var x) (var x)
    in_argument : {s : Tree} {f : Sym} {ts : Trees} → EmbeddedInOne s ts → Embedded s (app f ts)
    in_arguments : {f : Sym} {ss ts : Trees} → AreEmbedded ss ts → Embedded (app f ss) (app f ts)

  pub data EmbeddedInOne : Tree → Trees → Type 0 where
    in_first_of : {s t : Tree} {ts : Trees} → Embedded s t → EmbeddedInOne s (more t ts)
    in_later_of : {s t : Tree} {ts : Trees} → EmbeddedInOne s ts → EmbeddedInOne s (more t ts)

  pub data AreEmbedded : Trees → Trees → Type 0 where
    none_are : AreEmbedded none none
    more_are : {s t : Tree} {ss ts : Trees} → Embedded s t → AreEmbedded ss ts → AreEmbedded (more s ss) (more t ts)

-- a table, in rows of 32, that marks only pairs of places of two lists of nodes where the term of the first one is embedded in that
-- of the second one
pub record AreMarked (ss ts : List Node) (table : List Bool) : Type 0 where
  pub long : length table ≡ 1024
  pub marked : (p q : ℕ) → p < length ss → q < length ts → IsTrue (slice_index_or table (p * 32 + q) false) → Embedded (at ss p) (at ts q)
