-- Classes of terms that are equal up to brackets and order at some binary symbols, each with its number in a table.
use Rattle.std.specs.Prelude.{ℕ, ◌≡◌, List, [], ◌∷◌, ◌++◌, Some, Vec, take, drop, reverse, slice_get}
use Rattle.std.specs.List.Sorted.{IsNonDecreasing}
use Rattle.std.specs.declared.alloc.Global.{Global}
use Rattle.uc_term.specs.declared.node.Sym.{Sym}
use Rattle.uc_term.specs.declared.node.Node.{Node}
use Rattle.uc_term.specs.declared.node.Node.TheVariants.{Var, App}
use Rattle.uc_term.specs.Keys.{AreDifferent}
use Rattle.uc_term.specs.Tree.{Tree, var, app, Trees, list_of, of_list}
use Rattle.uc_order.specs.Members.{In}
use Rattle.uc_order.specs.Laws.{pair_of}
use Rattle.uc_ac.specs.declared.numbering.Read.{Read}
use Rattle.uc_ac.specs.declared.numbering.Read.TheVariants.{Class, Parts}
use Rattle.uc_ac.specs.AcEqual.{parts, IsBinaryOf}
use Rattle.uc_ac.specs.Reordered.{IsReordered}

-- How a class is written: that of a variable; of a symbol before arguments of these classes; and of one of the binary symbols with
-- parts of these classes.
abbrev pub variable_class : ℕ → List ℕ
variable_class x = 0 ∷ x ∷ []

abbrev pub symbol_class : Sym → List ℕ → List ℕ
symbol_class f ks = 1 ∷ f.0 ∷ ks

abbrev pub parts_class : Sym → List ℕ → List ℕ
parts_class f ks = 2 ∷ f.0 ∷ ks

-- the new table has the classes of the old one, at the same places, and maybe more; none is there twice where the old one had none so
pub record IsGrown (old new : List (List ℕ)) : Type 0 where
  pub more : List (List ℕ)
  pub new_is : new ≡ old ++ more
  pub different : AreDifferent old → AreDifferent new

module _ (symbols : List Sym) (table : List (List ℕ)) where
  -- The class of that number is the term's: the variable's; or, where none of the binary symbols heads the term, that of its
  -- symbol with its arguments' classes; or that of the binary symbol with its parts' classes, rising.
  mutual
    pub data Has : ℕ → Tree → Type 0 where
      has_variable : {k x : ℕ} → slice_get table k ≡ Some (variable_class x) → Has k (var x)
      has_arguments : {k : ℕ} {f : Sym} {ts : Trees} {ks : List ℕ} → (IsBinaryOf symbols f ts → ⊥) → slice_get table k ≡ Some (symbol_class f ks) → AllHave ks (list_of ts) → Has k (app f ts)
      has_parts : {k : ℕ} {f : Sym} {a b : Tree} {ks : List ℕ} {us : List Tree} → In symbols f → slice_get table k ≡ Some (parts_class f ks) → IsNonDecreasing ks → IsReordered (parts f (pair_of f a b)) us → AllHave ks us → Has k (pair_of f a b)

    -- one by one
    pub data AllHave : List ℕ → List Tree → Type 0 where
      none_has : AllHave [] []
      one_has : {k : ℕ} {t : Tree} {ks : List ℕ} {ts : List Tree} → Has k t → AllHave ks ts → AllHave (k ∷ ks) (t ∷ ts)

  -- these are the classes of the term's parts at f, in some order
  pub record ArePartsOf (f : Sym) (ks : List ℕ) (t : Tree) : Type 0 where
    pub list : List Tree
    pub reordered : IsReordered (parts f t) list
    pub classes : AllHave ks list

  -- what is known of a term that was read: its class, where none of the binary symbols heads it, and else those of its parts
  pub data IsRead : Read → Tree → Type 0 where
    variable_read : {k x : ℕ} → Has k (var x) → IsRead (Class k) (var x)
    arguments_read : {k : ℕ} {f : Sym} {ts : Trees} → (IsBinaryOf symbols f ts → ⊥) → Has k (app f ts) → IsRead (Class k) (app f ts)
    parts_read : {f : Sym} {a b : Tree} {ks : Vec ℕ Global} → In symbols f → ArePartsOf f ks.items (pair_of f a b) → IsRead (Parts f ks) (pair_of f a b)

  pub data AreRead : List Read → List Tree → Type 0 where
    none_read : AreRead [] []
    one_read : {r : Read} {t : Tree} {rs : List Read} {ts : List Tree} → IsRead r t → AreRead rs ts → AreRead (r ∷ rs) (t ∷ ts)

  -- the stack, its top last, has what is known of these terms, the first one on top
  abbrev pub Stands : List Read → List Tree → Type 0
  Stands stack ts = AreRead (reverse stack) ts

-- the terms that begin with a node, where these begin behind it
abbrev pub after : Node → List Tree → List Tree
after (Var x) ts = var x ∷ ts
after (App f n) ts = app f (of_list (take n ts)) ∷ drop n ts

-- what reading a node makes of the table and of the stack, whatever terms the stack has
abbrev pub Reads : List Sym → Node → List (List ℕ) → List Read → List (List ℕ) → List Read → Type 0
Reads symbols node table stack new_table new_stack = (ts : List Tree) → Stands symbols table stack ts → Stands symbols new_table new_stack (after node ts)

-- the first n terms were taken off the stack, and their classes were written behind a list
pub record AreClosed (symbols : List Sym) (table : List (List ℕ)) (stack : List Read) (old new : List ℕ) (n : ℕ) (ts : List Tree) : Type 0 where
  pub classes : List ℕ
  pub new_is : new ≡ old ++ classes
  pub have : AllHave symbols table classes (take n ts)
  pub rest : Stands symbols table stack (drop n ts)
