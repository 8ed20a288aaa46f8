-- The names of the symbols of terms among keys.
use Rattle.std.proofs.Common.{◌≡◌, ℕ, ◌+◌, ◌<◌, List, [], ◌∷◌, ◌++◌, Bool, true, false, length, drop, get_or, slice_get, Some, refl, sym, ap, ◌∙◌}
use Rattle.std.specs.Prelude.{◌||◌, bytes_eq, if◌then◌else◌, Vec}
use Rattle.std.specs.List.{list_any}
use Rattle.std.specs.declared.alloc.Global.{Global}
use Rattle.std.proofs.lemmas.List.{drop_more}
use Rattle.std.proofs.lemmas.Option.{slice_get-get_or}
use Rattle.uc_term.specs.declared.node.Node.{Node}
use Rattle.uc_term.specs.declared.node.Node.TheVariants.{Var, App}
use Rattle.uc_term.specs.declared.node.Sym.{Sym}
use Rattle.uc_term.specs.Tree.{Tree}
use Rattle.uc_term.specs.Flat.{flat}
use Rattle.uc_term.specs.Table.{Table, Has, IsOf, name_of}
use Rattle.uc_term.proofs.Grown.{has_nodes}
use Rattle.uc_clause.proofs.Seen.{same}
use Rattle.uc_problem.specs.NameSets.{has_text}
use Rattle.uc_problem.specs.Conjecture.{is_named}
use Rattle.uc_problem.proofs.NameKeys.{has_text-insert}

-- the functor of a term over the table is the table's
pub has_functor : (table : Table) (t : Tree) (ns : List Node) (i : ℕ) (f : Sym) (n : ℕ) → IsOf table t → ns ≡ flat t → i < length ns → get_or ns i (Var 0) ≡ App f n → Has table f
has_functor table t ns i f n of is within e = has_nodes table t of i f n (ap (λ l. slice_get l i) (sym is) ∙ slice_get-get_or ns i (Var 0) within ∙ ap Some e)

or_assoc : (a b c : Bool) → ((a || b) || c) ≡ (a || (b || c))
or_assoc true b c = refl
or_assoc false b c = refl

module _ (table : Table) (ns : List Node) (i : ℕ) (within : i < length ns) (ks : List (Vec ℕ Global)) (name : List ℕ) where
  -- a name is among the keys so far, or among those of the nodes from here on
  abbrev Among : List (Vec ℕ Global) → List Node → Bool
  Among keys rest = has_text keys name || list_any (is_named table name) rest

  begins : (n : Node) → get_or ns i (Var 0) ≡ n → drop i ns ≡ n ∷ drop (i + 1) ns
  begins n e = drop_more ns i (Var 0) within ∙ ap (λ m. m ∷ drop (i + 1) ns) e

  -- the functor here has its name put to the keys
  pub functor_here : (new : List (Vec ℕ Global)) (f : Sym) (n : ℕ) (k : Vec ℕ Global) → get_or ns i (Var 0) ≡ App f n → k.items ≡ name_of table f → new ≡ (if list_any (same k) ks then ks else ks ++ k ∷ []) → Among ks (drop i ns) ≡ Among new (drop (i + 1) ns)
  functor_here new f n k e text is =
      let rest = list_any (is_named table name) (drop (i + 1) ns) in
      ap (Among ks) (begins (App f n) e) ∙ sym (or_assoc (has_text ks name) (bytes_eq (name_of table f) name) rest)
      ∙ ap (λ l. (has_text ks name || bytes_eq l name) || rest) (sym text) ∙ ap (λ b. b || rest) (sym (has_text-insert ks new k is name))

  -- a variable has no name
  pub variable_here : (x : ℕ) → get_or ns i (Var 0) ≡ Var x → Among ks (drop i ns) ≡ Among ks (drop (i + 1) ns)
  variable_here x e = ap (Among ks) (begins (Var x) e)
