-- A term is stored as its flat list, which gives it back.
use Rattle.std.specs.Prelude.{ℕ, List, [], ◌∷◌, ◌++◌, length, take, drop, refl, ◌⊎◌}
use Rattle.std.proofs.Common.{◌≡◌, ap, arith, append_assoc, append-nil, inl, inr}
use Rattle.std.proofs.lemmas.Grind.{common_steps}
use Rattle.std.specs.Coded.{Coded, code_by, coded_list, coded_ℕ, coded×, coded⊎}
use Rattle.uc_term.specs.declared.node.Node.{Node}
use Rattle.uc_term.specs.declared.node.Node.TheVariants.{Var, App}
use Rattle.uc_term.specs.Tree.{Tree, var, app, Trees, none, more, list_of, of_list, count}
use Rattle.uc_term.specs.Flat.{flat, flat_all, spelled, tree_of}

pub length-list_of : (ts : Trees) → length (list_of ts) ≡ count ts
length-list_of none = refl
length-list_of (more t ts) = omega (arith, length-list_of ts)

pub of_list-list_of : (ts : Trees) → of_list (list_of ts) ≡ ts
of_list-list_of none = refl
of_list-list_of (more t ts) = ap (more t) (of_list-list_of ts)

pub list_of-of_list : (ts : List Tree) → list_of (of_list ts) ≡ ts
list_of-of_list [] = refl
list_of-of_list (t ∷ ts) = ap (λ r. t ∷ r) (list_of-of_list ts)

take_all : (ts : Trees) (r : List Tree) → take (count ts) (list_of ts ++ r) ≡ list_of ts
take_all ts r = rw (← length-list_of ts) (grind (arith, common_steps))

drop_all : (ts : Trees) (r : List Tree) → drop (count ts) (list_of ts ++ r) ≡ r
drop_all ts r = rw (← length-list_of ts) (grind (arith, common_steps))

-- what is flattened is spelled
mutual
  pub spelled-flat : (t : Tree) (ns : List Node) → spelled (flat t ++ ns) ≡ t ∷ spelled ns
  spelled-flat (var x) ns = refl
  spelled-flat (app f ts) ns =
      rw (spelled-flat_all ts ns, take_all ts (spelled ns), drop_all ts (spelled ns), of_list-list_of ts)

  pub spelled-flat_all : (ts : Trees) (ns : List Node) → spelled (flat_all ts ++ ns) ≡ list_of ts ++ spelled ns
  spelled-flat_all none ns = refl
  spelled-flat_all (more t ts) ns =
      rw (append_assoc (flat t) (flat_all ts) ns, spelled-flat t (flat_all ts ++ ns)) (ap (λ r. t ∷ r) (spelled-flat_all ts ns))

pub tree_of-flat : (t : Tree) → tree_of (flat t) ≡ t
tree_of-flat t = rw (← append-nil (flat t), spelled-flat t [])

abbrev pub node_parts : Node → ℕ ⊎ (ℕ × ℕ)
node_parts (Var x) = inl x
node_parts (App f n) = inr (f.0, n)

abbrev pub node_of_parts : ℕ ⊎ (ℕ × ℕ) → Node
node_of_parts (inl x) = Var x
node_of_parts (inr p) = App (record { 0 = p.0 }) p.1

pub node_of_parts-node_parts : (n : Node) → node_of_parts (node_parts n) ≡ n
node_of_parts-node_parts (Var x) = refl
node_of_parts-node_parts (App f n) = refl

abbrev pub node_code : Coded Node
node_code = code_by (ℕ ⊎ (ℕ × ℕ)) (coded⊎ coded_ℕ (coded× coded_ℕ coded_ℕ)) node_parts node_of_parts node_of_parts-node_parts

abbrev pub tree_code : Coded Tree
tree_code = code_by (List Node) (coded_list node_code) flat tree_of tree_of-flat
