-- The value of a term, from its flat list.
use Rattle.std.proofs.Common.{◌≡◌, ℕ, zero, suc, ◌+◌, ◌<◌, ◌≤◌, List, [], ◌∷◌, ◌++◌, length, get_or, take, drop, refl, sym, ap, subst, arith, append_assoc, append-nil, length-append}
use Rattle.std.proofs.lemmas.List.{take_at, drop_at, drop_more, length-drop}
use Rattle.uc_term.specs.declared.node.Sym.{Sym}
use Rattle.uc_term.specs.declared.node.Node.{Node}
use Rattle.uc_term.specs.declared.node.Node.TheVariants.{Var, App}
use Rattle.uc_term.specs.Tree.{Tree, var, app, Trees, none, more, count}
use Rattle.uc_term.specs.Flat.{flat, flat_all}
use Rattle.uc_table.specs.declared.table.Table.{Table}
use Rattle.uc_table.specs.Algebras.{place_of, cells_of, operation, value_by, values_by, given}
use Rattle.uc_table.specs.Tables.{AreValues}
use Rattle.uc_table.specs.Evaluating.{IsNumbered, IsReady, AreReady, IsReadyFor, stepped, values_on, AreReadyNodes}
use Rattle.uc_table.proofs.Cells.{get_below}
use Rattle.uc_table.proofs.Lists.{dropped}

module _ (op : Sym → List ℕ → ℕ) (α : ℕ → ℕ) where
  pub length-values_by : (ts : Trees) → length (values_by op α ts) ≡ count ts
  length-values_by none = refl
  length-values_by (more t ts) = omega (arith, length-values_by ts)

  mutual
    pub values_on-flat : (t : Tree) (ns : List Node) → values_on op α (flat t ++ ns) ≡ value_by op α t ∷ values_on op α ns
    values_on-flat (var x) ns = refl
    values_on-flat (app f ts) ns =
        rw (values_on-flat_all ts ns, take_at (values_by op α ts) (values_on op α ns) (count ts) (length-values_by ts), drop_at (values_by op α ts) (values_on op α ns) (count ts) (length-values_by ts))

    pub values_on-flat_all : (ts : Trees) (ns : List Node) → values_on op α (flat_all ts ++ ns) ≡ values_by op α ts ++ values_on op α ns
    values_on-flat_all none ns = refl
    values_on-flat_all (more t ts) ns =
        rw (append_assoc (flat t) (flat_all ts) ns, values_on-flat t (flat_all ts ++ ns)) (ap (λ vs. value_by op α t ∷ vs) (values_on-flat_all ts ns))

  pub values_on-whole : (t : Tree) → values_on op α (flat t) ≡ value_by op α t ∷ []
  values_on-whole t = rw (← append-nil (flat t), values_on-flat t [])

  stepped_shorter : (n : Node) (vs : List ℕ) → length (stepped op α n vs) ≤ length vs + 1
  stepped_shorter (Var x) vs = omega arith
  stepped_shorter (App f n) vs = omega (arith, length-drop n vs)

  pub values_on_fewer : (ns : List Node) → length (values_on op α ns) ≤ length ns
  values_on_fewer [] = omega arith
  values_on_fewer (n ∷ ns) = omega (arith, stepped_shorter n (values_on op α ns), values_on_fewer ns)

  module _ (table : Table) (numbers : List ℕ) (variables : ℕ) where
    mutual
      pub nodes_ready : (t : Tree) (ns : List Node) → IsReady table numbers variables t → AreReadyNodes table numbers variables op α ns → AreReadyNodes table numbers variables op α (flat t ++ ns)
      nodes_ready (var x) ns h r = (h, r)
      nodes_ready (app f ts) ns h r =
          let few : count ts ≤ length (values_on op α (flat_all ts ++ ns)) = rw (values_on-flat_all ts ns) (omega (arith, length-append (values_by op α ts) (values_on op α ns), length-values_by ts)) in
          ((h.0, few), all_ready ts ns h.1 r)

      pub all_ready : (ts : Trees) (ns : List Node) → AreReady table numbers variables ts → AreReadyNodes table numbers variables op α ns → AreReadyNodes table numbers variables op α (flat_all ts ++ ns)
      all_ready none ns h r = r
      all_ready (more t ts) ns h r =
          rw (append_assoc (flat t) (flat_all ts) ns) (nodes_ready t (flat_all ts ++ ns) h.0 (all_ready ts ns h.1 r))

    pub whole_ready : (t : Tree) → IsReady table numbers variables t → AreReadyNodes table numbers variables op α (flat t)
    whole_ready t h = subst (AreReadyNodes table numbers variables op α) (append-nil (flat t)) (nodes_ready t [] h tt)

    pub ready_behind : (i : ℕ) (ns : List Node) → AreReadyNodes table numbers variables op α ns → AreReadyNodes table numbers variables op α (drop i ns)
    ready_behind zero ns r = r
    ready_behind (suc i) [] r = tt
    ready_behind (suc i) (n ∷ ns) r = ready_behind i ns r.1

-- the values of nodes are values
module _ (table : Table) (some : 0 < table.size) (numbers : List ℕ) (vs : List ℕ) (are : AreValues table.size vs) where
  pub operation_value : (f : Sym) (n : ℕ) (args : List ℕ) → IsNumbered table numbers f n → operation table f args < table.size
  operation_value f n args h = get_below table.size some (cells_of table f) (place_of table.size args) h.row.values

  pub values_on_values : (ns : List Node) → AreReadyNodes table numbers (length vs) (operation table) (given vs) ns → AreValues table.size (values_on (operation table) (given vs) ns)
  values_on_values [] r = tt
  values_on_values (Var x ∷ ns) r = (get_below table.size some vs x are, values_on_values ns r.1)
  values_on_values (App f n ∷ ns) r =
      let rest : AreValues table.size (values_on (operation table) (given vs) ns) = values_on_values ns r.1 in
      (operation_value f n (take n (values_on (operation table) (given vs) ns)) r.0.0, dropped table.size n (values_on (operation table) (given vs) ns) rest)

-- each node is ready for the values of the nodes behind it
pub node_ready : (table : Table) (numbers : List ℕ) (variables : ℕ) (op : Sym → List ℕ → ℕ) (α : ℕ → ℕ) (ns : List Node) (i j : ℕ) (d : Node) → j ≡ i + 1 → j ≤ length ns → AreReadyNodes table numbers variables op α ns → IsReadyFor table numbers variables (get_or ns i d) (values_on op α (drop j ns))
node_ready table numbers variables op α ns i j d e h r =
    let cut : drop i ns ≡ get_or ns i d ∷ drop j ns = subst (λ k. drop i ns ≡ get_or ns i d ∷ drop k ns) (sym e) (drop_more ns i d (omega arith)) in
    let behind : AreReadyNodes table numbers variables op α (get_or ns i d ∷ drop j ns) = subst (AreReadyNodes table numbers variables op α) cut (ready_behind op α table numbers variables i ns r) in
    behind.0

-- so there is room on the stack for one more value
pub has_room : (op : Sym → List ℕ → ℕ) (α : ℕ → ℕ) (ns : List Node) (stack : List ℕ) (at top : ℕ) → at ≤ length ns → length ns ≤ length stack → top ≤ length stack → drop top stack ≡ values_on op α (drop at ns) → at ≤ top
has_room op α ns stack at top h room t e =
    let few : length (values_on op α (drop at ns)) ≤ length (drop at ns) = values_on_fewer op α (drop at ns) in
    let same : length (drop top stack) ≡ length (values_on op α (drop at ns)) = ap length e in
    omega (arith, length-drop top stack, length-drop at ns)

pub on_top : (stack : List ℕ) (top v : ℕ) → top ≤ length stack → drop top stack ≡ v ∷ [] → (top < length stack) × (get_or stack top 0 ≡ v)
on_top stack top v h e =
    let one : length (drop top stack) ≡ 1 = ap length e in
    let within : top < length stack = omega (arith, length-drop top stack) in
    let cut : drop top stack ≡ get_or stack top 0 ∷ drop (top + 1) stack = drop_more stack top 0 within in
    (within, cc)
