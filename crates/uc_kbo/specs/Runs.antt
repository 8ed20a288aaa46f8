-- Runs of nodes within a list: their weight, and how often variables are in them.
use Rattle.std.specs.Prelude.{ℕ, ◌≡◌, ◌==◌, ◌<◌, ◌≤◌, ◌↔◌, ◌-◌, ◌*◌, List, [], ◌∷◌, take, drop, length, slice_index, slice_index_or, sum_by, count_by, Bool, true, false, ◌⊎◌, if◌then◌else◌}
use Rattle.uc_term.specs.declared.node.Sym.{Sym}
use Rattle.uc_term.specs.declared.node.Node.{Node}
use Rattle.uc_term.specs.declared.node.Node.TheVariants.{Var, App}
use Rattle.uc_term.specs.Tree.{Tree}
use Rattle.uc_order.specs.VarOrders.{Classes, representative, class_of, IsHigher}
use Rattle.uc_order.specs.Renamed.{renamed_nodes}
use Rattle.uc_order.specs.declared.order.Cmp.{Cmp}
use Rattle.uc_order.specs.declared.order.Cmp.TheVariants.{Greater, Less, Equal}
use Rattle.uc_kbo.specs.declared.run.Run.{Run}
use Rattle.uc_kbo.specs.declared.weights.Slot.{Slot}
use Rattle.uc_kbo.specs.Kbo.{Weighing, Kbo, is_it, None, is_from}

-- how variables are read: as they are, or under an order of them
abbrev pub image_by : Bool → Classes → ℕ → ℕ
image_by false cs x = x
image_by true cs x = representative cs x

abbrev pub test_by : Bool → Classes → ℕ → ℕ → Bool
test_by false cs = is_it
test_by true cs = is_from cs

abbrev pub above_by : Bool → Classes → ℕ → ℕ → Type 0
above_by false cs = None
above_by true cs = IsHigher cs

-- the number under which a variable is counted
abbrev pub slot_by : Bool → Classes → ℕ → ℕ
slot_by false cs x = x
slot_by true cs x = class_of cs x

abbrev pub read_by : Bool → Classes → List Node → List Node
read_by under cs = renamed_nodes (image_by under cs)

-- the weights by a table of slots: what a slot lacks weighs w0 and stands below all
abbrev pub slot_at : ℕ → List Slot → Sym → Slot
slot_at w0 table f = slice_index_or table f.0 (record { arity = 0; weight = w0; rank = 0 })

abbrev pub weight_at : ℕ → List Slot → Sym → ℕ → ℕ
weight_at w0 table f n = if (slot_at w0 table f).arity == n then (slot_at w0 table f).weight else w0

abbrev pub rank_at : ℕ → List Slot → Sym → ℕ → ℕ
rank_at w0 table f n = if (slot_at w0 table f).arity == n then (slot_at w0 table f).rank else 0

abbrev pub table_weighing : ℕ → List Slot → Weighing
table_weighing w0 table = record { w0 = w0; weight_of = weight_at w0 table; rank = rank_at w0 table }

abbrev pub node_weight : Weighing → Node → ℕ
node_weight w (Var x) = w.w0
node_weight w (App f n) = w.weight_of f n

-- how many arguments follow the node
abbrev pub arguments : Node → ℕ
arguments (Var x) = 0
arguments (App f n) = n

-- the node is a variable that passes
abbrev pub is_counted : (ℕ → Bool) → Node → Bool
is_counted p (Var x) = p x
is_counted p (App f n) = false

-- the nodes from one place to another
abbrev pub part : List Node → ℕ → ℕ → List Node
part ns from to = take (to - from) (drop from ns)

-- for each test, no more variables of ms pass it than of ns
abbrev pub HasAll : (ℕ → ℕ → Bool) → List Node → List Node → Type 0
HasAll test ns ms = (k : ℕ) → count_by (is_counted (test k)) ms ≤ count_by (is_counted (test k)) ns

abbrev pub in_slot : (ℕ → ℕ) → ℕ → ℕ → Bool
in_slot slot i x = slot x == i

-- what the run says of the list is so
pub record IsRun (w : Weighing) (slot : ℕ → ℕ) (list : List Node) (r : Run) : Type 0 where
  pub ordered : r.from ≤ r.to
  pub within : r.to ≤ length list
  pub weight : r.weight ≡ sum_by (node_weight w) (part list r.from r.to)
  pub small : r.weight ≤ 4294967295 * (r.to - r.from)
  pub size : length r.counts ≡ 32
  pub counts : (i : ℕ) → i < 32 → slice_index r.counts i ≡ count_by (is_counted (in_slot slot i)) (part list r.from r.to)
  pub large : r.has_large ≡ false → (i : ℕ) → 32 ≤ i → count_by (is_counted (in_slot slot i)) (part list r.from r.to) ≡ 0

module _ (w : Weighing) (test : ℕ → ℕ → Bool) (above : ℕ → ℕ → Type 0) where
  -- what a comparison of two terms that differ answers
  pub record IsVerdict (v : Cmp) (s t : Tree) : Type 0 where
    pub greater : (v ≡ Greater) ↔ Kbo w test above s t
    pub less : (v ≡ Less) ↔ Kbo w test above t s
    pub not_equal : v ≡ Equal → ⊥

  -- ns has all variables of ms and is heavier, or as heavy and something else holds
  abbrev pub Beats : List Node → List Node → Type 0 → Type 0
  Beats ns ms Else = HasAll test ns ms × ((sum_by (node_weight w) ms < sum_by (node_weight w) ns) ⊎ ((sum_by (node_weight w) ns ≡ sum_by (node_weight w) ms) × Else))

  -- the nodes begin with unary symbols of weight 0, and then a variable that is x or above it
  abbrev pub IsStack : List Node → ℕ → Type 0
  IsStack [] x = ⊥
  IsStack (Var y ∷ ns) x = (y ≡ x) ⊎ above y x
  IsStack (App f n ∷ ns) x = (n ≡ 1) × (w.weight_of f n ≡ 0) × IsStack ns x

  -- two lists with heads that differ
  abbrev pub IsOver : List Node → List Node → Type 0
  IsOver (App f n ∷ ns) (App g m ∷ ms) = w.rank g m < w.rank f n
  IsOver (App f n ∷ ns) (Var y ∷ ms) = IsStack (App f n ∷ ns) y
  IsOver (App f n ∷ ns) [] = ⊥
  IsOver (Var x ∷ ns) (Var y ∷ ms) = above x y
  IsOver (Var x ∷ ns) (App g m ∷ ms) = ⊥
  IsOver (Var x ∷ ns) [] = ⊥
  IsOver [] ms = ⊥
