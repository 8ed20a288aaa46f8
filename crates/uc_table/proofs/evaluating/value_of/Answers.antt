use Rattle.std.proofs.Common.{◌≡◌, ℕ, ◌+◌, ◌-◌, ◌<◌, ◌≤◌, List, [], ◌∷◌, length, get_or, drop, arith, sym, ap, ◌∙◌, subst}
use Rattle.uc_term.specs.declared.node.Node.{Node}
use Rattle.uc_term.specs.Tree.{Tree, nodes}
use Rattle.uc_term.specs.Flat.{flat}
use Rattle.uc_term.proofs.Terms.{length-flat}
use Rattle.uc_table.specs.declared.table.Table.{Table}
use Rattle.uc_table.specs.Algebras.{operation, value, given}
use Rattle.uc_table.specs.Tables.{AreValues}
use Rattle.uc_table.specs.Evaluating.{IsReady, IsReadyFor, AreReadyNodes, values_on}
use Rattle.uc_table.proofs.Evaluation.{whole_ready, ready_behind, node_ready, has_room, on_top, values_on_values, values_on-whole}
use Rattle.uc_table.proofs.evaluating.value_of.Goals as goal

-- the list of a term's nodes
module _ (table : Table) (numbers vs : List ℕ) (t : Tree) (list : List Node) (is : list ≡ flat t) where
  list_ready : IsReady table numbers (length vs) t → AreReadyNodes table numbers (length vs) (operation table) (given vs) list
  list_ready h = subst (AreReadyNodes table numbers (length vs) (operation table) (given vs)) (sym is) (whole_ready (operation table) (given vs) table numbers (length vs) t h)

  list_long : length list ≡ nodes t
  list_long = ap length is ∙ length-flat t

  list_value : (top at : ℕ) (stack : List ℕ) → at ≡ 0 → top ≤ length stack → drop top stack ≡ values_on (operation table) (given vs) (drop at list) → (top < length stack) × (get_or stack top 0 ≡ value table (given vs) t)
  list_value top at stack z h e =
      let whole : drop top stack ≡ value table (given vs) t ∷ [] = subst (λ k. drop top stack ≡ values_on (operation table) (given vs) (drop k list)) z e ∙ ap (values_on (operation table) (given vs)) is ∙ values_on-whole (operation table) (given vs) t in
      on_top stack top (value table (given vs) t) h whole

  list_values : 0 < table.size → AreValues table.size vs → IsReady table numbers (length vs) t → (top at : ℕ) (stack : List ℕ) → drop top stack ≡ values_on (operation table) (given vs) (drop at list) → AreValues table.size (drop top stack)
  list_values some are h top at stack e =
      subst (AreValues table.size) (sym e) (values_on_values table some numbers vs are (drop at list) (ready_behind (operation table) (given vs) table numbers (length vs) at list (list_ready h)))

  list_node : IsReady table numbers (length vs) t → (i at top : ℕ) (stack : List ℕ) (d : Node) → at ≡ i + 1 → at ≤ length list → drop top stack ≡ values_on (operation table) (given vs) (drop at list) → IsReadyFor table numbers (length vs) (get_or list i d) (drop top stack)
  list_node h i at top stack d k l e =
      subst (IsReadyFor table numbers (length vs) (get_or list i d)) (sym e) (node_ready table numbers (length vs) (operation table) (given vs) list i at d k l (list_ready h))

pub step-top-requires-clause-room : goal.step-top-requires-clause-room
step-top-requires-clause-room c =
    let long : length c.as_nodes-list.result.now ≡ nodes c.args.term.now = list_long c.args.table.now c.args.numbers.now c.args.values.now c.args.term.now c.as_nodes-list.result.now c.as_nodes-list.ensures.value in
    let room : c.loop-at.at ≤ c.loop-at.top = has_room (operation c.args.table.now) (given c.args.values.now) c.as_nodes-list.result.now c.loop-at.stack c.loop-at.at c.loop-at.top c.loop-at.invariant.0 (omega (arith, c.loop-at.invariant.3, c.requires.room)) c.loop-at.invariant.1 c.loop-at.invariant.2 in
    omega arith

pub step-top-requires-clause-on_stack : goal.step-top-requires-clause-on_stack
step-top-requires-clause-on_stack c =
    list_values c.args.table.now c.args.numbers.now c.args.values.now c.args.term.now c.as_nodes-list.result.now c.as_nodes-list.ensures.value (omega (arith, c.requires.sized.0)) c.requires.values c.requires.ready c.loop-at.top c.loop-at.at c.loop-at.stack c.loop-at.invariant.2

pub step-top-requires-clause-ready : goal.step-top-requires-clause-ready
step-top-requires-clause-ready c =
    list_node c.args.table.now c.args.numbers.now c.args.values.now c.args.term.now c.as_nodes-list.result.now c.as_nodes-list.ensures.value c.requires.ready (c.loop-at.at - 1) c.loop-at.at c.loop-at.top c.loop-at.stack _ (omega arith) c.loop-at.invariant.0 c.loop-at.invariant.2

pub bounds-stack-top : goal.bounds-stack-top
bounds-stack-top c =
    (list_value c.args.table.now c.args.numbers.now c.args.values.now c.args.term.now c.as_nodes-list.result.now c.as_nodes-list.ensures.value c.loop-at.top c.loop-at.at c.loop-at.stack (omega arith) c.loop-at.invariant.1 c.loop-at.invariant.2).0

pub returns-clause-value : goal.returns-clause-value
returns-clause-value c =
    (list_value c.args.table.now c.args.numbers.now c.args.values.now c.args.term.now c.as_nodes-list.result.now c.as_nodes-list.ensures.value c.loop-at.top c.loop-at.at c.loop-at.stack (omega arith) c.loop-at.invariant.1 c.loop-at.invariant.2).1
