-- A walk over a term in postorder: where it stands, and what is known of what lies behind it.
use Rattle.std.specs.Prelude.{ℕ, ◌≡◌, ◌+◌, ◌-◌, ◌*◌, ◌<◌, ◌≤◌, ◌⊎◌, List, [], ◌∷◌, ◌++◌, length, take, drop, get_or, slice_get, Some}
use Rattle.uc_term.specs.declared.node.Sym.{Sym}
use Rattle.uc_term.specs.declared.node.Node.{Node}
use Rattle.uc_term.specs.declared.node.Node.TheVariants.{Var, App}
use Rattle.uc_term.specs.Tree.{Tree, var, app, of_list, list_of, nodes, nodes_all}
use Rattle.uc_order.specs.Members.{Each}
use Rattle.uc_term.specs.Flat.{flat, tree_of}
use Rattle.uc_term.specs.Subst.{found}
use Rattle.uc_term.specs.Variables.{IsApp}
use Rattle.uc_fact.specs.declared.chain.Step.{Step}
use Rattle.uc_fact.specs.Live.{Live, Rule, rules_of, equations_of}
use Rattle.uc_fact.specs.Retrieval.{FirstThat}
use Rattle.uc_fact.specs.Ordered.{IsIrreducible}
use Rattle.uc_rewrite.specs.declared.walk.Open.{Open}
use Rattle.uc_rewrite.specs.declared.walk.Redex.{Redex}
use Rattle.uc_rewrite.specs.Completed.{LeadsDown}
use Rattle.uc_rewrite.specs.Normalising.{FirstStep, step_by}

-- the arguments of a term
abbrev pub arguments : Tree → List Tree
arguments (var x) = []
arguments (app f ts) = list_of ts

-- how many arguments stand behind a node
abbrev pub arguments_of : Node → ℕ
arguments_of (Var x) = 0
arguments_of (App f n) = n

-- the part of the list between the two places is a term that one of the substitutions has for a variable
pub record IsKeptPart (kept : List (List (ℕ × Tree))) (list : List Node) (from to : ℕ) : Type 0 where
  pub number : ℕ
  pub pairs : List (ℕ × Tree)
  pub pairs_are : slice_get kept number ≡ Some pairs
  pub x : ℕ
  pub v : Tree
  pub v_is : found pairs x ≡ Some v
  pub to_is : to ≡ from + nodes v
  pub part_is : take (to - from) (drop from list) ≡ flat v

-- a substitution is put behind the first ones of the others, where the side that was found is no variable
abbrev pub Keeps : Tree → List (ℕ × Tree) → List (List (ℕ × Tree)) → List (List (ℕ × Tree)) → Type 0
Keeps side pairs old new = (new ≡ old) ⊎ (IsApp side × (n : ℕ) × (new ≡ take n old ++ pairs ∷ []))

-- the side that was found is no variable, and the other one is one that has a term
pub record IsKeptValue (side other : Tree) (pairs : List (ℕ × Tree)) : Type 0 where
  pub no_variable : IsApp side
  pub x : ℕ
  pub v : Tree
  pub other_is : other ≡ var x
  pub v_is : found pairs x ≡ Some v

-- the walk enters the new subterm of a step; or it is a value of the rule's variables, which the walk leaves behind
pub data GoesIn (side other : Tree) (pairs : List (ℕ × Tree)) (list : List Node) (end : ℕ) (old : List Open) (from : ℕ) (kept : List (List (ℕ × Tree))) (new : List Open) (to : ℕ) (new_kept : List (List (ℕ × Tree))) : Type 0 where
  enters_it : new ≡ old ++ record { place = from; pending = arguments_of (get_or list from (Var 0)) } ∷ [] → to ≡ from + 1 → Keeps side pairs kept new_kept → GoesIn side other pairs list end old from kept new to new_kept
  leaves_it : new ≡ old → to ≡ end → new_kept ≡ kept → IsKeptValue side other pairs → GoesIn side other pairs list end old from kept new to new_kept

-- The walk, from which a subterm with arguments to come was taken, entered the next one of them, or passed over it, since it is
-- a term that is kept.
abbrev pub GoesOn : List (List (ℕ × Tree)) → List Node → Open → List Open → ℕ → List Open → ℕ → Type 0
GoesOn kept list top old from new to =
    ((new ≡ (old ++ record { place = top.place; pending = top.pending - 1 } ∷ []) ++ record { place = from; pending = arguments_of (get_or list from (Var 0)) } ∷ []) × (to ≡ from + 1)) ⊎
    ((new ≡ old ++ record { place = top.place; pending = top.pending - 1 } ∷ []) × IsKeptPart kept list from to)

-- a term without one of its arguments: its head, the arguments before that one and those behind it
pub record Frame : Type 0 where
  pub head : Sym
  pub before : List Tree
  pub after : List Tree

-- frames, the innermost first, round a term
abbrev pub plug : List Frame → Tree → Tree
plug [] u = u
plug (frame ∷ frames) u = plug frames (app frame.head (of_list (frame.before ++ u ∷ frame.after)))

-- the place in prefix order of the term that they stand round
abbrev pub hole : List Frame → ℕ
hole [] = 0
hole (frame ∷ frames) = hole frames + 1 + nodes_all (of_list frame.before)

-- the frames as the walk keeps them, from the outermost inwards: their places, and how many arguments are still to come
abbrev pub opens : List Frame → List Open
opens [] = []
opens (frame ∷ frames) = opens frames ++ record { place = hole frames; pending = length frame.after } ∷ []

module _ (Greater : Tree → Tree → Type 0) (least : Sym) (live : List Live) where
  abbrev pub AreNormal : List Tree → Type 0
  AreNormal ts = Each (IsIrreducible Greater least (equations_of live)) ts

  -- the arguments that the walk has left behind are irreducible
  abbrev pub IsBehind : List Frame → Type 0
  IsBehind [] = Unit {0}
  IsBehind (frame ∷ frames) = AreNormal frame.before × IsBehind frames

  -- The walk over t goes through its subterm u and the frames round it. It has left some arguments of u behind, which are
  -- irreducible, and stands before the next one.
  pub record Stands (t : Tree) (opened : List Open) (place : ℕ) : Type 0 where
    pub frames : List Frame
    pub u : Tree
    pub before : List Tree
    pub after : List Tree
    pub t_is : t ≡ plug frames u
    pub arguments_are : arguments u ≡ before ++ after
    pub opened_is : opened ≡ opens frames ++ record { place = hole frames; pending = length after } ∷ []
    pub place_is : place ≡ hole frames + 1 + nodes_all (of_list before)
    pub frames_behind : IsBehind frames
    pub behind : AreNormal before

  -- the walk over t goes on, or it is at its end and t is irreducible
  abbrev pub Walks : Tree → List Open → ℕ → Type 0
  Walks t opened place = Stands t opened place ⊎ ((opened ≡ []) × IsIrreducible Greater least (equations_of live) t)

  -- the terms that these substitutions have for variables are irreducible
  abbrev pub AreKept : List (List (ℕ × Tree)) → Type 0
  AreKept kept = Each (λ pairs. (x : ℕ) (v : Tree) → found pairs x ≡ Some v → IsIrreducible Greater least (equations_of live) v) kept

  -- the walk, from which the innermost subterm was taken, went on by one move
  abbrev pub Advances : List Node → List Open → ℕ → List Open → ℕ → Type 0
  Advances list old from new to = Walks (tree_of list) new to × (2 * (length list - to) + length new < 2 * (length list - from) + (length old + 1))

  -- the walk has left all arguments of u behind, and this is the first by which a step from u is possible
  pub record Stops (t : Tree) (opened : List Open) (redex : Redex) : Type 0 where
    pub frames : List Frame
    pub u : Tree
    pub t_is : t ≡ plug frames u
    pub opened_is : opened ≡ opens frames
    pub from_is : redex.from ≡ hole frames
    pub to_is : redex.to ≡ hole frames + nodes u
    pub frames_behind : IsBehind frames
    pub behind : AreNormal (arguments u)
    pub first : FirstThat (LeadsDown Greater least live u) u (rules_of live) (Some redex.found)

  -- the first possible step of t is this one, and over the term to which it leads the walk goes on
  pub record Steps (t : Tree) (step : Step) (opened : List Open) (place : ℕ) : Type 0 where
    pub at : ℕ
    pub rule : Rule
    pub v : Tree
    pub first : FirstStep Greater least live t at rule v
    pub step_is : step ≡ step_by rule at v
    pub small : nodes v ≤ 4096
    pub walks : Walks v opened place

  -- the first possible step of t leads to a term that is too large
  pub record IsLarge (t : Tree) : Type 0 where
    pub at : ℕ
    pub rule : Rule
    pub v : Tree
    pub first : FirstStep Greater least live t at rule v
    pub large : 4096 < nodes v
