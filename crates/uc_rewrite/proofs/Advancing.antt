-- How a walk moves.
use Rattle.std.proofs.Common.{◌≡◌, ℕ, ◌+◌, ◌-◌, ◌<◌, ◌≤◌, List, [], ◌∷◌, ◌++◌, length, take, drop, get_or, Some, None, Option, MatchOption, refl, sym, ap, ap₂, ◌∙◌, arith, append_assoc, append-nil, length-append, subst, inl, inr}
use Rattle.uc_term.specs.declared.node.Node.{Node}
use Rattle.uc_term.specs.declared.node.Node.TheVariants.{Var}
use Rattle.uc_term.specs.declared.node.Sym.{Sym}
use Rattle.uc_term.specs.Tree.{Tree, var, app, list_of, of_list, nodes, nodes_all}
use Rattle.uc_term.specs.Variables.{Occurs, in_args, OccursIn, in_first, in_later}
use Rattle.uc_term.specs.Flat.{flat, tree_of, IsWhole}
use Rattle.uc_term.specs.Code.{of_list-list_of, list_of-of_list, tree_of-flat}
use Rattle.uc_term.proofs.Terms.{length-flat}
use Rattle.uc_order.specs.Members.{Each}
use Rattle.uc_fact.specs.declared.index.Found.{Found}
use Rattle.uc_fact.specs.Live.{Live, AreRising, rules_of, equations_of}
use Rattle.uc_fact.specs.Retrieval.{FirstThat}
use Rattle.uc_fact.specs.Ordered.{IsIrreducible}
use Rattle.uc_rewrite.specs.declared.walk.Open.{Open}
use Rattle.uc_rewrite.specs.Completed.{LeadsDown}
use Rattle.uc_rewrite.specs.Walking.{Frame, plug, hole, opens, arguments, arguments_of, AreNormal, IsBehind, Stands, Walks, Advances, Stops}
use Rattle.uc_rewrite.proofs.Frames.{node_is, inside, part_is, length_is, nodes_all-append}
use Rattle.uc_rewrite.proofs.Reading.{irreducible, none_below}
use Rattle.uc_rewrite.proofs.Choosing.{all_known, nothing}

not_empty : {A : Type 0} (xs : List A) (x : A) → xs ++ x ∷ [] ≡ [] → ⊥
not_empty [] x e = cc
not_empty (y ∷ xs) x e = cc

-- lists with one more element at their ends
pub last_same : {A : Type 0} (xs ys : List A) (x y : A) → xs ++ x ∷ [] ≡ ys ++ y ∷ [] → (xs ≡ ys) × (x ≡ y)
last_same [] [] x y e = (refl, cc)
last_same [] (b ∷ ys) x y e = absurd (not_empty ys y (let h : [] ≡ ys ++ y ∷ [] = cc in sym h))
last_same (a ∷ xs) [] x y e = absurd (not_empty xs x (let h : xs ++ x ∷ [] ≡ [] = cc in h))
last_same (a ∷ xs) (b ∷ ys) x y e =
    let r = last_same xs ys x y (let h : xs ++ x ∷ [] ≡ ys ++ y ∷ [] = cc in h) in
    let h : a ≡ b = cc in
    (ap₂ (λ z zs. z ∷ zs) h r.0, r.1)

pub nodes_of : (u : Tree) → nodes u ≡ nodes_all (of_list (arguments u)) + 1
nodes_of (var x) = omega arith
nodes_of (app f ts) = omega (arith, ap nodes_all (of_list-list_of ts))

no_elements : {A : Type 0} (xs : List A) → length xs ≡ 0 → xs ≡ []
no_elements [] e = refl
no_elements (x ∷ xs) e = absurd (omega arith)

each_more : {A : Type 0} (P : A → Type 0) (xs : List A) (x : A) → Each P xs → P x → Each P (xs ++ x ∷ [])
each_more P [] x e p = (p, tt)
each_more P (y ∷ xs) x e p = (e.0, each_more P xs x e.1 p)

among_args : (x : ℕ) (before after : List Tree) (u : Tree) → Occurs x u → OccursIn x (of_list (before ++ u ∷ after))
among_args x [] after u o = in_first o
among_args x (t ∷ before) after u o = in_later (among_args x before after u o)

-- what occurs in a term occurs in it in frames
in_plug : (x : ℕ) (frames : List Frame) (u : Tree) → Occurs x u → Occurs x (plug frames u)
in_plug x [] u o = o
in_plug x (frame ∷ frames) u o = in_plug x frames (app frame.head (of_list (frame.before ++ u ∷ frame.after))) (in_args (among_args x frame.before frame.after u o))

abbrev node_at : List Node → ℕ → Node
node_at list n = get_or list n (Var 0)

module _ (Greater : Tree → Tree → Type 0) (least : Sym) (live : List Live) (list : List Node) (w : IsWhole list) where
  abbrev Over : List Open → ℕ → Type 0
  Over = Walks Greater least live (tree_of list)

  pub begins : (before opened : List Open) (place : ℕ) → before ≡ [] → opened ≡ before ++ record { place = 0; pending = arguments_of (node_at list 0) } ∷ [] → place ≡ 0 + 1 → Over opened place
  begins before opened place none e p =
      let n : arguments_of (node_at list 0) ≡ length (arguments (tree_of list)) = node_is list w [] (tree_of list) refl (Var 0) in
      inl (record {
        frames = [];
        u = tree_of list;
        before = [];
        after = arguments (tree_of list);
        t_is = refl;
        arguments_are = refl;
        opened_is = e ∙ ap₂ (λ l k. l ++ record { place = 0; pending = k } ∷ []) none n;
        place_is = omega arith;
        frames_behind = tt;
        behind = tt;
      })

  -- a term in frames, at whose node the walk enters it
  pub enters : (frames : List Frame) (u : Tree) (opened : List Open) (place : ℕ) → tree_of list ≡ plug frames u → IsBehind Greater least live frames → opened ≡ opens frames ++ record { place = hole frames; pending = arguments_of (node_at list (hole frames)) } ∷ [] → place ≡ hole frames + 1 → Over opened place
  enters frames u opened place t_is behind e p =
      inl (record {
        frames = frames;
        u = u;
        before = [];
        after = arguments u;
        t_is = t_is;
        arguments_are = refl;
        opened_is = e ∙ ap (λ k. opens frames ++ record { place = hole frames; pending = k } ∷ []) (node_is list w frames u t_is (Var 0));
        place_is = omega arith;
        frames_behind = behind;
        behind = tt;
      })

  -- a walk with nothing to go through is at its end
  pub finished : (opened : List Open) (place : ℕ) → length opened ≡ 0 → Over opened place → IsIrreducible Greater least (equations_of live) (tree_of list)
  finished opened place e (inl s) = absurd (omega (arith, e, ap length s.opened_is, length-append (opens s.frames) (record { place = hole s.frames; pending = length s.after } ∷ [])))
  finished opened place e (inr n) = n.1

  module _ (front : List Open) (top : Open) (place : ℕ) where
    stands : Over (front ++ top ∷ []) place → Stands Greater least live (tree_of list) (front ++ top ∷ []) place
    stands (inl s) = s
    stands (inr e) = absurd (not_empty front top e.0)

    -- the next argument of the innermost subterm, in frames
    pub record Descent : Type 0 where
      pub within : place < length list
      pub frames : List Frame
      pub argument : Tree
      pub t_is : tree_of list ≡ plug frames argument
      pub opened_is : front ++ record { place = top.place; pending = top.pending - 1 } ∷ [] ≡ opens frames
      pub place_is : place ≡ hole frames
      pub frames_behind : IsBehind Greater least live frames
      pub goes : (opened : List Open) (to : ℕ) → opened ≡ (front ++ record { place = top.place; pending = top.pending - 1 } ∷ []) ++ record { place = place; pending = arguments_of (node_at list place) } ∷ [] → to ≡ place + 1 → Over opened to

    descent_at : (s : Stands Greater least live (tree_of list) (front ++ top ∷ []) place) (u : Tree) (after : List Tree) → s.u ≡ u → s.after ≡ after → 0 < top.pending → Descent
    descent_at s u [] eu ea pos =
        absurd (let e : top.pending ≡ length s.after = ap (λ o. o.pending) (last_same front (opens s.frames) top (record { place = hole s.frames; pending = length s.after }) s.opened_is).1 in omega (arith, e, ap length ea))
    descent_at s (var x) (c ∷ rest) eu ea pos =
        absurd (let e : 0 ≡ length (s.before ++ c ∷ rest) = ap length (ap arguments (sym eu) ∙ s.arguments_are ∙ ap (λ l. s.before ++ l) ea) in omega (arith, length-append s.before (c ∷ rest)))
    descent_at s (app f ts) (c ∷ rest) eu ea pos = record { within = within; frames = frame ∷ s.frames; argument = c; t_is = t_is; opened_is = opened_is; place_is = (let p = s.place_is in omega arith); frames_behind = (s.behind, s.frames_behind); goes = goes }
      where
        args : list_of ts ≡ s.before ++ c ∷ rest
        args = ap arguments (sym eu) ∙ s.arguments_are ∙ ap (λ l. s.before ++ l) ea

        frame : Frame
        frame = record { head = f; before = s.before; after = rest }

        t_is : tree_of list ≡ plug (frame ∷ s.frames) c
        t_is = s.t_is ∙ ap (plug s.frames) (eu ∙ ap (app f) (sym (of_list-list_of ts) ∙ ap of_list args))

        ends : (front ≡ opens s.frames) × (top ≡ record { place = hole s.frames; pending = length s.after })
        ends = last_same front (opens s.frames) top (record { place = hole s.frames; pending = length s.after }) s.opened_is

        within : place < length list
        within = let h = inside list w (frame ∷ s.frames) c t_is in let p = s.place_is in omega arith

        left_over : top.pending - 1 ≡ length rest
        left_over = let e : top.pending ≡ length s.after = ap (λ o. o.pending) ends.1 in omega (arith, e, ap length ea)

        opened_is : front ++ record { place = top.place; pending = top.pending - 1 } ∷ [] ≡ opens (frame ∷ s.frames)
        opened_is = ap₂ (λ a b. a ++ b ∷ []) ends.0 (ap₂ (λ a b. record { place = a; pending = b }) (ap (λ o. o.place) ends.1) left_over)

        goes : (opened : List Open) (to : ℕ) → opened ≡ (front ++ record { place = top.place; pending = top.pending - 1 } ∷ []) ++ record { place = place; pending = arguments_of (node_at list place) } ∷ [] → to ≡ place + 1 → Over opened to
        goes opened to e p =
            enters (frame ∷ s.frames) c opened to t_is (s.behind, s.frames_behind) (e ∙ ap₂ (λ a b. a ++ b ∷ []) opened_is (ap (λ n. record { place = n; pending = arguments_of (node_at list n) }) s.place_is)) (let q = s.place_is in omega arith)

    pub descent : 0 < top.pending → Over (front ++ top ∷ []) place → Descent
    descent pos over = let s = stands over in descent_at s s.u s.after refl refl pos

    pub descended : Descent → (opened : List Open) (to : ℕ) → opened ≡ (front ++ record { place = top.place; pending = top.pending - 1 } ∷ []) ++ record { place = place; pending = arguments_of (node_at list place) } ∷ [] → to ≡ place + 1 → Advances Greater least live list front place opened to
    descended d opened to e p =
        (d.goes opened to e p, omega (arith, d.within, p, ap length e, length-append (front ++ record { place = top.place; pending = top.pending - 1 } ∷ []) (record { place = place; pending = arguments_of (node_at list place) } ∷ []), length-append front (record { place = top.place; pending = top.pending - 1 } ∷ [])))

    abbrev part : List Node
    part = take (place - top.place) (drop top.place list)

    pub record Complete : Type 0 where
      pub order : top.place ≤ place
      pub within : place ≤ length list
      pub whole : IsWhole part
      pub few : length part ≤ length list
      pub none_new : (x : ℕ) → Occurs x (tree_of part) → Occurs x (tree_of list)
      pub leaves : FirstThat (LeadsDown Greater least live (tree_of part)) (tree_of part) (rules_of live) None → Over front place
      pub stops : (found : Found) → FirstThat (LeadsDown Greater least live (tree_of part)) (tree_of part) (rules_of live) (Some found) → Stops Greater least live (tree_of list) front (record { from = top.place; to = place; found = found })

    pub left_behind : (frames : List Frame) (u : Tree) → tree_of list ≡ plug frames u → front ≡ opens frames → place ≡ hole frames + nodes u → IsBehind Greater least live frames → IsIrreducible Greater least (equations_of live) u → Over front place
    left_behind [] u t_is f p b n = inr (f, subst (IsIrreducible Greater least (equations_of live)) (sym t_is) n)
    left_behind (frame ∷ frames) u t_is f p b n =
        inl (record {
          frames = frames;
          u = app frame.head (of_list (frame.before ++ u ∷ frame.after));
          before = frame.before ++ u ∷ [];
          after = frame.after;
          t_is = t_is;
          arguments_are = list_of-of_list (frame.before ++ u ∷ frame.after) ∙ sym (append_assoc frame.before (u ∷ []) frame.after);
          opened_is = f;
          place_is = omega (arith, nodes_all-append frame.before (u ∷ []));
          frames_behind = b.1;
          behind = each_more (IsIrreducible Greater least (equations_of live)) frame.before u b.0 n;
        })

    pub complete : AreRising live → top.pending ≡ 0 → Over (front ++ top ∷ []) place → Complete
    complete rising none over = record { order = order; within = within; whole = whole; few = few; none_new = none_new; leaves = leaves; stops = stops }
      where
        s : Stands Greater least live (tree_of list) (front ++ top ∷ []) place
        s = stands over

        ends : (front ≡ opens s.frames) × (top ≡ record { place = hole s.frames; pending = length s.after })
        ends = last_same front (opens s.frames) top (record { place = hole s.frames; pending = length s.after }) s.opened_is

        at : top.place ≡ hole s.frames
        at = ap (λ o. o.place) ends.1

        done : s.after ≡ []
        done = no_elements s.after (let e : top.pending ≡ length s.after = ap (λ o. o.pending) ends.1 in omega arith)

        args : arguments s.u ≡ s.before
        args = s.arguments_are ∙ ap (λ l. s.before ++ l) done ∙ append-nil s.before

        to_is : place ≡ hole s.frames + nodes s.u
        to_is = let p = s.place_is in omega (arith, nodes_of s.u, ap (λ l. nodes_all (of_list l)) args)

        part_flat : part ≡ flat s.u
        part_flat = ap (λ n. take (place - n) (drop n list)) at ∙ part_is list w s.frames s.u s.t_is place to_is

        tree : tree_of part ≡ s.u
        tree = ap tree_of part_flat ∙ tree_of-flat s.u

        order : top.place ≤ place
        order = omega (arith, at, to_is)

        within : place ≤ length list
        within = omega (arith, to_is, length_is list w s.frames s.u s.t_is)

        whole : IsWhole part
        whole = ap flat tree ∙ sym part_flat

        few : length part ≤ length list
        few = omega (arith, ap length part_flat, length-flat s.u, length_is list w s.frames s.u s.t_is)

        none_new : (x : ℕ) → Occurs x (tree_of part) → Occurs x (tree_of list)
        none_new x o = subst (Occurs x) (sym s.t_is) (in_plug x s.frames s.u (subst (Occurs x) tree o))

        behind : AreNormal Greater least live (arguments s.u)
        behind = subst (AreNormal Greater least live) (sym args) s.behind

        leaves : FirstThat (LeadsDown Greater least live (tree_of part)) (tree_of part) (rules_of live) None → Over front place
        leaves f =
            let g : FirstThat (LeadsDown Greater least live s.u) s.u (rules_of live) None = subst (λ z. FirstThat (LeadsDown Greater least live z) z (rules_of live) None) tree f in
            left_behind s.frames s.u s.t_is ends.0 to_is s.frames_behind (irreducible Greater least live s.u (none_below Greater least live s.u behind) (nothing Greater least live s.u (rules_of live) (all_known live rising) g))

        stops : (found : Found) → FirstThat (LeadsDown Greater least live (tree_of part)) (tree_of part) (rules_of live) (Some found) → Stops Greater least live (tree_of list) front (record { from = top.place; to = place; found = found })
        stops found f = record {
          frames = s.frames;
          u = s.u;
          t_is = s.t_is;
          opened_is = ends.0;
          from_is = at;
          to_is = to_is;
          frames_behind = s.frames_behind;
          behind = behind;
          first = subst (λ z. FirstThat (LeadsDown Greater least live z) z (rules_of live) (Some found)) tree f;
        }

pub changed : {A : Type 0} (P Q : Type 0) (R : A → Type 0) (o : Option A) → (P → Q) → MatchOption o P R → MatchOption o Q R
changed P Q R None f m = f m
changed P Q R (Some x) f m = m

pub some_of : {A : Type 0} (P : Type 0) (R : A → Type 0) (o : Option A) (x : A) → o ≡ Some x → MatchOption o P R → R x
some_of P R None x e m = absurd cc
some_of P R (Some y) x e m = subst R (let h : y ≡ x = cc in h) m
