-- The flat list of a term and of the frames round it.
use Rattle.std.proofs.Common.{◌≡◌, ℕ, ◌+◌, ◌-◌, ◌<◌, List, [], ◌∷◌, ◌++◌, length, take, drop, get_or, refl, sym, ap, ap₂, ◌∙◌, arith, append_assoc, append-nil, length-append}
use Rattle.std.proofs.Math.Seq.{drop-append_seam, take-append_seam, get_or-append_seam}
use Rattle.uc_term.specs.declared.node.Node.{Node}
use Rattle.uc_term.specs.declared.node.Node.TheVariants.{Var, App}
use Rattle.uc_term.specs.Tree.{Tree, var, app, count, of_list, nodes, nodes_all}
use Rattle.uc_term.specs.Flat.{flat, flat_all, tree_of, IsWhole}
use Rattle.uc_term.specs.Code.{length-list_of}
use Rattle.uc_term.proofs.Terms.{length-flat, length-flat_all, nodes_pos}
use Rattle.uc_rewrite.specs.Walking.{Frame, plug, hole, arguments, arguments_of}

abbrev pub arity : Frame → ℕ
arity frame = length frame.before + (length frame.after + 1)

-- the nodes before and behind a term in frames
abbrev pub left : List Frame → List Node
left [] = []
left (frame ∷ frames) = left frames ++ App frame.head (arity frame) ∷ flat_all (of_list frame.before)

abbrev pub right : List Frame → List Node
right [] = []
right (frame ∷ frames) = flat_all (of_list frame.after) ++ right frames

pub flat_all-append : (xs ys : List Tree) → flat_all (of_list (xs ++ ys)) ≡ flat_all (of_list xs) ++ flat_all (of_list ys)
flat_all-append [] ys = refl
flat_all-append (x ∷ xs) ys = ap (λ l. flat x ++ l) (flat_all-append xs ys) ∙ sym (append_assoc (flat x) (flat_all (of_list xs)) (flat_all (of_list ys)))

pub nodes_all-append : (xs ys : List Tree) → nodes_all (of_list (xs ++ ys)) ≡ nodes_all (of_list xs) + nodes_all (of_list ys)
nodes_all-append [] ys = omega arith
nodes_all-append (x ∷ xs) ys = omega (arith, nodes_all-append xs ys)

count-of_list : (xs : List Tree) → count (of_list xs) ≡ length xs
count-of_list [] = refl
count-of_list (x ∷ xs) = omega (arith, count-of_list xs)

counted : (xs ys : List Tree) (u : Tree) → count (of_list (xs ++ u ∷ ys)) ≡ length xs + (length ys + 1)
counted xs ys u = omega (arith, count-of_list (xs ++ u ∷ ys), length-append xs (u ∷ ys))

pub flat_plug : (frames : List Frame) (u : Tree) → flat (plug frames u) ≡ left frames ++ (flat u ++ right frames)
flat_plug [] u = sym (append-nil (flat u))
flat_plug (frame ∷ frames) u =
    flat_plug frames (app frame.head (of_list (frame.before ++ u ∷ frame.after))) ∙ ap (λ l. left frames ++ l) inner ∙ sym (append_assoc (left frames) (App frame.head (arity frame) ∷ flat_all (of_list frame.before)) (flat u ++ (flat_all (of_list frame.after) ++ right frames)))
  where
    args : flat_all (of_list (frame.before ++ u ∷ frame.after)) ++ right frames ≡ flat_all (of_list frame.before) ++ (flat u ++ (flat_all (of_list frame.after) ++ right frames))
    args = ap (λ l. l ++ right frames) (flat_all-append frame.before (u ∷ frame.after)) ∙ append_assoc (flat_all (of_list frame.before)) (flat u ++ flat_all (of_list frame.after)) (right frames) ∙ ap (λ l. flat_all (of_list frame.before) ++ l) (append_assoc (flat u) (flat_all (of_list frame.after)) (right frames))

    inner : flat (app frame.head (of_list (frame.before ++ u ∷ frame.after))) ++ right frames ≡ App frame.head (arity frame) ∷ (flat_all (of_list frame.before) ++ (flat u ++ (flat_all (of_list frame.after) ++ right frames)))
    inner = ap₂ (λ n l. App frame.head n ∷ l) (counted frame.before frame.after u) args

pub length_left : (frames : List Frame) → length (left frames) ≡ hole frames
length_left [] = refl
length_left (frame ∷ frames) = omega (arith, length-append (left frames) (App frame.head (arity frame) ∷ flat_all (of_list frame.before)), length_left frames, length-flat_all (of_list frame.before))

module _ (list : List Node) (w : IsWhole list) (frames : List Frame) (u : Tree) (t_is : tree_of list ≡ plug frames u) where
  pub list_is : list ≡ left frames ++ (flat u ++ right frames)
  list_is = sym w ∙ ap flat t_is ∙ flat_plug frames u

  pub drop_hole : drop (hole frames) list ≡ flat u ++ right frames
  drop_hole = ap₂ (λ n l. drop n l) (sym (length_left frames)) list_is ∙ drop-append_seam (left frames) (flat u ++ right frames)

  pub length_is : length list ≡ hole frames + (nodes u + length (right frames))
  length_is = omega (arith, ap length list_is, length-append (left frames) (flat u ++ right frames), length-append (flat u) (right frames), length_left frames, length-flat u)

  -- the part of the list from the term's place to the place behind it
  pub part_is : (to : ℕ) → to ≡ hole frames + nodes u → take (to - hole frames) (drop (hole frames) list) ≡ flat u
  part_is to e =
      let n : to - hole frames ≡ length (flat u) = omega (arith, length-flat u) in
      ap₂ (λ k l. take k l) n drop_hole ∙ take-append_seam (flat u) (right frames)

  pub front_is : take (hole frames) list ≡ left frames
  front_is = ap₂ (λ n l. take n l) (sym (length_left frames)) list_is ∙ take-append_seam (left frames) (flat u ++ right frames)

  pub rest_is : (to : ℕ) → to ≡ hole frames + nodes u → drop to list ≡ right frames
  rest_is to e =
      let n : to ≡ length (left frames ++ flat u) = omega (arith, length-append (left frames) (flat u), length_left frames, length-flat u) in
      ap₂ (λ k l. drop k l) n (list_is ∙ sym (append_assoc (left frames) (flat u) (right frames))) ∙ drop-append_seam (left frames ++ flat u) (right frames)

  -- the term with another one in the frames
  pub replaced_is : (to : ℕ) (v : Tree) (part : List Node) → to ≡ hole frames + nodes u → part ≡ flat v → take (hole frames) list ++ (part ++ drop to list) ≡ flat (plug frames v)
  replaced_is to v part e p = ap₂ (λ a b. a ++ b) front_is (ap₂ (λ a b. a ++ b) p (rest_is to e)) ∙ sym (flat_plug frames v)

  pub inside : hole frames < length list
  inside = omega (arith, length_is, nodes_pos u)

  -- the node at the term's place
  pub node_is : (d : Node) → arguments_of (get_or list (hole frames) d) ≡ length (arguments u)
  node_is d = ap₂ (λ l n. arguments_of (get_or l n d)) list_is (sym (length_left frames)) ∙ head u
    where
      head : (c : Tree) → arguments_of (get_or (left frames ++ (flat c ++ right frames)) (length (left frames)) d) ≡ length (arguments c)
      head (var x) = ap arguments_of (get_or-append_seam (left frames) (Var x) (right frames) d)
      head (app f ts) = ap arguments_of (get_or-append_seam (left frames) (App f (count ts)) (flat_all ts ++ right frames) d) ∙ sym (length-list_of ts)
