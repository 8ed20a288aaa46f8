-- Places of names in lists.
use Rattle.std.proofs.Common.{◌≡◌, ℕ, zero, suc, ◌+◌, ◌<◌, ◌≤◌, ◌==◌, ◌||◌, Bool, true, false, List, [], ◌∷◌, ◌++◌, length, take, get_or, if◌then◌else◌, refl, sym, ap, ap₂, ◌∙◌, arith, append_assoc, append-nil, length-append, subst}
use Rattle.std.proofs.lemmas.Bool.{eqb-true, eq-eqb}
use Rattle.std.proofs.lemmas.List.{take_more}
use Rattle.std.specs.List.{flat_map}
use Rattle.std.proofs.lemmas.Grind.{flat_map-append}
use Rattle.uc_term.specs.declared.node.Sym.{Sym}
use Rattle.uc_term.specs.declared.node.Node.{Node}
use Rattle.uc_term.specs.declared.node.Node.TheVariants.{Var, App}
use Rattle.uc_term.specs.Tree.{Tree, var, app, Trees, none, more, apply, apply_all, nodes, nodes_all}
use Rattle.uc_term.specs.Flat.{flat, tree_of, IsWhole}
use Rattle.uc_term.specs.Variables.{variables, is_among, firsts_after, place_of}
use Rattle.uc_term.proofs.Firsts.{is_among-append, firsts_after-append, firsts_after-like}
use Rattle.uc_term.proofs.NodeVars.{node_vars, node_vars-append, node_vars-flat, node_vars-app}
use Rattle.uc_term.proofs.Instances.{node_image, instance_list}
use Rattle.uc_term.specs.Code.{tree_of-flat}
use Rattle.uc_term.proofs.Terms.{take_of_length-le, nodes_whole, length-flat, whole_list}
use Rattle.uc_pair.specs.Numbering.{placed_by, IsNameAt, IsNumberedNode}

pub place_here : (y : ℕ) (ys : List ℕ) (x : ℕ) → (x == y) ≡ true → place_of (y ∷ ys) x ≡ 0
place_here y ys x e = rw e refl

pub place_later : (y : ℕ) (ys : List ℕ) (x : ℕ) → (x == y) ≡ false → place_of (y ∷ ys) x ≡ place_of ys x + 1
place_later y ys x e = rw e refl

or_left_false : (a b : Bool) → (a || b) ≡ false → (a ≡ false) × (b ≡ false)
or_left_false true b e = absurd cc
or_left_false false b e = (refl, e)

pub is_among_at : (xs : List ℕ) (i x d : ℕ) → i < length xs → get_or xs i d ≡ x → is_among x xs ≡ true
is_among_at [] i x d h e = absurd (omega arith)
is_among_at (y ∷ ys) zero x d h e = ap (λ b. b || is_among x ys) (eq-eqb x y (sym e))
is_among_at (y ∷ ys) (suc i) x d h e = go (x == y) (is_among_at ys i x d (omega arith) e)
  where
    go : (b : Bool) → is_among x ys ≡ true → (b || is_among x ys) ≡ true
    go true t = refl
    go false t = t

-- the first place where a name stands
pub place_first : (xs : List ℕ) (i x d : ℕ) (rest : List ℕ) → i < length xs → get_or xs i d ≡ x → is_among x (take i xs) ≡ false → place_of (xs ++ rest) x ≡ i
place_first [] i x d rest h e n = absurd (omega arith)
place_first (y ∷ ys) zero x d rest h e n = place_here y (ys ++ rest) x (eq-eqb x y (sym e))
place_first (y ∷ ys) (suc i) x d rest h e n =
    let both = or_left_false (x == y) (is_among x (take i ys)) n in
    place_later y (ys ++ rest) x both.0 ∙ ap (λ k. k + 1) (place_first ys i x d rest (omega arith) e both.1) ∙ (omega arith)

-- the place of a name behind others
pub place_new : (xs : List ℕ) (x : ℕ) (rest : List ℕ) → is_among x xs ≡ false → place_of (xs ++ x ∷ rest) x ≡ length xs
place_new [] x rest n = place_here x rest x (eq-eqb x x refl)
place_new (y ∷ ys) x rest n =
    let both = or_left_false (x == y) (is_among x ys) n in
    place_later y (ys ++ x ∷ rest) x both.0 ∙ ap (λ k. k + 1) (place_new ys x rest both.1) ∙ (omega arith)

pub not_among_more : (xs : List ℕ) (i x d : ℕ) → i < length xs → (get_or xs i d ≡ x → ⊥) → is_among x (take i xs) ≡ false → is_among x (take (i + 1) xs) ≡ false
not_among_more xs i x d h n e =
    ap (is_among x) (take_more xs i d h) ∙ is_among-append x (take i xs) (get_or xs i d ∷ []) ∙ go (is_among x (take i xs)) (x == get_or xs i d) e (λ t. n (sym (eqb-true x (get_or xs i d) t)))
  where
    go : (a b : Bool) → a ≡ false → (b ≡ true → ⊥) → (a || (b || false)) ≡ false
    go true b h k = h
    go false true h k = absurd (k refl)
    go false false h k = refl

pub known_adds_none : (xs : List ℕ) (x : ℕ) → is_among x xs ≡ true → xs ≡ xs ++ firsts_after xs (x ∷ [])
known_adds_none xs x e = rw e (sym (append-nil xs))

pub new_adds_one : (xs : List ℕ) (x : ℕ) → is_among x xs ≡ false → xs ++ x ∷ [] ≡ xs ++ firsts_after xs (x ∷ [])
new_adds_one xs x e = rw e refl

pub is_name_known : (xs : List ℕ) (i x d : ℕ) → i < length xs → get_or xs i d ≡ x → is_among x (take i xs) ≡ false → IsNameAt x xs xs i
is_name_known xs i x d h e n = record {
  names_are = known_adds_none xs x (is_among_at xs i x d h e);
  low = omega arith;
  place_is = λ rest. sym (place_first xs i x d rest h e n);
}

pub is_name_new : (xs ys : List ℕ) (x : ℕ) → ys ≡ xs ++ x ∷ [] → is_among x xs ≡ false → IsNameAt x xs ys (length xs)
is_name_new xs ys x e n = record {
  names_are = e ∙ new_adds_one xs x n;
  low = omega arith;
  place_is = λ rest. sym (ap (λ l. place_of (l ++ rest) x) e ∙ ap (λ l. place_of l x) (append_assoc xs (x ∷ []) rest) ∙ place_new xs x rest n);
}

pub is_name_behind : (xs ys : List ℕ) (x i place : ℕ) → length xs ≤ i → is_among x (take i xs) ≡ false → ys ≡ xs ++ x ∷ [] → place ≡ length xs → IsNameAt x xs ys place
is_name_behind xs ys x i place h n e is = subst (IsNameAt x xs ys) (sym is) (is_name_new xs ys x e (ap (is_among x) (sym (take_of_length-le xs i h)) ∙ n))

-- what is written of a term's list so far
abbrev pub renumbering : List ℕ → ℕ → ℕ → Tree
renumbering names offset x = var (place_of names x + offset)

pub record Numbered (ns : List Node) (old names : List ℕ) (offset i : ℕ) (list : List Node) : Type 0 where
  pub names_are : names ≡ old ++ firsts_after old (node_vars (take i ns))
  pub short : length names ≤ length old + i
  pub list_is : (rest : List ℕ) → list ≡ flat_map (node_image (renumbering (names ++ rest) offset)) (take i ns)

pub numbered_starts : (ns : List Node) (old : List ℕ) (offset : ℕ) (list : List Node) → list ≡ [] → Numbered ns old old offset 0 list
numbered_starts ns old offset list e = record { names_are = sym (append-nil old); short = omega arith; list_is = λ rest. e }

seen_alike : (s added : List ℕ) (x : ℕ) → is_among x (s ++ added) ≡ is_among x (added ++ s)
seen_alike s added x = is_among-append x s added ∙ swap (is_among x s) (is_among x added) ∙ sym (is_among-append x added s)
  where
    swap : (a b : Bool) → (a || b) ≡ (b || a)
    swap true true = refl
    swap true false = refl
    swap false true = refl
    swap false false = refl

one_added : (s xs : List ℕ) (x : ℕ) → (s ++ firsts_after s xs) ++ firsts_after (s ++ firsts_after s xs) (x ∷ []) ≡ s ++ firsts_after s (xs ++ x ∷ [])
one_added s xs x =
    append_assoc s (firsts_after s xs) (firsts_after (s ++ firsts_after s xs) (x ∷ []))
    ∙ ap (λ l. s ++ (firsts_after s xs ++ l)) (firsts_after-like (s ++ firsts_after s xs) (firsts_after s xs ++ s) (seen_alike s (firsts_after s xs)) (x ∷ []))
    ∙ ap (λ l. s ++ l) (sym (firsts_after-append s xs (x ∷ [])))

at_most_one : (s : List ℕ) (x : ℕ) → length (firsts_after s (x ∷ [])) ≤ 1
at_most_one s x = go (is_among x s)
  where
    go : (b : Bool) → length (if b then [] else x ∷ []) ≤ 1
    go true = omega arith
    go false = omega arith

module _ (ns : List Node) (old names new : List ℕ) (offset i : ℕ) (list : List Node) (node d : Node) (h : i < length ns) (s : Numbered ns old names offset i list) where
  at_var : (x place : ℕ) → get_or ns i d ≡ Var x → IsNameAt x names new place → node ≡ Var (place + offset) → Numbered ns old new offset (i + 1) (list ++ node ∷ [])
  at_var x place e n is = record {
    names_are =
        n.names_are ∙ ap (λ l. l ++ firsts_after l (x ∷ [])) s.names_are ∙ one_added old (node_vars (take i ns)) x
        ∙ ap (λ l. old ++ firsts_after old l) (sym (ap node_vars (take_more ns i d h ∙ ap (λ y. take i ns ++ y ∷ []) e) ∙ node_vars-append (take i ns) (Var x ∷ [])));
    short = omega (arith, s.short, ap length n.names_are, length-append names (firsts_after names (x ∷ [])), at_most_one names x);
    list_is = λ rest.
        let later : names ++ (firsts_after names (x ∷ []) ++ rest) ≡ new ++ rest = sym (append_assoc names (firsts_after names (x ∷ [])) rest) ∙ ap (λ l. l ++ rest) (sym n.names_are) in
        let σ = renumbering (new ++ rest) offset in
        let front : list ≡ flat_map (node_image σ) (take i ns) = s.list_is (firsts_after names (x ∷ []) ++ rest) ∙ ap (λ l. flat_map (node_image (renumbering l offset)) (take i ns)) later in
        let last : node ∷ [] ≡ flat_map (node_image σ) (Var x ∷ []) = ap (λ y. y ∷ []) (is ∙ ap (λ k. Var (k + offset)) (n.place_is rest)) in
        ap₂ (λ a b. a ++ b) front last ∙ sym (flat_map-append (node_image σ) (take i ns) (Var x ∷ [])) ∙ ap (flat_map (node_image σ)) (sym (take_more ns i d h ∙ ap (λ y. take i ns ++ y ∷ []) e));
  }

  at_app : (f : Sym) (n : ℕ) → get_or ns i d ≡ App f n → new ≡ names → node ≡ App f n → Numbered ns old new offset (i + 1) (list ++ node ∷ [])
  at_app f n e same is = record {
    names_are = same ∙ s.names_are ∙ ap (λ l. old ++ firsts_after old l) (sym (node_vars-app ns i f n d h e));
    short = omega (arith, s.short, ap length same);
    list_is = λ rest.
        let σ = renumbering (new ++ rest) offset in
        let front : list ≡ flat_map (node_image σ) (take i ns) = s.list_is rest ∙ ap (λ l. flat_map (node_image (renumbering (l ++ rest) offset)) (take i ns)) (sym same) in
        let last : node ∷ [] ≡ flat_map (node_image σ) (App f n ∷ []) = ap (λ y. y ∷ []) is in
        ap₂ (λ a b. a ++ b) front last ∙ sym (flat_map-append (node_image σ) (take i ns) (App f n ∷ [])) ∙ ap (flat_map (node_image σ)) (sym (take_more ns i d h ∙ ap (λ y. take i ns ++ y ∷ []) e));
  }

  pub numbered_goes_on : IsNumberedNode offset (get_or ns i d) names new node → Numbered ns old new offset (i + 1) (list ++ node ∷ [])
  numbered_goes_on = go (get_or ns i d) refl
    where
      go : (m : Node) → get_or ns i d ≡ m → IsNumberedNode offset m names new node → Numbered ns old new offset (i + 1) (list ++ node ∷ [])
      go (Var x) e k = at_var x k.0 e k.1 k.2
      go (App f n) e k = at_app f n e k.0 k.1

-- a renaming keeps the number of nodes
mutual
  pub renamed_nodes : (f : ℕ → ℕ) (t : Tree) → nodes (apply (λ x. var (f x)) t) ≡ nodes t
  renamed_nodes f (var x) = refl
  renamed_nodes f (app g ts) = ap (λ n. n + 1) (renamed_nodes_all f ts)

  pub renamed_nodes_all : (f : ℕ → ℕ) (ts : Trees) → nodes_all (apply_all (λ x. var (f x)) ts) ≡ nodes_all ts
  renamed_nodes_all f none = refl
  renamed_nodes_all f (more t ts) = ap₂ (λ m n. m + n) (renamed_nodes f t) (renamed_nodes_all f ts)

module _ (ns : List Node) (t : Tree) (old names : List ℕ) (offset i : ℕ) (list : List Node) (w : IsWhole ns) (is : tree_of ns ≡ t) (h : length ns ≤ i) (s : Numbered ns old names offset i list) where
  pub numbered_list : (rest : List ℕ) → list ≡ flat (placed_by (names ++ rest) offset t)
  numbered_list rest = instance_list (renumbering (names ++ rest) offset) ns list i w h (s.list_is rest) ∙ ap (λ u. flat (placed_by (names ++ rest) offset u)) is

  pub numbered_names : names ≡ old ++ firsts_after old (variables t)
  numbered_names = s.names_are ∙ ap (λ l. old ++ firsts_after old (node_vars l)) (take_of_length-le ns i h ∙ sym w) ∙ ap (λ l. old ++ firsts_after old l) (node_vars-flat (tree_of ns) ∙ ap variables is)

  pub numbered_tree : (rest : List ℕ) → tree_of list ≡ placed_by (names ++ rest) offset t
  numbered_tree rest = ap tree_of (numbered_list rest) ∙ tree_of-flat (placed_by (names ++ rest) offset t)

  pub numbered_whole : IsWhole list
  numbered_whole = (whole_list list (placed_by (names ++ []) offset t) (numbered_list [])).0

  pub numbered_length : length list ≡ length ns
  numbered_length =
      ap length (numbered_list []) ∙ length-flat (placed_by (names ++ []) offset t) ∙ renamed_nodes (λ x. place_of (names ++ []) x + offset) t ∙ ap nodes (sym is) ∙ nodes_whole ns w
