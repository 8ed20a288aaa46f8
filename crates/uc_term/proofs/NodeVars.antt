-- The variables of a flat list.
use Rattle.std.proofs.Common.{◌≡◌, ℕ, ◌+◌, ◌<◌, ◌≤◌, ◌==◌, ◌||◌, Bool, true, false, List, [], ◌∷◌, ◌++◌, length, take, get_or, if◌then◌else◌, refl, sym, ap, ap₂, ◌∙◌, append-nil}
use Rattle.std.proofs.lemmas.List.{take_more}
use Rattle.std.specs.List.{list_any}
use Rattle.uc_term.specs.declared.node.Sym.{Sym}
use Rattle.uc_term.specs.declared.node.Node.{Node}
use Rattle.uc_term.specs.declared.node.Node.TheVariants.{Var, App}
use Rattle.uc_term.specs.Tree.{Tree, var, app, Trees, none, more}
use Rattle.uc_term.specs.Flat.{flat, flat_all}
use Rattle.uc_term.specs.Variables.{variables, variables_all, is_among, firsts}
use Rattle.uc_term.proofs.Terms.{take_of_length-le}
use Rattle.uc_term.proofs.Firsts.{firsts-append}

abbrev pub node_vars : List Node → List ℕ
node_vars [] = []
node_vars (Var x ∷ ns) = x ∷ node_vars ns
node_vars (App f n ∷ ns) = node_vars ns

pub node_vars-append : (ns ms : List Node) → node_vars (ns ++ ms) ≡ node_vars ns ++ node_vars ms
node_vars-append [] ms = refl
node_vars-append (Var x ∷ ns) ms = ap (λ l. x ∷ l) (node_vars-append ns ms)
node_vars-append (App f n ∷ ns) ms = node_vars-append ns ms

mutual
  pub node_vars-flat : (t : Tree) → node_vars (flat t) ≡ variables t
  node_vars-flat (var x) = refl
  node_vars-flat (app f ts) = node_vars-flat_all ts

  pub node_vars-flat_all : (ts : Trees) → node_vars (flat_all ts) ≡ variables_all ts
  node_vars-flat_all none = refl
  node_vars-flat_all (more t ts) = node_vars-append (flat t) (flat_all ts) ∙ ap₂ (λ x y. x ++ y) (node_vars-flat t) (node_vars-flat_all ts)

-- one more node of a list
pub firsts-var : (ns : List Node) (i x : ℕ) (d : Node) → i < length ns → get_or ns i d ≡ Var x → firsts (node_vars (take (i + 1) ns)) ≡ (if is_among x (firsts (node_vars (take i ns))) then firsts (node_vars (take i ns)) else firsts (node_vars (take i ns)) ++ x ∷ [])
firsts-var ns i x d h e =
    let seen = firsts (node_vars (take i ns)) in
    ap (λ l. firsts (node_vars l)) (take_more ns i d h ∙ ap (λ y. take i ns ++ y ∷ []) e) ∙ ap firsts (node_vars-append (take i ns) (Var x ∷ [])) ∙ firsts-append (node_vars (take i ns)) (x ∷ []) ∙ go (is_among x seen) seen
  where
    go : (b : Bool) (seen : List ℕ) → seen ++ (if b then [] else x ∷ []) ≡ (if b then seen else seen ++ x ∷ [])
    go true seen = append-nil seen
    go false seen = refl

pub node_vars-app : (ns : List Node) (i : ℕ) (f : Sym) (n : ℕ) (d : Node) → i < length ns → get_or ns i d ≡ App f n → node_vars (take (i + 1) ns) ≡ node_vars (take i ns)
node_vars-app ns i f n d h e =
    ap node_vars (take_more ns i d h ∙ ap (λ y. take i ns ++ y ∷ []) e) ∙ node_vars-append (take i ns) (App f n ∷ []) ∙ append-nil (node_vars (take i ns))

pub firsts_list : (ns : List Node) (t : Tree) (i : ℕ) (xs : List ℕ) → ns ≡ flat t → length ns ≤ i → xs ≡ firsts (node_vars (take i ns)) → xs ≡ firsts (variables t)
firsts_list ns t i xs is h e = e ∙ ap (λ l. firsts (node_vars l)) (take_of_length-le ns i h ∙ is) ∙ ap firsts (node_vars-flat t)

-- the test of a set of numbers
pub list_any-among : (x : ℕ) (ys : List ℕ) → list_any (λ y. x == y) ys ≡ is_among x ys
list_any-among x [] = refl
list_any-among x (y ∷ ys) = ap (λ b. (x == y) || b) (list_any-among x ys)

pub seen_var : (ns : List Node) (i x : ℕ) (d : Node) (xs ys : List ℕ) → i < length ns → get_or ns i d ≡ Var x → xs ≡ firsts (node_vars (take i ns)) → ys ≡ (if list_any (λ y. x == y) xs then xs else xs ++ x ∷ []) → ys ≡ firsts (node_vars (take (i + 1) ns))
seen_var ns i x d xs ys h e is k =
    k ∙ ap (λ b. if b then xs else xs ++ x ∷ []) (list_any-among x xs) ∙ ap (λ l. if is_among x l then l else l ++ x ∷ []) is ∙ sym (firsts-var ns i x d h e)

pub seen_app : (ns : List Node) (i : ℕ) (f : Sym) (n : ℕ) (d : Node) (xs : List ℕ) → i < length ns → get_or ns i d ≡ App f n → xs ≡ firsts (node_vars (take i ns)) → xs ≡ firsts (node_vars (take (i + 1) ns))
seen_app ns i f n d xs h e is = is ∙ ap firsts (sym (node_vars-app ns i f n d h e))
