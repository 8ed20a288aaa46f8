-- Lists of terms one behind the other, and what stands at a place of whole terms.
use Rattle.std.proofs.Common.{◌≡◌, ℕ, zero, suc, ◌+◌, ◌<◌, ◌≤◌, List, [], ◌∷◌, ◌++◌, length, take, drop, get_or, refl, sym, ap, ap₂, ◌∙◌, subst, arith, append_assoc, append-nil, ◌⊎◌, inl, inr}
use Rattle.std.proofs.Math.ListN.{drop_of_length-le}
use Rattle.uc_term.specs.declared.node.Sym.{Sym}
use Rattle.uc_term.specs.declared.node.Node.{Node}
use Rattle.uc_term.specs.declared.node.Node.TheVariants.{Var, App}
use Rattle.uc_term.specs.Tree.{Tree, var, app, Trees, none, more, of_list, count, apply, apply_all}
use Rattle.uc_term.specs.Flat.{flat, spelled, trees_of, AreWhole, tree_of, IsWhole}
use Rattle.uc_term.specs.Variables.{variables, variables_all}
use Rattle.uc_term.proofs.Terms.{whole-drop, trees_of-flat_all}
use Rattle.uc_term.proofs.Ahead.{join, drop-at}

pub apply_all-join : (σ : ℕ → Tree) (ts us : Trees) → apply_all σ (join ts us) ≡ join (apply_all σ ts) (apply_all σ us)
apply_all-join σ none us = refl
apply_all-join σ (more t ts) us = ap (more (apply σ t)) (apply_all-join σ ts us)

pub variables_all-join : (ts us : Trees) → variables_all (join ts us) ≡ variables_all ts ++ variables_all us
variables_all-join none us = refl
variables_all-join (more t ts) us = ap (λ l. variables t ++ l) (variables_all-join ts us) ∙ sym (append_assoc (variables t) (variables_all ts) (variables_all us))

pub count-apply_all : (σ : ℕ → Tree) (ts : Trees) → count (apply_all σ ts) ≡ count ts
count-apply_all σ none = refl
count-apply_all σ (more t ts) = ap (λ n. n + 1) (count-apply_all σ ts)

-- parts of one length are the same where the whole is
pub join_cancel : (ts us vs ws : Trees) → count ts ≡ count vs → join ts us ≡ join vs ws → (ts ≡ vs) × (us ≡ ws)
join_cancel none us none ws c e = (refl, e)
join_cancel none us (more v vs) ws c e = absurd (omega arith)
join_cancel (more t ts) us none ws c e = absurd (omega arith)
join_cancel (more t ts) us (more v vs) ws c e =
    let r = join_cancel ts us vs ws (omega arith) cc in
    let head : t ≡ v = cc in
    (ap₂ more head r.0, r.1)

pub of_list-parts : (n : ℕ) (ts : List Tree) → of_list ts ≡ join (of_list (take n ts)) (of_list (drop n ts))
of_list-parts zero ts = refl
of_list-parts (suc n) [] = refl
of_list-parts (suc n) (t ∷ ts) = ap (more t) (of_list-parts n ts)

-- a symbol stands in front: its arguments and what is behind them are the terms behind it
pub record Opened (f : Sym) (n : ℕ) (ns : List Node) : Type 0 where
  pub args : Trees
  pub rest : Trees
  pub is : trees_of (App f n ∷ ns) ≡ more (app f args) rest
  pub behind : trees_of ns ≡ join args rest
  pub counts : count args ≡ n

pub opened : (f : Sym) (n : ℕ) (ns : List Node) → AreWhole (App f n ∷ ns) → Opened f n ns
opened f n ns w =
    let args = of_list (take n (spelled ns)) in
    let rest = of_list (drop n (spelled ns)) in
    let counts : count args ≡ n = cc in
    record { args = args; rest = rest; is = refl; behind = of_list-parts n (spelled ns); counts = counts }

pub trees_of-Var : (x : ℕ) (ns : List Node) → trees_of (Var x ∷ ns) ≡ more (var x) (trees_of ns)
trees_of-Var x ns = refl

-- the same at a place
pub opened_at : (ns : List Node) (i : ℕ) (f : Sym) (n : ℕ) (d : Node) → AreWhole ns → i < length ns → get_or ns i d ≡ App f n → (o : Opened f n (drop (i + 1) ns)) × (trees_of (drop i ns) ≡ more (app f o.args) o.rest)
opened_at ns i f n d w h e =
    let at : drop i ns ≡ App f n ∷ drop (i + 1) ns = drop-at ns i d h ∙ ap (λ y. y ∷ drop (i + 1) ns) e in
    let o = opened f n (drop (i + 1) ns) (let P : List Node → Type 0 = AreWhole in subst P at (whole-drop i ns w)) in
    (o, ap trees_of at ∙ o.is)

pub var_at : (ns : List Node) (i x : ℕ) (d : Node) → i < length ns → get_or ns i d ≡ Var x → trees_of (drop i ns) ≡ more (var x) (trees_of (drop (i + 1) ns))
var_at ns i x d h e = ap trees_of (drop-at ns i d h ∙ ap (λ y. y ∷ drop (i + 1) ns) e)

-- where terms are left, the place is in the list
pub place_within : (ns : List Node) (p k : ℕ) → count (trees_of (drop p ns)) ≡ k → 0 < k → p < length ns
place_within ns p k e h = go (let d : (p < length ns) ⊎ (length ns ≤ p) = grind arith in d)
  where
    go : (p < length ns) ⊎ (length ns ≤ p) → p < length ns
    go (inl k) = k
    go (inr l) = absurd (let c : count (trees_of (drop p ns)) ≡ 0 = ap (λ m. count (trees_of m)) (drop_of_length-le ns l) in omega arith)

pub trees_of-end : (ns : List Node) (p : ℕ) → length ns ≤ p → trees_of (drop p ns) ≡ none
trees_of-end ns p h = ap trees_of (drop_of_length-le ns h)

pub trees_of-whole : (ns : List Node) → IsWhole ns → trees_of ns ≡ more (tree_of ns) none
trees_of-whole ns w = go w
  where
    go : flat (tree_of ns) ≡ ns → trees_of ns ≡ more (tree_of ns) none
    go w = ap trees_of (sym w ∙ sym (let e : flat (tree_of ns) ++ [] ≡ flat (tree_of ns) = append-nil (flat (tree_of ns)) in e)) ∙ trees_of-flat_all (more (tree_of ns) none)
