-- What a reader of a flat list still has before it: k whole terms, of n nodes together.
use Rattle.std.proofs.Common.{◌≡◌, ℕ, zero, suc, ◌+◌, ◌-◌, ◌<◌, ◌≤◌, List, [], ◌∷◌, ◌++◌, length, take, drop, get_or, refl, sym, ap, ◌∙◌, subst, arith, ◌⊎◌, inl, inr, append_assoc, append-nil, length-append}
use Rattle.std.proofs.lemmas.List.{get_or_append_left, get_or-append_right}
use Rattle.std.proofs.Math.Seq.{drop-append-add, take-append_seam, drop-cons}
use Rattle.std.proofs.Common.{length-drop, add-one}
use Rattle.uc_term.specs.declared.node.Sym.{Sym}
use Rattle.uc_term.specs.declared.node.Node.{Node}
use Rattle.uc_term.specs.declared.node.Node.TheVariants.{Var, App}
use Rattle.uc_term.specs.Tree.{Tree, var, app, Trees, none, more, of_list, count, subterms, subterms_all, nodes, nodes_all, subterm}
use Rattle.uc_term.specs.Flat.{flat, flat_all, spelled, tree_of, first_of_trees, IsWhole, AreWhole}
use Rattle.uc_term.specs.Code.{spelled-flat}
use Rattle.uc_term.proofs.Terms.{length-flat, length-flat_all, nodes_pos, length-subterms, nodes_whole, whole-drop}

pub record Ahead (ns : List Node) (k n : ℕ) : Type 0 where
  pub trees : Trees
  pub rest : List Node
  pub spells : ns ≡ flat_all trees ++ rest
  pub counts : count trees ≡ k
  pub sizes : nodes_all trees ≡ n

abbrev pub join : Trees → Trees → Trees
join none us = us
join (more t ts) us = more t (join ts us)

pub count-join : (ts us : Trees) → count (join ts us) ≡ count ts + count us
count-join none us = omega arith
count-join (more t ts) us = omega (arith, count-join ts us)

pub nodes_all-join : (ts us : Trees) → nodes_all (join ts us) ≡ nodes_all ts + nodes_all us
nodes_all-join none us = omega arith
nodes_all-join (more t ts) us = omega (arith, nodes_all-join ts us)

pub flat_all-join : (ts us : Trees) → flat_all (join ts us) ≡ flat_all ts ++ flat_all us
flat_all-join none us = refl
flat_all-join (more t ts) us = rw (flat_all-join ts us) (sym (append_assoc (flat t) (flat_all ts) (flat_all us)))

pub count-le-nodes_all : (ts : Trees) → count ts ≤ nodes_all ts
count-le-nodes_all none = omega arith
count-le-nodes_all (more t ts) = omega (arith, count-le-nodes_all ts, nodes_pos t)

go_var : (x : ℕ) (ns : List Node) (k n : ℕ) (ts : Trees) (rest : List Node) → Var x ∷ ns ≡ flat_all ts ++ rest → count ts ≡ k → nodes_all ts ≡ n → 0 < k → (0 < n) × Ahead ns (k - 1) (n - 1)
go_var x ns k n none rest e c s h = absurd (omega arith)
go_var x ns k n (more (var y) ts) rest e c s h = (omega arith, record { trees = ts; rest = rest; spells = cc; counts = omega arith; sizes = omega arith })
go_var x ns k n (more (app f us) ts) rest e c s h = absurd cc

go_app : (f : Sym) (a : ℕ) (ns : List Node) (k n : ℕ) (ts : Trees) (rest : List Node) → App f a ∷ ns ≡ flat_all ts ++ rest → count ts ≡ k → nodes_all ts ≡ n → 0 < k → (0 < n) × Ahead ns (k - 1 + a) (n - 1)
go_app f a ns k n none rest e c s h = absurd (omega arith)
go_app f a ns k n (more (var y) ts) rest e c s h = absurd cc
go_app f a ns k n (more (app g us) ts) rest e c s h =
    let arity : a ≡ count us = cc in
    let tail : ns ≡ (flat_all us ++ flat_all ts) ++ rest = cc in
    (omega arith, record { trees = join us ts; rest = rest; spells = rw (flat_all-join us ts) tail; counts = omega (arith, count-join us ts); sizes = omega (arith, nodes_all-join us ts) })

pub ahead_var : (x : ℕ) (ns : List Node) (k n : ℕ) → Ahead (Var x ∷ ns) k n → 0 < k → (0 < n) × Ahead ns (k - 1) (n - 1)
ahead_var x ns k n a h = go_var x ns k n a.trees a.rest a.spells a.counts a.sizes h

pub ahead_app : (f : Sym) (a : ℕ) (ns : List Node) (k n : ℕ) → Ahead (App f a ∷ ns) k n → 0 < k → (0 < n) × Ahead ns (k - 1 + a) (n - 1)
ahead_app f a ns k n w h = go_app f a ns k n w.trees w.rest w.spells w.counts w.sizes h

none_left : (ts : Trees) → count ts ≡ 0 → nodes_all ts ≡ 0
none_left none e = refl
none_left (more t ts) e = absurd (omega arith)

pub ahead_none : (ns : List Node) (n : ℕ) → Ahead ns 0 n → n ≡ 0
ahead_none ns n a = omega (arith, none_left a.trees a.counts, a.sizes)

-- no more terms than nodes, and no more nodes than the list has
pub ahead_bounds : (ns : List Node) (k n : ℕ) → Ahead ns k n → (k ≤ n) × (n ≤ length ns)
ahead_bounds ns k n a = (
  omega (arith, count-le-nodes_all a.trees, a.counts, a.sizes),
  omega (arith, ap length a.spells, length-append (flat_all a.trees) a.rest, length-flat_all a.trees, a.sizes),
)

-- at each place of a flat list a whole term begins, the subterm there
one : (t : Tree) (ns : List Node) → Ahead (flat t ++ ns) 1 (nodes t)
one t ns = record { trees = more t none; rest = ns; spells = ap (λ l. l ++ ns) (sym (append-nil (flat t))); counts = refl; sizes = omega arith }

in_first : (t : Tree) (ts : Trees) (p : ℕ) (d : Tree) (ns : List Node) → p < nodes t → (rest : List Node) × (drop p (flat t ++ (flat_all ts ++ ns)) ≡ flat (get_or (subterms t) p d) ++ rest) → (rest : List Node) × (drop p (flat_all (more t ts) ++ ns) ≡ flat (get_or (subterms_all (more t ts)) p d) ++ rest)
in_first t ts p d ns inside r =
    let short : p < length (subterms t) = omega (arith, length-subterms t) in
    (r.0, rw (append_assoc (flat t) (flat_all ts) ns, get_or_append_left (subterms t) (subterms_all ts) d p short) r.1)

in_later : (t : Tree) (ts : Trees) (p : ℕ) (d : Tree) (ns : List Node) → nodes t ≤ p → (rest : List Node) × (drop (p - nodes t) (flat_all ts ++ ns) ≡ flat (get_or (subterms_all ts) (p - nodes t) d) ++ rest) → (rest : List Node) × (drop p (flat_all (more t ts) ++ ns) ≡ flat (get_or (subterms_all (more t ts)) p d) ++ rest)
in_later t ts p d ns past r =
    let step : drop p (flat t ++ (flat_all ts ++ ns)) ≡ drop (p - nodes t) (flat_all ts ++ ns) = ap (λ k. drop k (flat t ++ (flat_all ts ++ ns))) (let e : p ≡ length (flat t) + (p - nodes t) = omega (arith, length-flat t) in e) ∙ drop-append-add (flat t) (flat_all ts ++ ns) (p - nodes t) in
    (r.0, rw (append_assoc (flat t) (flat_all ts) ns, step, get_or-append_right (subterms t) (subterms_all ts) (nodes t) p d (length-subterms t) past) r.1)

mutual
  pub ahead_at : (t : Tree) (p : ℕ) (d : Tree) (ns : List Node) → p < nodes t → (rest : List Node) × (drop p (flat t ++ ns) ≡ flat (get_or (subterms t) p d) ++ rest)
  ahead_at (var x) zero d ns h = (ns, refl)
  ahead_at (var x) (suc p) d ns h = absurd (omega arith)
  ahead_at (app f ts) zero d ns h = (ns, refl)
  ahead_at (app f ts) (suc p) d ns h = ahead_at_all ts p d ns (omega arith)

  pub ahead_at_all : (ts : Trees) (p : ℕ) (d : Tree) (ns : List Node) → p < nodes_all ts → (rest : List Node) × (drop p (flat_all ts ++ ns) ≡ flat (get_or (subterms_all ts) p d) ++ rest)
  ahead_at_all none p d ns h = absurd (omega arith)
  ahead_at_all (more t ts) p d ns h =
      let where_is : (p < nodes t) ⊎ (nodes t ≤ p) = grind arith in
      elim where_is [
        | inl inside ↦ in_first t ts p d ns inside (ahead_at t p d (flat_all ts ++ ns) inside)
        | inr past ↦ in_later t ts p d ns past (ahead_at_all ts (p - nodes t) d ns (omega arith))
      ]

pub drop-at : (ns : List Node) (i : ℕ) (d : Node) → i < length ns → drop i ns ≡ get_or ns i d ∷ drop (i + 1) ns
drop-at ns i d h = rw (add-one, drop-cons ns i d) refl

-- the same at a place of a list
pub ahead_in_range : (ns : List Node) (i k n : ℕ) → Ahead (drop i ns) k n → 0 < k → (i < length ns) × (i + n ≤ length ns) × (k ≤ n)
ahead_in_range ns i k n a h = let b = ahead_bounds (drop i ns) k n a in omega_parts ns i k n h b (length-drop i ns)
  where
    omega_parts : (ns : List Node) (i k n : ℕ) → 0 < k → (k ≤ n) × (n ≤ length (drop i ns)) → length (drop i ns) ≡ length ns - i → (i < length ns) × (i + n ≤ length ns) × (k ≤ n)
    omega_parts ns i k n h b e = (omega arith, omega arith, omega arith)

pub ahead_var_at : (ns : List Node) (i x k n : ℕ) (d : Node) → get_or ns i d ≡ Var x → i < length ns → Ahead (drop i ns) k n → 0 < k → (0 < n) × Ahead (drop (i + 1) ns) (k - 1) (n - 1)
ahead_var_at ns i x k n d e h a some = ahead_var x (drop (i + 1) ns) k n (let P : List Node → Type 0 = λ l. Ahead l k n in subst P (drop-at ns i d h ∙ ap (λ y. y ∷ drop (i + 1) ns) e) a) some

pub ahead_app_at : (ns : List Node) (i : ℕ) (f : Sym) (m k n : ℕ) (d : Node) → get_or ns i d ≡ App f m → i < length ns → Ahead (drop i ns) k n → 0 < k → (0 < n) × Ahead (drop (i + 1) ns) (k - 1 + m) (n - 1)
ahead_app_at ns i f m k n d e h a some = ahead_app f m (drop (i + 1) ns) k n (let P : List Node → Type 0 = λ l. Ahead l k n in subst P (drop-at ns i d h ∙ ap (λ y. y ∷ drop (i + 1) ns) e) a) some

-- where terms are read from a place
begin : (st : List Tree) (ms : List Node) → flat_all (of_list st) ≡ ms → 0 < length ms → Ahead ms 1 (nodes (first_of_trees st))
begin [] ms e h = absurd (omega (arith, ap length e))
begin (t ∷ st) ms e h =
    let P : List Node → Type 0 = λ l. Ahead l 1 (nodes t) in
    subst P e (one t (flat_all (of_list st)))

pub ahead_begin : (ns : List Node) (p : ℕ) → AreWhole ns → p < length ns → Ahead (drop p ns) 1 (nodes (tree_of (drop p ns)))
ahead_begin ns p w h = begin (spelled (drop p ns)) (drop p ns) (whole-drop p ns w) (omega (arith, length-drop p ns))

pub subterm_of-drop : (ns : List Node) (p : ℕ) → IsWhole ns → p < length ns → tree_of (drop p ns) ≡ subterm (tree_of ns) p
subterm_of-drop ns p w h =
    let t = tree_of ns in
    let r = ahead_at t p t [] (omega (arith, length-flat t, ap length w)) in
    let e : drop p ns ≡ flat (subterm t p) ++ r.0 = ap (drop p) (sym w ∙ sym (append-nil (flat t))) ∙ r.1 in
    ap tree_of e ∙ ap first_of_trees (spelled-flat (subterm t p) r.0)

-- what the range from p on has
pub take_subterm : (ns : List Node) (p : ℕ) → IsWhole ns → p < length ns → take (nodes (subterm (tree_of ns) p)) (drop p ns) ≡ flat (subterm (tree_of ns) p)
take_subterm ns p w h =
    let t = tree_of ns in
    let r = ahead_at t p t [] (omega (arith, length-flat t, ap length w)) in
    let e : drop p ns ≡ flat (subterm t p) ++ r.0 = ap (drop p) (sym w ∙ sym (append-nil (flat t))) ∙ r.1 in
    rw (e, ← length-flat (subterm t p)) (take-append_seam (flat (subterm t p)) r.0)

pub sub_one_more : (e i : ℕ) → e - i - 1 ≡ e - (i + 1)
sub_one_more e i = omega arith

pub first_within : (ns : List Node) (p : ℕ) → AreWhole ns → p < length ns → p + nodes (tree_of (drop p ns)) ≤ length ns
first_within ns p w h = (ahead_in_range ns p 1 (nodes (tree_of (drop p ns))) (ahead_begin ns p w h) (omega arith)).1

pub at_place : (ns items : List Node) (t : Tree) (p to : ℕ) → ns ≡ items → IsWhole items → tree_of items ≡ t → p < length items → to ≡ p + nodes (tree_of (drop p ns)) → (p < nodes t) × (take (to - p) (drop p ns) ≡ flat (subterm t p))
at_place ns items t p to same w is h e =
    let size = nodes_whole items w in
    let span : to - p ≡ nodes (subterm (tree_of items) p) = rw (e, same, subterm_of-drop items p w h) (omega arith) in
    rw (← is) (omega arith, rw (span, same) (take_subterm items p w h))
