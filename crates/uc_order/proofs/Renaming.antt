-- Renamed lists of nodes are those of renamed terms.
use Rattle.std.proofs.Common.{◌≡◌, ℕ, zero, suc, ◌+◌, ◌<◌, ◌≤◌, List, [], ◌∷◌, ◌++◌, length, take, drop, get_or, map, refl, sym, ap, ap₂, ◌∙◌, subst, arith, true, false, if◌then◌else◌, ◌==◌, ◌||◌}
use Rattle.uc_term.specs.declared.node.Node.{Node}
use Rattle.uc_term.specs.declared.node.Node.TheVariants.{App}
use Rattle.uc_term.specs.Tree.{Tree, var, app, Trees, none, more, count, apply, apply_all, nodes}
use Rattle.uc_term.specs.Flat.{flat, flat_all, tree_of, IsWhole}
use Rattle.uc_term.specs.Variables.{is_among}
use Rattle.uc_term.specs.Code.{tree_of-flat}
use Rattle.uc_term.proofs.Terms.{take_of_length-le, length-flat, whole-flat}
use Rattle.uc_order.specs.VarOrders.{Classes, representative, class_of, first_or}
use Rattle.uc_order.specs.Renamed.{renamed_node, renamed_nodes}

abbrev pub renaming : (ℕ → ℕ) → ℕ → Tree
renaming r x = var (r x)

map-append : {A B : Type 0} (f : A → B) (xs ys : List A) → map f (xs ++ ys) ≡ map f xs ++ map f ys
map-append f [] ys = refl
map-append f (x ∷ xs) ys = ap (λ l. f x ∷ l) (map-append f xs ys)

pub count-apply_all : (σ : ℕ → Tree) (ts : Trees) → count (apply_all σ ts) ≡ count ts
count-apply_all σ none = refl
count-apply_all σ (more t ts) = omega (arith, count-apply_all σ ts)

mutual
  pub flat-renamed : (r : ℕ → ℕ) (t : Tree) → renamed_nodes r (flat t) ≡ flat (apply (renaming r) t)
  flat-renamed r (var x) = refl
  flat-renamed r (app f ts) = ap₂ (λ n l. App f n ∷ l) (sym (count-apply_all (renaming r) ts)) (flat_all-renamed r ts)

  pub flat_all-renamed : (r : ℕ → ℕ) (ts : Trees) → renamed_nodes r (flat_all ts) ≡ flat_all (apply_all (renaming r) ts)
  flat_all-renamed r none = refl
  flat_all-renamed r (more t ts) = map-append (renamed_node r) (flat t) (flat_all ts) ∙ ap₂ (λ x y. x ++ y) (flat-renamed r t) (flat_all-renamed r ts)

pub renamed_whole : (r : ℕ → ℕ) (ns : List Node) → IsWhole ns → renamed_nodes r ns ≡ flat (apply (renaming r) (tree_of ns))
renamed_whole r ns w = ap (renamed_nodes r) (sym w) ∙ flat-renamed r (tree_of ns)

pub renamed_tree : (r : ℕ → ℕ) (ns : List Node) → IsWhole ns → tree_of (renamed_nodes r ns) ≡ apply (renaming r) (tree_of ns)
renamed_tree r ns w = ap tree_of (renamed_whole r ns w) ∙ tree_of-flat (apply (renaming r) (tree_of ns))

pub renamed_is_whole : (r : ℕ → ℕ) (ns : List Node) → IsWhole ns → IsWhole (renamed_nodes r ns)
renamed_is_whole r ns w = let P : List Node → Type 0 = IsWhole in subst P (sym (renamed_whole r ns w)) (whole-flat (apply (renaming r) (tree_of ns)))

pub length-renamed : (r : ℕ → ℕ) (ns : List Node) → length (renamed_nodes r ns) ≡ length ns
length-renamed r [] = refl
length-renamed r (n ∷ ns) = omega (arith, length-renamed r ns)

-- what the loop of `represent` makes
pub record Made (r : ℕ → ℕ) (t : Tree) (list : List Node) : Type 0 where
  pub whole : IsWhole list
  pub small : length list ≡ nodes t
  pub tree : tree_of list ≡ apply (renaming r) t

pub made : (r : ℕ → ℕ) (t : Tree) (ns list : List Node) (i : ℕ) → ns ≡ flat t → length ns ≤ i → list ≡ renamed_nodes r (take i ns) → Made r t list
made r t ns list i e h l =
    let all : list ≡ renamed_nodes r (flat t) = l ∙ ap (renamed_nodes r) (take_of_length-le ns i h ∙ e) in
    let w = whole-flat t in
    let P : List Node → Type 0 = IsWhole in
    record {
      whole = subst P (sym all) (renamed_is_whole r (flat t) w);
      small = ap length all ∙ length-renamed r (flat t) ∙ length-flat t;
      tree = ap tree_of all ∙ renamed_tree r (flat t) w ∙ ap (apply (renaming r)) (tree_of-flat t);
    }

-- item by item
pub drop_more : {A : Type 0} (xs : List A) (i : ℕ) (d : A) → i < length xs → drop i xs ≡ get_or xs i d ∷ drop (i + 1) xs
drop_more [] i d h = absurd (omega arith)
drop_more (x ∷ xs) zero d h = refl
drop_more (x ∷ xs) (suc i) d h = let e : suc i + 1 ≡ suc (i + 1) = omega arith in rw e (drop_more xs i d (omega arith))

pub drop_end : {A : Type 0} (xs : List A) (i : ℕ) → length xs ≤ i → drop i xs ≡ []
drop_end [] zero h = refl
drop_end [] (suc i) h = refl
drop_end (x ∷ xs) zero h = absurd (omega arith)
drop_end (x ∷ xs) (suc i) h = drop_end xs i (omega arith)

pub among_here : (x y : ℕ) (ys : List ℕ) (i d : ℕ) → i < length ys → y ≡ get_or ys i d → (x == y) ≡ true → is_among x ys ≡ is_among x (drop i ys) → true ≡ is_among x ys
among_here x y ys i d h e q k = sym (k ∙ ap (is_among x) (drop_more ys i d h) ∙ ap (λ z. (x == z) || is_among x (drop (i + 1) ys)) (sym e) ∙ ap (λ b. b || is_among x (drop (i + 1) ys)) q)

pub among_step : (x y : ℕ) (ys : List ℕ) (i d : ℕ) → i < length ys → y ≡ get_or ys i d → (x == y) ≡ false → is_among x ys ≡ is_among x (drop i ys) → is_among x ys ≡ is_among x (drop (i + 1) ys)
among_step x y ys i d h e q k = k ∙ ap (is_among x) (drop_more ys i d h) ∙ ap (λ z. (x == z) || is_among x (drop (i + 1) ys)) (sym e) ∙ ap (λ b. b || is_among x (drop (i + 1) ys)) q

pub among_end : (x : ℕ) (ys : List ℕ) (i : ℕ) → length ys ≤ i → is_among x ys ≡ is_among x (drop i ys) → false ≡ is_among x ys
among_end x ys i h k = sym (k ∙ ap (is_among x) (drop_end ys i h))

-- a class with a variable has a first one
pub some_among : (x : ℕ) (c : List ℕ) → true ≡ is_among x c → 0 < length c
some_among x [] e = absurd (grind arith)
some_among x (y ∷ ys) e = omega arith

pub first_is : (x : ℕ) (c : List ℕ) → true ≡ is_among x c → first_or x c ≡ get_or c 0 0
first_is x [] e = absurd (grind arith)
first_is x (y ∷ ys) e = refl

module _ (x : ℕ) (cs : Classes) (i : ℕ) (c d : List ℕ) (h : i < length cs) (e : c ≡ get_or cs i d) where
  at_class : drop i cs ≡ c ∷ drop (i + 1) cs
  at_class = drop_more cs i d h ∙ ap (λ k. k ∷ drop (i + 1) cs) (sym e)

  pub representative_here : true ≡ is_among x c → representative cs x ≡ representative (drop i cs) x → get_or c 0 0 ≡ representative cs x
  representative_here q k = sym (k ∙ ap (λ l. representative l x) at_class ∙ ap (λ b. if b then first_or x c else representative (drop (i + 1) cs) x) (sym q) ∙ first_is x c q)

  pub representative_step : false ≡ is_among x c → representative cs x ≡ representative (drop i cs) x → representative cs x ≡ representative (drop (i + 1) cs) x
  representative_step q k = k ∙ ap (λ l. representative l x) at_class ∙ ap (λ b. if b then first_or x c else representative (drop (i + 1) cs) x) (sym q)

  pub class_here : true ≡ is_among x c → class_of cs x ≡ i + class_of (drop i cs) x → i ≡ class_of cs x
  class_here q k = let at = ap (λ l. class_of l x) at_class ∙ ap (λ b. if◌then◌else◌ {A = ℕ} b 0 (class_of (drop (i + 1) cs) x + 1)) (sym q) in omega arith

  pub class_step : false ≡ is_among x c → class_of cs x ≡ i + class_of (drop i cs) x → class_of cs x ≡ i + 1 + class_of (drop (i + 1) cs) x
  class_step q k = let at = ap (λ l. class_of l x) at_class ∙ ap (λ b. if◌then◌else◌ {A = ℕ} b 0 (class_of (drop (i + 1) cs) x + 1)) (sym q) in omega arith

pub representative_end : (x : ℕ) (cs : Classes) (i : ℕ) → length cs ≤ i → representative cs x ≡ representative (drop i cs) x → x ≡ representative cs x
representative_end x cs i h k = sym (k ∙ ap (λ l. representative l x) (drop_end cs i h))

pub class_end : (x : ℕ) (cs : Classes) (i : ℕ) → length cs ≤ i → i ≤ length cs → class_of cs x ≡ i + class_of (drop i cs) x → i ≡ class_of cs x
class_end x cs i h l k = let z = ap (λ l. class_of l x) (drop_end cs i h) in omega arith
