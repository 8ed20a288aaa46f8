-- Laws of terms and of their flat lists.
use Rattle.std.proofs.Common.{◌≡◌, ℕ, zero, suc, ◌+◌, ◌<◌, ◌≤◌, List, [], ◌∷◌, ◌++◌, length, take, drop, refl, sym, ap, ap₂, ◌∙◌, arith, append_assoc, append-nil, length-append}
use Rattle.std.proofs.lemmas.Grind.{take_at_read}
use Rattle.std.proofs.Common.{get_or, subst}
use Rattle.uc_term.specs.declared.node.Sym.{Sym}
use Rattle.uc_term.specs.declared.node.Node.{Node}
use Rattle.uc_term.specs.declared.node.Node.TheVariants.{Var, App}
use Rattle.uc_term.specs.Tree.{Tree, var, app, Trees, none, more, list_of, of_list, count, apply, apply_all, subterms, subterms_all, nodes, nodes_all}
use Rattle.uc_term.specs.Flat.{flat, flat_all, spelled, tree_of, IsWhole, trees_of, AreWhole}
use Rattle.uc_term.specs.Code.{spelled-flat, spelled-flat_all, of_list-list_of, tree_of-flat}
use Rattle.std.proofs.lemmas.List.{append_cancel_left}

-- a substitution after a substitution is one substitution
mutual
  pub apply-apply : (σ τ : ℕ → Tree) (t : Tree) → apply σ (apply τ t) ≡ apply (λ x. apply σ (τ x)) t
  apply-apply σ τ (var x) = refl
  apply-apply σ τ (app f ts) = ap (app f) (apply_all-apply_all σ τ ts)

  pub apply_all-apply_all : (σ τ : ℕ → Tree) (ts : Trees) → apply_all σ (apply_all τ ts) ≡ apply_all (λ x. apply σ (τ x)) ts
  apply_all-apply_all σ τ none = refl
  apply_all-apply_all σ τ (more t ts) = ap₂ more (apply-apply σ τ t) (apply_all-apply_all σ τ ts)

mutual
  pub apply-var : (t : Tree) → apply var t ≡ t
  apply-var (var x) = refl
  apply-var (app f ts) = ap (app f) (apply_all-var ts)

  pub apply_all-var : (ts : Trees) → apply_all var ts ≡ ts
  apply_all-var none = refl
  apply_all-var (more t ts) = ap₂ more (apply-var t) (apply_all-var ts)

mutual
  pub length-flat : (t : Tree) → length (flat t) ≡ nodes t
  length-flat (var x) = refl
  length-flat (app f ts) = omega (arith, length-flat_all ts)

  pub length-flat_all : (ts : Trees) → length (flat_all ts) ≡ nodes_all ts
  length-flat_all none = refl
  length-flat_all (more t ts) = omega (arith, length-append (flat t) (flat_all ts), length-flat t, length-flat_all ts)

mutual
  pub length-subterms : (t : Tree) → length (subterms t) ≡ nodes t
  length-subterms (var x) = refl
  length-subterms (app f ts) = omega (arith, length-subterms_all ts)

  pub length-subterms_all : (ts : Trees) → length (subterms_all ts) ≡ nodes_all ts
  length-subterms_all none = refl
  length-subterms_all (more t ts) = omega (arith, length-append (subterms t) (subterms_all ts), length-subterms t, length-subterms_all ts)

pub nodes_pos : (t : Tree) → 0 < nodes t
nodes_pos (var x) = omega arith
nodes_pos (app f ts) = omega arith

-- no flat list is a proper prefix of another, and each belongs to one term
pub flat-prefix : (t u : Tree) (ns ms : List Node) → flat t ++ ns ≡ flat u ++ ms → (t ≡ u) × (ns ≡ ms)
flat-prefix t u ns ms e =
    let same : spelled (flat t ++ ns) ≡ spelled (flat u ++ ms) = ap spelled e in
    let heads : t ∷ spelled ns ≡ u ∷ spelled ms = sym (spelled-flat t ns) ∙ same ∙ spelled-flat u ms in
    let one : t ≡ u = cc in
    let e' : flat t ++ ns ≡ flat t ++ ms = rw (← one) at e in
    (one, append_cancel_left (flat t) ns ms e')

pub nodes_whole : (ns : List Node) → IsWhole ns → nodes (tree_of ns) ≡ length ns
nodes_whole ns w = sym (length-flat (tree_of ns)) ∙ ap length w

pub whole-flat : (t : Tree) → IsWhole (flat t)
whole-flat t = ap flat (tree_of-flat t)

pub count-of_list : (ts : List Tree) → count (of_list ts) ≡ length ts
count-of_list [] = refl
count-of_list (t ∷ ts) = omega (arith, count-of_list ts)

flat_all-push : (ts : List Tree) (t : Tree) → flat_all (of_list (ts ++ t ∷ [])) ≡ flat_all (of_list ts) ++ flat t
flat_all-push [] t = append-nil (flat t)
flat_all-push (u ∷ ts) t = rw (flat_all-push ts t) (sym (append_assoc (flat u) (flat_all (of_list ts)) (flat t)))

nodes_all-push : (ts : List Tree) (t : Tree) → nodes_all (of_list (ts ++ t ∷ [])) ≡ nodes_all (of_list ts) + nodes t
nodes_all-push [] t = omega arith
nodes_all-push (u ∷ ts) t = omega (arith, nodes_all-push ts t)

taken : (ts : List Tree) (i : ℕ) (t d : Tree) → i < length ts → t ≡ get_or ts i d → take (i + 1) ts ≡ take i ts ++ t ∷ []
taken ts i t d h e = (take_at_read ts i d h).1 ∙ ap (λ x. take i ts ++ x ∷ []) (sym e)

pub flat_all-take_more : (ts : List Tree) (i : ℕ) (t d : Tree) → i < length ts → t ≡ get_or ts i d → flat_all (of_list (take (i + 1) ts)) ≡ flat_all (of_list (take i ts)) ++ flat t
flat_all-take_more ts i t d h e = ap (λ l. flat_all (of_list l)) (taken ts i t d h e) ∙ flat_all-push (take i ts) t

pub nodes_all-take_more : (ts : List Tree) (i : ℕ) (t d : Tree) → i < length ts → t ≡ get_or ts i d → nodes_all (of_list (take (i + 1) ts)) ≡ nodes_all (of_list (take i ts)) + nodes t
nodes_all-take_more ts i t d h e = ap (λ l. nodes_all (of_list l)) (taken ts i t d h e) ∙ nodes_all-push (take i ts) t

-- the head and the flat lists of the arguments make the whole
pub app_list : (f : Sym) (ts : List Tree) (ns : List Node) → ns ≡ App f (length ts) ∷ flat_all (of_list ts) → ns ≡ flat (app f (of_list ts))
app_list f ts ns e = rw (count-of_list ts) e

pub whole_list : (ns : List Node) (t : Tree) → ns ≡ flat t → IsWhole ns × (tree_of ns ≡ t) × (length ns ≡ nodes t)
whole_list ns t e = rw e (whole-flat t, tree_of-flat t, length-flat t)

pub take_of_length-le : {A : Type 0} (l : List A) (i : ℕ) → length l ≤ i → take i l ≡ l
take_of_length-le [] zero h = refl
take_of_length-le [] (suc i) h = refl
take_of_length-le (x ∷ l) zero h = absurd (omega arith)
take_of_length-le (x ∷ l) (suc i) h = ap (λ r. x ∷ r) (take_of_length-le l i (omega arith))

-- what the loop over the arguments leaves, and what the term made of it is
pub app_list_at : (f : Sym) (ts : List Tree) (i : ℕ) (ns : List Node) → length ts ≤ i → ns ≡ App f (length ts) ∷ flat_all (of_list (take i ts)) → ns ≡ flat (app f (of_list ts))
app_list_at f ts i ns h e = app_list f ts ns (e ∙ ap (λ l. App f (length ts) ∷ flat_all (of_list l)) (take_of_length-le ts i h))

pub app_list_more : (f : Sym) (ts : List Tree) (i k : ℕ) (t d : Tree) (ns ms part : List Node) → i < length ts → t ≡ get_or ts i d → part ≡ flat t → length part ≤ k → ns ≡ App f (length ts) ∷ flat_all (of_list (take i ts)) → ms ≡ ns ++ take k part → ms ≡ App f (length ts) ∷ flat_all (of_list (take (i + 1) ts))
app_list_more f ts i k t d ns ms part h it p le before after =
    after ∙ ap (λ l. ns ++ l) (take_of_length-le part k le ∙ p) ∙ ap (λ l. l ++ flat t) before ∙ ap (λ l. App f (length ts) ∷ l) (sym (flat_all-take_more ts i t d h it))

pub flat_all-take-drop : (n : ℕ) (ts : List Tree) → flat_all (of_list (take n ts)) ++ flat_all (of_list (drop n ts)) ≡ flat_all (of_list ts)
flat_all-take-drop zero ts = refl
flat_all-take-drop (suc n) [] = refl
flat_all-take-drop (suc n) (t ∷ ts) = append_assoc (flat t) (flat_all (of_list (take n ts))) (flat_all (of_list (drop n ts))) ∙ ap (λ l. flat t ++ l) (flat_all-take-drop n ts)

-- what whole terms leave after their first node are whole terms
whole-tail : (n : Node) (ns : List Node) → AreWhole (n ∷ ns) → AreWhole ns
whole-tail (Var x) ns w = cc
whole-tail (App f k) ns w =
    let same = flat_all-take-drop k (spelled ns) in
    let tail : flat_all (of_list (take k (spelled ns))) ++ flat_all (of_list (drop k (spelled ns))) ≡ ns = cc in
    sym same ∙ tail

pub whole-drop : (p : ℕ) (ns : List Node) → AreWhole ns → AreWhole (drop p ns)
whole-drop zero ns w = w
whole-drop (suc p) [] w = refl
whole-drop (suc p) (n ∷ ns) w = whole-drop p ns (whole-tail n ns w)

pub trees_of-flat_all : (ts : Trees) → trees_of (flat_all ts) ≡ ts
trees_of-flat_all ts = ap of_list (ap spelled (sym (append-nil (flat_all ts))) ∙ spelled-flat_all ts [] ∙ append-nil (list_of ts)) ∙ of_list-list_of ts

pub whole_one : (ns : List Node) → IsWhole ns → AreWhole ns
whole_one ns w = let e : ns ≡ flat_all (more (tree_of ns) none) = sym w ∙ sym (append-nil (flat (tree_of ns))) in
    ap flat_all (ap trees_of e ∙ trees_of-flat_all (more (tree_of ns) none)) ∙ sym e

pub whole_flat_list : (ns : List Node) (t : Tree) → ns ≡ flat t → AreWhole ns
whole_flat_list ns t e = whole_one ns (let P : List Node → Type 0 = IsWhole in subst P (sym e) (whole-flat t))

pub app_list_extend : (f : Sym) (ts : List Tree) (i : ℕ) (t d : Tree) (ns ms part : List Node) → i < length ts → t ≡ get_or ts i d → part ≡ flat t → ns ≡ App f (length ts) ∷ flat_all (of_list (take i ts)) → ms ≡ ns ++ part → ms ≡ App f (length ts) ∷ flat_all (of_list (take (i + 1) ts))
app_list_extend f ts i t d ns ms part h it p before after =
    after ∙ ap (λ l. ns ++ l) p ∙ ap (λ l. l ++ flat t) before ∙ ap (λ l. App f (length ts) ∷ l) (sym (flat_all-take_more ts i t d h it))

pub copied : (a b part : List Node) (t : Tree) → a ≡ [] → b ≡ a ++ part → part ≡ flat t → b ≡ flat t
copied a b part t e f g = f ∙ ap (λ l. l ++ part) e ∙ g
