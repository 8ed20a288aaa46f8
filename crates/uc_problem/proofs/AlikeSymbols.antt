-- Symbols that have one name and one arity in two tables, and what occurrences of such symbols gather to.
use Rattle.std.proofs.Common.{◌≡◌, ℕ, zero, suc, ◌+◌, ◌<◌, ◌==◌, ◌||◌, Bool, true, false, List, [], ◌∷◌, ◌++◌, length, slice_get, bytes_eq, Some, None, Result, Ok, if◌then◌else◌, refl, sym, ap, ap₂, ◌∙◌, subst, arith}
use Rattle.std.specs.List.{list_any}
use Rattle.std.proofs.lemmas.Bool.{eqb-true, eq-eqb}
use Rattle.uc_term.specs.declared.node.Node.{Node}
use Rattle.uc_term.specs.declared.node.Node.TheVariants.{Var, App}
use Rattle.uc_term.specs.declared.node.Sym.{Sym}
use Rattle.uc_term.specs.declared.fault.TermFault.{TermFault}
use Rattle.uc_term.specs.Tree.{Tree, var, app, Trees, none, more, apply, apply_all}
use Rattle.uc_term.specs.Flat.{flat, flat_all}
use Rattle.uc_term.specs.Over.{AreOver}
use Rattle.uc_term.specs.Table.{Table, Entry, entry_of, name_of, arity_of, Has, IsDistinct, IsOf, Grows}
use Rattle.uc_term.specs.Signatures.{Occurrence, occurrences_in, Gathers, all_seen, seen_before, is_new, same_symbol, first_named}
use Rattle.uc_term.proofs.Grown.{entry-grows}
use Rattle.uc_fof.specs.Constants.{constant_or_variable, constant_for}
use Rattle.uc_problem.specs.Conjecture.{is_named}
use Rattle.uc_problem.proofs.Sound.{has_later}
use Rattle.uc_problem.proofs.AddedOnce.{get_entry}

same_number : (f g : Sym) → f.0 ≡ g.0 → f ≡ g
same_number f g e = ap (λ (i : ℕ). let s : Sym = record { 0 = i } in s) e

-- f is in the first table what g is in the second
pub record IsAlike (N M : Table) (f g : Sym) : Type 0 where
  pub has : Has N f
  pub has_other : Has M g
  pub same : entry_of N f ≡ entry_of M g

module _ (N M : Table) where
  -- one list of symbols is alike to another, symbol by symbol
  pub data AreAlike : List Sym → List Sym → Type 0 where
    none_alike : AreAlike [] []
    one_alike : {f g : Sym} {fs gs : List Sym} → IsAlike N M f g → AreAlike fs gs → AreAlike (f ∷ fs) (g ∷ gs)

  -- so are the symbols of two lists of nodes, which have the same variables
  pub data NodesAlike : List Node → List Node → Type 0 where
    no_nodes : NodesAlike [] []
    a_variable : {x : ℕ} {ns ms : List Node} → NodesAlike ns ms → NodesAlike (Var x ∷ ns) (Var x ∷ ms)
    a_functor : {f g : Sym} {m n : ℕ} {ns ms : List Node} → IsAlike N M f g → NodesAlike ns ms → NodesAlike (App f m ∷ ns) (App g n ∷ ms)

  -- so are those of two lists of occurrences
  pub data OccurAlike : List Occurrence → List Occurrence → Type 0 where
    none_occurs : OccurAlike [] []
    one_occurs : {o p : Occurrence} {os ps : List Occurrence} → IsAlike N M o.symbol p.symbol → OccurAlike os ps → OccurAlike (o ∷ os) (p ∷ ps)

  same_name : {f g : Sym} → IsAlike N M f g → name_of N f ≡ name_of M g
  same_name a = ap (λ (e : Entry). e.name) a.same

  pub many_alike : {fs gs : List Sym} → AreAlike fs gs → length fs ≡ length gs
  many_alike none_alike = refl
  many_alike (one_alike a rest) = ap suc (many_alike rest)

  pushed_alike : {fs gs : List Sym} {f g : Sym} → AreAlike fs gs → IsAlike N M f g → AreAlike (fs ++ f ∷ []) (gs ++ g ∷ [])
  pushed_alike none_alike b = one_alike b none_alike
  pushed_alike (one_alike a rest) b = one_alike a (pushed_alike rest b)

  pub nodes_append : {ns ms ks ls : List Node} → NodesAlike ns ms → NodesAlike ks ls → NodesAlike (ns ++ ks) (ms ++ ls)
  nodes_append no_nodes b = b
  nodes_append (a_variable a) b = a_variable (nodes_append a b)
  nodes_append (a_functor f a) b = a_functor f (nodes_append a b)

  pub occur_append : {os ps qs rs : List Occurrence} → OccurAlike os ps → OccurAlike qs rs → OccurAlike (os ++ qs) (ps ++ rs)
  occur_append none_occurs b = b
  occur_append (one_occurs f a) b = one_occurs f (occur_append a b)

  pub nodes_occur : {ns ms : List Node} (term other from at : ℕ) → NodesAlike ns ms → OccurAlike (occurrences_in term from ns) (occurrences_in other at ms)
  nodes_occur term other from at no_nodes = none_occurs
  nodes_occur term other from at (a_variable a) = nodes_occur term other (from + 1) (at + 1) a
  nodes_occur term other from at (a_functor f a) = one_occurs f (nodes_occur term other (from + 1) (at + 1) a)

  -- names stand alike in them
  pub names_alike : (name : List ℕ) {ns ms : List Node} → NodesAlike ns ms → list_any (is_named N name) ns ≡ list_any (is_named M name) ms
  names_alike name no_nodes = refl
  names_alike name (a_variable a) = names_alike name a
  names_alike name (a_functor f a) = ap₂ (λ n b. bytes_eq n name || b) (same_name f) (names_alike name a)

  none_named_alike : {fs gs : List Sym} (name : List ℕ) → AreAlike fs gs → first_named N name fs ≡ None → first_named M name gs ≡ None
  none_named_alike name none_alike e = refl
  none_named_alike name (one_alike {f = f} {g = g} {fs = fs} {gs = gs} a rest) e = go (bytes_eq (name_of N f) name) (ap (λ n. bytes_eq n name) (same_name a)) e (none_named_alike name rest)
    where
      go : (b : Bool) → b ≡ bytes_eq (name_of M g) name → (if b then Some f else first_named N name fs) ≡ None → (first_named N name fs ≡ None → first_named M name gs ≡ None) → (if bytes_eq (name_of M g) name then Some g else first_named M name gs) ≡ None
      go true p e later = absurd cc
      go false p e later = ap (λ b. if b then Some g else first_named M name gs) (sym p) ∙ later e

  module _ (distinct : IsDistinct M) where
    entry_at : (f : Sym) → Has M f → slice_get M f.0 ≡ Some (entry_of M f)
    entry_at f h = get_entry M f h

    pub alike_once : {f g h : Sym} → IsAlike N M f g → IsAlike N M f h → g ≡ h
    alike_once {f} {g} {h} a b =
        let same : entry_of M g ≡ entry_of M h = sym a.same ∙ b.same in
        same_number g h (distinct g.0 h.0 (entry_of M h) (entry_at g a.has_other ∙ ap Some same) (entry_at h b.has_other))

    -- what is seen in one is seen in the other
    seen_alike : {f g : Sym} {fs gs : List Sym} → IsAlike N M f g → AreAlike fs gs → list_any (same_symbol f) fs ≡ true → list_any (same_symbol g) gs ≡ true
    seen_alike a none_alike e = absurd cc
    seen_alike {f} {g} a (one_alike {f = h} {g = k} {fs = fs} {gs = gs} b bs) e = go (f.0 == h.0) refl e (seen_alike a bs)
      where
        or_true : (b : Bool) → (b || true) ≡ true
        or_true true = refl
        or_true false = refl

        go : (c : Bool) → (f.0 == h.0) ≡ c → (c || list_any (same_symbol f) fs) ≡ true → (list_any (same_symbol f) fs ≡ true → list_any (same_symbol g) gs ≡ true) → (g.0 == k.0 || list_any (same_symbol g) gs) ≡ true
        go true p e later =
            let first : f ≡ h = same_number f h (eqb-true f.0 h.0 p) in
            let second : g ≡ k = alike_once a (subst (λ x. IsAlike N M x k) (sym first) b) in
            ap (λ c. c || list_any (same_symbol g) gs) (eq-eqb g.0 k.0 (ap (λ (s : Sym). s.0) second))
        go false p e later = ap (λ c. g.0 == k.0 || c) (later e) ∙ or_true (g.0 == k.0)

    -- occurrences that gather do so in the other table too
    pub gathers_alike : {seen others : List Sym} {os ps : List Occurrence} {fs : List Sym} {r : Result (List Sym) TermFault} → AreAlike seen others → OccurAlike os ps → Gathers N seen os r → r ≡ Ok fs → (gs : List Sym) × Gathers M others ps (Ok gs)
    gathers_alike {others = others} s none_occurs all_seen e = (others, all_seen)
    gathers_alike s (one_occurs a later) (seen_before k g) e = let rest = gathers_alike s later g e in (rest.0, seen_before (seen_alike a s k) rest.1)
    gathers_alike {seen} {others} s (one_occurs {o = o} {p = p} a later) (is_new n m g) e =
        let rest = gathers_alike (pushed_alike s a) later g e in
        let free : first_named M (name_of M p.symbol) others ≡ None = none_named_alike (name_of M p.symbol) s (subst (λ name. first_named N name seen ≡ None) (same_name a) n) in
        let few : length others < 60000 = omega (arith, m, many_alike s) in
        (rest.0, is_new free few rest.1)
    gathers_alike s o g e = absurd cc

-- symbols that are alike stay so where the first table grows
pub alike_later : (N M new : Table) → Grows N new → {fs gs : List Sym} → AreAlike N M fs gs → AreAlike new M fs gs
alike_later N M new g none_alike = none_alike
alike_later N M new g (one_alike {f = f} a rest) = one_alike (record { has = has_later N new g f a.has; has_other = a.has_other; same = entry-grows N new g f a.has ∙ a.same }) (alike_later N M new g rest)

-- the symbols of a table are alike in any two tables that grew from it
module _ (old N M : Table) (to_N : Grows old N) (to_M : Grows old M) where
  kept_alike : (f : Sym) → Has old f → IsAlike N M f f
  kept_alike f h = record { has = has_later old N to_N f h; has_other = has_later old M to_M f h; same = entry-grows old N to_N f h ∙ sym (entry-grows old M to_M f h) }

  -- so are the instances of a term over it under substitutions that are alike
  module _ (σ τ : ℕ → Tree) (alike : (x : ℕ) → NodesAlike N M (flat (σ x)) (flat (τ x))) where
    mutual
      pub instance_alike : (t : Tree) → IsOf old t → NodesAlike N M (flat (apply σ t)) (flat (apply τ t))
      instance_alike (var x) o = alike x
      instance_alike (app f ts) o = a_functor (kept_alike f o.0) (instances_alike ts o.2)

      instances_alike : (ts : Trees) → AreOver (Has old) (arity_of old) (λ _. Unit {0}) ts → NodesAlike N M (flat_all (apply_all σ ts)) (flat_all (apply_all τ ts))
      instances_alike none o = no_nodes
      instances_alike (more t ts) o = nodes_append N M (instance_alike t o.0) (instances_alike ts o.1)

  mutual
    pub term_alike : (t : Tree) → IsOf old t → NodesAlike N M (flat t) (flat t)
    term_alike (var x) o = a_variable no_nodes
    term_alike (app f ts) o = a_functor (kept_alike f o.0) (terms_alike ts o.2)

    terms_alike : (ts : Trees) → AreOver (Has old) (arity_of old) (λ _. Unit {0}) ts → NodesAlike N M (flat_all ts) (flat_all ts)
    terms_alike none o = no_nodes
    terms_alike (more t ts) o = nodes_append N M (term_alike t o.0) (terms_alike ts o.1)

  constant_alike : (x : ℕ) {cs ds : List Sym} (i : ℕ) → AreAlike N M cs ds → NodesAlike N M (flat (constant_or_variable x (slice_get cs i))) (flat (constant_or_variable x (slice_get ds i)))
  constant_alike x i none_alike = a_variable no_nodes
  constant_alike x zero (one_alike a rest) = a_functor a no_nodes
  constant_alike x (suc i) (one_alike a rest) = constant_alike x i rest

  -- and with constants that are alike in the place of its variables
  pub closed_alike : {cs ds : List Sym} → AreAlike N M cs ds → (t : Tree) → IsOf old t → NodesAlike N M (flat (apply (constant_for cs) t)) (flat (apply (constant_for ds) t))
  closed_alike {cs} {ds} a t o = instance_alike (constant_for cs) (constant_for ds) (λ x. constant_alike x x a) t o
