-- Terms and clauses with constants in the place of variables.
use Rattle.std.proofs.Common.{◌≡◌, ℕ, zero, suc, ◌+◌, ◌<◌, ◌≤◌, List, [], ◌∷◌, ◌++◌, map, length, drop, get_or, slice_get, Option, Some, None, refl, sym, ap, ap₂, ◌∙◌, subst, arith, append-nil}
use Rattle.std.proofs.lemmas.List.{map-append, length-map, drop_all}
use Rattle.uc_term.specs.declared.node.Node.{Node}
use Rattle.uc_term.specs.declared.node.Node.TheVariants.{App}
use Rattle.uc_term.specs.declared.node.Sym.{Sym}
use Rattle.uc_term.specs.Tree.{Tree, var, app, Trees, none, more, count, nodes, nodes_all, apply, apply_all}
use Rattle.uc_term.specs.Flat.{flat, flat_all, tree_of, IsWhole}
use Rattle.uc_term.specs.Over.{AreOver}
use Rattle.uc_term.specs.Table.{Table, Has, IsOf, Grows, arity_of}
use Rattle.uc_term.proofs.Terms.{whole_list}
use Rattle.uc_clause.specs.declared.token.Place.{Place}
use Rattle.uc_clause.specs.declared.clause.Clause.{Clause}
use Rattle.uc_fof.specs.Constants.{constant_or_variable, constant_for}
use Rattle.uc_problem.specs.declared.flat.FlatClause.{FlatClause}
use Rattle.uc_problem.specs.Conjecture.{closed, closed_if, closed_one, closed_all}
use Rattle.uc_problem.specs.Closing.{constant_or, closed_node}
use Rattle.uc_problem.specs.Sound.{IsSound, AreSound, AreSoundFlats}
use Rattle.uc_problem.specs.Assembly.{AreSoundFew, AreSoundFewFlats}
use Rattle.uc_problem.proofs.Sound.{sound_later}

-- each clause of a sound list is sound
pub sound_at : (table : Table) (ss : List FlatClause) (i : ℕ) (s d : FlatClause) → AreSoundFlats table ss → i < length ss → s ≡ get_or ss i d → IsSound table s.clause
sound_at table [] i s d h within e = absurd (omega arith)
sound_at table (x ∷ ss) zero s d h within e = subst (λ (f : FlatClause). IsSound table f.clause) (sym e) h.0
sound_at table (x ∷ ss) (suc i) s d h within e = sound_at table ss i s d h.1 (omega arith) e

module _ (cs : List Sym) where
  count_closed : (ts : Trees) → count (apply_all (constant_for cs) ts) ≡ count ts
  count_closed none = refl
  count_closed (more t ts) = ap (λ n. n + 1) (count_closed ts)

  flat_variable : (x : ℕ) (o : Option Sym) → flat (constant_or_variable x o) ≡ constant_or x o ∷ []
  flat_variable x (Some c) = refl
  flat_variable x None = refl

  -- node by node
  mutual
    flat_closed : (t : Tree) → flat (apply (constant_for cs) t) ≡ map (closed_node cs) (flat t)
    flat_closed (var x) = flat_variable x (slice_get cs x)
    flat_closed (app f ts) = ap₂ (λ n l. App f n ∷ l) (count_closed ts) (flat_all_closed ts)

    flat_all_closed : (ts : Trees) → flat_all (apply_all (constant_for cs) ts) ≡ map (closed_node cs) (flat_all ts)
    flat_all_closed none = refl
    flat_all_closed (more t ts) = ap₂ (λ l r. l ++ r) (flat_closed t) (flat_all_closed ts) ∙ sym (map-append (closed_node cs) (flat t) (flat_all ts))

  -- the closed nodes of a whole term are those of the closed term
  pub closed_list : (t : Tree) (ns all : List Node) (i : ℕ) → ns ≡ flat t → length ns ≤ i → all ++ map (closed_node cs) (drop i ns) ≡ map (closed_node cs) ns → IsWhole all × (tree_of all ≡ apply (constant_for cs) t)
  closed_list t ns all i of end e =
      let none_left = ap (λ l. all ++ map (closed_node cs) l) (drop_all i ns end) ∙ append-nil all in
      let w = whole_list all (apply (constant_for cs) t) (sym none_left ∙ e ∙ ap (map (closed_node cs)) of ∙ sym (flat_closed t)) in
      (w.0, w.1)

  nodes_variable : (x : ℕ) (o : Option Sym) → nodes (constant_or_variable x o) ≡ 1
  nodes_variable x (Some c) = refl
  nodes_variable x None = refl

  mutual
    nodes_closed : (t : Tree) → nodes (apply (constant_for cs) t) ≡ nodes t
    nodes_closed (var x) = nodes_variable x (slice_get cs x)
    nodes_closed (app f ts) = ap (λ n. n + 1) (nodes_all_closed ts)

    nodes_all_closed : (ts : Trees) → nodes_all (apply_all (constant_for cs) ts) ≡ nodes_all ts
    nodes_all_closed none = refl
    nodes_all_closed (more t ts) = ap₂ (λ m n. m + n) (nodes_closed t) (nodes_all_closed ts)

-- these symbols are constants of the table
abbrev pub HasConstants : Table → List Sym → Type 0
HasConstants table cs = (i : ℕ) (c : Sym) → slice_get cs i ≡ Some c → Has table c × (0 ≡ arity_of table c)

module _ (table : Table) (cs : List Sym) (has : HasConstants table cs) where
  variable_of : (x : ℕ) (o : Option Sym) → slice_get cs x ≡ o → IsOf table (constant_or_variable x o)
  variable_of x (Some c) e = let h = has x c e in (h.0, h.1, tt)
  variable_of x None e = tt

  mutual
    closed_of : (t : Tree) → IsOf table t → IsOf table (apply (constant_for cs) t)
    closed_of (var x) h = variable_of x (slice_get cs x) refl
    closed_of (app f ts) h = (h.0, count_closed cs ts ∙ h.1, all_closed_of ts h.2)

    all_closed_of : (ts : Trees) → AreOver (Has table) (arity_of table) (λ _. Unit {0}) ts → AreOver (Has table) (arity_of table) (λ _. Unit {0}) (apply_all (constant_for cs) ts)
    all_closed_of none h = tt
    all_closed_of (more t ts) h = (closed_of t h.0, all_closed_of ts h.1)

  closed_sound : (c : Clause) → IsSound table c → IsSound table (closed cs c)
  closed_sound c h = record {
    left = closed_of c.left h.left;
    right = closed_of c.right h.right;
    places = h.places ∙ sym (ap₂ (λ m n. m + n) (nodes_closed cs c.left) (nodes_closed cs c.right));
  }

  closed_if_sound : (o : Option Place) (c : Clause) → IsSound table c → IsSound table (closed_if cs o c)
  closed_if_sound None c h = h
  closed_if_sound (Some place) c h = closed_sound c h

  module _ (old : Table) (grows : Grows old table) where
    closed_all_sound : (ss : List FlatClause) → AreSoundFlats old ss → AreSound table (closed_all cs ss)
    closed_all_sound [] h = tt
    closed_all_sound (s ∷ ss) h = (closed_if_sound s.conjecture s.clause (sound_later old table grows s.clause h.0), closed_all_sound ss h.1)

    -- clauses with constants of a later table in the place of variables are sound in that
    pub closed_sound_few : (ss : List FlatClause) → AreSoundFewFlats old ss → AreSoundFew table (closed_all cs ss)
    closed_sound_few ss h = record { sound = closed_all_sound ss h.sound; few = omega (arith, h.few, length-map ss (closed_one cs)) }
