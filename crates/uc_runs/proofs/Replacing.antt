-- Replacement of equals at a place: gone back, with its variables renamed, and as the first possible step makes it.
use Rattle.std.proofs.Common.{◌≡◌, ℕ, zero, suc, ◌+◌, ◌-◌, ◌<◌, List, get_or, refl, sym, ap, ◌∙◌, subst, arith, inl, inr}
use Rattle.std.proofs.lemmas.List.{get_or_append_left, get_or-append_right, get_or_default}
use Rattle.uc_term.specs.declared.node.Sym.{Sym}
use Rattle.uc_term.specs.Tree.{Tree, var, app, Trees, none, more, apply, nodes, nodes_all, subterms, subterms_all, subterm, put, put_all}
use Rattle.uc_term.proofs.Terms.{apply-apply, length-subterms, nodes_pos}
use Rattle.uc_term.proofs.Positions.{high}
use Rattle.uc_unify.specs.Replacing.{ReplacesAt}
use Rattle.uc_fact.specs.Live.{Live, Rule, rules_of}
use Rattle.uc_rewrite.specs.Normalising.{FirstStep, in_arguments, at_the_term, FirstStepAmong, in_this, in_another}
use Rattle.uc_rewrite.proofs.Reading.{rule_makes}
use Rattle.uc_pair.specs.Reading.{renamed}
use Rattle.uc_pair.proofs.Names.{renamed_nodes}
use Rattle.uc_pair.proofs.Renaming.{subterm-renamed, put-renamed}
use Rattle.uc_pair.proofs.Replacing.{put_here, put_later, where_is}

-- the root

root_get : (t d : Tree) → get_or (subterms t) 0 d ≡ t
root_get (var x) d = refl
root_get (app f ts) d = refl

pub root_put : (t u : Tree) → put t 0 u ≡ u
root_put (var x) u = refl
root_put (app f ts) u = refl

-- what stands at a place where it was put

mutual
  inside_put : (t u : Tree) (p : ℕ) → p < nodes t → p < nodes (put t p u)
  inside_put (var x) u zero h = nodes_pos u
  inside_put (var x) u (suc p) h = absurd (omega arith)
  inside_put (app f ts) u zero h = nodes_pos u
  inside_put (app f ts) u (suc p) h = let k : p < nodes_all (put_all ts p u) = inside_put_all ts u p (omega arith) in omega arith

  inside_put_all : (ts : Trees) (u : Tree) (p : ℕ) → p < nodes_all ts → p < nodes_all (put_all ts p u)
  inside_put_all none u p h = absurd (omega arith)
  inside_put_all (more t ts) u p h = elim (where_is p (nodes t)) [
    | inl k ↦ subst (λ (us : Trees). p < nodes_all us) (sym (put_here t ts p u k)) (let i : p < nodes (put t p u) = inside_put t u p k in let r : p < nodes (put t p u) + nodes_all ts = omega arith in r)
    | inr k ↦ subst (λ (us : Trees). p < nodes_all us) (sym (put_later t ts p u k)) (let i : p - nodes t < nodes_all (put_all ts (p - nodes t) u) = inside_put_all ts u (p - nodes t) (omega arith) in let r : p < nodes t + nodes_all (put_all ts (p - nodes t) u) = omega arith in r)
  ]

mutual
  part_put : (t u d : Tree) (p : ℕ) → p < nodes t → get_or (subterms (put t p u)) p d ≡ u
  part_put (var x) u d zero h = root_get u d
  part_put (var x) u d (suc p) h = absurd (omega arith)
  part_put (app f ts) u d zero h = root_get u d
  part_put (app f ts) u d (suc p) h = part_put_all ts u d p (omega arith)

  part_put_all : (ts : Trees) (u d : Tree) (p : ℕ) → p < nodes_all ts → get_or (subterms_all (put_all ts p u)) p d ≡ u
  part_put_all none u d p h = absurd (omega arith)
  part_put_all (more t ts) u d p h = elim (where_is p (nodes t)) [
    | inl k ↦ ap (λ (us : Trees). get_or (subterms_all us) p d) (put_here t ts p u k) ∙ get_or_append_left (subterms (put t p u)) (subterms_all ts) d p (omega (arith, length-subterms (put t p u), inside_put t u p k)) ∙ part_put t u d p k
    | inr k ↦ ap (λ (us : Trees). get_or (subterms_all us) p d) (put_later t ts p u k) ∙ get_or-append_right (subterms t) (subterms_all (put_all ts (p - nodes t) u)) (nodes t) p d (length-subterms t) k ∙ part_put_all ts u d (p - nodes t) (omega arith)
  ]

mutual
  put_put : (t u w : Tree) (p : ℕ) → p < nodes t → put (put t p u) p w ≡ put t p w
  put_put (var x) u w zero h = root_put u w
  put_put (var x) u w (suc p) h = absurd (omega arith)
  put_put (app f ts) u w zero h = root_put u w
  put_put (app f ts) u w (suc p) h = ap (app f) (put_put_all ts u w p (omega arith))

  put_put_all : (ts : Trees) (u w : Tree) (p : ℕ) → p < nodes_all ts → put_all (put_all ts p u) p w ≡ put_all ts p w
  put_put_all none u w p h = refl
  put_put_all (more t ts) u w p h = elim (where_is p (nodes t)) [
    | inl k ↦ ap (λ (us : Trees). put_all us p w) (put_here t ts p u k) ∙ put_here (put t p u) ts p w (inside_put t u p k) ∙ ap (λ (v : Tree). more v ts) (put_put t u w p k) ∙ sym (put_here t ts p w k)
    | inr k ↦ ap (λ (us : Trees). put_all us p w) (put_later t ts p u k) ∙ put_later t (put_all ts (p - nodes t) u) p w k ∙ ap (more t) (put_put_all ts u w (p - nodes t) (omega arith)) ∙ sym (put_later t ts p w k)
  ]

mutual
  put_own : (t d : Tree) (p : ℕ) → p < nodes t → put t p (get_or (subterms t) p d) ≡ t
  put_own (var x) d zero h = refl
  put_own (var x) d (suc p) h = absurd (omega arith)
  put_own (app f ts) d zero h = refl
  put_own (app f ts) d (suc p) h = ap (app f) (put_own_all ts d p (omega arith))

  put_own_all : (ts : Trees) (d : Tree) (p : ℕ) → p < nodes_all ts → put_all ts p (get_or (subterms_all ts) p d) ≡ ts
  put_own_all none d p h = refl
  put_own_all (more t ts) d p h = elim (where_is p (nodes t)) [
    | inl k ↦ ap (put_all (more t ts) p) (get_or_append_left (subterms t) (subterms_all ts) d p (omega (arith, length-subterms t))) ∙ put_here t ts p (get_or (subterms t) p d) k ∙ ap (λ (v : Tree). more v ts) (put_own t d p k)
    | inr k ↦ ap (put_all (more t ts) p) (get_or-append_right (subterms t) (subterms_all ts) (nodes t) p d (length-subterms t) k) ∙ put_later t ts p (get_or (subterms_all ts) (p - nodes t) d) k ∙ ap (more t) (put_own_all ts d (p - nodes t) (omega arith))
  ]

-- replacement of equals

pub goes_back : (from to before : Tree) (place : ℕ) (after : Tree) → ReplacesAt from to before place after → ReplacesAt to from after place before
goes_back from to before place after r = record {
  inside = subst (λ (t : Tree). place < nodes t) r.to_is (inside_put before (apply r.σ to) place r.inside);
  σ = r.σ;
  from_is = sym (subst (λ (t : Tree). subterm t place ≡ apply r.σ to) r.to_is (part_put before (apply r.σ to) (put before place (apply r.σ to)) place r.inside));
  to_is = subst (λ (t : Tree). put t place (apply r.σ from) ≡ before) r.to_is (put_put before (apply r.σ to) (apply r.σ from) place r.inside ∙ ap (put before place) r.from_is ∙ put_own before before place r.inside);
}

pub is_renamed : (f : ℕ → ℕ) (from to before : Tree) (place : ℕ) (after : Tree) → ReplacesAt from to before place after → ReplacesAt from to (renamed f before) place (renamed f after)
is_renamed f from to before place after r = record {
  inside = omega (arith, r.inside, renamed_nodes f before);
  σ = λ x. renamed f (r.σ x);
  from_is = sym (apply-apply (λ x. var (f x)) r.σ from) ∙ ap (renamed f) r.from_is ∙ sym (subterm-renamed f before place);
  to_is = ap (put (renamed f before) place) (sym (apply-apply (λ x. var (f x)) r.σ to)) ∙ sym (put-renamed f before place (apply r.σ to)) ∙ ap (renamed f) r.to_is;
}

-- an equation at the root, from one side to the other
pub at_the_root : (l r : Tree) (σ : ℕ → Tree) (u v : Tree) → apply σ l ≡ u → apply σ r ≡ v → ReplacesAt l r u 0 v
at_the_root l r σ u v a b = record { inside = nodes_pos u; σ = σ; from_is = a ∙ sym (root_get u u); to_is = root_put u (apply σ r) ∙ b }

-- the same in one of several terms
record PutsAmong (from to : Tree) (us : Trees) (place : ℕ) (vs : Trees) : Type 0 where
  inside : place < nodes_all us
  σ : ℕ → Tree
  from_is : (d : Tree) → apply σ from ≡ get_or (subterms_all us) place d
  to_is : put_all us place (apply σ to) ≡ vs

-- the first possible step is a replacement by its rule
module _ (Greater : Tree → Tree → Type 0) (least : Sym) (live : List Live) where
  mutual
    pub step_replaces : (t : Tree) (p : ℕ) (r : Rule) (v : Tree) → FirstStep Greater least live t p r v → ReplacesAt r.from r.to t p v
    step_replaces (app f us) _ r (app g vs) (in_arguments {place = p} a) =
        let q = among_replaces us p r vs a in
        record { inside = omega (arith, q.inside); σ = q.σ; from_is = q.from_is (app f us); to_is = ap (app f) q.to_is }
    step_replaces t _ r v (at_the_term n f) = let m = rule_makes Greater least t v (rules_of live) r f in at_the_root r.from r.to m.σ t v (sym m.u_is) (sym m.v_is)

    among_replaces : (us : Trees) (p : ℕ) (r : Rule) (vs : Trees) → FirstStepAmong Greater least live us p r vs → PutsAmong r.from r.to us p vs
    among_replaces none p r vs a = elim a [ ]
    among_replaces (more u ts) p r none a = elim a [ ]
    among_replaces (more u ts) p r (more v _) (in_this f) =
        let q = step_replaces u p r v f in
        record {
          inside = omega (arith, q.inside);
          σ = q.σ;
          from_is = λ d. q.from_is ∙ get_or_default (subterms u) p u d (omega (arith, length-subterms u, q.inside)) ∙ sym (get_or_append_left (subterms u) (subterms_all ts) d p (omega (arith, length-subterms u, q.inside)));
          to_is = put_here u ts p (apply q.σ r.to) q.inside ∙ ap (λ (z : Tree). more z ts) q.to_is;
        }
    among_replaces (more t us) _ r (more _ vs) (in_another {place = p} n a) =
        let q = among_replaces us p r vs a in
        let e : p ≡ (nodes t + p) - nodes t = omega arith in
        record {
          inside = omega (arith, q.inside);
          σ = q.σ;
          from_is = λ d. q.from_is d ∙ ap (λ k. get_or (subterms_all us) k d) e ∙ sym (get_or-append_right (subterms t) (subterms_all us) (nodes t) (nodes t + p) d (length-subterms t) (omega arith));
          to_is = high t us p (apply q.σ r.to) ∙ ap (more t) q.to_is;
        }
