-- Paths and places in prefix order: each path has its place, with the same subterm and the same replacement.
use Rattle.std.proofs.Common.{◌≡◌, ℕ, zero, suc, ◌+◌, ◌-◌, ◌<◌, nat_lt, true, false, List, [], ◌∷◌, Some, option_and_then, get_or, refl, ap, ◌∙◌, arith}
use Rattle.std.proofs.lemmas.List.{get_or_append_left, get_or-append_right}
use Rattle.std.proofs.lemmas.Bool.Decides.{nat_tests}
use Rattle.uc_term.specs.declared.node.Sym.{Sym}
use Rattle.uc_term.specs.Tree.{Tree, var, app, Trees, none, more, subterms, subterms_all, nodes, nodes_all, put, put_all}
use Rattle.uc_term.specs.Path.{nth, change, at, put_at}
use Rattle.uc_term.proofs.Terms.{length-subterms}

abbrev mutual
  pub position : Tree → List ℕ → ℕ
  position (var x) p = 0
  position (app f ts) [] = 0
  position (app f ts) (i ∷ p) = suc (position_in ts i p)

  pub position_in : Trees → ℕ → List ℕ → ℕ
  position_in none i p = 0
  position_in (more t ts) zero p = position t p
  position_in (more t ts) (suc i) p = nodes t + position_in ts i p

pub low : (t : Tree) (ts : Trees) (k : ℕ) (w : Tree) → k < nodes t → put_all (more t ts) k w ≡ more (put t k w) ts
low t ts k w h = let e : nat_lt k (nodes t) ≡ true = grind (arith, nat_tests) in rw e refl

pub high : (t : Tree) (ts : Trees) (k : ℕ) (w : Tree) → put_all (more t ts) (nodes t + k) w ≡ more t (put_all ts k w)
high t ts k w = let e : nat_lt (nodes t + k) (nodes t) ≡ false = grind (arith, nat_tests) in let q : nodes t + k - nodes t ≡ k = omega arith in rw e (ap (λ n. more t (put_all ts n w)) q)

pub record Placed (t : Tree) (p : List ℕ) (u : Tree) : Type 0 where
  pub inside : position t p < nodes t
  pub there : (d : Tree) → get_or (subterms t) (position t p) d ≡ u
  pub puts : (w : Tree) → put t (position t p) w ≡ put_at t p w

record PlacedIn (ts : Trees) (i : ℕ) (p : List ℕ) (u : Tree) : Type 0 where
  inside : position_in ts i p < nodes_all ts
  there : (d : Tree) → get_or (subterms_all ts) (position_in ts i p) d ≡ u
  puts : (w : Tree) → put_all ts (position_in ts i p) w ≡ change (λ a. put_at a p w) ts i

first_placed : (t : Tree) (ts : Trees) (p : List ℕ) (u : Tree) → Placed t p u → PlacedIn (more t ts) zero p u
first_placed t ts p u h = record {
  inside = omega (arith, h.inside);
  there = λ d. get_or_append_left (subterms t) (subterms_all ts) d (position t p) (omega (arith, length-subterms t, h.inside)) ∙ h.there d;
  puts = λ w. low t ts (position t p) w h.inside ∙ ap (λ a. more a ts) (h.puts w);
}

later_placed : (t : Tree) (ts : Trees) (i : ℕ) (p : List ℕ) (u : Tree) → PlacedIn ts i p u → PlacedIn (more t ts) (suc i) p u
later_placed t ts i p u h =
    let k = position_in ts i p in
    let q : nodes t + k - nodes t ≡ k = omega arith in
    record {
      inside = omega (arith, h.inside);
      there = λ d. get_or-append_right (subterms t) (subterms_all ts) (nodes t) (nodes t + k) d (length-subterms t) (omega arith) ∙ ap (λ n. get_or (subterms_all ts) n d) q ∙ h.there d;
      puts = λ w. high t ts k w ∙ ap (more t) (h.puts w);
    }

below : (f : Sym) (ts : Trees) (i : ℕ) (p : List ℕ) (u : Tree) → PlacedIn ts i p u → Placed (app f ts) (i ∷ p) u
below f ts i p u h = record { inside = omega (arith, h.inside); there = h.there; puts = λ w. ap (app f) (h.puts w) }

mutual
  pub placed : (t : Tree) (p : List ℕ) (u : Tree) → at t p ≡ Some u → Placed t p u
  placed (var x) [] u e = record { inside = omega arith; there = λ d. cc; puts = λ w. refl }
  placed (var x) (i ∷ p) u e = absurd cc
  placed (app f ts) [] u e = record { inside = omega arith; there = λ d. cc; puts = λ w. refl }
  placed (app f ts) (i ∷ p) u e = below f ts i p u (placed_in ts i p u e)

  placed_in : (ts : Trees) (i : ℕ) (p : List ℕ) (u : Tree) → option_and_then (λ v. at v p) (nth ts i) ≡ Some u → PlacedIn ts i p u
  placed_in none i p u e = absurd cc
  placed_in (more t ts) zero p u e = first_placed t ts p u (placed t p u e)
  placed_in (more t ts) (suc i) p u e = later_placed t ts i p u (placed_in ts i p u e)
