-- Where terms end.
use Rattle.std.proofs.Common.{◌≡◌, ◌≢◌, ℕ, suc, ◌+◌, ◌-◌, ◌<◌, ◌≤◌, List, length, get_or, set, Some, refl, sym, ap, ◌∙◌, subst, arith, ◌⊎◌, inl, inr}
use Rattle.std.proofs.lemmas.List.{get_or-set_same, get_or-set_other, length-set, get_or_default}
use Rattle.std.proofs.lemmas.Option.{slice_get-get_or}
use Rattle.uc_term.specs.declared.node.Node.{Node}
use Rattle.uc_term.specs.declared.node.Node.TheVariants.{Var}
use Rattle.uc_term.specs.Tree.{nodes, nodes_all}
use Rattle.uc_term.specs.Flat.{AreWhole}
use Rattle.uc_unify.specs.Closure.{at, next, values, HasArguments, AreEndsFrom}
use Rattle.uc_unify.proofs.Fitting.{Fits, fits_place, fits_next, fits_args, term_made, variable_at}
use Rattle.uc_unify.proofs.Linking.{same_or}

-- an end that is read
pub end_is : (ns : List Node) (from : ℕ) (ends : List ℕ) → AreEndsFrom ns from ends → (p end : ℕ) → from ≤ p → p < length ns → end ≡ get_or ends p end → end ≡ next ns p
end_is ns from ends e p end h i is = is ∙ get_or_default ends p end 0 (let l = e.long in omega arith) ∙ e.ends_are p h i

pub ends_more : (ns : List Node) (p end : ℕ) (ends new : List ℕ) → p < length ns → AreEndsFrom ns (p + 1) ends → end ≡ next ns p → new ≡ set ends p end → AreEndsFrom ns p new
ends_more ns p end ends new h e is n = subst (AreEndsFrom ns p) (sym n) (record {
  long = length-set ends p end ∙ e.long;
  ends_are = λ q k i. go q k i (same_or q p);
})
  where
    go : (q : ℕ) → p ≤ q → q < length ns → (q ≡ p) ⊎ (q ≢ p) → get_or (set ends p end) q 0 ≡ next ns q
    go q k i (inl s) = subst (λ (x : ℕ). get_or (set ends p end) x 0 ≡ next ns x) (sym s) (get_or-set_same ends p end 0 (let l = e.long in omega arith) ∙ is)
    go q k i (inr d) = get_or-set_other ends p q end 0 d ∙ e.ends_are q (behind (grind arith)) i
      where
        behind : (q ≡ p) ⊎ (p + 1 ≤ q) → p + 1 ≤ q
        behind (inl s) = absurd (d s)
        behind (inr l) = l

pub variable_end : (ns : List Node) (p x : ℕ) (d : Node) → p < length ns → get_or ns p d ≡ Var x → p + 1 ≡ next ns p
variable_end ns p x d h at_p = let v = ap nodes (variable_at ns p x (slice_get-get_or ns p d h ∙ ap Some at_p)) in omega arith

-- the end of so many arguments
pub record ArgumentsEnd (ns : List Node) (p count i end : ℕ) : Type 0 where
  pub fits : Fits ns end (count - i)
  pub sum : end + nodes_all (values (at ns) ns end (count - i)) ≡ p + 1 + nodes_all (values (at ns) ns (p + 1) count)
  pub behind : p + 1 ≤ end

module _ (ns : List Node) (w : AreWhole ns) (p count : ℕ) (symbol : HasArguments ns p count) where
  pub ending_start : ArgumentsEnd ns p count 0 (p + 1)
  ending_start =
      let z : count - 0 ≡ count = omega arith in
      record { fits = rw z (fits_args ns w p count symbol); sum = rw z refl; behind = omega arith }

  pub ending_end : (i end : ℕ) → count ≤ i → ArgumentsEnd ns p count i end → end ≡ next ns p
  ending_end i end h e =
      let z : count - i ≡ 0 = omega arith in
      let none_left : nodes_all (values (at ns) ns end (count - i)) ≡ 0 = rw z refl in
      let made = ap nodes (term_made ns w p symbol.0 count symbol.1) in
      omega (arith, e.sum)

  module _ (i end : ℕ) (h : i < count) (e : ArgumentsEnd ns p count i end) where
    more_left : count - i ≡ suc (count - (i + 1))
    more_left = omega arith

    fits : Fits ns end (suc (count - (i + 1)))
    fits = rw more_left at e.fits

    pub end_within : end < length ns
    end_within = fits_place ns w end (count - (i + 1)) fits

    pub ending_more : (to : ℕ) → to ≡ next ns end → ArgumentsEnd ns p count (i + 1) to
    ending_more to is = subst (ArgumentsEnd ns p count (i + 1)) (sym is) (record {
      fits = fits_next ns w end (count - (i + 1)) fits;
      sum = (let split : nodes_all (values (at ns) ns end (count - i)) ≡ nodes (at ns end) + nodes_all (values (at ns) ns (next ns end) (count - (i + 1))) = ap (λ n. nodes_all (values (at ns) ns end n)) more_left in omega (arith, e.sum));
      behind = let b = e.behind in omega arith;
    })
