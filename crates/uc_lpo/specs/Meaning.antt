-- What the lexicographic path order of a precedence says, and that it keeps the laws of an order.
use Rattle.std.proofs.Common.{◌≡◌, ℕ, ◌<◌, ◌≤◌, List}
use Rattle.uc_term.specs.declared.node.Sym.{Sym}
use Rattle.uc_term.specs.Tree.{Tree, var, Trees, none, more, apply}
use Rattle.uc_order.specs.Members.{In}
use Rattle.uc_order.specs.VarOrders.{Classes, Among, HasOnly, IsHigher, representative, represented, Respects}
use Rattle.uc_order.specs.Laws.{Meaning, Laws, Inside, inside, InsideOne, is_first, in_first_one, in_later_one}
use Rattle.uc_order.proofs.Respected.{HasOnly-represented, represented-same, higher_greater}
use Rattle.uc_lpo.specs.PathOrder.{PathOrder, by_argument, SomeReaches, is_it, is_greater, a_later, Nothing, Lpo}
use Rattle.uc_lpo.specs.Laws.{PathOrder-apply, contexts, transitive, irreflexive}
use Rattle.uc_lpo.specs.Higher.{higher_transitive, higher_irreflexive}
use Rattle.uc_lpo.specs.Total.{total, bottom}
use Rattle.uc_lpo.specs.WellFounded.{accessible}
use Rattle.uc_lpo.specs.Binary.{associates, commutes, exchanges}
use Rattle.uc_lpo.specs.Ranks.{rank_in, arity_in}
use Rattle.uc_lpo.specs.Places.{rank_known, known_rank, rank_once}

-- under an order of variables those of a class are replaced by the first of the class, and two variables compare by
-- their classes
abbrev pub LpoUnder : (Sym → ℕ) → Classes → Tree → Tree → Type 0
LpoUnder rank cs s t = PathOrder rank (IsHigher cs) (represented cs s) (represented cs t)

-- the order of a precedence, which begins with the least symbol, with the arity that stands at each place, and with the
-- least constant
abbrev pub meaning_of : List Sym → List ℕ → Sym → Meaning
meaning_of precedence arities least = record {
  symbols = precedence;
  arity = arity_in precedence arities;
  greater = Lpo (rank_in precedence);
  under = LpoUnder (rank_in precedence);
  least = least;
}

module _ (rank : Sym → ℕ) where
  no_above : (x y z : ℕ) → Nothing x y → Nothing y z → Nothing x z
  no_above x y z h k = absurd h

  no_self : (x : ℕ) → Nothing x x → ⊥
  no_self x h = h

  instances : (σ : ℕ → Tree) (s t : Tree) → Lpo rank s t → Lpo rank (apply σ s) (apply σ t)
  instances σ s t l = PathOrder-apply rank Nothing Nothing (λ x. Unit {0}) σ (λ x y _ _ h. absurd h) (λ x _. tt) (λ x _. tt) l

  mutual
    subterms : (s t : Tree) → Inside s t → Lpo rank s t
    subterms _ t (inside {ss = ss} o) = by_argument (reached ss t o)

    reached : (ss : Trees) (t : Tree) → InsideOne ss t → SomeReaches rank Nothing ss t
    reached none t o = elim o [ ]
    reached (more s ss) _ is_first = is_it
    reached (more s ss) t (in_first_one o) = is_greater (subterms s t o)
    reached (more s ss) t (in_later_one o) = a_later (reached ss t o)

  under_holds : (cs : Classes) (σ : ℕ → Tree) (s t : Tree) → HasOnly cs s → HasOnly cs t → Respects (Lpo rank) σ cs → LpoUnder rank cs s t → Lpo rank (apply σ s) (apply σ t)
  under_holds cs σ s t hs ht r l =
      let at_s = represented-same (Lpo rank) σ cs r s in
      let at_t = represented-same (Lpo rank) σ cs r t in
      rw (← at_s, ← at_t) (PathOrder-apply rank (IsHigher cs) Nothing (Among cs) σ (λ x y a b h. higher_greater (Lpo rank) σ cs x y r a b h) (HasOnly-represented cs s hs) (HasOnly-represented cs t ht) l)

  refined : (cs : Classes) (s t : Tree) → Lpo rank s t → LpoUnder rank cs s t
  refined cs s t l = PathOrder-apply rank Nothing (IsHigher cs) (λ x. Unit {0}) (λ x. var (representative cs x)) (λ x y _ _ h. absurd h) (λ x _. tt) (λ x _. tt) l

  one_way : (cs : Classes) (s t : Tree) → LpoUnder rank cs s t → LpoUnder rank cs t s → ⊥
  one_way cs s t l k =
      let a = represented cs s in
      let b = represented cs t in
      irreflexive rank (IsHigher cs) (higher_transitive cs) (higher_irreflexive cs) a (transitive rank (IsHigher cs) (higher_transitive cs) a b a l k)

-- the laws, where `least` is the constant of the lowest rank
pub laws_of : (precedence : List Sym) (arities : List ℕ) (least : Sym) → 0 < rank_in precedence least → arity_in precedence arities least ≡ 0 → ((f : Sym) → 0 < rank_in precedence f → arity_in precedence arities f ≡ 0 → rank_in precedence least ≤ rank_in precedence f) → Laws (meaning_of precedence arities least)
laws_of precedence arities least known bare lowest =
    let rank : Sym → ℕ = rank_in precedence in
    let arity : Sym → ℕ = arity_in precedence arities in
    record {
      irreflexive = irreflexive rank Nothing (no_above rank) (no_self rank);
      transitive = transitive rank Nothing (no_above rank);
      instances = instances rank;
      contexts = λ s t w. contexts rank Nothing w;
      subterms = subterms rank;
      total = total rank Nothing (In precedence) arity (rank_once precedence);
      well_founded = accessible rank Nothing (In precedence) arity;
      least_is = (known_rank precedence least known, bare);
      bottom = bottom rank Nothing (In precedence) arity (rank_once precedence) least (known_rank precedence least known) (λ g i e. lowest g (rank_known precedence g i) e);
      under_holds = λ cs σ s t hs ht r _ _ l. under_holds rank cs σ s t hs ht r l;
      refined = refined rank;
      one_way = one_way rank;
      binary = λ f _ _. record {
        brackets = λ x y z _ _ _. associates rank Nothing f x y z;
        swapped = λ x y _ _ l. commutes rank Nothing f x y l;
        swapped_inside = λ x y z _ _ _ l. exchanges rank Nothing f x y z l;
      };
    }
