-- The facts of a list of symbols, one after another.
use Rattle.std.proofs.Common.{◌≡◌, ℕ, zero, suc, ◌+◌, ◌<◌, List, [], ◌∷◌, ◌++◌, slice_index, refl, sym, ap, subst, arith, ◌⊎◌, inl, inr, append_assoc}
use Rattle.std.specs.List.Sorted.{IsStrictlyIncreasing}
use Rattle.uc_term.specs.declared.node.Sym.{Sym}
use Rattle.uc_term.specs.Tree.{Tree}
use Rattle.uc_order.specs.Members.{In, in_front, in_rest, Each}
use Rattle.uc_fact.specs.Live.{Live}
use Rattle.uc_fact.specs.declared.ac_facts.AcFacts.{AcFacts}
use Rattle.uc_ac.specs.declared.ac_law.AcLaw.TheVariants.{Assoc, Comm, Extended}
use Rattle.uc_ac.specs.AcFacts.{IsFactThat, symbols_of}
use Rattle.uc_ac.specs.Joining.{AreBinaryIn, AreLeastFacts, IsAcSymbol, AreFactsOf}
use Rattle.uc_ac.specs.Found.{Gathers, gathers_none, gathers_one, gathers_no, AddsFacts, adds_facts, adds_none}
use Rattle.uc_ac.proofs.Parts.{same_sym}
use Rattle.uc_ac.proofs.Heading.{In-cons, in_first}
use Rattle.uc_ac.proofs.Answered.{are_facts, numbers, symbol_of, tail_rises, head_below}

cons_rises : (x : ℕ) (xs : List ℕ) → ((y : ℕ) → In xs y → x < y) → IsStrictlyIncreasing xs → IsStrictlyIncreasing (x ∷ xs)
cons_rises x [] b r k h = absurd (omega arith)
cons_rises x (y ∷ ys) b r zero h = b y in_front
cons_rises x (y ∷ ys) b r (suc k) h = let e : suc (k + 1) ≡ suc k + 1 = omega arith in subst (λ j. slice_index (x ∷ y ∷ ys) (suc k) < slice_index (x ∷ y ∷ ys) j) e (r k (omega arith))

module _ (live : List Live) where
  -- a further symbol
  pub gathers_more : (f : Sym) (ns : List ℕ) (old now final : List AcFacts) → AddsFacts live f old now → Gathers live ns final → (whole : List AcFacts) × Gathers live (f.0 ∷ ns) whole × (old ++ whole ≡ now ++ final)
  gathers_more f ns old _ final (adds_facts {facts = facts} e l) g = (facts ∷ final, subst (λ n. Gathers live (n ∷ ns) (facts ∷ final)) (ap (λ (s : Sym). s.0) e) (gathers_one l g), sym (append_assoc old (facts ∷ []) final))
  gathers_more f ns old _ final (adds_none n) g = (final, gathers_no n g, refl)

  each_least : {ns : List ℕ} {list : List AcFacts} → Gathers live ns list → Each (AreLeastFacts live) list
  each_least gathers_none = tt
  each_least (gathers_one l g) = (l, each_least g)
  each_least (gathers_no n g) = each_least g

  gathered_in : {ns : List ℕ} {list : List AcFacts} → Gathers live ns list → (x : ℕ) → In (numbers list) x → In ns x
  gathered_in gathers_none x i = elim i [ ]
  gathered_in (gathers_one {facts = facts} {numbers = ns} {list = list} l g) x i = go (In-cons facts.symbol.0 x (numbers list) i) (gathered_in g x)
    where
      go : (facts.symbol.0 ≡ x) ⊎ In (numbers list) x → (In (numbers list) x → In ns x) → In (facts.symbol.0 ∷ ns) x
      go (inl e) rest = in_first facts.symbol.0 x ns e
      go (inr j) rest = in_rest (rest j)
  gathered_in (gathers_no n g) x i = in_rest (gathered_in g x i)

  gathered_rise : {ns : List ℕ} {list : List AcFacts} → Gathers live ns list → IsStrictlyIncreasing ns → IsStrictlyIncreasing (numbers list)
  gathered_rise gathers_none r = r
  gathered_rise (gathers_one {facts = facts} {numbers = ns} {list = list} l g) r = cons_rises facts.symbol.0 (numbers list) (λ y i. head_below facts.symbol.0 ns r y (gathered_in g y i)) (gathered_rise g (tail_rises facts.symbol.0 ns r))
  gathered_rise (gathers_no {n = n} {numbers = ns} k g) r = gathered_rise g (tail_rises n ns r)

  symbol_in : (list : List AcFacts) (f : Sym) → In (symbols_of list) f → In (numbers list) f.0
  symbol_in [] f i = elim i [ ]
  symbol_in (facts ∷ list) _ in_front = in_front
  symbol_in (facts ∷ list) f (in_rest i) = in_rest (symbol_in list f i)

  its_facts : (list : List AcFacts) → Each (AreLeastFacts live) list → (f : Sym) → In (symbols_of list) f → IsAcSymbol live f
  its_facts [] e f i = elim i [ ]
  its_facts (facts ∷ list) e _ in_front = record { facts = facts; symbol_is = refl; are_facts = are_facts live facts e.0 }
  its_facts (facts ∷ list) e f (in_rest i) = its_facts list e.1 f i

  gathered : {ns : List ℕ} {list : List AcFacts} → Gathers live ns list → (f : Sym) → In ns f.0 → IsAcSymbol live f → In (symbols_of list) f
  gathered gathers_none f i a = elim i [ ]
  gathered (gathers_one {facts = facts} {numbers = ns} {list = list} l g) f i a = go (In-cons facts.symbol.0 f.0 ns i) (λ j. gathered g f j a)
    where
      go : (facts.symbol.0 ≡ f.0) ⊎ In ns f.0 → (In ns f.0 → In (symbols_of list) f) → In (symbols_of (facts ∷ list)) f
      go (inl e) rest = in_first facts.symbol f (symbols_of list) (same_sym facts.symbol f e)
      go (inr j) rest = in_rest (rest j)
  gathered (gathers_no {n = n} {numbers = ns} {list = list} k g) f i a = go (In-cons n f.0 ns i) (λ j. gathered g f j a)
    where
      go : (n ≡ f.0) ⊎ In ns f.0 → (In ns f.0 → In (symbols_of list) f) → In (symbols_of list) f
      go (inl e) rest = absurd (k (subst (IsAcSymbol live) (same_sym f (symbol_of n) (sym e)) a))
      go (inr j) rest = rest j

  pub facts_are : (s t : Tree) (ns : List ℕ) (list : List AcFacts) → AreBinaryIn s t ns → Gathers live ns list → AreFactsOf live s t list
  facts_are s t ns list b g = record {
    rising = gathered_rise g b.rising;
    least = each_least g;
    symbols = λ f. (λ i. ((b.each f).0 (gathered_in g f.0 (symbol_in list f i)), its_facts list (each_least g) f i), λ h. gathered g f ((b.each f).1 h.0) h.1);
  }

  -- a symbol that lacks one of the facts
  module _ (f : Sym) (a : IsAcSymbol live f) where
    pub has_comm : IsFactThat live Comm f a.facts.comm
    has_comm = subst (λ (g : Sym). IsFactThat live Comm g a.facts.comm) a.symbol_is a.are_facts.comm_is

    pub has_assoc : IsFactThat live Assoc f a.facts.assoc
    has_assoc = subst (λ (g : Sym). IsFactThat live Assoc g a.facts.assoc) a.symbol_is a.are_facts.assoc_is

    pub has_extended : IsFactThat live Extended f a.facts.extended
    has_extended = subst (λ (g : Sym). IsFactThat live Extended g a.facts.extended) a.symbol_is a.are_facts.extended_is
