-- By the default order of a generated problem, what is less than one of its constants is one of them.
use Rattle.std.proofs.Common.{◌≡◌, ◌⊎◌, inl, inr, ℕ, ◌≤◌, Bool, true, false, List, [], ◌∷◌, map, if◌then◌else◌, refl, sym, ap, ◌∙◌, subst, arith}
use Rattle.uc_term.specs.declared.node.Sym.{Sym}
use Rattle.uc_term.specs.Tree.{Tree, var, app, Trees, none, more, count, nodes, nodes_all}
use Rattle.uc_term.specs.Table.{Table, arity_of}
use Rattle.uc_problem.specs.declared.problem.Problem.{Problem}
use Rattle.uc_order.specs.Members.{In, in_front, in_rest, AreDistinct}
use Rattle.uc_order.specs.Laws.{Meaning, HasSym, IsGroundOf}
use Rattle.uc_order.specs.declared.spec.OrderSpec.{OrderSpec}
use Rattle.uc_order.specs.declared.spec.OrderSpec.TheVariants.{Kbo as KboSpec}
use Rattle.uc_kbo.specs.Faults.{weighed}
use Rattle.uc_kbo.specs.Kbo.{Weighing, weight, weight_all, Kbo, by_variables, by_tower, by_weight, by_head, by_args}
use Rattle.uc_kbo.specs.Weights.{is_entry, weight_in, weighing}
use Rattle.uc_ordering.specs.Choice.{own_precedence, own_weights}
use Rattle.uc_ordering.specs.Weights.{weight_of}
use Rattle.uc_ordering.specs.Meaning.{meaning_of}
use Rattle.uc_ordering.proofs.Signatures.{signed_own}
use Rattle.uc_gen.specs.Generated.{function_name}
use Rattle.uc_gen.specs.Options.{no_options}
use Rattle.uc_gen.specs.Counting.{constant_term, constant_terms, AreLowest}
use Rattle.uc_gen.proofs.NormalConstants.{terms_in}
use Rattle.uc_gen.proofs.Over.{constant_arity}
use Rattle.uc_gen.proofs.Signature.{arity_is}
use Rattle.uc_answer.proofs.SpecSymbols.{known_symbol, symbol_known}
use Rattle.uc_top.specs.GenAnswers.{IsPosed}
use Rattle.uc_top.proofs.GenPosed.{symbols_are, is_signature, posed_fits}

-- WEIGHTS

-- where nothing is weighed otherwise, every symbol weighs 1
all_one : (table : Table) (fs : List Sym) (f : Sym) (n : ℕ) → weight_in 1 (weighed table fs (map (weight_of table 1 []) fs)) f n ≡ 1
all_one table [] f n = refl
all_one table (g ∷ fs) f n = go (is_entry (record { symbol = g; arity = arity_of table g; weight = 1 }) f n) (all_one table fs f n)
  where
    go : (b : Bool) → weight_in 1 (weighed table fs (map (weight_of table 1 []) fs)) f n ≡ 1 → (if b then 1 else weight_in 1 (weighed table fs (map (weight_of table 1 []) fs)) f n) ≡ 1
    go true later = refl
    go false later = later

module _ (w : Weighing) (variables : w.w0 ≡ 1) (symbols : (f : Sym) (n : ℕ) → w.weight_of f n ≡ 1) where
  -- then a term weighs its nodes
  mutual
    by_nodes : (t : Tree) → weight w t ≡ nodes t
    by_nodes (var x) = variables
    by_nodes (app f ts) = omega (arith, symbols f (count ts), all_by_nodes ts)

    all_by_nodes : (ts : Trees) → weight_all w ts ≡ nodes_all ts
    all_by_nodes none = refl
    all_by_nodes (more t ts) = omega (arith, by_nodes t, all_by_nodes ts)

module _ (m : Meaning) (w : Weighing) (test : ℕ → ℕ → Bool) (above : ℕ → ℕ → Type 0) where
  -- a ground term that is less weighs no more
  weighs_less : (s t : Tree) → Kbo w test above s t → IsGroundOf m t → weight w t ≤ weight w s
  weighs_less _ _ (by_variables a) g = absurd g
  weighs_less _ _ (by_tower tower o) g = absurd g
  weighs_less _ _ (by_weight c less) g = omega (arith, less)
  weighs_less _ _ (by_head c same less) g = omega (arith, same)
  weighs_less _ _ (by_args c same counts first) g = omega (arith, same)

-- a term of one node is a constant
some_nodes : (t : Tree) → 1 ≤ nodes t
some_nodes (var x) = omega arith
some_nodes (app f ts) = omega arith

module _ (m : Meaning) where
  record IsConstantOf (t : Tree) : Type 0 where
    symbol : Sym
    has : HasSym m symbol
    bare : m.arity symbol ≡ 0
    is : t ≡ constant_term symbol

  one_node : (t : Tree) → IsGroundOf m t → nodes t ≤ 1 → IsConstantOf t
  one_node (var x) g few = absurd g
  one_node (app f none) g few = record { symbol = f; has = g.0; bare = sym g.1; is = refl }
  one_node (app f (more u us)) g few = absurd (omega (arith, few, some_nodes u))

-- THE CONSTANTS

first_or_later : (f : Sym) (fs : List Sym) (c : Sym) → In (f ∷ fs) c → (c ≡ f) ⊎ In fs c
first_or_later f fs _ in_front = inl refl
first_or_later f fs c (in_rest i) = inr i

module _ (n start : ℕ) (table : Table) (problem : Problem) (spec : OrderSpec) (posed : IsPosed n start table problem spec) where
  abbrev m : Meaning
  m = meaning_of table spec

  abbrev constants : List Sym
  constants = posed.generated.constants

  abbrev f : Sym
  f = posed.generated.f

  bare : (c : Sym) → In constants c → arity_of table c ≡ 0
  bare = constant_arity table f posed.generated.is_f n posed.some constants posed.generated.are_constants start

  known : (c : Sym) → In constants c → HasSym m c × (m.arity c ≡ 0)
  known c i =
      let k = symbol_known table problem.signature.symbols spec (posed_fits n start table problem spec posed) c (subst (λ (fs : List Sym). In fs c) (sym (symbols_are n start table problem spec posed)) (in_rest i)) in
      (k.0, sym k.1 ∙ bare c i)

  different : AreDistinct constants
  different = (subst AreDistinct (symbols_are n start table problem spec posed) (signed_own table problem.signature (is_signature n start table problem spec posed)).distinct).1

  -- a symbol without arguments is one of the constants
  among : (c : Sym) → HasSym m c → m.arity c ≡ 0 → In constants c
  among c has none_wanted =
      let k = known_symbol table problem.signature.symbols spec (posed_fits n start table problem spec posed) c has in
      go (first_or_later f constants c (subst (λ (fs : List Sym). In fs c) (symbols_are n start table problem spec posed) k.0)) (sym k.1 ∙ none_wanted)
    where
      go : (c ≡ f) ⊎ In constants c → arity_of table c ≡ 0 → In constants c
      go (inl same) e = absurd (let one : arity_of table f ≡ 1 = arity_is table f function_name 1 posed.generated.is_f in omega (arith, one, sym (ap (arity_of table) same) ∙ e))
      go (inr i) e = i

  abbrev chosen_spec : OrderSpec
  chosen_spec = KboSpec 1 (own_weights table problem.signature no_options) (own_precedence table problem.signature no_options)

  abbrev w : Weighing
  w = weighing 1 (weighed table (own_precedence table problem.signature no_options) (own_weights table problem.signature no_options))

  below : (c : Sym) (t : Tree) → IsGroundOf m t → (meaning_of table chosen_spec).greater (constant_term c) t → nodes t ≤ 1
  below c t g h =
      let less = weighs_less m w _ _ (constant_term c) t h g in
      let ones : (f : Sym) (k : ℕ) → w.weight_of f k ≡ 1 = λ f k. all_one table (own_precedence table problem.signature no_options) f k in
      omega (arith, less, by_nodes w refl ones t, by_nodes w refl ones (constant_term c))

  lowest : (c : Sym) (t : Tree) → In constants c → IsGroundOf m t → m.greater (constant_term c) t → In (constant_terms constants) t
  lowest c t i g h =
      let one = one_node m t g (below c t g (subst (λ (s : OrderSpec). (meaning_of table s).greater (constant_term c) t) posed.chosen.is h)) in
      subst (In (constant_terms constants)) (sym one.is) (terms_in constants one.symbol (among one.symbol one.has one.bare))

  pub posed_lowest : AreLowest m constants
  posed_lowest = record { known = known; distinct = different; lowest = lowest }
