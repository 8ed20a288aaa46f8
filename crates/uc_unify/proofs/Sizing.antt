-- Sizes of the terms that classes stand for.
use Rattle.std.proofs.Common.{◌≡◌, ℕ, zero, suc, ◌+◌, ◌-◌, ◌*◌, ◌<◌, ◌≤◌, min, List, length, get_or, slice_get, Some, refl, sym, ap, ◌∙◌, subst, arith, inl, inr}
use Rattle.std.proofs.lemmas.Option.{slice_get-get_or}
use Rattle.uc_term.specs.declared.node.Node.{Node}
use Rattle.uc_term.specs.declared.node.Node.TheVariants.{Var}
use Rattle.uc_term.specs.Tree.{Tree, var, app, Trees, none, more, nodes, nodes_all}
use Rattle.uc_term.specs.Flat.{AreWhole}
use Rattle.uc_unify.specs.Closure.{next, class, AreClasses, HasArguments}
use Rattle.uc_unify.specs.Solutions.{Solves, is_free, is_made, SolvesAll, no_more, one_more, HasSize, AreSized, IsOneOf, IsStuck, IsSizeAt}
use Rattle.uc_unify.proofs.Fitting.{Fits, fits_place, fits_next, fits_args, fits_few}

module _ (ns : List Node) (classes : List ℕ) where
  -- places of one class have one term
  pub solves_class : (p q : ℕ) (t : Tree) → class classes q ≡ class classes p → Solves ns classes p t → Solves ns classes q t
  solves_class p q _ e (is_free h) = is_free (ap (slice_get ns) e ∙ h)
  solves_class p q _ e (is_made {n = n} {ts = ts} h a) = is_made (ap (slice_get ns) e ∙ h) (subst (λ (c : ℕ). SolvesAll ns classes (c + 1) n ts) (sym e) a)

  pub record Summing (p count i size q : ℕ) : Type 0 where
    pub acc : ℕ
    pub size_is : min size 4097 ≡ min (1 + acc) 4097
    pub small : (1 ≤ size) × (size ≤ 1 + 4097 * i)
    pub fits : Fits ns q (count - i)
    pub complete : (ts : Trees) → SolvesAll ns classes q (count - i) ts → (us : Trees) × SolvesAll ns classes (p + 1) count us × (nodes_all us ≡ acc + nodes_all ts)
    pub among : (r : ℕ) → IsOneOf ns classes q (count - i) r → IsOneOf ns classes (p + 1) count r

  has_size_at : (p r : ℕ) → 0 < r → (sizes : List ℕ) → HasSize ns classes p r → IsSizeAt ns classes sizes p r
  has_size_at p zero h sizes s = absurd (omega arith)
  has_size_at p (suc r) h sizes s = s

  module _ (w : AreWhole ns) (few : length ns ≤ 8192) (k : AreClasses ns classes) (sizes : List ℕ) (sized : AreSized ns classes sizes) (p count : ℕ) (symbol : HasArguments ns p count) (rep : class classes p ≡ p) where
    pub many : count ≤ 8192
    many = let l = fits_few ns w (p + 1) count (fits_args ns w p count symbol) in omega arith

    pub summing_start : Summing p count 0 1 (p + 1)
    summing_start =
        let z : count - 0 ≡ count = omega arith in
        record {
          acc = 0;
          size_is = omega arith;
          small = (omega arith, omega arith);
          fits = rw z (fits_args ns w p count symbol);
          complete = λ ts s. (ts, (rw z at s), (let e : nodes_all ts ≡ 0 + nodes_all ts = omega arith in e));
          among = λ r o. rw z at o;
        }

    module _ (i size q : ℕ) (g : Summing p count i size q) where
      pub summing_end : count ≤ i → IsSizeAt ns classes sizes p (min size 4097)
      summing_end h =
          let z : count - i ≡ 0 = omega arith in
          let c = g.complete none (let P : ℕ → Type 0 = λ n. SolvesAll ns classes q n none in subst P (sym z) no_more) in
          let total : nodes_all c.0 ≡ g.acc = let e = c.2 in omega arith in
          has_size_at p (min size 4097) (let s = g.small.0 in omega arith) sizes (record {
            term = app symbol.0 c.0;
            solves = is_made (ap (slice_get ns) rep ∙ symbol.1) (subst (λ (x : ℕ). SolvesAll ns classes (x + 1) count c.0) (sym rep) c.1);
            size_is = let s = g.size_is in omega arith;
          })

      module _ (h : i < count) where
        more_left : count - i ≡ suc (count - (i + 1))
        more_left = omega arith

        fits : Fits ns q (suc (count - (i + 1)))
        fits = rw more_left at g.fits

        pub place_in : q < length ns
        place_in = fits_place ns w q (count - (i + 1)) fits

        pub class_in : class classes q < length ns
        class_in = k.within q place_in

        pub stuck : get_or sizes (class classes q) 0 ≡ 0 → IsStuck ns classes sizes p
        stuck e = record { f = symbol.0; n = count; r = q; symbol = symbol.1; argument = g.among q (let P : ℕ → Type 0 = λ n. IsOneOf ns classes q n q in subst P (sym more_left) (inl refl)); no_size = e }

        pub known_size : (part : ℕ) → part ≡ get_or sizes (class classes q) 0 → (part ≡ 0 → ⊥) → HasSize ns classes (class classes q) part
        known_size part e ne = elim (sized.sized (class classes q) class_in) [
          | inl z ↦ absurd (ne (e ∙ z))
          | inr s ↦ subst (HasSize ns classes (class classes q)) (sym e) s
        ]

        pub part_small : (part : ℕ) → HasSize ns classes (class classes q) part → part ≤ 4097
        part_small part s = let e = s.size_is in omega arith

        pub summing_more : (part to : ℕ) → HasSize ns classes (class classes q) part → to ≡ next ns q → Summing p count (i + 1) (size + part) to
        summing_more part to s e = record {
          acc = g.acc + nodes s.term;
          size_is = let a = g.size_is in let b = s.size_is in omega arith;
          small = (let a = g.small.0 in omega arith, let a = g.small.1 in let b = s.size_is in omega arith);
          fits = subst (λ (r : ℕ). Fits ns r (count - (i + 1))) (sym e) (fits_next ns w q (count - (i + 1)) fits);
          complete = λ ts a. (let c = whole ts a in (c.0, c.1, (let x = c.2 in omega arith)));
          among = λ r o. g.among r (let P : ℕ → Type 0 = λ n. IsOneOf ns classes q n r in subst P (sym more_left) (inr (subst (λ (x : ℕ). IsOneOf ns classes x (count - (i + 1)) r) e o)));
        }
          where
            whole : (ts : Trees) → SolvesAll ns classes to (count - (i + 1)) ts → (us : Trees) × SolvesAll ns classes (p + 1) count us × (nodes_all us ≡ g.acc + nodes_all (more s.term ts))
            whole ts a =
                let here : Solves ns classes q s.term = solves_class (class classes q) q s.term (sym (k.stands q place_in)) s.solves in
                let rest : SolvesAll ns classes (next ns q) (count - (i + 1)) ts = subst (λ (x : ℕ). SolvesAll ns classes x (count - (i + 1)) ts) e a in
                g.complete (more s.term ts) (let P : ℕ → Type 0 = λ n. SolvesAll ns classes q n (more s.term ts) in subst P (sym more_left) (one_more here rest))

  -- a variable has one node
  pub variable_size : (sizes : List ℕ) (p x : ℕ) (d : Node) → p < length ns → class classes p ≡ p → get_or ns p d ≡ Var x → IsSizeAt ns classes sizes p 1
  variable_size sizes p x d h rep at = record { term = var x; solves = is_free (ap (slice_get ns) rep ∙ slice_get-get_or ns p d h ∙ ap Some at); size_is = omega arith }
