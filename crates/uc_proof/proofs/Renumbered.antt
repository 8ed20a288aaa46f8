-- Terms whose variables are numbered by their places in a list of names.
use Rattle.std.proofs.Common.{◌≡◌, ℕ, suc, ◌+◌, ◌==◌, ◌||◌, Bool, true, false, List, [], ◌∷◌, ◌++◌, get_or, if◌then◌else◌, refl, sym, ap, ap₂, ◌∙◌, arith}
use Rattle.std.proofs.lemmas.Bool.{eqb-true, eq-eqb, or_parts}
use Rattle.std.proofs.Math.Bool.{or-true}
use Rattle.uc_term.specs.declared.node.Sym.{Sym}
use Rattle.uc_term.specs.Tree.{Tree, var, app, Trees, none, more, apply, apply_all}
use Rattle.uc_term.specs.Variables.{Occurs, is_itself, in_args, OccursIn, in_first, in_later, variables, variables_all, is_among, firsts, place_of, renumbered_by, has_variable, any_has_variable}
use Rattle.uc_term.proofs.Terms.{apply-apply, apply-var}
use Rattle.uc_term.proofs.Agree.{same_if}
use Rattle.uc_term.proofs.Firsts.{is_among-append}
use Rattle.uc_check.specs.Variants.{AreVariants}
use Rattle.uc_check.proofs.Renaming.{variants_of}
use Rattle.uc_check.specs.declared.proof.Line.{Line}
use Rattle.uc_tstp.specs.Printable.{source_variables, line_variables}
use Rattle.uc_tstp.proofs.InOrder.{among_firsts as among_after}

-- the name at the place of a name
pub place_named : (xs : List ℕ) (x d : ℕ) → is_among x xs ≡ true → get_or xs (place_of xs x) d ≡ x
place_named [] x d e = absurd cc
place_named (y ∷ ys) x d e = go (x == y) refl e (place_named ys x d)
  where
    go : (b : Bool) → (x == y) ≡ b → (b || is_among x ys) ≡ true → (is_among x ys ≡ true → get_or ys (place_of ys x) d ≡ x) → get_or (y ∷ ys) (if b then 0 else place_of ys x + 1) d ≡ x
    go true same e later = sym (eqb-true x y same)
    go false other e later = let q : place_of ys x + 1 ≡ suc (place_of ys x) = omega arith in ap (λ n. get_or (y ∷ ys) n d) q ∙ later e

-- a number that occurs is among the first occurrences
pub among_firsts : (ys : List ℕ) (x : ℕ) → is_among x ys ≡ true → is_among x (firsts ys) ≡ true
among_firsts ys x e = among_after [] ys x refl e

pub among_front : (ls rs : List ℕ) (x : ℕ) → is_among x ls ≡ true → is_among x (ls ++ rs) ≡ true
among_front ls rs x e = is_among-append x ls rs ∙ ap (λ c. c || is_among x rs) e

pub among_behind : (ls rs : List ℕ) (x : ℕ) → is_among x rs ≡ true → is_among x (ls ++ rs) ≡ true
among_behind ls rs x e = is_among-append x ls rs ∙ ap (λ c. is_among x ls || c) e ∙ or-true (is_among x ls)

-- a variable that occurs is among the variables
own : (x y : ℕ) → Occurs x (var y) → is_among x (y ∷ []) ≡ true
own x _ is_itself = ap (λ b. b || false) (eq-eqb x x refl)

mutual
  pub occurs_among : (x : ℕ) (t : Tree) → Occurs x t → is_among x (variables t) ≡ true
  occurs_among x (var y) o = own x y o
  occurs_among x (app f ts) o = occurs_among_all x ts (args o)
    where
      args : {f : Sym} {ts : Trees} → Occurs x (app f ts) → OccursIn x ts
      args (in_args o) = o

  occurs_among_all : (x : ℕ) (ts : Trees) → OccursIn x ts → is_among x (variables_all ts) ≡ true
  occurs_among_all x none o = elim o [ ]
  occurs_among_all x (more t ts) (in_first o) = among_front (variables t) (variables_all ts) x (occurs_among x t o)
  occurs_among_all x (more t ts) (in_later o) = among_behind (variables t) (variables_all ts) x (occurs_among_all x ts o)

-- the names have all variables of the term
abbrev pub Covers : List ℕ → Tree → Type 0
Covers xs t = (x : ℕ) → Occurs x t → is_among x xs ≡ true

pub covers_left : (line : Line) → Covers (line_variables line) line.left
covers_left line x o =
    let sides = variables line.left ++ variables line.right in
    among_firsts (sides ++ source_variables line.source) x (among_front sides (source_variables line.source) x (among_front (variables line.left) (variables line.right) x (occurs_among x line.left o)))

pub covers_right : (line : Line) → Covers (line_variables line) line.right
covers_right line x o =
    let sides = variables line.left ++ variables line.right in
    among_firsts (sides ++ source_variables line.source) x (among_front sides (source_variables line.source) x (among_behind (variables line.left) (variables line.right) x (occurs_among x line.right o)))

-- an instance of a numbered term
pub unnumbered : (xs : List ℕ) (τ : ℕ → Tree) (t : Tree) → Covers xs t → apply (λ i. τ (get_or xs i 0)) (renumbered_by xs t) ≡ apply τ t
unnumbered xs τ t c =
    apply-apply (λ i. τ (get_or xs i 0)) (λ x. var (place_of xs x)) t
    ∙ same_if (λ x. τ (get_or xs (place_of xs x) 0)) τ t (λ x o. ap τ (place_named xs x 0 (c x o)))

pub numbered_variants : (xs : List ℕ) (l r : Tree) → Covers xs l → Covers xs r → AreVariants l r (renumbered_by xs l) (renumbered_by xs r)
numbered_variants xs l r cl cr =
    variants_of l r (renumbered_by xs l) (renumbered_by xs r) (λ x. var (place_of xs x)) (λ i. var (get_or xs i 0)) refl refl (unnumbered xs var l cl ∙ apply-var l) (unnumbered xs var r cr ∙ apply-var r)

-- renaming leaves a term open or ground
mutual
  pub open_renamed : (f : ℕ → ℕ) (t : Tree) → has_variable (apply (λ x. var (f x)) t) ≡ has_variable t
  open_renamed f (var x) = refl
  open_renamed f (app g ts) = any_open_renamed f ts

  any_open_renamed : (f : ℕ → ℕ) (ts : Trees) → any_has_variable (apply_all (λ x. var (f x)) ts) ≡ any_has_variable ts
  any_open_renamed f none = refl
  any_open_renamed f (more t ts) = ap₂ (λ a b. a || b) (open_renamed f t) (any_open_renamed f ts)

-- an instance of a ground term
mutual
  pub ground_stays : (σ : ℕ → Tree) (t : Tree) → has_variable t ≡ false → apply σ t ≡ t
  ground_stays σ (var x) e = absurd cc
  ground_stays σ (app f ts) e = ap (app f) (all_stay σ ts e)

  all_stay : (σ : ℕ → Tree) (ts : Trees) → any_has_variable ts ≡ false → apply_all σ ts ≡ ts
  all_stay σ none e = refl
  all_stay σ (more t ts) e = ap₂ more (ground_stays σ t (or_parts (has_variable t) (any_has_variable ts) e).0) (all_stay σ ts (or_parts (has_variable t) (any_has_variable ts) e).1)
