-- Terms with their variables renamed, and their most general unifiers.
use Rattle.std.proofs.Common.{◌≡◌, ℕ, zero, suc, ◌-◌, ◌==◌, Bool, true, false, ◌∷◌, ◌++◌, map, get_or, if◌then◌else◌, refl, sym, ap, ap₂, ◌∙◌, arith, inl, inr}
use Rattle.std.proofs.lemmas.Bool.{eqb-true, eq-eqb}
use Rattle.std.proofs.Math.ListN.{get_or-map}
use Rattle.std.proofs.lemmas.List.{map-append}
use Rattle.uc_term.specs.Tree.{Tree, var, app, Trees, none, more, nodes, apply, apply_all, subterms, subterms_all, subterm, put, put_all}
use Rattle.uc_term.specs.Variables.{Occurs}
use Rattle.uc_term.proofs.Terms.{apply-apply, apply_all-apply_all, apply-var}
use Rattle.uc_term.proofs.Agree.{agree_at, same_if}
use Rattle.uc_unify.specs.Unifiers.{IsMostGeneral, HasNoUnifier}
use Rattle.uc_pair.specs.Reading.{renamed, renamed_all}
use Rattle.uc_pair.proofs.Names.{renamed_nodes}
use Rattle.uc_pair.proofs.Replacing.{put_here, put_later, where_is}

-- substitutions that agree everywhere
pub same_everywhere : (σ τ : ℕ → Tree) (t : Tree) → ((x : ℕ) → σ x ≡ τ x) → apply σ t ≡ apply τ t
same_everywhere σ τ t h = same_if σ τ t (λ x o. h x)

pub same_everywhere_all : (σ τ : ℕ → Tree) (ts : Trees) → ((x : ℕ) → σ x ≡ τ x) → apply_all σ ts ≡ apply_all τ ts
same_everywhere_all σ τ none h = refl
same_everywhere_all σ τ (more t ts) h = ap₂ more (same_everywhere σ τ t h) (same_everywhere_all σ τ ts h)

module _ (f : ℕ → ℕ) where
  -- subterms
  mutual
    subterms-renamed : (t : Tree) → subterms (renamed f t) ≡ map (renamed f) (subterms t)
    subterms-renamed (var x) = refl
    subterms-renamed (app g ts) = ap (λ l. app g (renamed_all f ts) ∷ l) (subterms_all-renamed ts)

    subterms_all-renamed : (ts : Trees) → subterms_all (renamed_all f ts) ≡ map (renamed f) (subterms_all ts)
    subterms_all-renamed none = refl
    subterms_all-renamed (more t ts) = ap₂ (λ a b. a ++ b) (subterms-renamed t) (subterms_all-renamed ts) ∙ sym (map-append (renamed f) (subterms t) (subterms_all ts))

  pub subterm-renamed : (t : Tree) (p : ℕ) → subterm (renamed f t) p ≡ renamed f (subterm t p)
  subterm-renamed t p = ap (λ l. get_or l p (renamed f t)) (subterms-renamed t) ∙ get_or-map (renamed f) (subterms t) p t

  -- replacements
  mutual
    pub put-renamed : (t : Tree) (p : ℕ) (u : Tree) → renamed f (put t p u) ≡ put (renamed f t) p (renamed f u)
    put-renamed (var x) p u = refl
    put-renamed (app g ts) zero u = refl
    put-renamed (app g ts) (suc p) u = ap (app g) (put_all-renamed ts p u)

    put_all-renamed : (ts : Trees) (p : ℕ) (u : Tree) → renamed_all f (put_all ts p u) ≡ put_all (renamed_all f ts) p (renamed f u)
    put_all-renamed none p u = refl
    put_all-renamed (more t ts) p u =
        elim (where_is p (nodes t)) [
          | inl here ↦ ap (renamed_all f) (put_here t ts p u here) ∙ ap (λ v. more v (renamed_all f ts)) (put-renamed t p u) ∙ sym (put_here (renamed f t) (renamed_all f ts) p (renamed f u) (omega (arith, renamed_nodes f t)))
          | inr later ↦ ap (renamed_all f) (put_later t ts p u later) ∙ ap (more (renamed f t)) (put_all-renamed ts (p - nodes t) u ∙ ap (λ n. put_all (renamed_all f ts) (p - n) (renamed f u)) (sym (renamed_nodes f t))) ∙ sym (put_later (renamed f t) (renamed_all f ts) p (renamed f u) (omega (arith, renamed_nodes f t)))
        ]

-- a renaming before a substitution
pub apply-renamed : (σ : ℕ → Tree) (f : ℕ → ℕ) (t : Tree) → apply σ (renamed f t) ≡ apply (λ x. σ (f x)) t
apply-renamed σ f t = apply-apply σ (λ x. var (f x)) t

pub apply_all-renamed : (σ : ℕ → Tree) (f : ℕ → ℕ) (ts : Trees) → apply_all σ (renamed_all f ts) ≡ apply_all (λ x. σ (f x)) ts
apply_all-renamed σ f ts = apply_all-apply_all σ (λ x. var (f x)) ts

number_of : Tree → ℕ
number_of (var x) = x
number_of (app f ts) = 0

var-same : (x y : ℕ) → var x ≡ var y → x ≡ y
var-same x y e = cc

-- where a term is renamed and renamed back, so is each of its variables
pub returns : (f g : ℕ → ℕ) (t : Tree) → t ≡ renamed g (renamed f t) → (x : ℕ) → Occurs x t → g (f x) ≡ x
returns f g t e x o = var-same (g (f x)) x (agree_at (λ y. var (g (f y))) var x t o (sym (apply-renamed (λ y. var (g y)) f t) ∙ sym e ∙ sym (apply-var t)))

-- Two terms P and Q are renamed to P' and Q' and back.
module _ (f g : ℕ → ℕ) (P Q P' Q' : Tree) (p_there : P' ≡ renamed f P) (q_there : Q' ≡ renamed f Q) (p_back : P ≡ renamed g P') (q_back : Q ≡ renamed g Q') where
  -- a unifier of the ones, before the renaming, unifies the others
  pub unifier_there : (τ : ℕ → Tree) → apply τ P ≡ apply τ Q → apply (λ x. τ (g x)) P' ≡ apply (λ x. τ (g x)) Q'
  unifier_there τ e = sym (apply-renamed τ g P') ∙ ap (apply τ) (sym p_back) ∙ e ∙ ap (apply τ) q_back ∙ apply-renamed τ g Q'

  pub unifier_back : (τ : ℕ → Tree) → apply τ P' ≡ apply τ Q' → apply (λ x. τ (f x)) P ≡ apply (λ x. τ (f x)) Q
  unifier_back τ e = sym (apply-renamed τ f P) ∙ ap (apply τ) (sym p_there) ∙ e ∙ ap (apply τ) q_there ∙ apply-renamed τ f Q

  pub no_unifier_back : HasNoUnifier P' Q' → HasNoUnifier P Q
  no_unifier_back n τ e = n (λ x. τ (g x)) (unifier_there τ e)

  -- the unifier of P' and Q' between the renamings; a variable that isn't renamed back stays as it is
  abbrev pub moved : (ℕ → Tree) → ℕ → Tree
  moved σ x = if g (f x) == x then renamed g (σ (f x)) else var x

  moved_at : (σ : ℕ → Tree) (x : ℕ) → g (f x) ≡ x → moved σ x ≡ renamed g (σ (f x))
  moved_at σ x e = let t : (g (f x) == x) ≡ true = eq-eqb (g (f x)) x e in rw t refl

  moved_on : (σ : ℕ → Tree) (t t' : Tree) → t' ≡ renamed f t → t ≡ renamed g t' → apply (moved σ) t ≡ renamed g (apply σ t')
  moved_on σ t t' there back =
      same_if (moved σ) (λ x. renamed g (σ (f x))) t (λ x o. moved_at σ x (returns f g t (back ∙ ap (renamed g) there) x o))
      ∙ sym (apply-apply (λ y. var (g y)) (λ x. σ (f x)) t)
      ∙ ap (renamed g) (sym (apply-renamed σ f t) ∙ ap (apply σ) (sym there))

  pub most_general_back : (σ : ℕ → Tree) → IsMostGeneral P' Q' σ → IsMostGeneral P Q (moved σ)
  most_general_back σ mgu = record {
    unifies = moved_on σ P P' p_there p_back ∙ ap (renamed g) mgu.unifies ∙ sym (moved_on σ Q Q' q_there q_back);
    general = λ τ e x. go τ e x (g (f x) == x) refl;
  }
    where
      go : (τ : ℕ → Tree) → apply τ P ≡ apply τ Q → (x : ℕ) → (b : Bool) → (g (f x) == x) ≡ b → apply τ (if b then renamed g (σ (f x)) else var x) ≡ τ x
      go τ e x true t =
          apply-renamed τ g (σ (f x)) ∙ mgu.general (λ y. τ (g y)) (unifier_there τ e) (f x) ∙ ap τ (eqb-true (g (f x)) x t)
      go τ e x false t = refl

-- what is after a most general unifier what it was before
pub again : (P Q : Tree) (σ τ : ℕ → Tree) → IsMostGeneral P Q σ → apply τ P ≡ apply τ Q → (ts : Trees) → apply_all τ (apply_all σ ts) ≡ apply_all τ ts
again P Q σ τ mgu e ts = apply_all-apply_all τ σ ts ∙ same_everywhere_all (λ x. apply τ (σ x)) τ ts (mgu.general τ e)

-- each of two lists of terms is an instance of the other
pub record Alike (ts us : Trees) : Type 0 where
  pub α : ℕ → Tree
  pub β : ℕ → Tree
  pub forth : ts ≡ apply_all α us
  pub back : us ≡ apply_all β ts

-- most general unifiers have instances that are alike
pub alike : (f g : ℕ → ℕ) (P Q P' Q' : Tree) → P' ≡ renamed f P → Q' ≡ renamed f Q → P ≡ renamed g P' → Q ≡ renamed g Q' → (σ σ' : ℕ → Tree) → IsMostGeneral P Q σ → IsMostGeneral P' Q' σ' → (ts ts' : Trees) → ts' ≡ renamed_all f ts → ts ≡ renamed_all g ts' → Alike (apply_all σ ts) (apply_all σ' ts')
alike f g P Q P' Q' p_there q_there p_back q_back σ σ' mgu mgu' ts ts' there back = record {
  α = λ x. σ (g x);
  β = λ x. σ' (f x);
  forth = sym (again P' Q' σ' (λ x. σ (g x)) mgu' (unifier_there f g P Q P' Q' p_there q_there p_back q_back σ mgu.unifies) ts' ∙ sym (apply_all-renamed σ g ts') ∙ ap (apply_all σ) (sym back));
  back = sym (again P Q σ (λ x. σ' (f x)) mgu (unifier_back f g P Q P' Q' p_there q_there p_back q_back σ' mgu'.unifies) ts ∙ sym (apply_all-renamed σ' f ts) ∙ ap (apply_all σ') (sym there));
}
