-- Of the ground terms over a problem's own symbols the encoded axioms make those equal that the problem's own do.
use Rattle.std.proofs.Common.{◌≡◌, ◌↔◌, ℕ, List, [], ◌∷◌, ◌++◌, Option, Some, None, Ok, refl, sym, ap, ◌∙◌, subst}
use Rattle.uc_term.specs.declared.node.Sym.{Sym}
use Rattle.uc_term.specs.declared.fresh.Fresh.{Fresh}
use Rattle.uc_term.specs.Tree.{Tree, var, app, Trees, none, more}
use Rattle.uc_term.specs.Over.{IsGround, AreGround}
use Rattle.uc_term.specs.Table.{Table, arity_of}
use Rattle.uc_term.specs.Conversion.{Conv}
use Rattle.uc_term.specs.Encoding.{Lacks, AllLack}
use Rattle.uc_order.specs.Members.{In, in_front, in_rest}
use Rattle.uc_order.specs.Laws.{HasSym, IsGroundOf}
use Rattle.uc_order.specs.declared.spec.OrderSpec.{OrderSpec}
use Rattle.uc_check.specs.Clauses.{axioms_of}
use Rattle.uc_problem.specs.declared.problem.Problem.{Problem}
use Rattle.uc_problem.specs.declared.problem.Encoded.{Encoded}
use Rattle.uc_problem.specs.Holds.{Agrees}
use Rattle.uc_problem.specs.Marks.{Marks, AreMarks}
use Rattle.uc_problem.specs.Encodes.{Encodes, encoding_of}
use Rattle.uc_problem.proofs.EncodedOnce.{adds_nothing}
use Rattle.uc_problem.proofs.FreshMarks.{plain}
use Rattle.uc_certify.proofs.Foreign.{at_place}
use Rattle.uc_ordering.specs.Fits.{Fits}
use Rattle.uc_ordering.specs.Meaning.{meaning_of}
use Rattle.uc_answer.specs.Promises.{IsOwnGround}
use Rattle.uc_answer.proofs.SpecSymbols.{symbol_known}

-- MEMBERS

in_left : {f : Sym} {fs : List Sym} (gs : List Sym) → In fs f → In (fs ++ gs) f
in_left gs in_front = in_front
in_left gs (in_rest i) = in_rest (in_left gs i)

-- TERMS

-- a ground term over one signature is one over another
module _ (P Q : Sym → Type 0) (a b : Sym → ℕ) (k : (f : Sym) → P f → Q f × (a f ≡ b f)) where
  mutual
    pub ground_from : (t : Tree) → IsGround P a t → IsGround Q b t
    ground_from (var x) h = absurd h
    ground_from (app f ts) h = let p = k f h.0 in (p.0, h.1 ∙ p.1, grounds_from ts h.2)

    grounds_from : (ts : Trees) → AreGround P a ts → AreGround Q b ts
    grounds_from none h = tt
    grounds_from (more t ts) h = (ground_from t h.0, grounds_from ts h.1)

-- it has none of the encoding's symbols
module _ (table : Table) (problem : Problem) (marks : Fresh) (are : AreMarks table problem marks) where
  mutual
    lacks : (t : Tree) → IsOwnGround table problem t → Lacks marks t
    lacks (var x) h = tt
    lacks (app f ts) h = (plain table problem marks are f (at_place problem.signature.symbols h.0), all_lack ts h.2)

    all_lack : (ts : Trees) → AreGround (In problem.signature.symbols) (arity_of table) ts → AllLack marks ts
    all_lack none h = tt
    all_lack (more t ts) h = (lacks t h.0, all_lack ts h.1)

-- THE ENCODED PROBLEM

module _ (table : Table) (problem : Problem) (agrees : Agrees table problem) (encoded : Encoded) (encodes : Encodes table problem (Ok encoded)) where
  known_of : (fresh : Option Fresh) (f : Sym) → In problem.signature.symbols f → In (encoding_of problem fresh).signature.symbols f
  known_of None f i = i
  known_of (Some marks) f i = in_left (marks.yes ∷ marks.no ∷ marks.eq ∷ []) i

  known : (f : Sym) → In problem.signature.symbols f → In encoded.signature.symbols f
  known f i = subst (λ (x : Encoded). In x.signature.symbols f) (sym encodes.1) (known_of encoded.fresh f i)

  -- over the symbols of an order for the encoded problem
  pub own_ground : (spec : OrderSpec) → Fits table encoded.signature.symbols spec → (t : Tree) → IsOwnGround table problem t → IsGroundOf (meaning_of table spec) t
  own_ground spec fits t h = ground_from (In problem.signature.symbols) (HasSym (meaning_of table spec)) (arity_of table) (meaning_of table spec).arity (λ f i. symbol_known table encoded.signature.symbols spec fits f (known f i)) t h

  pub own_equal : (u v : Tree) → IsOwnGround table problem u → IsOwnGround table problem v → Conv encoded.axioms u v ↔ Conv (axioms_of problem.clauses) u v
  own_equal u v hu hv = go encoded.fresh refl
    where
      go : (fresh : Option Fresh) → encoded.fresh ≡ fresh → Conv encoded.axioms u v ↔ Conv (axioms_of problem.clauses) u v
      go None e = subst (λ (x : Encoded). Conv x.axioms u v ↔ Conv (axioms_of problem.clauses) u v) (sym (encodes.1 ∙ ap (encoding_of problem) e)) ((λ c. c), (λ c. c))
      go (Some marks) e =
          let are = (subst (λ (x : Option Fresh). Marks table problem (Ok x)) e encodes.0).2 in
          adds_nothing table problem agrees encoded marks encodes e u v (lacks table problem marks are u hu) (lacks table problem marks are v hv)
