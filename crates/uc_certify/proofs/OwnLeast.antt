-- The least term to which the encoded axioms make a term over the problem's own symbols equal is over these symbols, and it is the least
-- by the problem's own axioms.
use Rattle.std.proofs.Common.{◌≡◌, ◌==◌, Bool, true, false, List, Ok, refl, sym, ◌∙◌, subst, ◌⊎◌, inl, inr}
use Rattle.uc_term.specs.declared.node.Sym.{Sym}
use Rattle.uc_term.specs.declared.equation.Equation.{Equation}
use Rattle.uc_term.specs.Table.{Table}
use Rattle.uc_term.specs.Tree.{Tree, var, app, Trees, none, more, count}
use Rattle.uc_term.specs.Over.{AreGround}
use Rattle.uc_term.specs.Within.{Within, at_root, Steps, stay, go_by}
use Rattle.uc_term.specs.Conversion.{Conv}
use Rattle.uc_term.proofs.Moves.{AllSteps, stay_all, steps_under, steps_more}
use Rattle.uc_check.specs.Clauses.{axioms_of}
use Rattle.uc_order.specs.Laws.{Meaning, Laws, HasSym, IsGroundOf, least_term}
use Rattle.uc_decide.specs.declared.reply.Reply.{Reply}
use Rattle.uc_decide.specs.declared.reply.Reply.TheVariants.{Equal, Different, Spent, Grown}
use Rattle.uc_decide.specs.NormalForms.{HasNormalForm}
use Rattle.uc_decide.specs.Deciding.{Decides, IsLeastOf}
use Rattle.uc_decide.specs.Asking.{IsRight}
use Rattle.uc_decide.proofs.GroundSteps.{least_ground}
use Rattle.uc_decide.proofs.Clean.{fitted, clean_ground, clean-ground}
use Rattle.uc_decide.proofs.Verdicts.{least_of, one_verdict}
use Rattle.uc_problem.specs.declared.problem.Problem.{Problem}
use Rattle.uc_problem.specs.declared.problem.Encoded.{Encoded}
use Rattle.uc_problem.specs.Encodes.{Encodes}
use Rattle.uc_certify.specs.Extending.{Extends, IsOwnOrder}
use Rattle.uc_certify.proofs.Foreign.{known, Cleaned, AllCleaned, cleaned_conv, own_conv}

module _ (m own : Meaning) (laws : Laws m) (own_laws : Laws own) (extends : Extends m own) where
  mutual
    pub into : (t : Tree) → IsGroundOf own t → IsGroundOf m t
    into (var x) g = absurd g
    into (app f ts) g = let s = extends.symbols f g.0 in (s.0, g.1 ∙ sym s.1, all_into ts g.2)

    all_into : (ts : Trees) → AreGround (HasSym own) own.arity ts → AreGround (HasSym m) m.arity ts
    all_into none g = tt
    all_into (more t ts) g = (into t g.0, all_into ts g.1)

  -- THE LEAST CONSTANT

  least_own : IsGroundOf own (least_term m)
  least_own = (extends.least_is_own, sym laws.least_is.1 ∙ (extends.symbols m.least extends.least_is_own).1, tt)

  one_bottom : least_term m ≡ least_term own
  one_bottom = go (laws.bottom (least_term own) (into (least_term own) (least_ground own own_laws))) (own_laws.bottom (least_term m) least_own)
    where
      go : (least_term own ≡ least_term m) ⊎ m.greater (least_term own) (least_term m) → (least_term m ≡ least_term own) ⊎ own.greater (least_term m) (least_term own) → least_term m ≡ least_term own
      go (inl e) b = sym e
      go (inr g) (inl e) = e
      go (inr g) (inr h) =
          let down : m.greater (least_term m) (least_term own) = (extends.agree (least_term m) (least_term own) least_own (least_ground own own_laws)).1 h in
          absurd (laws.irreflexive (least_term m) (laws.transitive (least_term m) (least_term own) (least_term m) down g))

  -- A TERM WITHOUT FOREIGN SUBTERMS ISN'T GREATER

  abbrev Falls : Tree → Tree → Type 0
  Falls = Steps (Within m.greater)

  to_bottom : (t : Tree) → IsGroundOf m t → Falls t (least_term own)
  to_bottom t g = subst (Falls t) one_bottom (go (laws.bottom t g))
    where
      go : (t ≡ least_term m) ⊎ m.greater t (least_term m) → Falls t (least_term m)
      go (inl e) = subst (Falls t) e stay
      go (inr h) = go_by (at_root h) stay

  fitted_falls : (f : Sym) (k : HasSym own f ⊎ (HasSym own f → ⊥)) (b : Bool) (ts us : Trees) → IsGroundOf m (app f ts) → AllSteps m.greater ts us → Falls (app f ts) (fitted own own_laws (known own own_laws) f k b us)
  fitted_falls f (inl h) true ts us g s = steps_under m.greater f s
  fitted_falls f (inl h) false ts us g s = to_bottom (app f ts) g
  fitted_falls f (inr n) b ts us g s = to_bottom (app f ts) g

  mutual
    falls : (t : Tree) → IsGroundOf m t → Falls t (Cleaned own own_laws t)
    falls (var x) g = absurd g
    falls (app f ts) g = fitted_falls f (known own own_laws f) (count ts == own.arity f) ts (AllCleaned own own_laws ts) g (all_fall ts g.2)

    all_fall : (ts : Trees) → AreGround (HasSym m) m.arity ts → AllSteps m.greater ts (AllCleaned own own_laws ts)
    all_fall none g = stay_all
    all_fall (more t ts) g = steps_more m.greater (falls t g.0) (all_fall ts g.1)

  fallen : {u v : Tree} → Falls u v → (u ≡ v) ⊎ m.greater u v
  fallen stay = inl refl
  fallen {u = u} {v = v} (go_by {v = w} s c) = inr (go (fallen c))
    where
      go : (w ≡ v) ⊎ m.greater w v → m.greater u v
      go (inl e) = subst (m.greater u) e (laws.contexts u w s)
      go (inr h) = laws.transitive u w v (laws.contexts u w s) h

  -- THE LEAST OF A CLASS

  module _ (table : Table) (problem : Problem) (is_own : IsOwnOrder problem own) (encoded : Encoded) (encodes : Encodes table problem (Ok encoded)) where
    abbrev axioms : List Equation
    axioms = axioms_of problem.clauses

    -- of own terms the encoding makes no others equal
    own_equal : (u v : Tree) → IsGroundOf own u → IsGroundOf own v → Conv encoded.axioms u v → Conv axioms u v
    own_equal u v gu gv c =
        let cu : Cleaned own own_laws u ≡ u = clean-ground own own_laws (known own own_laws) u gu in
        let cv : Cleaned own own_laws v ≡ v = clean-ground own own_laws (known own own_laws) v gv in
        subst (λ (x : Tree). Conv axioms x v) cu (subst (Conv axioms (Cleaned own own_laws u)) cv (cleaned_conv own own_laws table problem is_own encoded encodes c))

    stays_own : (u n : Tree) → IsGroundOf own u → IsLeastOf m encoded.axioms u n → n ≡ Cleaned own own_laws n
    stays_own u n g least =
        let c = Cleaned own own_laws n in
        let cu : Cleaned own own_laws u ≡ u = clean-ground own own_laws (known own own_laws) u g in
        let own_c : Conv axioms u c = subst (λ (x : Tree). Conv axioms x c) cu (cleaned_conv own own_laws table problem is_own encoded encodes least.equal) in
        let ground_c : IsGroundOf own c = clean_ground own own_laws (known own own_laws) n in
        go (least.least c (into c ground_c) (own_conv own own_laws table problem is_own encoded encodes own_c)) (fallen (falls n least.ground))
      where
        go : (n ≡ Cleaned own own_laws n) ⊎ m.greater (Cleaned own own_laws n) n → (n ≡ Cleaned own own_laws n) ⊎ m.greater n (Cleaned own own_laws n) → n ≡ Cleaned own own_laws n
        go (inl e) h = e
        go (inr up) (inl e) = e
        go (inr up) (inr down) = absurd (laws.irreflexive n (laws.transitive n (Cleaned own own_laws n) n down up))

    pub own_least : (u n : Tree) → IsGroundOf own u → IsLeastOf m encoded.axioms u n → IsLeastOf own axioms u n
    own_least u n g least =
        let ground : IsGroundOf own n = subst (IsGroundOf own) (sym (stays_own u n g least)) (clean_ground own own_laws (known own own_laws) n) in
        record {
          ground = ground;
          equal = own_equal u n g ground least.equal;
          least = λ v h c. below v h ground (least.least v (into v h) (own_conv own own_laws table problem is_own encoded encodes c));
        }
      where
        below : (v : Tree) → IsGroundOf own v → IsGroundOf own n → (n ≡ v) ⊎ m.greater v n → (n ≡ v) ⊎ own.greater v n
        below v h k (inl e) = inl e
        below v h k (inr up) = inr ((extends.agree v n h k).0 up)

    pub own_right : (s t : Tree) (reply : Reply) → IsGroundOf own s → IsGroundOf own t → IsRight m encoded.axioms s t reply → IsRight own axioms s t reply
    own_right s t (Equal n) gs gt h = (own_equal s t gs gt h.0, own_least s n gs h.1, own_least t n gt h.2)
    own_right s t (Different l r) gs gt h = ((λ c. h.0 (own_conv own own_laws table problem is_own encoded encodes c)), own_least s l gs h.1, own_least t r gt h.2)
    own_right s t (Spent n) gs gt h = tt
    own_right s t Grown gs gt h = tt

    pub own_normal : (es own_es : List Equation) (u n k : Tree) → Decides m es encoded.axioms → Decides own own_es axioms → IsGroundOf own u → HasNormalForm m es u n → HasNormalForm own own_es u k → n ≡ k
    own_normal es own_es u n k d own_d g f h =
        let whole = own_least u n g (least_of m es encoded.axioms d u n (into u g) f) in
        let own_one = least_of own own_es axioms own_d u k g h in
        let one : ◌≡◌ {A = Reply} (Equal n) (Equal k) = one_verdict own own_laws axioms u u (Equal n) (Equal k) (stay, whole, whole) (stay, own_one, own_one) tt tt in
        cc
