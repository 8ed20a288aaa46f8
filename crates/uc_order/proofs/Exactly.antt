-- Of the orders of some variables exactly one is respected.
use Rattle.std.proofs.Common.{◌≡◌, ℕ, List, [], ◌∷◌, ◌++◌, map, flat_map, refl, sym, ◌∙◌, subst, ◌⊎◌, inl, inr, Bool, true, false, arith}
use Rattle.uc_term.specs.Tree.{Tree}
use Rattle.uc_order.specs.Members.{Each, OnlyOne, only_front, only_rest, In, in_front, in_rest}
use Rattle.uc_order.specs.VarOrders.{Classes, placed, grown, orders_of, EachVar, Respects, Among, among_front, among_rest, Agrees, Stands, IsTotalPreorder}

-- what the two relations of variables owe
pub record Compares (Alike Below : ℕ → ℕ → Type 0) : Type 0 where
  pub alike_refl : (x : ℕ) → Alike x x
  pub alike_sym : (x y : ℕ) → Alike x y → Alike y x
  pub alike_trans : (x y z : ℕ) → Alike x y → Alike y z → Alike x z
  pub irreflexive : (x : ℕ) → Below x x → ⊥
  pub transitive : (x y z : ℕ) → Below x y → Below y z → Below x z
  pub left : (x y z : ℕ) → Alike x y → Below x z → Below y z
  pub right : (x y z : ℕ) → Alike y z → Below x y → Below x z

module _ {A : Type 0} where
  Each-map : (P Q : A → Type 0) (xs : List A) → ((x : A) → P x → Q x) → Each P xs → Each Q xs
  Each-map P Q [] h e = tt
  Each-map P Q (x ∷ xs) h e = (h x e.0, Each-map P Q xs h e.1)

  Each-append : (P : A → Type 0) (xs ys : List A) → Each P xs → Each P ys → Each P (xs ++ ys)
  Each-append P [] ys e f = f
  Each-append P (x ∷ xs) ys e f = (e.0, Each-append P xs ys e.1 f)

  Each-left : (P : A → Type 0) (xs ys : List A) → Each P (xs ++ ys) → Each P xs
  Each-left P [] ys e = tt
  Each-left P (x ∷ xs) ys e = (e.0, Each-left P xs ys e.1)

  Each-right : (P : A → Type 0) (xs ys : List A) → Each P (xs ++ ys) → Each P ys
  Each-right P [] ys e = e
  Each-right P (x ∷ xs) ys e = Each-right P xs ys e.1

  pub Each-at : (P : A → Type 0) (xs : List A) (x : A) → Each P xs → In xs x → P x
  Each-at P [] x e i = elim i [ ]
  Each-at P (y ∷ ys) x e in_front = e.0
  Each-at P (y ∷ ys) x e (in_rest i) = Each-at P ys x e.1 i

  Each-from : (P : A → Type 0) (xs : List A) → ((x : A) → In xs x → P x) → Each P xs
  Each-from P [] h = tt
  Each-from P (x ∷ xs) h = (h x in_front, Each-from P xs (λ y i. h y (in_rest i)))

  abbrev Not : (A → Type 0) → A → Type 0
  Not P x = P x → ⊥

  OnlyOne-left : (P : A → Type 0) (xs ys : List A) → OnlyOne P xs → Each (Not P) ys → OnlyOne P (xs ++ ys)
  OnlyOne-left P [] ys o n = elim o [ ]
  OnlyOne-left P (x ∷ xs) ys (only_front p e) n = only_front p (Each-append (Not P) xs ys e n)
  OnlyOne-left P (x ∷ xs) ys (only_rest p o) n = only_rest p (OnlyOne-left P xs ys o n)

  OnlyOne-right : (P : A → Type 0) (xs ys : List A) → Each (Not P) xs → OnlyOne P ys → OnlyOne P (xs ++ ys)
  OnlyOne-right P [] ys n o = o
  OnlyOne-right P (x ∷ xs) ys n o = only_rest n.0 (OnlyOne-right P xs ys n.1 o)

  -- through a map
  Each-of_map : (P : A → Type 0) (f : A → A) (xs : List A) → Each (λ x. P (f x)) xs → Each P (map f xs)
  Each-of_map P f [] e = tt
  Each-of_map P f (x ∷ xs) e = (e.0, Each-of_map P f xs e.1)

  none_map : (P Q : A → Type 0) (f : A → A) (xs : List A) → Each (λ x. P (f x) → Q x) xs → Each (Not Q) xs → Each (Not P) (map f xs)
  none_map P Q f [] e n = tt
  none_map P Q f (x ∷ xs) e n = ((λ p. n.0 (e.0 p)), none_map P Q f xs e.1 n.1)

  OnlyOne-map : (P Q : A → Type 0) (f : A → A) (xs : List A) → Each (λ x. Q x → P (f x)) xs → Each (λ x. P (f x) → Q x) xs → OnlyOne Q xs → OnlyOne P (map f xs)
  OnlyOne-map P Q f [] e g o = elim o [ ]
  OnlyOne-map P Q f (x ∷ xs) e g (only_front q n) = only_front (e.0 q) (none_map P Q f xs g.1 n)
  OnlyOne-map P Q f (x ∷ xs) e g (only_rest q o) = only_rest (λ p. q (g.0 p)) (OnlyOne-map P Q f xs e.1 g.1 o)

-- ds is cs with v in one more place
data Placed (v : ℕ) : Classes → Classes → Type 0 where
  alone : {cs : Classes} → Placed v cs ((v ∷ []) ∷ cs)
  joins : {c : List ℕ} {cs : Classes} → Placed v (c ∷ cs) ((c ++ v ∷ []) ∷ cs)
  deeper : {c : List ℕ} {cs ds : Classes} → Placed v cs ds → Placed v (c ∷ cs) (c ∷ ds)

placed_all : (v : ℕ) (cs : Classes) → Each (Placed v cs) (placed v cs)
placed_all v [] = (alone, tt)
placed_all v (c ∷ cs) = (alone, (joins, Each-of_map (Placed v (c ∷ cs)) (λ ds. c ∷ ds) (placed v cs) (Each-map (Placed v cs) (λ ds. Placed v (c ∷ cs) (c ∷ ds)) (placed v cs) (λ ds p. deeper p) (placed_all v cs))))

-- the variables of the larger order
module _ (P : ℕ → Type 0) (v : ℕ) where
  grows : {cs ds : Classes} → Placed v cs ds → P v → EachVar P cs → EachVar P ds
  grows alone p e = ((p, tt), e)
  grows (joins {c = c}) p e = (Each-append P c (v ∷ []) e.0 (p, tt), e.1)
  grows (deeper i) p e = (e.0, grows i p e.1)

  shrinks : {cs ds : Classes} → Placed v cs ds → EachVar P ds → P v × EachVar P cs
  shrinks alone e = (e.0.0, e.1)
  shrinks (joins {c = c}) e = ((Each-right P c (v ∷ []) e.0).0, (Each-left P c (v ∷ []) e.0, e.1))
  shrinks (deeper i) e = let r = shrinks i e.1 in (r.0, (e.0, r.1))

-- no class is empty
abbrev Filled : Classes → Type 0
Filled cs = Each (λ c. (x : ℕ) × In c x) cs

In-append : (c d : List ℕ) (x : ℕ) → In c x → In (c ++ d) x
In-append [] d x i = elim i [ ]
In-append (y ∷ c) d x in_front = in_front
In-append (y ∷ c) d x (in_rest i) = in_rest (In-append c d x i)

In-last : (c : List ℕ) (x : ℕ) → In (c ++ x ∷ []) x
In-last [] x = in_front
In-last (y ∷ c) x = in_rest (In-last c x)

filled : (v : ℕ) {cs ds : Classes} → Placed v cs ds → Filled cs → Filled ds
filled v alone f = ((v, in_front), f)
filled v (joins {c = c}) f = ((f.0.0, In-append c (v ∷ []) f.0.0 f.0.1), f.1)
filled v (deeper i) f = (f.0, filled v i f.1)

module _ (Alike Below : ℕ → ℕ → Type 0) (laws : Compares Alike Below) where
  abbrev Ok : Classes → Type 0
  Ok = Agrees Alike Below

  abbrev Head : List ℕ → Classes → ℕ → Type 0
  Head c cs x = Each (Alike x) c × EachVar (Below x) cs

  abbrev Decided : ℕ → ℕ → Type 0
  Decided x y = Below y x ⊎ (Alike x y ⊎ Below x y)

  -- an order without a variable is respected too
  kept_ok : (v : ℕ) {cs ds : Classes} → Placed v cs ds → Ok ds → Ok cs
  kept_ok v alone r = r.1
  kept_ok v (joins {c = c} {cs = cs}) r = (Each-map (Head (c ++ v ∷ []) cs) (Head c cs) c (λ x h. (Each-left (Alike x) c (v ∷ []) h.0, h.1)) (Each-left (Head (c ++ v ∷ []) cs) c (v ∷ []) r.0), r.1)
  kept_ok v (deeper {c = c} {cs = cs} {ds = ds} i) r = (Each-map (Head c ds) (Head c cs) c (λ x h. (h.0, (shrinks (Below x) v i h.1).1)) r.0, kept_ok v i r.1)

  not_alike : (x y : ℕ) → Below x y → Alike x y → ⊥
  not_alike x y g e = laws.irreflexive y (laws.left x y y e g)

  not_both : (x y : ℕ) → Below x y → Below y x → ⊥
  not_both x y g h = laws.irreflexive x (laws.transitive x y x g h)

  under_all : (x y : ℕ) (cs : Classes) → Below y x → EachVar (Below x) cs → EachVar (Below y) cs
  under_all x y cs g e = Each-map (Each (Below x)) (Each (Below y)) cs (λ c. Each-map (Below x) (Below y) c (λ z h. laws.transitive y x z g h)) e

  alike_all : (x y : ℕ) (cs : Classes) → Alike x y → EachVar (Below x) cs → EachVar (Below y) cs
  alike_all x y cs q e = Each-map (Each (Below x)) (Each (Below y)) cs (λ c. Each-map (Below x) (Below y) c (λ z h. laws.left x y z q h)) e

  -- where v is below, it stands alone before the class
  first_ok : (v x : ℕ) (c : List ℕ) (cs : Classes) → Below v x → Head c cs x → EachVar (Below v) (c ∷ cs)
  first_ok v x c cs g h = (Each-map (Alike x) (Below v) c (λ y e. laws.right v x y e g) h.0, under_all x v cs g h.1)

  -- against a class, by one of its variables
  only_at : (v : ℕ) (c : List ℕ) (cs : Classes) (x : ℕ) → In c x → Decided x v → Ok (c ∷ cs) → (Ok cs → OnlyOne Ok (placed v cs)) → OnlyOne Ok (placed v (c ∷ cs))
  only_at v c cs x i (inl g) r rest = only_front
      ((((laws.alike_refl v, tt), first_ok v x c cs g (Each-at (Head c cs) c x r.0 i)), tt), r) (
        (λ q. not_alike v x g (laws.alike_sym x v (Each-at (Alike x) (c ++ v ∷ []) v (Each-at (Head (c ++ v ∷ []) cs) (c ++ v ∷ []) x q.0 (In-append c (v ∷ []) x i)).0 (In-last c v)))),
        Each-of_map (Not Ok) (λ ds. c ∷ ds) (placed v cs) (Each-map (Placed v cs) (λ ds. Not Ok (c ∷ ds)) (placed v cs) (λ ds p q. not_both v x g (shrinks (Below x) v p (Each-at (Head c ds) c x q.0 i).1).0) (placed_all v cs)),
      )
  only_at v c cs x i (inr (inl e)) r rest = only_rest
      (λ q. not_alike v x (Each-at (Below v) c x q.0.0.1.0 i) (laws.alike_sym x v e))
      (only_front (
        Each-append (Head (c ++ v ∷ []) cs) c (v ∷ [])
            (Each-map (Head c cs) (Head (c ++ v ∷ []) cs) c (λ y h. (Each-append (Alike y) c (v ∷ []) h.0 (laws.alike_trans y x v (Each-at (Alike y) c x h.0 i) e, tt), h.1)) r.0)
            (let h = Each-at (Head c cs) c x r.0 i in ((Each-append (Alike v) c (v ∷ []) (Each-map (Alike x) (Alike v) c (λ y k. laws.alike_trans v x y (laws.alike_sym x v e) k) h.0) (laws.alike_refl v, tt), alike_all x v cs e h.1), tt)),
        r.1,
      )
      (Each-of_map (Not Ok) (λ ds. c ∷ ds) (placed v cs) (Each-map (Placed v cs) (λ ds. Not Ok (c ∷ ds)) (placed v cs) (λ ds p q. not_alike x v (shrinks (Below x) v p (Each-at (Head c ds) c x q.0 i).1).0 e) (placed_all v cs))))
  only_at v c cs x i (inr (inr g)) r rest = only_rest
      (λ q. not_both x v g (Each-at (Below v) c x q.0.0.1.0 i))
      (only_rest
      (λ q. not_alike x v g (Each-at (Alike x) (c ++ v ∷ []) v (Each-at (Head (c ++ v ∷ []) cs) (c ++ v ∷ []) x q.0 (In-append c (v ∷ []) x i)).0 (In-last c v)))
      (OnlyOne-map Ok Ok (λ ds. c ∷ ds) (placed v cs)
      (Each-map (Placed v cs) (λ ds. Ok ds → Ok (c ∷ ds)) (placed v cs) (λ ds p q. (Each-map (Head c cs) (Head c ds) c (λ y h. (h.0, grows (Below y) v p (laws.left x y v (laws.alike_sym y x (Each-at (Alike y) c x h.0 i)) g) h.1)) r.0, q)) (placed_all v cs))
      (Each-from (λ ds. Ok (c ∷ ds) → Ok ds) (placed v cs) (λ ds k q. q.1))
      (rest r.1)))

  only : (v : ℕ) (cs : Classes) → Filled cs → EachVar (λ x. Decided x v) cs → Ok cs → OnlyOne Ok (placed v cs)
  only v [] f d r = only_front ((((laws.alike_refl v, tt), tt), tt), tt) tt
  only v (c ∷ cs) f d r = only_at v c cs f.0.0 f.0.1 (Each-at (λ x. Decided x v) c f.0.0 d.0 f.0.1) r (only v cs f.1 d.1)

  -- of orders of which one is respected, one is respected with a further variable
  none_more : (v : ℕ) (cs : Classes) → Not Ok cs → Each (Not Ok) (placed v cs)
  none_more v cs n = Each-map (Placed v cs) (Not Ok) (placed v cs) (λ ds p r. n (kept_ok v p r)) (placed_all v cs)

  none_more_all : (v : ℕ) (os : List Classes) → Each (Not Ok) os → Each (Not Ok) (flat_map (placed v) os)
  none_more_all v [] n = tt
  none_more_all v (o ∷ os) n = Each-append (Not Ok) (placed v o) (flat_map (placed v) os) (none_more v o n.0) (none_more_all v os n.1)

  module _ (Known : ℕ → Type 0) (decided : (x y : ℕ) → Known x → Known y → Decided x y) where
    abbrev Good : Classes → Type 0
    Good cs = Filled cs × EachVar Known cs

    good_one : (v : ℕ) (cs : Classes) → Known v → Good cs → Each Good (placed v cs)
    good_one v cs k g = Each-map (Placed v cs) Good (placed v cs) (λ ds p. (filled v p g.0, grows Known v p k g.1)) (placed_all v cs)

    good_all : (v : ℕ) (os : List Classes) → Known v → Each Good os → Each Good (flat_map (placed v) os)
    good_all v [] k g = tt
    good_all v (o ∷ os) k g = Each-append Good (placed v o) (flat_map (placed v) os) (good_one v o k g.0) (good_all v os k g.1)

    against : (v : ℕ) (cs : Classes) → Known v → EachVar Known cs → EachVar (λ x. Decided x v) cs
    against v cs k e = Each-map (Each Known) (Each (λ x. Decided x v)) cs (λ c. Each-map Known (λ x. Decided x v) c (λ x h. decided x v h k)) e

    only_more : (v : ℕ) (os : List Classes) → Known v → Each Good os → OnlyOne Ok os → OnlyOne Ok (flat_map (placed v) os)
    only_more v [] k g o = elim o [ ]
    only_more v (cs ∷ os) k g (only_front r n) = OnlyOne-left Ok (placed v cs) (flat_map (placed v) os) (only v cs g.0.0 (against v cs k g.0.1) r) (none_more_all v os n)
    only_more v (cs ∷ os) k g (only_rest n o) = OnlyOne-right Ok (placed v cs) (flat_map (placed v) os) (none_more v cs n) (only_more v os k g.1 o)

    only_grown : (vs : List ℕ) (os : List Classes) → Each Known vs → Each Good os → OnlyOne Ok os → OnlyOne Ok (grown os vs)
    only_grown [] os k g o = o
    only_grown (v ∷ vs) os k g o = only_grown vs (flat_map (placed v) os) k.1 (good_all v os k.0 g) (only_more v os k.0 g o)

  pub exactly : (vs : List ℕ) → ((x y : ℕ) → In vs x → In vs y → Decided x y) → OnlyOne Ok (orders_of vs)
  exactly vs d = only_grown (In vs) d vs ([] ∷ []) (Each-from (In vs) vs (λ x i. i)) ((tt, tt), tt) (only_front tt tt)

-- by the terms of the variables
pub respected : (Greater : Tree → Tree → Type 0) → ((t : Tree) → Greater t t → ⊥) → ((s t u : Tree) → Greater s t → Greater t u → Greater s u) → (σ : ℕ → Tree) (vs : List ℕ) → ((x y : ℕ) → In vs x → In vs y → Greater (σ x) (σ y) ⊎ ((σ x ≡ σ y) ⊎ Greater (σ y) (σ x))) → OnlyOne (Respects Greater σ) (orders_of vs)
respected Greater irr trans σ vs d = exactly (λ x y. σ x ≡ σ y) (λ x y. Greater (σ y) (σ x)) (record {
  alike_refl = λ x. refl;
  alike_sym = λ x y e. sym e;
  alike_trans = λ x y z e f. e ∙ f;
  irreflexive = λ x. irr (σ x);
  transitive = λ x y z g h. trans (σ z) (σ y) (σ x) h g;
  left = λ x y z e g. subst (λ (t : Tree). Greater (σ z) t) e g;
  right = λ x y z e g. subst (λ (t : Tree). Greater t (σ x)) e g;
}) vs d

-- by a preorder
module _ (R : ℕ → ℕ → Type 0) (vs : List ℕ) (p : IsTotalPreorder R vs) (decided : (x y : ℕ) → R x y ⊎ (R x y → ⊥)) where
  compared : (x y : ℕ) → R x y ⊎ R y x → R x y ⊎ (R x y → ⊥) → R y x ⊎ (R y x → ⊥) → (R y x × (R x y → ⊥)) ⊎ ((R x y × R y x) ⊎ (R x y × (R y x → ⊥)))
  compared x y t (inl a) (inl b) = inr (inl (a, b))
  compared x y t (inl a) (inr b) = inr (inr (a, b))
  compared x y t (inr a) (inl b) = inl (b, a)
  compared x y (inl t) (inr a) (inr b) = absurd (a t)
  compared x y (inr t) (inr a) (inr b) = absurd (b t)

  pub standing : OnlyOne (Stands R) (orders_of vs)
  standing = exactly (λ x y. R x y × R y x) (λ x y. R x y × (R y x → ⊥)) (record {
    alike_refl = λ x. (p.reflexive x, p.reflexive x);
    alike_sym = λ x y e. (e.1, e.0);
    alike_trans = λ x y z e f. (p.transitive x y z e.0 f.0, p.transitive z y x f.1 e.1);
    irreflexive = λ x g. g.1 g.0;
    transitive = λ x y z g h. (p.transitive x y z g.0 h.0, λ r. h.1 (p.transitive z x y r g.0));
    left = λ x y z e g. (p.transitive y x z e.1 g.0, λ r. g.1 (p.transitive z y x r e.1));
    right = λ x y z e g. (p.transitive x y z g.0 e.0, λ r. g.1 (p.transitive y z x e.0 r));
  }) vs (λ x y i j. compared x y (p.total x y i j) (decided x y) (decided y x))

is_true : (b : Bool) → (b ≡ true) ⊎ (b ≡ true → ⊥)
is_true true = inl refl
is_true false = inr (λ e. grind arith)

pub standing_by : (R : ℕ → ℕ → Bool) (vs : List ℕ) → IsTotalPreorder (λ x y. R x y ≡ true) vs → OnlyOne (Stands (λ x y. R x y ≡ true)) (orders_of vs)
standing_by R vs p = standing (λ x y. R x y ≡ true) vs p (λ x y. is_true (R x y))

-- every variable stands in each of the orders
among_one : (v x : ℕ) {cs ds : Classes} → Placed v cs ds → Among cs x → Among ds x
among_one v x alone a = among_rest a
among_one v x (joins {c = c}) (among_front i) = among_front (In-append c (v ∷ []) x i)
among_one v x joins (among_rest a) = among_rest a
among_one v x (deeper p) (among_front i) = among_front i
among_one v x (deeper p) (among_rest a) = among_rest (among_one v x p a)

among_new : (v : ℕ) {cs ds : Classes} → Placed v cs ds → Among ds v
among_new v alone = among_front in_front
among_new v (joins {c = c}) = among_front (In-last c v)
among_new v (deeper p) = among_rest (among_new v p)

among_more : (v x : ℕ) (os : List Classes) → Each (λ o. Among o x) os → Each (λ o. Among o x) (flat_map (placed v) os)
among_more v x [] e = tt
among_more v x (o ∷ os) e = Each-append (λ o. Among o x) (placed v o) (flat_map (placed v) os) (Each-map (Placed v o) (λ o. Among o x) (placed v o) (λ ds p. among_one v x p e.0) (placed_all v o)) (among_more v x os e.1)

among_first : (v : ℕ) (os : List Classes) → Each (λ o. Among o v) (flat_map (placed v) os)
among_first v [] = tt
among_first v (o ∷ os) = Each-append (λ o. Among o v) (placed v o) (flat_map (placed v) os) (Each-map (Placed v o) (λ o. Among o v) (placed v o) (λ ds p. among_new v p) (placed_all v o)) (among_first v os)

among_grown : (x : ℕ) (vs : List ℕ) (os : List Classes) → Each (λ o. Among o x) os → Each (λ o. Among o x) (grown os vs)
among_grown x [] os e = e
among_grown x (v ∷ vs) os e = among_grown x vs (flat_map (placed v) os) (among_more v x os e)

among_all : (x : ℕ) (vs : List ℕ) (os : List Classes) → In vs x → Each (λ o. Among o x) (grown os vs)
among_all x [] os i = elim i [ ]
among_all x (v ∷ vs) os in_front = among_grown x vs (flat_map (placed v) os) (among_first v os)
among_all x (v ∷ vs) os (in_rest i) = among_all x vs (flat_map (placed v) os) i

pub has_all : (vs : List ℕ) (x : ℕ) → In vs x → (o : Classes) → In (orders_of vs) o → Among o x
has_all vs x i o k = Each-at (λ o. Among o x) (orders_of vs) o (among_all x vs ([] ∷ []) i) k
