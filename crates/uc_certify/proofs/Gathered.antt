-- What is expected, one after another.
use Rattle.std.proofs.Common.{◌≡◌, ℕ, zero, suc, ◌+◌, ◌<◌, ◌≤◌, List, [], ◌∷◌, ◌++◌, length, take, get_or, slice_get, Some, refl, sym, ap, ◌∙◌, subst, arith, append_assoc, append-nil}
use Rattle.std.specs.Prelude.{All}
use Rattle.std.proofs.lemmas.List.{take_more}
use Rattle.uc_term.specs.declared.equation.Equation.{Equation}
use Rattle.uc_term.specs.Tree.{Tree}
use Rattle.uc_order.specs.Members.{Each}
use Rattle.uc_fact.specs.Live.{Live, numbered, numbered_from}
use Rattle.uc_rewrite.specs.Scanning.{live_fact}
use Rattle.uc_pair.specs.declared.formed.Formed.{Formed}
use Rattle.uc_pair.specs.Listing.{AreOverlaps}
use Rattle.uc_pair.specs.Overlapping.{IsFormedOf}
use Rattle.uc_certify.specs.declared.expected.Member.{Member}
use Rattle.uc_certify.specs.declared.expected.Member.TheVariants.{Axiom, Overlap}
use Rattle.uc_certify.specs.Expecting.{axioms_from, members_of, OverlapsWith, no_inner, next_inner, AllOverlaps, no_outer, next_outer, AreExpected}
use Rattle.uc_certify.specs.Gathering.{AddsOverlaps, IsOfFacts, IsKnownMember}
use Rattle.uc_certify.proofs.Lists.{taken_more, taken_all, each_append}
use Rattle.uc_certify.proofs.Covered.{IsOfFacts as OfTwo, of_facts}

-- an axiom more
axioms_more : (n : ℕ) (es : List Equation) (k : ℕ) → k < length es → axioms_from n (take (suc k) es) ≡ axioms_from n (take k es) ++ Axiom (n + k) ∷ []
axioms_more n [] k h = absurd (omega arith)
axioms_more n (e ∷ es) zero h = (let z : n ≡ n + 0 = omega arith in ap (λ x. Axiom x ∷ []) z)
axioms_more n (e ∷ es) (suc k) h =
    let rest = axioms_more (n + 1) es k (omega arith) in
    let same : n + 1 + k ≡ n + suc k = omega arith in
    ap (λ os. Axiom n ∷ os) (rest ∙ ap (λ x. axioms_from (n + 1) (take k es) ++ Axiom x ∷ []) same)

pub axioms_next : (es : List Equation) (k : ℕ) (old new : List Member) → k < length es → new ≡ old ++ Axiom k ∷ [] → old ≡ axioms_from 0 (take k es) → new ≡ axioms_from 0 (take (k + 1) es)
axioms_next es k old new h e so =
    let same : 0 + k ≡ k = omega arith in
    let next : k + 1 ≡ suc k = omega arith in
    e ∙ ap (λ os. os ++ Axiom k ∷ []) so ∙ sym (ap (λ x. axioms_from 0 (take x es)) next ∙ axioms_more 0 es k h ∙ ap (λ x. axioms_from 0 (take k es) ++ Axiom x ∷ []) same)

pub axioms_end : (es : List Equation) (k : ℕ) (os : List Member) → length es ≤ k → os ≡ axioms_from 0 (take k es) → os ≡ axioms_from 0 es
axioms_end es k os h so = so ∙ ap (axioms_from 0) (taken_all es k h)

members_append : (xs ys : List Formed) → members_of (xs ++ ys) ≡ members_of xs ++ members_of ys
members_append [] ys = refl
members_append (x ∷ xs) ys = ap (λ l. Overlap x ∷ l) (members_append xs ys)

-- an overlap more
pub members_next : (list : List Formed) (i : ℕ) (d : Formed) (start old new : List Member) → i < length list → new ≡ old ++ Overlap (get_or list i d) ∷ [] → old ≡ start ++ members_of (take i list) → new ≡ start ++ members_of (take (i + 1) list)
members_next list i d start old new h n so =
    n ∙ ap (λ l. l ++ Overlap (get_or list i d) ∷ []) so ∙ append_assoc start (members_of (take i list)) (Overlap (get_or list i d) ∷ [])
    ∙ ap (λ l. start ++ l) (sym (ap members_of (take_more list i d h) ∙ members_append (take i list) (get_or list i d ∷ [])))

pub members_end : (list : List Formed) (i : ℕ) (start old : List Member) → length list ≤ i → old ≡ start ++ members_of (take i list) → old ≡ start ++ members_of list
members_end list i start old h so = so ∙ ap (λ l. start ++ members_of l) (taken_all list i h)

numbered_append : (n : ℕ) (xs : List Equation) (y : Equation) → numbered_from n (xs ++ y ∷ []) ≡ numbered_from n xs ++ live_fact (n + length xs) y ∷ []
numbered_append n [] y = let z : n ≡ n + 0 = omega arith in ap (λ k. live_fact k y ∷ []) z
numbered_append n (x ∷ xs) y =
    let same : n + 1 + length xs ≡ n + suc (length xs) = omega arith in
    ap (λ l. live_fact n x ∷ l) (numbered_append (n + 1) xs y ∙ ap (λ k. numbered_from (n + 1) xs ++ live_fact k y ∷ []) same)

length_taken : {A : Type 0} (xs : List A) (i : ℕ) → i < length xs → length (take i xs) ≡ i
length_taken [] i h = absurd (omega arith)
length_taken (x ∷ xs) zero h = refl
length_taken (x ∷ xs) (suc i) h = let r = length_taken xs i (omega arith) in omega (arith, r)

numbered_next : (facts : List Equation) (i : ℕ) (e : Equation) → i < length facts → e ≡ get_or facts i e → numbered (take (i + 1) facts) ≡ numbered (take i facts) ++ live_fact i e ∷ []
numbered_next facts i e h is =
    let same : 0 + length (take i facts) ≡ i = omega (arith, length_taken facts i h) in
    ap numbered (taken_more facts i e h is) ∙ numbered_append 0 (take i facts) e ∙ ap (λ k. numbered (take i facts) ++ live_fact k e ∷ []) same

module _ (Greater : Tree → Tree → Type 0) where
  with_on : (outer : Live) (js : List Live) (fs gs : List Formed) (j : Live) → OverlapsWith Greater outer js fs → AreOverlaps Greater outer.number outer.equation j.number j.equation gs → OverlapsWith Greater outer (js ++ j ∷ []) (fs ++ gs)
  with_on outer _ _ gs j no_inner are = subst (OverlapsWith Greater outer (j ∷ [])) (append-nil gs) (next_inner are no_inner)
  with_on outer _ _ gs j (next_inner {inner = x} {inners = xs} {list = fs} {others = others} a rest) are = subst (OverlapsWith Greater outer (x ∷ (xs ++ j ∷ []))) (sym (append_assoc fs others gs)) (next_inner a (with_on outer xs others gs j rest are))

  all_on : (inners js : List Live) (fs gs : List Formed) (j : Live) → AllOverlaps Greater inners js fs → OverlapsWith Greater j inners gs → AllOverlaps Greater inners (js ++ j ∷ []) (fs ++ gs)
  all_on inners _ _ gs j no_outer are = subst (AllOverlaps Greater inners (j ∷ [])) (append-nil gs) (next_outer are no_outer)
  all_on inners _ _ gs j (next_outer {outer = x} {outers = xs} {list = fs} {others = others} a rest) are = subst (AllOverlaps Greater inners (x ∷ (xs ++ j ∷ []))) (sym (append_assoc fs others gs)) (next_outer a (all_on inners xs others gs j rest are))

  -- behind the old list stand the overlaps of one outer fact with the first of the facts
  pub record AddsFirst (k : ℕ) (outer : Equation) (facts : List Equation) (i : ℕ) (old new : List Member) : Type 0 where
    pub list : List Formed
    pub are : OverlapsWith Greater (live_fact k outer) (numbered (take i facts)) list
    pub new_is : new ≡ old ++ members_of list

  pub first_none : (k : ℕ) (outer : Equation) (facts : List Equation) (old : List Member) → AddsFirst k outer facts 0 old old
  first_none k outer facts old = record { list = []; are = no_inner; new_is = sym (append-nil old) }

  pub first_next : (k : ℕ) (outer : Equation) (facts : List Equation) (i : ℕ) (inner : Equation) (start old new : List Member) (gs : List Formed) → i < length facts → inner ≡ get_or facts i inner → AreOverlaps Greater k outer i inner gs → new ≡ old ++ members_of gs → AddsFirst k outer facts i start old → AddsFirst k outer facts (i + 1) start new
  first_next k outer facts i inner start old new gs h e are n a = record {
    list = a.list ++ gs;
    are = subst (λ js. OverlapsWith Greater (live_fact k outer) js (a.list ++ gs)) (sym (numbered_next facts i inner h e)) (with_on (live_fact k outer) (numbered (take i facts)) a.list gs (live_fact i inner) a.are are);
    new_is = n ∙ ap (λ l. l ++ members_of gs) a.new_is ∙ append_assoc start (members_of a.list) (members_of gs) ∙ ap (λ l. start ++ l) (sym (members_append a.list gs));
  }

  pub first_end : (k : ℕ) (outer : Equation) (facts : List Equation) (i : ℕ) (old new : List Member) → slice_get facts k ≡ Some outer → length facts ≤ i → AddsFirst k outer facts i old new → AddsOverlaps Greater k facts old new
  first_end k outer facts i old new at h a = record {
    outer = outer;
    outer_is = at;
    list = a.list;
    are_overlaps = subst (λ es. OverlapsWith Greater (live_fact k outer) (numbered es) a.list) (taken_all facts i h) a.are;
    new_is = a.new_is;
  }

  -- the list has the axioms, and the overlaps of the first outer facts
  pub record HasFirst (facts axioms : List Equation) (k : ℕ) (members : List Member) : Type 0 where
    pub list : List Formed
    pub are : AllOverlaps Greater (numbered facts) (numbered (take k facts)) list
    pub members_are : members ≡ axioms_from 0 axioms ++ members_of list

  pub has_none : (facts axioms : List Equation) (members : List Member) → members ≡ axioms_from 0 axioms → HasFirst facts axioms 0 members
  has_none facts axioms members e = record { list = []; are = no_outer; members_are = e ∙ sym (append-nil (axioms_from 0 axioms)) }

  pub has_next : (facts axioms : List Equation) (k : ℕ) (old new : List Member) → k < length facts → AddsOverlaps Greater k facts old new → HasFirst facts axioms k old → HasFirst facts axioms (k + 1) new
  has_next facts axioms k old new h a s = record {
    list = s.list ++ a.list;
    are = subst (λ js. AllOverlaps Greater (numbered facts) js (s.list ++ a.list)) (sym (numbered_next facts k a.outer h (read facts k a.outer a.outer_is))) (all_on (numbered facts) (numbered (take k facts)) s.list a.list (live_fact k a.outer) s.are a.are_overlaps);
    members_are = a.new_is ∙ ap (λ l. l ++ members_of a.list) s.members_are ∙ append_assoc (axioms_from 0 axioms) (members_of s.list) (members_of a.list) ∙ ap (λ l. axioms_from 0 axioms ++ l) (sym (members_append s.list a.list));
  }
    where
      read : (xs : List Equation) (i : ℕ) (x : Equation) → slice_get xs i ≡ Some x → x ≡ get_or xs i x
      read [] i x e = absurd cc
      read (y ∷ ys) zero x e = let q : y ≡ x = cc in sym q
      read (y ∷ ys) (suc i) x e = read ys i x e

  pub has_end : (facts axioms : List Equation) (k : ℕ) (members : List Member) → length facts ≤ k → HasFirst facts axioms k members → AreExpected Greater facts axioms members
  has_end facts axioms k members h s = record {
    overlaps = s.list;
    are_overlaps = subst (λ es. AllOverlaps Greater (numbered facts) (numbered es) s.list) (taken_all facts k h) s.are;
    members_are = s.members_are;
  }

-- WHAT IS KNOWN OF THE MEMBERS

all_each : {A : Type 0} (P : A → Type 0) (xs : List A) → All P xs → Each P xs
all_each P [] h = tt
all_each P (x ∷ xs) h = (h 0 x (omega arith), all_each P xs (λ k d q. h (suc k) d (omega arith)))

module _ (facts axioms : List Equation) where
  axioms_known : (n : ℕ) (es : List Equation) → n + length es ≤ length axioms → Each (IsKnownMember facts axioms) (axioms_from n es)
  axioms_known n [] h = tt
  axioms_known n (e ∷ es) h = (omega arith, axioms_known (n + 1) es (omega arith))

  pub known_axioms : (members : List Member) → members ≡ axioms_from 0 axioms → Each (IsKnownMember facts axioms) members
  known_axioms members e = subst (Each (IsKnownMember facts axioms)) (sym e) (axioms_known 0 axioms (omega arith))

  module _ (k i : ℕ) (a b : Equation) (ha : slice_get facts k ≡ Some a) (hb : slice_get facts i ≡ Some b) where
    known_one : (f : Formed) → OfTwo k i f → IsFormedOf a b f → IsOfFacts facts f
    known_one f o p = record { outer = a; inner = b; outer_is = subst (λ n. slice_get facts n ≡ Some a) (sym o.outer_is) ha; inner_is = subst (λ n. slice_get facts n ≡ Some b) (sym o.inner_is) hb; formed_is = p }

    known_each : (fs : List Formed) → Each (OfTwo k i) fs → Each (IsFormedOf a b) fs → Each (IsKnownMember facts axioms) (members_of fs)
    known_each [] o p = tt
    known_each (f ∷ fs) o p = (known_one f o.0 p.0, known_each fs o.1 p.1)

    pub known_next : (Greater : Tree → Tree → Type 0) (fs : List Formed) (old new : List Member) → AreOverlaps Greater k a i b fs → All (IsFormedOf a b) fs → new ≡ old ++ members_of fs → Each (IsKnownMember facts axioms) old → Each (IsKnownMember facts axioms) new
    known_next Greater fs old new are all n known = subst (Each (IsKnownMember facts axioms)) (sym n) (each_append (IsKnownMember facts axioms) old (members_of fs) known (known_each fs (of_facts Greater k a i b fs are) (all_each (IsFormedOf a b) fs all)))
