-- The lists of overlaps, place by place and side by side.
use Rattle.std.proofs.Common.{◌≡◌, ℕ, zero, suc, ◌+◌, ◌-◌, ◌<◌, ◌≤◌, List, [], ◌∷◌, ◌++◌, Option, Some, None, refl, sym, ap, ◌∙◌, subst, arith, append_assoc, append-nil, ◌⊎◌, inl}
use Rattle.std.specs.Prelude.{All, MatchOption}
use Rattle.uc_term.specs.declared.equation.Equation.{Equation}
use Rattle.uc_term.specs.declared.equation.Side.{Side}
use Rattle.uc_term.specs.declared.equation.Side.TheVariants.{Left, Right}
use Rattle.uc_term.specs.Tree.{Tree, nodes}
use Rattle.uc_order.specs.Laws.{Meaning, Laws}
use Rattle.uc_fact.specs.Live.{Rule}
use Rattle.uc_pair.specs.declared.formed.Size.{Size}
use Rattle.uc_pair.specs.declared.formed.Formed.{Formed}
use Rattle.uc_pair.specs.declared.fitting.Part.{Part}
use Rattle.uc_pair.specs.Fitting.{HasNoFit, IsFit, IsNextFit, FitsNowhere}
use Rattle.uc_pair.specs.Overlapping.{Overlapping, IsFormedOf, read_from}
use Rattle.uc_pair.specs.Listing.{LeadsUp, NeverDown, Lists, no_more_places, at_variable, no_unifier, repeats, goes_nowhere, leads_up, is_listed, ListsEach, no_rules, next_rules, AreOverlaps}
use Rattle.uc_pair.specs.Judging.{IsJudged, ListsOn, formed_at}
use Rattle.uc_pair.specs.Adding.{Adds, AddsAt}
use Rattle.uc_pair.proofs.Apart.{some_bound}
use Rattle.uc_pair.proofs.Judged.{judged_unfit}
use Rattle.uc_pair.proofs.Uniqueness.{nowhere_up}

module _ (m : Meaning) (outer inner : Rule) where
  abbrev L : ℕ → List Formed → Type 0
  L = Lists m.greater outer inner

  -- places that don't fit are passed over
  passed : (n from : ℕ) → from + n ≤ nodes outer.from → ((p : ℕ) → from ≤ p → p < from + n → HasNoFit outer.from inner.from p) → (list : List Formed) → L (from + n) list → L from list
  passed zero from low h list rest = let e : from + 0 ≡ from = omega arith in subst (λ q. L q list) e rest
  passed (suc n) from low h list rest =
      let k = some_bound outer in
      let e : from + suc n ≡ from + n + 1 = omega arith in
      passed n from (omega arith) (λ p a b. h p a (omega arith)) list
      (judged_unfit m outer inner (from + n) k.0 k.1 (omega arith) (h (from + n) (omega arith) (omega arith)) list (subst (λ q. L q list) e rest))

  passed_to : (from place : ℕ) → from ≤ place → place ≤ nodes outer.from → ((p : ℕ) → from ≤ p → p < place → HasNoFit outer.from inner.from p) → ListsOn m.greater outer inner from place []
  passed_to from place h low n list rest =
      let e : place ≡ from + (place - from) = omega arith in
      passed (place - from) from (omega arith) (λ p a b. n p a (omega (arith, b))) list (subst (λ q. L q list) e rest)

  -- the first part that may fit, from a place on
  abbrev IsNext : ℕ → Option Part → Type 0
  IsNext from next = MatchOption next (FitsNowhere outer.from inner.from from) (IsNextFit outer.from inner.from from)

  -- the place from which the list goes on, and how many places are left then
  abbrev pub next_place : Option Part → ℕ
  next_place None = nodes outer.from
  next_place (Some part) = part.place

  abbrev pub places_left : Option Part → ℕ
  places_left None = 0
  places_left (Some part) = nodes outer.from - part.place

  -- what is listed when the next part is sought
  pub record ListedBefore (old new : List Formed) (next : Option Part) : Type 0 where
    pub listed : Adds (ListsOn m.greater outer inner 0 (next_place next)) old new
    pub fits : (part : Part) → next ≡ Some part → IsFit outer.from part

  goes_to : (from : ℕ) (next : Option Part) → from ≤ nodes outer.from → IsNext from next → ListsOn m.greater outer inner from (next_place next) []
  goes_to from None low n = passed_to from (nodes outer.from) low (omega arith) (λ p a b. n p a b)
  goes_to from (Some part) low n = passed_to from part.place n.later (omega (arith, n.fit.is_part.inside)) n.none_before

  next_fits : (from : ℕ) (next : Option Part) → IsNext from next → (part : Part) → next ≡ Some part → IsFit outer.from part
  next_fits from None n part e = absurd cc
  next_fits from (Some there) n part e = let same : there ≡ part = cc in subst (IsFit outer.from) same n.fit

  -- the loop over the parts
  pub listing_passes : (from : ℕ) (old new : List Formed) (next : Option Part) → from ≤ nodes outer.from → IsNext from next → Adds (ListsOn m.greater outer inner 0 from) old new → ListedBefore old new next
  listing_passes from old new next low n a = record { listed = (a.0, (λ list rest. a.1 list (goes_to from next low n list rest)), a.2); fits = next_fits from next n }

  pub listing_starts : (old : List Formed) (part : Part) → IsNextFit outer.from inner.from 0 part → ListedBefore old old (Some part)
  listing_starts old part f = listing_passes 0 old old (Some part) (omega arith) f ([], (λ list rest. rest), sym (append-nil old))

  pub nowhere_listed : FitsNowhere outer.from inner.from 0 → L 0 []
  nowhere_listed n = goes_to 0 None (omega arith) n [] (no_more_places (omega arith))

  pub fewer_left : (there : Part) (now next : Option Part) → now ≡ Some there → IsFit outer.from there → IsNext (there.place + 1) next → places_left next < places_left now
  fewer_left there now None e f n = omega (arith, ap places_left e, f.is_part.inside)
  fewer_left there now (Some part) e f n = omega (arith, ap places_left e, f.is_part.inside, n.later)

  pub listed_here : (there : Part) (now : Option Part) (old new : List Formed) → now ≡ Some there → ListedBefore old new now → Adds (ListsOn m.greater outer inner 0 there.place) old new
  listed_here there now old new e l = subst (λ n. Adds (ListsOn m.greater outer inner 0 (next_place n)) old new) e l.listed

  pub listing_goes_on : (place : ℕ) (old mid new : List Formed) (size : Option Size) → Adds (ListsOn m.greater outer inner 0 place) old mid → IsJudged m.greater outer inner place size → AddsAt outer inner place size mid new → Adds (ListsOn m.greater outer inner 0 (place + 1)) old new
  listing_goes_on place old mid new None a j e = (a.0, (λ list rest. a.1 list (j list rest)), e ∙ a.2)
  listing_goes_on place old mid new (Some size) a j e = (
    a.0 ++ formed_at outer inner place size ∷ [],
    (λ list rest. subst (L 0) (sym (append_assoc a.0 (formed_at outer inner place size ∷ []) list)) (a.1 (formed_at outer inner place size ∷ list) (j list rest))),
    e ∙ ap (λ l. l ++ formed_at outer inner place size ∷ []) a.2 ∙ append_assoc old a.0 (formed_at outer inner place size ∷ []),
  )

  pub listing_ends : (now : Option Part) (old new : List Formed) → ((part : Part) → now ≡ Some part → ⊥) → ListedBefore old new now → Adds (L 0) old new
  listing_ends None old new h l = let a = l.listed in (a.0, subst (L 0) (append-nil a.0) (a.1 [] (no_more_places (omega arith))), a.2)
  listing_ends (Some part) old new h l = absurd (h part refl)

  -- where a rule never leads down, nothing is listed
  abbrev EachUp : Type 0
  EachUp = (p : ℕ) (o : Overlapping outer inner p) → LeadsUp m.greater o

  none_from : (n place : ℕ) → n + place ≡ nodes outer.from → NeverDown m.greater outer ⊎ NeverDown m.greater inner → EachUp → L place []
  none_from zero place e h up = no_more_places (omega arith)
  none_from (suc n) place e h up = goes_nowhere (omega arith) h (up place) (none_from n (place + 1) (omega arith) h up)

  pub none_listed : Laws m → NeverDown m.greater outer ⊎ NeverDown m.greater inner → L 0 []
  none_listed laws h = none_from (nodes outer.from) 0 (omega arith) h (λ p o. nowhere_up m laws outer inner p o h)

pub adds_none : (P : List Formed → Type 0) (old : List Formed) → P [] → Adds P old old
adds_none P old p = ([], p, sym (append-nil old))

pub adds_each : (m : Meaning) (outer left right : Rule) (old mid new : List Formed) → Adds (Lists m.greater outer left 0) old mid → Adds (Lists m.greater outer right 0) mid new → Adds (ListsEach m.greater ((outer, left) ∷ (outer, right) ∷ [])) old new
adds_each m outer left right old mid new a b =
    (a.0 ++ (b.0 ++ []), next_rules a.1 (next_rules b.1 no_rules), b.2 ∙ ap (λ l. l ++ b.0) a.2 ∙ append_assoc old a.0 b.0 ∙ ap (λ l. old ++ (a.0 ++ l)) (sym (append-nil b.0)))

pub none_each : (m : Meaning) (laws : Laws m) (outer left right : Rule) (old : List Formed) → NeverDown m.greater outer → Adds (ListsEach m.greater ((outer, left) ∷ (outer, right) ∷ [])) old old
none_each m laws outer left right old h = ([], next_rules (none_listed m outer left laws (inl h)) (next_rules (none_listed m outer right laws (inl h)) no_rules), sym (append-nil old))

each_append : (m : Meaning) (xs ys : List (Rule × Rule)) (a b : List Formed) → ListsEach m.greater xs a → ListsEach m.greater ys b → ListsEach m.greater (xs ++ ys) (a ++ b)
each_append m [] ys [] b no_rules k = k
each_append m [] ys (_ ∷ _) b l k = elim l [ ]
each_append m ((outer, inner) ∷ xs) ys _ b (next_rules {list = list} {others = others} l r) k = subst (ListsEach m.greater (((outer, inner) ∷ xs) ++ ys)) (sym (append_assoc list others b)) (next_rules l (each_append m xs ys others b r k))

pub are_overlaps : (m : Meaning) (i j : ℕ) (a b : Equation) (one two : Rule) (empty mid all : List Formed) → one ≡ read_from i Left a → two ≡ read_from i Right a → empty ≡ [] → Adds (ListsEach m.greater ((one, read_from j Left b) ∷ (one, read_from j Right b) ∷ [])) empty mid → Adds (ListsEach m.greater ((two, read_from j Left b) ∷ (two, read_from j Right b) ∷ [])) mid all → AreOverlaps m.greater i a j b all
are_overlaps m i j a b one two empty mid all e f n x y =
    let first : ListsEach m.greater ((read_from i Left a, read_from j Left b) ∷ (read_from i Left a, read_from j Right b) ∷ []) x.0 = subst (λ r. ListsEach m.greater ((r, read_from j Left b) ∷ (r, read_from j Right b) ∷ []) x.0) e x.1 in
    let second : ListsEach m.greater ((read_from i Right a, read_from j Left b) ∷ (read_from i Right a, read_from j Right b) ∷ []) y.0 = subst (λ r. ListsEach m.greater ((r, read_from j Left b) ∷ (r, read_from j Right b) ∷ []) y.0) f y.1 in
    subst (AreOverlaps m.greater i a j b) (sym (y.2 ∙ ap (λ l. l ++ y.0) (x.2 ∙ ap (λ l. l ++ x.0) n))) (each_append m _ _ x.0 y.0 first second)

-- each of them is an overlap, and its size is its pair's
abbrev pub EachFormed : Equation → Equation → List Formed → Type 0
EachFormed a b [] = Unit {0}
EachFormed a b (f ∷ fs) = IsFormedOf a b f × EachFormed a b fs

each_formed : (Greater : Tree → Tree → Type 0) (i j : ℕ) (s t : Side) (a b : Equation) {place : ℕ} {list : List Formed} → Lists Greater (read_from i s a) (read_from j t b) place list → EachFormed a b list
each_formed Greater i j s t a b (no_more_places h) = tt
each_formed Greater i j s t a b (at_variable h n rest) = each_formed Greater i j s t a b rest
each_formed Greater i j s t a b (no_unifier h n rest) = each_formed Greater i j s t a b rest
each_formed Greater i j s t a b (repeats h n rest) = each_formed Greater i j s t a b rest
each_formed Greater i j s t a b (goes_nowhere h n u rest) = each_formed Greater i j s t a b rest
each_formed Greater i j s t a b (leads_up o n rest) = each_formed Greater i j s t a b rest
each_formed Greater i j s t a b (is_listed o n u size rest) = (record { overlaps = o; has_size = size }, each_formed Greater i j s t a b rest)

formed_append : (a b : Equation) (xs ys : List Formed) → EachFormed a b xs → EachFormed a b ys → EachFormed a b (xs ++ ys)
formed_append a b [] ys h k = k
formed_append a b (x ∷ xs) ys h k = (h.0, formed_append a b xs ys h.1 k)

each_pair : (Greater : Tree → Tree → Type 0) (i j : ℕ) (a b : Equation) (list : List Formed) → AreOverlaps Greater i a j b list → EachFormed a b list
each_pair Greater i j a b _ (next_rules {list = ll} ll_is (next_rules {list = lr} lr_is (next_rules {list = rl} rl_is (next_rules {list = rr} rr_is no_rules)))) =
    formed_append a b ll _ (each_formed Greater i j Left Left a b ll_is)
    (formed_append a b lr _ (each_formed Greater i j Left Right a b lr_is)
    (formed_append a b rl _ (each_formed Greater i j Right Left a b rl_is)
    (formed_append a b rr [] (each_formed Greater i j Right Right a b rr_is) tt)))

all_formed : (a b : Equation) (list : List Formed) → EachFormed a b list → All (IsFormedOf a b) list
all_formed a b [] h k d q = absurd (omega arith)
all_formed a b (x ∷ xs) h zero d q = h.0
all_formed a b (x ∷ xs) h (suc k) d q = all_formed a b xs h.1 k d (omega arith)

pub all_are_formed : (Greater : Tree → Tree → Type 0) (i j : ℕ) (a b : Equation) (list : List Formed) → AreOverlaps Greater i a j b list → All (IsFormedOf a b) list
all_are_formed Greater i j a b list l = all_formed a b list (each_pair Greater i j a b list l)
