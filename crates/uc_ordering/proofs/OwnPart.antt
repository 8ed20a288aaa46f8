-- The order that options name for an encoded problem, without the encoding's symbols.
use Rattle.std.proofs.Common.{◌≡◌, ℕ, suc, ◌+◌, ◌<◌, ◌≤◌, ◌==◌, ◌||◌, nat_lt, Bool, true, false, cond, List, [], ◌∷◌, ◌++◌, length, map, filter, take, drop, min, ◌-◌, append_assoc, Option, Some, None, if◌then◌else◌, refl, sym, ap, ap₂, ◌∙◌, subst, arith, ◌⊎◌, inl, inr, take-append-drop, append-nil}
use Rattle.std.specs.List.{list_any}
use Rattle.std.proofs.lemmas.Bool.{eqb-true, eq-eqb}
use Rattle.std.proofs.lemmas.Bool.Decides.{nat_tests}
use Rattle.std.proofs.lemmas.List.{length-map, length-append, length-take, length-drop, take_all}
use Rattle.std.proofs.lemmas.List.Elements.{filter-append}
use Rattle.uc_term.specs.declared.node.Sym.{Sym}
use Rattle.uc_term.specs.declared.fresh.Fresh.{Fresh}
use Rattle.uc_term.specs.declared.signature.Signature.{Signature}
use Rattle.uc_term.specs.Table.{Table, arity_of}
use Rattle.uc_term.specs.Signatures.{first_constant, same_symbol}
use Rattle.uc_order.specs.Members.{In, in_front, in_rest}
use Rattle.uc_order.specs.Precedence.{IsTotalOn}
use Rattle.uc_order.specs.declared.spec.OrderSpec.{OrderSpec}
use Rattle.uc_order.specs.declared.spec.OrderSpec.TheVariants.{Kbo, Lpo}
use Rattle.uc_order.proofs.Counts.{same_sym}
use Rattle.uc_kbo.specs.declared.weights.Weighed.{Weighed}
use Rattle.uc_kbo.specs.Faults.{weighed}
use Rattle.uc_kbo.specs.Weights.{lighter_of, least_constant, symbol_or}
use Rattle.uc_words.specs.declared.command.OrderWords.{OrderWords}
use Rattle.uc_ordering.specs.Choice.{own_precedence, own_weights, heaviest_constant, ends_in_zero, below_marks, marks_at, with_behind, spec_of, IsChosen}
use Rattle.uc_ordering.specs.Weights.{weight_of}
use Rattle.uc_ordering.specs.Fits.{Fits}
use Rattle.uc_ordering.specs.Meaning.{meaning_of, or_first}
use Rattle.uc_ordering.specs.Premises.{IsSignature, AreMarks}
use Rattle.uc_ordering.specs.Restricting.{is_one_of, weights_beside, restricted}
use Rattle.uc_ordering.proofs.Lists.{In-left, In-right, in_each}
use Rattle.uc_ordering.proofs.Marks.{apart, yes_arity, no_arity, eq_arity}
use Rattle.uc_ordering.proofs.GoodWeights.{FineIn, heaviest_least}
use Rattle.uc_ordering.proofs.Fitting.{fits, good as fine_weight, whole as whole_precedence}

-- MEMBERS

one_of : (gs : List Sym) (f : Sym) → In gs f → is_one_of gs f ≡ true
one_of [] f i = elim i [ ]
one_of (f ∷ gs) _ in_front = ap (λ b. b || list_any (same_symbol f) gs) (eq-eqb f.0 f.0 refl)
one_of (g ∷ gs) f (in_rest i) = go (f.0 == g.0) (one_of gs f i)
  where
    go : (b : Bool) → is_one_of gs f ≡ true → (b || is_one_of gs f) ≡ true
    go true e = refl
    go false e = e

is_among : (gs : List Sym) (f : Sym) → is_one_of gs f ≡ true → In gs f
is_among [] f e = absurd cc
is_among (g ∷ gs) f e = go (f.0 == g.0) refl e (is_among gs f)
  where
    go : (b : Bool) → (f.0 == g.0) ≡ b → (b || is_one_of gs f) ≡ true → (is_one_of gs f ≡ true → In gs f) → In (g ∷ gs) f
    go true q e later = subst (λ (h : Sym). In (h ∷ gs) f) (same_sym f g (eqb-true f.0 g.0 q)) in_front
    go false q e later = in_rest (later e)

none_of : (gs : List Sym) (f : Sym) → (In gs f → ⊥) → is_one_of gs f ≡ false
none_of gs f n = go (is_one_of gs f) refl
  where
    go : (b : Bool) → is_one_of gs f ≡ b → b ≡ false
    go true e = absurd (n (is_among gs f e))
    go false e = refl

same_take : {A B : Type 0} (n : ℕ) (xs : List A) (ys : List B) → length xs ≡ length ys → length (take n xs) ≡ length (take n ys)
same_take n xs ys e = length-take n xs ∙ ap (min n) e ∙ sym (length-take n ys)

same_drop : {A B : Type 0} (n : ℕ) (xs : List A) (ys : List B) → length xs ≡ length ys → length (drop n xs) ≡ length (drop n ys)
same_drop n xs ys e = length-drop n xs ∙ ap (λ k. k - n) e ∙ sym (length-drop n ys)

-- PRECEDENCES

module _ (own : List Sym) where
  all_kept : (xs : List Sym) → ((f : Sym) → In xs f → In own f) → filter (is_one_of own) xs ≡ xs
  all_kept [] h = refl
  all_kept (f ∷ xs) h = ap (λ b. cond b (f ∷ filter (is_one_of own) xs) (filter (is_one_of own) xs)) (one_of own f (h f in_front)) ∙ ap (λ l. f ∷ l) (all_kept xs (λ g i. h g (in_rest i)))

  none_kept : (xs : List Sym) → ((f : Sym) → In xs f → In own f → ⊥) → filter (is_one_of own) xs ≡ []
  none_kept [] h = refl
  none_kept (f ∷ xs) h = ap (λ b. cond b (f ∷ filter (is_one_of own) xs) (filter (is_one_of own) xs)) (none_of own f (h f in_front)) ∙ none_kept xs (λ g i. h g (in_rest i))

  beside_all : (xs : List Sym) (us : List ℕ) → length us ≡ length xs → ((f : Sym) → In xs f → In own f) → weights_beside own xs us ≡ us
  beside_all [] [] e h = refl
  beside_all [] (u ∷ us) e h = absurd (omega (arith, e))
  beside_all (f ∷ xs) [] e h = absurd (omega (arith, e))
  beside_all (f ∷ xs) (u ∷ us) e h = ap (λ b. if b then u ∷ weights_beside own xs us else weights_beside own xs us) (one_of own f (h f in_front)) ∙ ap (λ l. u ∷ l) (beside_all xs us (omega (arith, e)) (λ g i. h g (in_rest i)))

  beside_none : (xs : List Sym) (us : List ℕ) → ((f : Sym) → In xs f → In own f → ⊥) → weights_beside own xs us ≡ []
  beside_none [] us h = refl
  beside_none (f ∷ xs) [] h = refl
  beside_none (f ∷ xs) (u ∷ us) h = ap (λ b. if b then u ∷ weights_beside own xs us else weights_beside own xs us) (none_of own f (h f in_front)) ∙ beside_none xs us (λ g i. h g (in_rest i))

  beside-append : (xs ys : List Sym) (us vs : List ℕ) → length us ≡ length xs → weights_beside own (xs ++ ys) (us ++ vs) ≡ weights_beside own xs us ++ weights_beside own ys vs
  beside-append [] ys [] vs e = refl
  beside-append [] ys (u ∷ us) vs e = absurd (omega (arith, e))
  beside-append (f ∷ xs) ys [] vs e = absurd (omega (arith, e))
  beside-append (f ∷ xs) ys (u ∷ us) vs e = go (is_one_of own f) (beside-append xs ys us vs (omega (arith, e)))
    where
      go : (b : Bool) → weights_beside own (xs ++ ys) (us ++ vs) ≡ weights_beside own xs us ++ weights_beside own ys vs → (if b then u ∷ weights_beside own (xs ++ ys) (us ++ vs) else weights_beside own (xs ++ ys) (us ++ vs)) ≡ (if b then u ∷ weights_beside own xs us else weights_beside own xs us) ++ weights_beside own ys vs
      go true later = ap (λ l. u ∷ l) later
      go false later = later

  -- foreign symbols somewhere in a precedence of own ones
  module _ (precedence : List Sym) (known : (f : Sym) → In precedence f → In own f) (foreign : List Sym) (others : (f : Sym) → In foreign f → In own f → ⊥) (n : ℕ) where
    parts : take n precedence ++ drop n precedence ≡ precedence
    parts = take-append-drop n precedence

    front_known : (f : Sym) → In (take n precedence) f → In own f
    front_known f i = known f (subst (λ (l : List Sym). In l f) parts (In-left (take n precedence) (drop n precedence) f i))

    back_known : (f : Sym) → In (drop n precedence) f → In own f
    back_known f i = known f (subst (λ (l : List Sym). In l f) parts (In-right (take n precedence) (drop n precedence) f i))

    kept_precedence : filter (is_one_of own) (with_behind n precedence foreign) ≡ precedence
    kept_precedence =
        let keep = is_one_of own in
        let front = take n precedence in
        let back = drop n precedence in
        let whole : filter keep ((front ++ foreign) ++ back) ≡ (filter keep front ++ filter keep foreign) ++ filter keep back = filter-append keep (front ++ foreign) back ∙ ap (λ l. l ++ filter keep back) (filter-append keep front foreign) in
        let first : filter keep front ++ filter keep foreign ≡ front = ap₂ ◌++◌ (all_kept front front_known) (none_kept foreign others) ∙ append-nil front in
        whole ∙ ap₂ ◌++◌ first (all_kept back back_known) ∙ parts

    kept_weights : (weights more_weights : List ℕ) → length weights ≡ length precedence → length more_weights ≡ length foreign → weights_beside own (with_behind n precedence foreign) (with_behind n weights more_weights) ≡ weights
    kept_weights weights more_weights e q =
        let front = take n precedence in
        let back = drop n precedence in
        let light = take n weights in
        let rest = drop n weights in
        let a : length light ≡ length front = same_take n weights precedence e in
        let front_length : length (light ++ more_weights) ≡ length (front ++ foreign) = length-append light more_weights ∙ ap₂ ◌+◌ a q ∙ sym (length-append front foreign) in
        let d : length rest ≡ length back = same_drop n weights precedence e in
        let whole = beside-append (front ++ foreign) back (light ++ more_weights) rest front_length in
        let first : weights_beside own (front ++ foreign) (light ++ more_weights) ≡ light = beside-append front foreign light more_weights a ∙ ap₂ ◌++◌ (beside_all front light a front_known) (beside_none foreign more_weights others) ∙ append-nil light in
        whole ∙ ap₂ ◌++◌ first (beside_all back rest d back_known) ∙ take-append-drop n weights

-- THE LEAST CONSTANT

module _ (table : Table) where
  -- the first constant of a list stands in front of all that is behind
  first_within : (xs ys : List Sym) (c : Sym) → In xs c → arity_of table c ≡ 0 → In xs (or_first (first_constant table (xs ++ ys)))
  first_within [] ys c i z = elim i [ ]
  first_within (f ∷ xs) ys c i z = go (arity_of table f == 0) refl i (first_within xs ys c)
    where
      later_in : {g : Sym} {gs : List Sym} → In (g ∷ gs) c → (arity_of table g == 0) ≡ false → In gs c
      later_in in_front q = absurd (let t = eq-eqb (arity_of table c) 0 z in let bad : true ≡ false = sym t ∙ q in cc)
      later_in (in_rest j) q = j

      go : (b : Bool) → (arity_of table f == 0) ≡ b → In (f ∷ xs) c → (In xs c → arity_of table c ≡ 0 → In xs (or_first (first_constant table (xs ++ ys)))) → In (f ∷ xs) (or_first (if b then Some f else first_constant table (xs ++ ys)))
      go true q j later = in_front
      go false q j later = in_rest (later (later_in j q) z)

  -- weights behind which the encoding's symbols come
  module _ (w0 heavy : ℕ) (w : Sym → ℕ) (yes no eq : Sym) (yes_bare : arity_of table yes ≡ 0) (no_bare : arity_of table no ≡ 0) (eq_binary : arity_of table eq ≡ 2) where
    abbrev marks : List Sym
    marks = yes ∷ no ∷ eq ∷ []

    abbrev their : List ℕ
    their = heavy ∷ heavy ∷ w0 ∷ []

    abbrev entry : Sym → ℕ → Weighed
    entry f v = record { symbol = f; arity = arity_of table f; weight = v }

    abbrev HasNoConstant : List Sym → Type 0
    HasNoConstant fs = (c : Sym) → In fs c → arity_of table c ≡ 0 → ⊥

    -- the lightest constant is one of these; or they have none, and it weighs as much as the encoding's
    abbrev IsWithin : List Sym → Option Weighed → Type 0
    IsWithin fs None = HasNoConstant fs
    IsWithin fs (Some e) = In fs e.symbol ⊎ ((e.weight ≡ heavy) × HasNoConstant fs)

    lighter_within : (f : Sym) (fs : List Sym) (o : Option Weighed) → w f ≤ heavy → IsWithin fs o → IsWithin (f ∷ fs) (lighter_of (entry f (w f)) o)
    lighter_within f fs None le h = inl in_front
    lighter_within f fs (Some d) le h = go (nat_lt d.weight (w f)) refl h
      where
        lower : nat_lt d.weight (w f) ≡ true → d.weight < w f
        lower e = grind (arith, nat_tests)

        go : (b : Bool) → nat_lt d.weight (w f) ≡ b → In fs d.symbol ⊎ ((d.weight ≡ heavy) × HasNoConstant fs) → IsWithin (f ∷ fs) (if b then Some d else Some (entry f (w f)))
        go true q (inl i) = inl (in_rest i)
        go true q (inr p) = absurd (let l = lower q in omega (arith, l, le, p.0))
        go false q k = inl in_front

    no_constant : (f : Sym) (fs : List Sym) → (arity_of table f == 0) ≡ false → HasNoConstant fs → HasNoConstant (f ∷ fs)
    no_constant f fs q n c i z = go i q
      where
        go : {g : Sym} → In (g ∷ fs) c → (arity_of table g == 0) ≡ false → ⊥
        go in_front p = let t = eq-eqb (arity_of table c) 0 z in let bad : true ≡ false = sym t ∙ p in absurd cc
        go (in_rest j) p = n c j z

    -- one more symbol in front
    more_within : (f : Sym) (fs : List Sym) (es : List Weighed) → (arity_of table f ≡ 0 → w f ≤ heavy) → IsWithin fs (least_constant es) → IsWithin (f ∷ fs) (least_constant (entry f (w f) ∷ es))
    more_within f fs es le h = go (arity_of table f == 0) refl (least_constant es) h
      where
        kept : (o : Option Weighed) → (arity_of table f == 0) ≡ false → IsWithin fs o → IsWithin (f ∷ fs) o
        kept None q n = no_constant f fs q n
        kept (Some e) q (inl i) = inl (in_rest i)
        kept (Some e) q (inr p) = inr (p.0, no_constant f fs q p.1)

        go : (b : Bool) → (arity_of table f == 0) ≡ b → (o : Option Weighed) → IsWithin fs o → IsWithin (f ∷ fs) (if b then lighter_of (entry f (w f)) o else o)
        go true q o k = lighter_within f fs o (le (eqb-true (arity_of table f) 0 q)) k
        go false q o k = kept o q k

    -- the encoding's symbols in front of what has no constant
    marks_within : (fs : List Sym) (es : List Weighed) → HasNoConstant fs → least_constant es ≡ None → IsWithin fs (least_constant (entry yes heavy ∷ entry no heavy ∷ entry eq w0 ∷ es))
    marks_within fs es n none =
        let behind_eq : least_constant (entry eq w0 ∷ es) ≡ None = ap (λ k. if k == 0 then lighter_of (entry eq w0) (least_constant es) else least_constant es) eq_binary ∙ none in
        let behind_no : least_constant (entry no heavy ∷ entry eq w0 ∷ es) ≡ Some (entry no heavy) = ap (λ k. if k == 0 then lighter_of (entry no heavy) (least_constant (entry eq w0 ∷ es)) else least_constant (entry eq w0 ∷ es)) no_bare ∙ ap (lighter_of (entry no heavy)) behind_eq in
        let all : least_constant (entry yes heavy ∷ entry no heavy ∷ entry eq w0 ∷ es) ≡ lighter_of (entry yes heavy) (Some (entry no heavy)) = ap (λ k. if k == 0 then lighter_of (entry yes heavy) (least_constant (entry no heavy ∷ entry eq w0 ∷ es)) else least_constant (entry no heavy ∷ entry eq w0 ∷ es)) yes_bare ∙ ap (lighter_of (entry yes heavy)) behind_no in
        subst (IsWithin fs) (sym all) (go (nat_lt heavy heavy))
      where
        go : (b : Bool) → IsWithin fs (if b then Some (entry no heavy) else Some (entry yes heavy))
        go true = inr (refl, n)
        go false = inr (refl, n)

    none_there : HasNoConstant []
    none_there c i z = elim i [ ]

    -- behind a first symbol of two or more they come as behind the others
    one_below : (x y : ℕ) (ys : List ℕ) → below_marks (x ∷ y ∷ ys) ≡ suc (below_marks (y ∷ ys))
    one_below x y ys = go (ends_in_zero (y ∷ ys))
      where
        go : (b : Bool) → (if b then length (x ∷ y ∷ ys) - 1 else length (x ∷ y ∷ ys)) ≡ suc (if b then length (y ∷ ys) - 1 else length (y ∷ ys))
        go true = omega arith
        go false = refl

    -- all symbols of these weights, with the encoding's behind those that weigh something
    abbrev all_of : List Sym → List Weighed
    all_of fs = weighed table (with_behind (below_marks (map w fs)) fs marks) (with_behind (below_marks (map w fs)) (map w fs) their)

    least_within : (fs : List Sym) → ((f : Sym) → In fs f → arity_of table f ≡ 0 → w f ≤ heavy) → ((f : Sym) → In fs f → w f ≡ 0 → arity_of table f ≡ 0 → ⊥) → IsWithin fs (least_constant (all_of fs))
    least_within [] light some = marks_within [] [] none_there refl
    least_within (f ∷ []) light some = go (w f == 0) refl
      where
        bare : (w f == 0) ≡ true → (arity_of table f == 0) ≡ false
        bare q = at (arity_of table f == 0) refl
          where
            at : (b : Bool) → (arity_of table f == 0) ≡ b → b ≡ false
            at true e = absurd (some f in_front (eqb-true (w f) 0 q) (eqb-true (arity_of table f) 0 e))
            at false e = refl

        go : (b : Bool) → (w f == 0) ≡ b → IsWithin (f ∷ []) (least_constant (weighed table (with_behind (if b then 0 else 1) (f ∷ []) marks) (with_behind (if b then 0 else 1) (w f ∷ []) their)))
        go true q = marks_within (f ∷ []) (entry f (w f) ∷ []) (no_constant f [] (bare q) none_there) (ap (λ b. if b then Some (entry f (w f)) else None) (bare q))
        go false q = more_within f [] (entry yes heavy ∷ entry no heavy ∷ entry eq w0 ∷ []) (light f in_front) (marks_within [] [] none_there refl)
    least_within (f ∷ g ∷ gs) light some =
        rw (one_below (w f) (w g) (map w gs)) (more_within f (g ∷ gs) (all_of (g ∷ gs)) (light f in_front) (least_within (g ∷ gs) (λ h i. light h (in_rest i)) (λ h i. some h (in_rest i))))

    pub least_is_within : (fs : List Sym) → ((f : Sym) → In fs f → arity_of table f ≡ 0 → w f ≤ heavy) → ((f : Sym) → In fs f → w f ≡ 0 → arity_of table f ≡ 0 → ⊥) → (c : Sym) → In fs c → arity_of table c ≡ 0 → In fs (symbol_or (least_constant (all_of fs)))
    least_is_within fs light some c i z = go (least_constant (all_of fs)) (least_within fs light some)
      where
        go : (o : Option Weighed) → IsWithin fs o → In fs (symbol_or o)
        go None n = absurd (n c i z)
        go (Some e) (inl j) = j
        go (Some e) (inr p) = absurd (p.1 c i z)

-- THE ORDER

module _ (table : Table) (signature : Signature) (words : OrderWords) (some : 1 ≤ words.w0) (most : words.w0 ≤ 1000000) (is : IsSignature table signature) (own : OrderSpec) (is_own : IsChosen table signature words None own) (marks : Fresh) (are : AreMarks table signature (Some marks)) where
  abbrev own_list : List Sym
  own_list = own_precedence table signature words

  abbrev weights : List ℕ
  weights = own_weights table signature words

  abbrev three : List Sym
  three = marks.yes ∷ marks.no ∷ marks.eq ∷ []

  abbrev their_weights : List ℕ
  their_weights = heaviest_constant table signature words ∷ heaviest_constant table signature words ∷ words.w0 ∷ []

  own_fits : Fits table signature.symbols (spec_of words.lpo words.w0 weights own_list)
  own_fits = subst (Fits table signature.symbols) is_own.is (fits table signature words some most is None own is_own tt)

  total : IsTotalOn signature.symbols own_list
  total = whole_precedence table signature words some most is None own is_own

  known : (f : Sym) → In own_list f → In signature.symbols f
  known f i = in_each (In signature.symbols) own_list f total.0 i

  foreign : (f : Sym) → In three f → In signature.symbols f → ⊥
  foreign f i j = (apart table signature marks are).others f j i

  as_many : length weights ≡ length own_list
  as_many = length-map own_list (weight_of table words.w0 words.weights)

  restricted_by : (lpo : Bool) → restricted signature.symbols (spec_of lpo words.w0 (with_behind (marks_at lpo weights) weights their_weights) (with_behind (marks_at lpo weights) own_list three)) ≡ spec_of lpo words.w0 weights own_list
  restricted_by true = ap Lpo (kept_precedence signature.symbols own_list known three foreign (length weights))
  restricted_by false = ap₂ (Kbo words.w0) (kept_weights signature.symbols own_list known three foreign (below_marks weights) weights their_weights as_many refl) (kept_precedence signature.symbols own_list known three foreign (below_marks weights))

  module _ (whole : OrderSpec) (is_whole : IsChosen table signature words (Some marks) whole) where
    -- without the encoding's symbols it is the order of the problem itself
    pub own_part : restricted signature.symbols whole ≡ own
    own_part = ap (restricted signature.symbols) is_whole.is ∙ restricted_by words.lpo ∙ sym is_own.is

    good : (f : Sym) → In own_list f → FineIn table words.w0 some most own_list f (weight_of table words.w0 words.weights f)
    good f i = fine_weight table signature words some most is None own is_own f (known f i)

    light : (f : Sym) → In own_list f → arity_of table f ≡ 0 → weight_of table words.w0 words.weights f ≤ heaviest_constant table signature words
    light f i z = heaviest_least table (weight_of table words.w0 words.weights) signature.symbols 0 f (known f i) z

    weighs : (f : Sym) → In own_list f → weight_of table words.w0 words.weights f ≡ 0 → arity_of table f ≡ 0 → ⊥
    weighs f i zero_weight z = let unary : arity_of table f ≡ 1 = ((good f i).vanishing zero_weight).0 in absurd (omega (arith, z, unary))

    abbrev constant : Sym
    constant = own_fits.constant.0

    constant_there : In own_list constant
    constant_there = in_each (In own_list) signature.symbols constant total.2 own_fits.constant.1.0

    constant_bare : arity_of table constant ≡ 0
    constant_bare = own_fits.constant.1.1

    least_by : (lpo : Bool) → In signature.symbols (meaning_of table (spec_of lpo words.w0 (with_behind (marks_at lpo weights) weights their_weights) (with_behind (marks_at lpo weights) own_list three))).least
    least_by true =
        let front : take (length weights) own_list ≡ own_list = take_all (length weights) own_list (omega (arith, as_many)) in
        let back = three ++ drop (length weights) own_list in
        let whole_is : with_behind (length weights) own_list three ≡ own_list ++ back = append_assoc (take (length weights) own_list) three (drop (length weights) own_list) ∙ ap (λ (l : List Sym). l ++ back) front in
        subst (λ (l : List Sym). In signature.symbols (or_first (first_constant table l))) (sym whole_is) (known (or_first (first_constant table (own_list ++ back))) (first_within table own_list back constant constant_there constant_bare))
    least_by false =
        let heavy = heaviest_constant table signature words in
        known _ (least_is_within table words.w0 heavy (weight_of table words.w0 words.weights) marks.yes marks.no marks.eq (yes_arity table signature marks are) (no_arity table signature marks are) (eq_arity table signature marks are) own_list light weighs constant constant_there constant_bare)

    -- and its least constant is one of the problem's own symbols
    pub own_least : In signature.symbols (meaning_of table whole).least
    own_least = subst (λ (o : OrderSpec). In signature.symbols (meaning_of table o).least) (sym is_whole.is) (least_by words.lpo)
