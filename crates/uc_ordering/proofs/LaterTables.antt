-- The order that options name is the same in every later table.
use Rattle.std.proofs.Common.{◌≡◌, ℕ, zero, suc, ◌+◌, ◌≤◌, ◌==◌, ◌&&◌, ◌||◌, not, nat_lt, max, fold, cond, Bool, List, [], ◌∷◌, ◌++◌, map, filter, find, is_none, unwrap_or, bytes_eq, Option, Some, None, if◌then◌else◌, refl, sym, ap, ap₂, ◌∙◌}
use Rattle.std.specs.List.{list_any, filter_map}
use Rattle.std.proofs.Math.Path.{fun_ext}
use Rattle.uc_term.specs.declared.node.Sym.{Sym}
use Rattle.uc_term.specs.declared.signature.Signature.{Signature}
use Rattle.uc_term.specs.Table.{Table, Grows, Has, name_of, arity_of}
use Rattle.uc_term.specs.Signatures.{first_named, first_constant}
use Rattle.uc_term.proofs.Grown.{name-grows, arity-grows}
use Rattle.uc_order.specs.Members.{In, in_front, in_rest}
use Rattle.uc_order.specs.declared.spec.OrderSpec.{OrderSpec}
use Rattle.uc_order.specs.declared.spec.OrderSpec.TheVariants.{Kbo, Lpo}
use Rattle.uc_kbo.specs.Faults.{weighed}
use Rattle.uc_kbo.specs.Weights.{kbo_meaning}
use Rattle.uc_lpo.specs.Meaning.{meaning_of as lpo_meaning}
use Rattle.uc_words.specs.declared.command.OrderWords.{OrderWords}
use Rattle.uc_ordering.specs.Choice.{own_symbols, own_precedence, own_weights, weighed_names, spec_of, IsChosen}
use Rattle.uc_ordering.specs.Precedence.{of_arity, of_less, greatest_arity, by_arity, is_named, unnamed, symbols_named}
use Rattle.uc_ordering.specs.Weights.{weight_given, weight_of, is_last, is_bad_at, is_bad_for}
use Rattle.uc_ordering.specs.Meaning.{meaning_of, or_first}
use Rattle.uc_ordering.specs.Premises.{IsSignature}
use Rattle.uc_ordering.proofs.Lists.{filter-In, in_each}
use Rattle.uc_ordering.proofs.Signatures.{found_is, signed_own}
use Rattle.uc_ordering.proofs.Fitting.{whole}

-- LISTS

filter_same : {A : Type 0} (p q : A → Bool) (xs : List A) → ((x : A) → In xs x → p x ≡ q x) → filter p xs ≡ filter q xs
filter_same p q [] h = refl
filter_same p q (x ∷ xs) h = ap₂ (λ b l. cond b (x ∷ l) l) (h x in_front) (filter_same p q xs (λ y i. h y (in_rest i)))

map_same : {A B : Type 0} (f g : A → B) (xs : List A) → ((x : A) → In xs x → f x ≡ g x) → map f xs ≡ map g xs
map_same f g [] h = refl
map_same f g (x ∷ xs) h = ap₂ (λ y l. y ∷ l) (h x in_front) (map_same f g xs (λ y i. h y (in_rest i)))

fold_same : {A B : Type 0} (f g : B → A → B) (b : B) (xs : List A) → ((c : B) (x : A) → In xs x → f c x ≡ g c x) → fold f b xs ≡ fold g b xs
fold_same f g b [] h = refl
fold_same f g b (x ∷ xs) h = fold_same f g (f b x) xs (λ c y i. h c y (in_rest i)) ∙ ap (λ c. fold g c xs) (h b x in_front)

-- the symbols that a description names
abbrev pub symbols_of : OrderSpec → List Sym
symbols_of (Kbo w0 weights precedence) = precedence
symbols_of (Lpo precedence) = precedence

module _ (old new : Table) (grows : Grows old new) where
  -- PRECEDENCES

  abbrev AreOld : List Sym → Type 0
  AreOld fs = (f : Sym) → In fs f → Has old f

  name_same : (f : Sym) → Has old f → name_of new f ≡ name_of old f
  name_same f h = name-grows old new grows f h

  arity_same : (f : Sym) → Has old f → arity_of new f ≡ arity_of old f
  arity_same f h = arity-grows old new grows f h

  of_arity_same : (n : ℕ) (fs : List Sym) → AreOld fs → of_arity new n fs ≡ of_arity old n fs
  of_arity_same n fs h = filter_same (λ f. arity_of new f == n) (λ f. arity_of old f == n) fs (λ f i. ap (λ k. k == n) (arity_same f (h f i)))

  of_less_same : (n : ℕ) (fs : List Sym) → AreOld fs → of_less new n fs ≡ of_less old n fs
  of_less_same zero fs h = refl
  of_less_same (suc n) fs h = ap₂ ◌++◌ (of_less_same n fs h) (of_arity_same n fs h)

  by_arity_same : (fs : List Sym) → AreOld fs → by_arity new fs ≡ by_arity old fs
  by_arity_same fs h =
      let greatest : greatest_arity new fs ≡ greatest_arity old fs = fold_same (λ n f. max n (arity_of new f)) (λ n f. max n (arity_of old f)) 0 fs (λ n f i. ap (max n) (arity_same f (h f i))) in
      ap (λ n. of_less new (n + 1) fs) greatest ∙ of_less_same (greatest_arity old fs + 1) fs h

  unnamed_same : (names : List (List ℕ)) (fs : List Sym) → AreOld fs → unnamed new names fs ≡ unnamed old names fs
  unnamed_same names fs h = filter_same (λ f. not (is_named new names f)) (λ f. not (is_named old names f)) fs (λ f i. ap (λ x. not (list_any (bytes_eq x) names)) (name_same f (h f i)))

  unnamed_old : (names : List (List ℕ)) (fs : List Sym) → AreOld fs → AreOld (unnamed old names fs)
  unnamed_old names fs h f i = h f (filter-In (λ g. not (is_named old names g)) fs f i).0

  named_same : (name : List ℕ) (fs : List Sym) → AreOld fs → first_named new name fs ≡ first_named old name fs
  named_same name [] h = refl
  named_same name (f ∷ fs) h = ap₂ (λ x r. if bytes_eq x name then Some f else r) (name_same f (h f in_front)) (named_same name fs (λ g i. h g (in_rest i)))

  -- ORDERS

  weighed_same : (fs : List Sym) (ws : List ℕ) → AreOld fs → weighed new fs ws ≡ weighed old fs ws
  weighed_same [] ws h = refl
  weighed_same (f ∷ fs) [] h = refl
  weighed_same (f ∷ fs) (w ∷ ws) h = ap₂ (λ a l. record { symbol = f; arity = a; weight = w } ∷ l) (arity_same f (h f in_front)) (weighed_same fs ws (λ g i. h g (in_rest i)))

  first_constant_same : (fs : List Sym) → AreOld fs → first_constant new fs ≡ first_constant old fs
  first_constant_same [] h = refl
  first_constant_same (f ∷ fs) h = ap₂ (λ n r. if n == 0 then Some f else r) (arity_same f (h f in_front)) (first_constant_same fs (λ g i. h g (in_rest i)))

  -- a description of the old table's symbols means the same
  pub meaning_same : (spec : OrderSpec) → AreOld (symbols_of spec) → meaning_of new spec ≡ meaning_of old spec
  meaning_same (Kbo w0 weights precedence) h = ap (kbo_meaning w0) (weighed_same precedence weights h)
  meaning_same (Lpo precedence) h =
      let arities = map_same (arity_of new) (arity_of old) precedence (λ f i. arity_same f (h f i)) in
      ap₂ (λ ns c. lpo_meaning precedence ns c) arities (ap or_first (first_constant_same precedence h))

  -- OPTIONS

  module _ (signature : Signature) (words : OrderWords) (all_old : AreOld signature.symbols) (own_old : AreOld (own_symbols signature)) where
    abbrev own : List Sym
    own = own_symbols signature

    own_named : (name : List ℕ) → first_named new name own ≡ first_named old name own
    own_named name = named_same name own own_old

    precedence_same : own_precedence new signature words ≡ own_precedence old signature words
    precedence_same =
        let rest : by_arity new (unnamed new words.precedence signature.symbols) ≡ by_arity old (unnamed old words.precedence signature.symbols) = ap (by_arity new) (unnamed_same words.precedence signature.symbols all_old) ∙ by_arity_same (unnamed old words.precedence signature.symbols) (unnamed_old words.precedence signature.symbols all_old) in
        let named : symbols_named new own words.precedence ≡ symbols_named old own words.precedence = ap (λ h. filter_map h words.precedence) (fun_ext own_named) in
        ap₂ ◌++◌ rest named

    weight_same : (f : Sym) → Has old f → weight_of new words.w0 words.weights f ≡ weight_of old words.w0 words.weights f
    weight_same f h = ap (λ x. unwrap_or (weight_given words.weights x) words.w0) (name_same f h)

    weights_same : AreOld (own_precedence old signature words) → own_weights new signature words ≡ own_weights old signature words
    weights_same h = ap (map (weight_of new words.w0 words.weights)) precedence_same ∙ map_same (weight_of new words.w0 words.weights) (weight_of old words.w0 words.weights) (own_precedence old signature words) (λ f i. weight_same f (h f i))

    bad_at_same : (precedence : List Sym) (w : ℕ) (o : Option Sym) → ((f : Sym) → o ≡ Some f → Has old f) → is_bad_at new words.w0 precedence o w ≡ is_bad_at old words.w0 precedence o w
    bad_at_same precedence w None h = refl
    bad_at_same precedence w (Some f) h = ap (λ a. nat_lt 1000000 w || (((a == 0) && nat_lt w words.w0) || ((w == 0) && not ((a == 1) && is_last precedence f)))) (arity_same f (h f refl))

    bad_same : (precedence : List Sym) (p : List ℕ × ℕ) → is_bad_for new words.w0 own precedence p ≡ is_bad_for old words.w0 own precedence p
    bad_same precedence p = ap (λ o. is_bad_at new words.w0 precedence o p.1) (own_named p.0) ∙ bad_at_same precedence p.1 (first_named old p.0 own) (λ f e. own_old f (found_is old own p.0 f e).0)

    chosen_same : AreOld (own_precedence old signature words) → (spec : OrderSpec) → IsChosen old signature words None spec → IsChosen new signature words None spec
    chosen_same h spec c = record {
      known = ap (λ p. find p (words.precedence ++ weighed_names words)) (fun_ext (λ name. ap is_none (own_named name))) ∙ c.known;
      once = c.once;
      fit = ap (λ p. find p words.weights) (fun_ext (bad_same (own_precedence new signature words)) ∙ ap (λ l. is_bad_for old words.w0 own l) precedence_same) ∙ c.fit;
      is = c.is ∙ ap₂ (λ ws fs. spec_of words.lpo words.w0 ws fs) (sym (weights_same h)) (sym precedence_same);
    }

  pub chosen_later : (signature : Signature) (words : OrderWords) → 1 ≤ words.w0 → words.w0 ≤ 1000000 → IsSignature old signature → AreOld signature.symbols → (spec : OrderSpec) → IsChosen old signature words None spec → IsChosen new signature words None spec
  chosen_later signature words some most is all_old spec c =
      let own_in = (signed_own old signature is).own_in in
      let total = whole old signature words some most is None spec c in
      chosen_same signature words all_old (λ f i. all_old f (own_in f i)) (λ f i. all_old f (in_each (In signature.symbols) (own_precedence old signature words) f total.0 i)) spec c
