-- What rules give, where only what lives is asked for.
use Rattle.std.proofs.Common.{append_assoc, ◌≡◌, true, false, List, [], ◌∷◌, ◌++◌, Option, refl, sym, ap, ◌∙◌, inl, inr}
use Rattle.std.proofs.lemmas.Bool.{cases_Bool}
use Rattle.uc_term.specs.Tree.{Tree}
use Rattle.uc_term.specs.declared.equation.Side.TheVariants.{Left, Right}
use Rattle.uc_fact.specs.declared.index.Found.{Found}
use Rattle.uc_fact.specs.Live.{Live, Rule, rule_of, rules_of}
use Rattle.uc_fact.specs.Retrieval.{Generalises, no_rules, is_instance, is_no_instance, IsFound, by_first, by_later, FirstThat, no_rule_left, accepted, not_accepted}
use Rattle.uc_shelf.specs.declared.entry.Entry.{Entry}
use Rattle.uc_shelf.specs.Entries.{is_dead}
use Rattle.uc_shelf.specs.Viewing.{still_living, found_living}

module _ (all : List Entry) (t : Tree) where
  -- the list

  drop_given : (rule : Rule) (xs ys : List Rule) (list : List Found) → is_dead all rule.number ≡ true → Generalises t (rule ∷ xs) list → ((rest : List Found) → Generalises t xs rest → Generalises t ys (found_living all rest)) → Generalises t ys (found_living all list)
  drop_given rule xs ys _ d (is_instance {list = ls} m g) k = rw d (k ls g)
  drop_given rule xs ys list d (is_no_instance n g) k = k list g

  keep_given : (rule : Rule) (xs ys : List Rule) (list : List Found) → is_dead all rule.number ≡ false → Generalises t (rule ∷ xs) list → ((rest : List Found) → Generalises t xs rest → Generalises t ys (found_living all rest)) → Generalises t (rule ∷ ys) (found_living all list)
  keep_given rule xs ys _ d (is_instance {list = ls} m g) k = rw d (is_instance m (k ls g))
  keep_given rule xs ys list d (is_no_instance n g) k = is_no_instance n (k list g)

  pub gen_living : (fs : List Live) (list : List Found) → Generalises t (rules_of fs) list → Generalises t (rules_of (still_living all fs)) (found_living all list)
  gen_living [] list no_rules = no_rules
  gen_living (f ∷ fs) list g = elim (cases_Bool (is_dead all f.number)) as (λ _. Generalises t (rules_of (still_living all (f ∷ fs))) (found_living all list)) [
    | inl b ↦ rw b (drop_given (rule_of Left f) (rule_of Right f ∷ rules_of fs) (rules_of (still_living all fs)) list b g (λ rest h. drop_given (rule_of Right f) (rules_of fs) (rules_of (still_living all fs)) rest b h (gen_living fs)))
    | inr b ↦ rw b (keep_given (rule_of Left f) (rule_of Right f ∷ rules_of fs) (rule_of Right f ∷ rules_of (still_living all fs)) list b g (λ rest h. keep_given (rule_of Right f) (rules_of fs) (rules_of (still_living all fs)) rest b h (gen_living fs)))
  ]

  -- one of it

  drop_found : (rule : Rule) (rules : List Rule) (found : Found) (from to : Tree) → is_dead all rule.number ≡ true → is_dead all found.fact ≡ false → IsFound t (rule ∷ rules) found from to → IsFound t rules found from to
  drop_found rule rules _ _ _ d a (by_first m) = absurd (let e : true ≡ false = sym d ∙ a in cc)
  drop_found rule rules found from to d a (by_later i) = i

  keep_found : (rule : Rule) (xs ys : List Rule) (found : Found) (from to : Tree) → IsFound t (rule ∷ xs) found from to → (IsFound t xs found from to → IsFound t ys found from to) → IsFound t (rule ∷ ys) found from to
  keep_found rule xs ys _ _ _ (by_first m) k = by_first m
  keep_found rule xs ys found from to (by_later i) k = by_later (k i)

  pub living_found : (fs : List Live) (found : Found) (from to : Tree) → is_dead all found.fact ≡ false → IsFound t (rules_of fs) found from to → IsFound t (rules_of (still_living all fs)) found from to
  living_found [] found from to a i = elim i [ ]
  living_found (f ∷ fs) found from to a i = elim (cases_Bool (is_dead all f.number)) as (λ _. IsFound t (rules_of (still_living all (f ∷ fs))) found from to) [
    | inl b ↦ rw b (living_found fs found from to a (drop_found (rule_of Right f) (rules_of fs) found from to b a (drop_found (rule_of Left f) (rule_of Right f ∷ rules_of fs) found from to b a i)))
    | inr b ↦ rw b (keep_found (rule_of Left f) (rule_of Right f ∷ rules_of fs) (rule_of Right f ∷ rules_of (still_living all fs)) found from to i (λ h. keep_found (rule_of Right f) (rules_of fs) (rules_of (still_living all fs)) found from to h (living_found fs found from to a)))
  ]

  -- the first that is accepted
  module _ (Accepted : Found → Type 0) where
    abbrev Both : Found → Type 0
    Both found = (is_dead all found.fact ≡ false) × Accepted found

    drop_first : (rule : Rule) (rules : List Rule) (o : Option Found) → is_dead all rule.number ≡ true → FirstThat Both t (rule ∷ rules) o → FirstThat Both t rules o
    drop_first rule rules _ d (accepted m a) = absurd (let e : true ≡ false = sym d ∙ a.0 in cc)
    drop_first rule rules o d (not_accepted n h) = h

    keep_first : (rule : Rule) (xs ys : List Rule) (o : Option Found) → is_dead all rule.number ≡ false → FirstThat Both t (rule ∷ xs) o → ((q : Option Found) → FirstThat Both t xs q → FirstThat Accepted t ys q) → FirstThat Accepted t (rule ∷ ys) o
    keep_first rule xs ys _ d (accepted m a) k = accepted m a.1
    keep_first rule xs ys o d (not_accepted n h) k = not_accepted (λ p m a. n p m (d, a)) (k o h)

    pub first_living : (fs : List Live) (o : Option Found) → FirstThat Both t (rules_of fs) o → FirstThat Accepted t (rules_of (still_living all fs)) o
    first_living [] _ no_rule_left = no_rule_left
    first_living (f ∷ fs) o h = elim (cases_Bool (is_dead all f.number)) as (λ _. FirstThat Accepted t (rules_of (still_living all (f ∷ fs))) o) [
      | inl b ↦ rw b (first_living fs o (drop_first (rule_of Right f) (rules_of fs) o b (drop_first (rule_of Left f) (rule_of Right f ∷ rules_of fs) o b h)))
      | inr b ↦ rw b (keep_first (rule_of Left f) (rule_of Right f ∷ rules_of fs) (rule_of Right f ∷ rules_of (still_living all fs)) o b h (λ q i. keep_first (rule_of Right f) (rules_of fs) (rules_of (still_living all fs)) q b i (first_living fs)))
    ]

-- what lives of a list, one by one

pub living_kept : (all : List Entry) (x : Found) (old rest new : List Found) → is_dead all x.fact ≡ false → new ≡ old ++ x ∷ [] → new ++ found_living all rest ≡ old ++ found_living all (x ∷ rest)
living_kept all x old rest new d is = rw d (ap (λ z. z ++ found_living all rest) is ∙ append_assoc old (x ∷ []) (found_living all rest))

pub living_past : (all : List Entry) (x : Found) (old rest : List Found) → is_dead all x.fact ≡ true → old ++ found_living all rest ≡ old ++ found_living all (x ∷ rest)
living_past all x old rest d = rw d refl
