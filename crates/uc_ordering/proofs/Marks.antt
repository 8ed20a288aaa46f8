-- The encoding's symbols are three, and none of the signature's.
use Rattle.std.proofs.Common.{◌≡◌, ℕ, zero, suc, List, [], ◌∷◌, get_or, codes, Some, refl, sym, ap, ◌∙◌, arith}
use Rattle.std.proofs.lemmas.Option.{slice_get_within}
use Rattle.uc_term.specs.declared.node.Sym.{Sym}
use Rattle.uc_term.specs.declared.fresh.Fresh.{Fresh}
use Rattle.uc_term.specs.declared.signature.Signature.{Signature}
use Rattle.uc_term.specs.Table.{Table, Has, name_of, arity_of}
use Rattle.uc_term.specs.Signatures.{first_named, IsFreshFor, tried_name}
use Rattle.uc_order.specs.Members.{Each, In, in_front, in_rest}
use Rattle.uc_ordering.specs.Premises.{AreMarks}
use Rattle.uc_ordering.proofs.Signatures.{symbol_name, symbol_arity, named_none}
use Rattle.uc_ordering.proofs.Totals.{AreApart}

true_begins : (n : ℕ) → get_or (tried_name (codes "true") n) 0 0 ≡ 116
true_begins zero = refl
true_begins (suc n) = refl

false_begins : (n : ℕ) → get_or (tried_name (codes "false") n) 0 0 ≡ 102
false_begins zero = refl
false_begins (suc n) = refl

module _ (table : Table) (signature : Signature) (marks : Fresh) (m : AreMarks table signature (Some marks)) where
  pub yes_arity : arity_of table marks.yes ≡ 0
  yes_arity = symbol_arity table marks.yes (tried_name (codes "true") m.1.number) 0 m.1.symbol

  pub no_arity : arity_of table marks.no ≡ 0
  no_arity = symbol_arity table marks.no (tried_name (codes "false") m.2.number) 0 m.2.symbol

  pub eq_arity : arity_of table marks.eq ≡ 2
  eq_arity = symbol_arity table marks.eq (tried_name (codes "eq") m.0.number) 2 m.0.symbol

  pub marks_have : Each (Has table) (marks.yes ∷ marks.no ∷ marks.eq ∷ [])
  marks_have = (slice_get_within table marks.yes.0 _ m.1.symbol, (slice_get_within table marks.no.0 _ m.2.symbol, (slice_get_within table marks.eq.0 _ m.0.symbol, tt)))

  yes_not_no : marks.yes ≡ marks.no → ⊥
  yes_not_no e =
      let q = sym (symbol_name table marks.yes (tried_name (codes "true") m.1.number) 0 m.1.symbol) ∙ ap (name_of table) e ∙ symbol_name table marks.no (tried_name (codes "false") m.2.number) 0 m.2.symbol in
      let bytes : 116 ≡ 102 = sym (true_begins m.1.number) ∙ ap (λ l. get_or l 0 0) q ∙ false_begins m.2.number in
      absurd (omega (arith, bytes))

  eq_not : (f : Sym) → arity_of table f ≡ 0 → f ≡ marks.eq → ⊥
  eq_not f z e = absurd (let q : 0 ≡ 2 = sym z ∙ ap (arity_of table) e ∙ eq_arity in omega (arith, q))

  one : (f g : Sym) → In (g ∷ []) f → f ≡ g
  one f _ in_front = refl
  one f g (in_rest i) = elim i [ ]

  yes_apart : In (marks.no ∷ marks.eq ∷ []) marks.yes → ⊥
  yes_apart i = go marks.yes refl i
    where
      go : (f : Sym) → f ≡ marks.yes → In (marks.no ∷ marks.eq ∷ []) f → ⊥
      go _ e in_front = yes_not_no (sym e)
      go f e (in_rest j) = eq_not marks.yes yes_arity (sym e ∙ one f marks.eq j)

  other : (word : List ℕ) (n : ℕ) (f : Sym) → IsFreshFor table word n signature.symbols f → In signature.symbols f → ⊥
  other word n f fresh i = named_none table signature.symbols f i (ap (λ l. first_named table l signature.symbols) (symbol_name table f (tried_name word fresh.number) n fresh.symbol) ∙ fresh.free)

  pub apart : AreApart signature.symbols (marks.yes ∷ marks.no ∷ marks.eq ∷ [])
  apart = record {
    three = (yes_apart, (λ i. eq_not marks.no no_arity (one marks.no marks.eq i), ((λ i. elim i [ ]), tt)));
    others = λ f i j. others f i j;
  }
    where
      others : (f : Sym) → In signature.symbols f → In (marks.yes ∷ marks.no ∷ marks.eq ∷ []) f → ⊥
      others _ i in_front = other (codes "true") 0 marks.yes m.1 i
      others _ i (in_rest in_front) = other (codes "false") 0 marks.no m.2 i
      others _ i (in_rest (in_rest in_front)) = other (codes "eq") 2 marks.eq m.0 i
      others f i (in_rest (in_rest (in_rest j))) = elim j [ ]
