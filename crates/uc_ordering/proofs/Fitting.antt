-- What the options name fits the signature.
use Rattle.std.proofs.Common.{◌≡◌, ℕ, ◌+◌, ◌≤◌, Bool, true, false, List, [], ◌∷◌, ◌++◌, length, take, drop, is_none, Option, Some, None, refl, sym, ap, subst, arith, take-append-drop}
use Rattle.std.proofs.lemmas.List.{length-map, length-append}
use Rattle.uc_term.specs.declared.node.Sym.{Sym}
use Rattle.uc_term.specs.declared.fresh.Fresh.{Fresh}
use Rattle.uc_term.specs.declared.signature.Signature.{Signature}
use Rattle.uc_term.specs.Table.{Table, Has}
use Rattle.uc_term.specs.Signatures.{first_named}
use Rattle.uc_order.specs.Members.{In, Each}
use Rattle.uc_order.specs.Precedence.{IsTotalOn}
use Rattle.uc_order.specs.declared.spec.OrderSpec.{OrderSpec}
use Rattle.uc_words.specs.declared.command.OrderWords.{OrderWords}
use Rattle.uc_ordering.specs.Choice.{own_symbols, all_symbols, first_again, first_or, own_precedence, own_weights, heaviest_constant, weighed_names, below_marks, marks_at, with_behind, spec_of, chosen, IsChosen}
use Rattle.uc_ordering.specs.Weights.{weight_of}
use Rattle.uc_ordering.specs.Fits.{Fits, IsTotalSpec, AreWeights}
use Rattle.uc_ordering.specs.Premises.{IsSignature, AreMarks}
use Rattle.uc_ordering.proofs.Lists.{In-left, in_each}
use Rattle.uc_ordering.proofs.Signatures.{Signed, signed_own}
use Rattle.uc_ordering.proofs.Named.{find_none-left, find_none-right}
use Rattle.uc_ordering.proofs.Totals.{total, total_with}
use Rattle.uc_ordering.proofs.Marks.{apart, marks_have, yes_arity, no_arity, eq_arity}
use Rattle.uc_ordering.proofs.GoodWeights.{FineIn, fine, none_bad, none_bad_with, heaviest_least, heaviest_most}

pub both_none : (o p : Option (List ℕ)) → first_or o p ≡ None → (o ≡ None) × (p ≡ None)
both_none None p e = (refl, e)
both_none (Some x) p e = absurd cc

length-with_behind : {A : Type 0} (n : ℕ) (xs ys : List A) → length (with_behind n xs ys) ≡ length xs + length ys
length-with_behind n xs ys =
    let a : length (with_behind n xs ys) ≡ length (take n xs ++ ys) + length (drop n xs) = length-append (take n xs ++ ys) (drop n xs) in
    let b = length-append (take n xs) ys in
    let c = length-append (take n xs) (drop n xs) in
    let d = ap length (take-append-drop n xs) in
    omega (arith, a, b, c, d)

module _ (table : Table) (signature : Signature) (words : OrderWords) (some : 1 ≤ words.w0) (most : words.w0 ≤ 1000000) (is : IsSignature table signature) (fresh : Option Fresh) (spec : OrderSpec) (x : IsChosen table signature words fresh spec) where
  s : Signed table (own_symbols signature) signature
  s = signed_own table signature is

  once : (first_again words.precedence ≡ None) × (first_again (weighed_names words) ≡ None)
  once = both_none (first_again words.precedence) (first_again (weighed_names words)) x.once

  abbrev pub is_unknown : List ℕ → Bool
  is_unknown name = is_none (first_named table name (own_symbols signature))

  pub whole : IsTotalOn signature.symbols (own_precedence table signature words)
  whole = total table (own_symbols signature) signature s words.precedence (find_none-left is_unknown words.precedence (weighed_names words) x.known) once.0

  pub good : (f : Sym) → In signature.symbols f → FineIn table words.w0 some most (own_precedence table signature words) f (weight_of table words.w0 words.weights f)
  good f i = fine table words.w0 some most (own_symbols signature) signature s words.weights (find_none-right is_unknown words.precedence (weighed_names words) x.known) (own_precedence table signature words) x.fit f i

  each_good : (f : Sym) → In (own_precedence table signature words) f → FineIn table words.w0 some most (own_precedence table signature words) f (weight_of table words.w0 words.weights f)
  each_good f i = good f (in_each (In signature.symbols) (own_precedence table signature words) f whole.0 i)

  weighed_as : AreWeights table words.w0 (own_weights table signature words) (own_precedence table signature words)
  weighed_as = record {
    w0_some = some;
    w0_most = most;
    as_many = length-map (own_precedence table signature words) (weight_of table words.w0 words.weights);
    none_bad = none_bad table words.w0 some most (weight_of table words.w0 words.weights) (own_precedence table signature words) whole.1 each_good;
  }

  heavy_some : words.w0 ≤ heaviest_constant table signature words
  heavy_some =
      let c = s.constant in
      omega (arith, (good c.0 c.1.0).constant c.1.1, heaviest_least table (weight_of table words.w0 words.weights) signature.symbols 0 c.0 c.1.0 c.1.1)

  heavy_most : heaviest_constant table signature words ≤ 1000000
  heavy_most = heaviest_most table (weight_of table words.w0 words.weights) signature.symbols 0 1000000 (omega arith) (λ f i. (good f i).bounded)

  plain : (lpo : Bool) → IsTotalSpec table signature.symbols (spec_of lpo words.w0 (own_weights table signature words) (own_precedence table signature words))
  plain true = whole
  plain false = (whole, weighed_as)

  module _ (marks : Fresh) (m : AreMarks table signature (Some marks)) where
    abbrev pub three : List Sym
    three = marks.yes ∷ marks.no ∷ marks.eq ∷ []

    abbrev pub at : ℕ
    at = below_marks (own_weights table signature words)

    abbrev pub heavy : ℕ
    heavy = heaviest_constant table signature words

    abbrev pub their : List ℕ
    their = heavy ∷ heavy ∷ words.w0 ∷ []

    all_total : (place : ℕ) → IsTotalOn (signature.symbols ++ three) (with_behind place (own_precedence table signature words) three)
    all_total place = total_with signature.symbols three (own_precedence table signature words) place whole (apart table signature marks m)

    all_weighed : AreWeights table words.w0 (with_behind at (own_weights table signature words) their) (with_behind at (own_precedence table signature words) three)
    all_weighed = record {
      w0_some = some;
      w0_most = most;
      as_many = (let a = length-with_behind at (own_weights table signature words) their in let b = length-with_behind at (own_precedence table signature words) three in let t : length their ≡ 3 = refl in let u : length three ≡ 3 = refl in omega (arith, a, b, t, u, length-map (own_precedence table signature words) (weight_of table words.w0 words.weights)));
      none_bad = none_bad_with table words.w0 some most (weight_of table words.w0 words.weights) marks.yes marks.no marks.eq heavy (yes_arity table signature marks m) (no_arity table signature marks m) (eq_arity table signature marks m) heavy_some heavy_most (own_precedence table signature words) whole.1 each_good;
    }

    encoded : (lpo : Bool) → IsTotalSpec table (signature.symbols ++ three) (spec_of lpo words.w0 (with_behind (marks_at lpo (own_weights table signature words)) (own_weights table signature words) their) (with_behind (marks_at lpo (own_weights table signature words)) (own_precedence table signature words) three))
    encoded true = all_total (length (own_weights table signature words))
    encoded false = (all_total at, all_weighed)

  each_more : (fs gs : List Sym) → Each (Has table) fs → Each (Has table) gs → Each (Has table) (fs ++ gs)
  each_more [] gs a b = b
  each_more (f ∷ fs) gs a b = (a.0, each_more fs gs a.1 b)

  fitting : (o : Option Fresh) → AreMarks table signature o → Fits table (all_symbols signature o) (chosen table signature words o)
  fitting None m = record { of_table = s.has; constant = s.constant; total = plain words.lpo }
  fitting (Some marks) m = record {
    of_table = each_more signature.symbols (three marks m) s.has (marks_have table signature marks m);
    constant = (s.constant.0, (In-left signature.symbols (three marks m) s.constant.0 s.constant.1.0, s.constant.1.1));
    total = encoded marks m words.lpo;
  }

  pub fits : AreMarks table signature fresh → Fits table (all_symbols signature fresh) spec
  fits m = let P : OrderSpec → Type 0 = Fits table (all_symbols signature fresh) in subst P (sym x.is) (fitting fresh m)
