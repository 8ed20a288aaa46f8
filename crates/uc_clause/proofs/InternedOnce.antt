-- The table that reading leaves is one.
use Rattle.std.proofs.Common.{◌≡◌, ℕ, List, sym, ap, ◌∙◌, subst}
use Rattle.uc_term.specs.Table.{Table}
use Rattle.uc_clause.specs.declared.token.Token.{Token}
use Rattle.uc_clause.specs.Rules.{Outcome, Rule, read}
use Rattle.uc_clause.specs.Items.{Items, term_alone, equals_alone}
use Rattle.uc_clause.specs.Interning.{Interns, InternsFile, InternsTerm, InternsEquation, with_items, with_term, with_sides}
use Rattle.uc_clause.proofs.Once.{tokens_once}
use Rattle.uc_clause.proofs.ReadOnce.{Once}
use Rattle.uc_clause.proofs.ItemsOnce.{items_once}
use Rattle.uc_clause.proofs.Alone.{term_alone_once, equals_alone_once}

same_parse : {P : Type 0} {p q : P} {k l : ℕ} → Path (Outcome P) (read p k) (read q l) → p ≡ q
same_parse e = cc

module _ {P : Type 0} (rule : List ℕ → List Token → Rule P) (with_all : List ℕ → List Token → Table → P → Table) (bytes : List ℕ) (once : (tokens : List Token) → Once (rule bytes tokens)) where
  interns_once : {old a b : Table} → Interns rule with_all bytes old a → Interns rule with_all bytes old b → a ≡ b
  interns_once {old} x y =
      let tokens : y.tokens ≡ x.tokens = tokens_once y.are_tokens x.are_tokens in
      let reads = subst (λ ts. rule bytes ts 0 (read y.parse y.end)) tokens y.reads in
      let parses : x.parse ≡ y.parse = same_parse (once x.tokens 0 (read x.parse x.end) (read y.parse y.end) x.reads reads) in
      x.new_is ∙ ap (with_all bytes x.tokens old) parses ∙ ap (λ ts. with_all bytes ts old y.parse) (sym tokens) ∙ sym y.new_is

pub file_interns_once : {bytes : List ℕ} {old a b : Table} → InternsFile bytes old a → InternsFile bytes old b → a ≡ b
file_interns_once {bytes} x y = interns_once Items with_items bytes (λ tokens. items_once bytes tokens) x y

pub equation_interns_once : {bytes : List ℕ} {old a b : Table} → InternsEquation bytes old a → InternsEquation bytes old b → a ≡ b
equation_interns_once {bytes} x y = interns_once equals_alone with_sides bytes (λ tokens. equals_alone_once bytes tokens) x y

pub term_interns_once : {bytes : List ℕ} {old a b : Table} → InternsTerm bytes old a → InternsTerm bytes old b → a ≡ b
term_interns_once {bytes} x y = interns_once term_alone with_term bytes (λ tokens. term_alone_once bytes tokens) x y
