use Rattle.std.proofs.Common.{arith, sym, ◌∙◌, ◌≡◌, ◌<◌, ◌≤◌, ℕ, length}
use Rattle.std.proofs.lemmas.Bool.Decides.{nat_tests}
use Rattle.uc_clause.proofs.Longest.{tail}
use Rattle.uc_clause.proofs.Dollars.{dollar_at, dollars_at, dollar_alone}
use Rattle.uc_clause.proofs.lexer.dollar.Goals as goal

none_here : (n m : ℕ) → n ≡ m → n ≤ 0 → m ≡ 0
none_here n m e h = omega arith

pub returns-then-n-gt0 : goal.returns-then-n-gt0
returns-then-n-gt0 c = dollar_at c.args.text.now _ c.requires.some c.requires.first c.name_len-n.ensures.value c.if-n-gt0.true

pub returns-then-rest-ne36 : goal.returns-then-rest-ne36
returns-then-rest-ne36 c = dollar_alone c.args.text.now c.requires.some c.requires.first (none_here _ _ c.name_len-n.ensures.value c.if-n-gt0.false) (λ some first. absurd (c.if-rest-ne36.true first))

pub returns-then-is_empty : goal.returns-then-is_empty
returns-then-is_empty c = dollar_alone c.args.text.now c.requires.some c.requires.first (none_here _ _ c.name_len-n.ensures.value c.if-n-gt0.false) (λ some first. absurd (grind (arith, nat_tests)))

pub returns-then-m-eq0 : goal.returns-then-m-eq0
returns-then-m-eq0 c = dollar_alone c.args.text.now c.requires.some c.requires.first (none_here _ _ c.name_len-n.ensures.value c.if-n-gt0.false) (λ some first. sym c.name_len-m.ensures.value ∙ c.if-m-eq0.true)

pub returns : goal.returns
returns c = let some : 0 < length (tail c.args.text.now) = grind (arith, nat_tests) in dollars_at c.args.text.now _ c.requires.some c.requires.first some c.if-rest-ne36.false c.name_len-m.ensures.value c.if-m-eq0.false
