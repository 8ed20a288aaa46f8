-- What a text comes to is one thing.
use Rattle.std.proofs.Common.{◌≡◌, ℕ, ◌≤◌, List, length, refl, ap, arith}
use Rattle.std.specs.Prelude.{Result, Ok, Err}
use Rattle.uc_term.specs.Tree.{Tree}
use Rattle.uc_term.specs.Table.{Table, IsDistinct}
use Rattle.uc_clause.specs.declared.clause.Item.{Item}
use Rattle.uc_clause.specs.declared.fault.ClauseFault.{ClauseFault}
use Rattle.uc_clause.specs.Items.{Items, term_alone, equals_alone}
use Rattle.uc_clause.specs.Reading.{ReadsBy, RefusesFile, is_too_long, isnt_items, SaysItems, SaysTerm, SaysSides, ReadsOrRefusesFile, ReadsOrRefusesTerm, ReadsOrRefusesEquation}
use Rattle.uc_clause.proofs.Whole.{reads_or_not, refused_once, read_once}
use Rattle.uc_clause.proofs.Alone.{term_alone_once, equals_alone_once, says_term_once, says_sides_once}
use Rattle.uc_clause.proofs.ItemsOnce.{items_once, says_items_once}

module _ (table : Table) (bytes : List ℕ) (distinct : IsDistinct table) where
  file_refused_once : (e f : ClauseFault) → RefusesFile bytes e → RefusesFile bytes f → e ≡ f
  file_refused_once _ _ (is_too_long l) (is_too_long m) = refl
  file_refused_once e f (is_too_long l) (isnt_items s r) = absurd (omega arith)
  file_refused_once e f (isnt_items s r) (is_too_long l) = absurd (omega arith)
  file_refused_once e f (isnt_items s r) (isnt_items t q) = refused_once Items (SaysItems table) bytes (λ ts. items_once bytes ts) e f r q

  file_reads_or_not : (items : List Item) (e : ClauseFault) → length bytes ≤ 16777216 → ReadsBy Items (SaysItems table) bytes items → RefusesFile bytes e → ⊥
  file_reads_or_not items e s r (is_too_long l) = absurd (omega arith)
  file_reads_or_not items e s r (isnt_items t q) = reads_or_not Items (SaysItems table) bytes (λ ts. items_once bytes ts) items e r q

  pub file_once : (a b : Result (List Item) ClauseFault) → ReadsOrRefusesFile bytes table a → ReadsOrRefusesFile bytes table b → a ≡ b
  file_once (Ok a) (Ok b) x y = ap Ok (read_once Items (SaysItems table) bytes (λ ts. items_once bytes ts) (λ tokens p v w m n. says_items_once bytes tokens table distinct p v w m n) a b x.reads y.reads)
  file_once (Ok a) (Err e) x y = absurd (file_reads_or_not a e x.small x.reads y)
  file_once (Err e) (Ok b) x y = absurd (file_reads_or_not b e y.small y.reads x)
  file_once (Err e) (Err f) x y = ap Err (file_refused_once e f x y)

  pub term_once : (a b : Result Tree ClauseFault) → ReadsOrRefusesTerm bytes table a → ReadsOrRefusesTerm bytes table b → a ≡ b
  term_once (Ok a) (Ok b) x y = ap Ok (read_once term_alone (SaysTerm table) bytes (λ ts. term_alone_once bytes ts) (λ tokens p v w m n. says_term_once bytes tokens table distinct p v w m n) a b x y)
  term_once (Ok a) (Err e) x y = absurd (reads_or_not term_alone (SaysTerm table) bytes (λ ts. term_alone_once bytes ts) a e x y)
  term_once (Err e) (Ok b) x y = absurd (reads_or_not term_alone (SaysTerm table) bytes (λ ts. term_alone_once bytes ts) b e y x)
  term_once (Err e) (Err f) x y = ap Err (refused_once term_alone (SaysTerm table) bytes (λ ts. term_alone_once bytes ts) e f x y)

  pub equation_once : (a b : Result (Tree × Tree) ClauseFault) → ReadsOrRefusesEquation bytes table a → ReadsOrRefusesEquation bytes table b → a ≡ b
  equation_once (Ok a) (Ok b) x y = ap Ok (read_once equals_alone (SaysSides table) bytes (λ ts. equals_alone_once bytes ts) (λ tokens p v w m n. says_sides_once bytes tokens table distinct p v w m n) a b x y)
  equation_once (Ok a) (Err e) x y = absurd (reads_or_not equals_alone (SaysSides table) bytes (λ ts. equals_alone_once bytes ts) a e x y)
  equation_once (Err e) (Ok b) x y = absurd (reads_or_not equals_alone (SaysSides table) bytes (λ ts. equals_alone_once bytes ts) b e y x)
  equation_once (Err e) (Err f) x y = ap Err (refused_once equals_alone (SaysSides table) bytes (λ ts. equals_alone_once bytes ts) e f x y)
