-- The order that the options and the defaults name, and why the options are refused.
use Rattle.std.specs.Prelude.{ℕ, ◌-◌, ◌==◌, ◌≡◌, Bool, true, false, List, [], ◌∷◌, ◌++◌, length, map, take, drop, find, is_none, Option, Some, None, bytes_eq, if◌then◌else◌}
use Rattle.std.specs.List.{list_any}
use Rattle.uc_term.specs.declared.node.Sym.{Sym}
use Rattle.uc_term.specs.declared.fresh.Fresh.{Fresh}
use Rattle.uc_term.specs.declared.signature.Signature.{Signature}
use Rattle.uc_term.specs.Table.{Table}
use Rattle.uc_term.specs.Signatures.{first_named}
use Rattle.uc_order.specs.declared.spec.OrderSpec.{OrderSpec}
use Rattle.uc_order.specs.declared.spec.OrderSpec.TheVariants.{Kbo, Lpo}
use Rattle.uc_words.specs.declared.command.OrderWords.{OrderWords}
use Rattle.uc_ordering.specs.declared.fault.ChoiceFault.{ChoiceFault}
use Rattle.uc_ordering.specs.declared.fault.ChoiceFault.TheVariants.{UnknownSymbol, NotTotal, BadWeight, NoMemory}
use Rattle.uc_ordering.specs.Precedence.{precedence_of}
use Rattle.uc_ordering.specs.Weights.{weight_of, heaviest, is_bad_for}

-- the symbols of the problem itself: all but the constant that was added
abbrev pub own_symbols : Signature → List Sym
own_symbols signature = if signature.least_is_fresh then take (length signature.symbols - 1) signature.symbols else signature.symbols

-- the signature's symbols, and behind them those of the encoding
abbrev pub all_symbols : Signature → Option Fresh → List Sym
all_symbols signature None = signature.symbols
all_symbols signature (Some marks) = signature.symbols ++ marks.yes ∷ marks.no ∷ marks.eq ∷ []

-- the first name that stands again further on
abbrev pub first_again : List (List ℕ) → Option (List ℕ)
first_again [] = None
first_again (x ∷ xs) = if list_any (bytes_eq x) xs then Some x else first_again xs

abbrev pub first_or : Option (List ℕ) → Option (List ℕ) → Option (List ℕ)
first_or (Some x) o = Some x
first_or None o = o

abbrev pub weighed_names : OrderWords → List (List ℕ)
weighed_names words = map (λ p. p.0) words.weights

-- whether the last weight is 0
abbrev pub ends_in_zero : List ℕ → Bool
ends_in_zero [] = false
ends_in_zero (w ∷ []) = w == 0
ends_in_zero (w ∷ v ∷ vs) = ends_in_zero (v ∷ vs)

-- how many symbols with these weights stand below the encoding's: all, but for a last one of weight 0
abbrev pub below_marks : List ℕ → ℕ
below_marks weights = if ends_in_zero weights then length weights - 1 else length weights

-- The same by the kind of order: a path order has no weights, so none of its symbols weighs 0.
abbrev pub marks_at : Bool → List ℕ → ℕ
marks_at true weights = length weights
marks_at false weights = below_marks weights

-- xs with ys behind the first n
abbrev pub with_behind : {A : Type 0} → ℕ → List A → List A → List A
with_behind n xs ys = take n xs ++ ys ++ drop n xs

-- an order's two kinds, with the weights beside the precedence
abbrev pub spec_of : Bool → ℕ → List ℕ → List Sym → OrderSpec
spec_of true w0 weights precedence = Lpo precedence
spec_of false w0 weights precedence = Kbo w0 weights precedence

module _ (table : Table) (signature : Signature) (words : OrderWords) where
  -- the first name, of the precedence and then of the weights, that no symbol of the problem has
  abbrev pub first_unknown : Option (List ℕ)
  first_unknown = find (λ name. is_none (first_named table name (own_symbols signature))) (words.precedence ++ weighed_names words)

  -- the first name that stands twice in the precedence; where there is none, in the weights
  abbrev pub first_twice : Option (List ℕ)
  first_twice = first_or (first_again words.precedence) (first_again (weighed_names words))

  -- the signature's precedence, without the encoding's symbols
  abbrev pub own_precedence : List Sym
  own_precedence = precedence_of table (own_symbols signature) signature.symbols words.precedence

  -- the first weight that is bad, with its name
  abbrev pub first_bad : Option (List ℕ × ℕ)
  first_bad = find (is_bad_for table words.w0 (own_symbols signature) own_precedence) words.weights

  abbrev pub own_weights : List ℕ
  own_weights = map (weight_of table words.w0 words.weights) own_precedence

  abbrev pub heaviest_constant : ℕ
  heaviest_constant = heaviest table words.w0 words.weights signature.symbols

  -- The order: of the signature as it is; or with the encoding's symbols, which stand above all others, but below a symbol of
  -- weight 0 where there is one, and of which true and false weigh as much as the heaviest constant and eq as much as a variable.
  abbrev pub chosen : Option Fresh → OrderSpec
  chosen None = spec_of words.lpo words.w0 own_weights own_precedence
  chosen (Some marks) = spec_of words.lpo words.w0 (with_behind (marks_at words.lpo own_weights) own_weights (heaviest_constant ∷ heaviest_constant ∷ words.w0 ∷ [])) (with_behind (marks_at words.lpo own_weights) own_precedence (marks.yes ∷ marks.no ∷ marks.eq ∷ []))

  -- the options and the defaults name this order
  pub record IsChosen (fresh : Option Fresh) (spec : OrderSpec) : Type 0 where
    pub known : first_unknown ≡ None
    pub once : first_twice ≡ None
    pub fit : first_bad ≡ None
    pub is : spec ≡ chosen fresh

  -- the options are refused so: a name that is unknown first, then one that is given twice, then a bad weight; want of
  -- memory is free
  abbrev pub IsChoiceFault : ChoiceFault → Type 0
  IsChoiceFault (UnknownSymbol name) = first_unknown ≡ Some name
  IsChoiceFault (NotTotal name) = (first_unknown ≡ None) × (first_twice ≡ Some name)
  IsChoiceFault (BadWeight name weight) = (first_unknown ≡ None) × (first_twice ≡ None) × (first_bad ≡ Some (name, weight))
  IsChoiceFault NoMemory = Unit {0}
